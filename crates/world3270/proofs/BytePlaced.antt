-- An event has a place over bytes exactly where it has over messages.
use Rattle.std.proofs.Common.{◌≡◌, ◌<◌, ◌+◌, ◌&&◌, ◌||◌, not, nat_lt, ℕ, zero, suc, Bool, true, false, Option, Some, None, is_some, List, [], ◌∷◌, ◌++◌, take, refl, ap, sym, subst, ◌∙◌, arith, if◌then◌else◌}
use Rattle.std.specs.Prelude.{find}
use Rattle.std.specs.List.{range_with_len}
use Rattle.std.proofs.lemmas.List.{append-nil}
use Rattle.host_core.specs.Acts.{acted}
use Rattle.host_core.specs.Application.{Application, application_of}
use Rattle.host_core.specs.Does.{acted_by, noted_by}
use Rattle.host_core.specs.Notes.{noted}
use Rattle.host_core.specs.Session.{Session}
use Rattle.host_core.specs.State.{Service, state_at, most_connections, session_at}
use Rattle.panels.specs.Panel.{Panels}
use Rattle.shadow.specs.Pairs.{Pairwise}
use Rattle.telnet_wire.specs.Items.{WireItem, items_after, unfinished_after}
use Rattle.telnet_wire.specs.Laws.{OneDelivery, ReadingNothing}
use Rattle.telnet_wire.specs.Reading.{Rest, nothing, Delivers}
use Rattle.telnet_wire.specs.Token.{Token, Data, End, Opt as OptToken, Sub as SubToken, Other as OtherToken, text}
use Rattle.tn3270e_msg.specs.Header.{record_limit}
use Rattle.host_core.specs.Questions.{answered_by, answered_in, answered_on, is_ticket, ticket_of}
use Rattle.host_core.specs.declared.question.Answer.{Answer as ApplicationAnswer}
use Rattle.host_core.specs.declared.question.Ticket.{Ticket}
use Rattle.world3270.specs.model.ByteSteps.{is_link, is_terminal, is_lost, is_held, is_up, sees_loss, free_from, free_number, may_connect}
use Rattle.world3270.specs.model.ByteWorld.{ByteWorld, is_there, is_live, transits_at, slot_at, host_there, terminal_at, terminal_there, up_of, down_of}
use Rattle.world3270.specs.refinement.Deliveries.{BringAMessage, rest_at, rest_of_terminal, terminal_rest}
use Rattle.world3270.specs.model.Link.{Link, is_free, is_up as is_link_up}
use Rattle.world3270.specs.model.Enabled.{is_queued, comes_up, comes_down, host_acts, host_notes, host_sees, terminal_sees, free_number as free_link, may_connect as may_join, host_is_answered}
use Rattle.world3270.specs.refinement.Refines.{SameSkips, after, IsTicketAt}
use Rattle.world3270.specs.refinement.Representation.{WorldRepresents, IsAt, IsNotClosed, conn_of, link_with}
use Rattle.world3270.specs.refinement.Represents.{RepresentsDown, RepresentsUp, BytesRepresent, LinkRepresents, all_items, without_nops}
use Rattle.world3270.specs.model.World.{Place, World}
use Rattle.world3270.specs.declared.event.Event.TheVariants as event
use Rattle.world3270.proofs.Queues.{not_empty}

-- ---- who is there

both_alike : (first one : Bool) (second other : Bool) → first ≡ one → (one ≡ true → second ≡ other) → (first && second) ≡ (one && other)
both_alike true true second other same more = more refl
both_alike false false second other same more = refl
both_alike true false second other same more = absurd (cc)
both_alike false true second other same more = absurd (cc)

terminals_alike : (terminal : ℕ) (bytes : ByteWorld) (world : World) → WorldRepresents bytes world → is_terminal terminal bytes ≡ nat_lt terminal world.terminals
terminals_alike terminal bytes world stands = ap (λ (n : ℕ). nat_lt terminal n) stands.terminals

held_alike : (number : ℕ) (bytes : ByteWorld) (world : World) → WorldRepresents bytes world
    → is_held number bytes ≡ ((world.link number).host_here || is_some (world.link number).term_here)
held_alike number bytes world stands =
    let link = stands.links number in
    ap (λ (b : Bool). b || terminal_there number bytes) link.host_here
    ∙ ap (λ (here : Option ℕ). (world.link number).host_here || is_some here) link.term_here

-- ---- acts

acts_by : (app : Application) (service : Service) (link : Link) → is_there service ≡ link.host_here → IsNotClosed service → (link.host_here ≡ true → conn_of service ≡ link.host)
    → is_some (acted_by app service) ≡ host_acts app link
acts_by app Service.Free link here going same = ap (λ (b : Bool). b && is_some (acted app link.host)) here
acts_by app (Service.Open rest conn) link here going same =
    ap (λ (c : Session). is_some (acted app c)) (same (sym here)) ∙ ap (λ (b : Bool). b && is_some (acted app link.host)) here
acts_by app (Service.Closed cause) link here going same = absurd going

acts_alike : (app : Application) (number : ℕ) (bytes : ByteWorld) (world : World) → WorldRepresents bytes world
    → is_some (acted_by app (state_at number bytes.host)) ≡ host_acts app (world.link number)
acts_alike app number bytes world stands =
    let link = stands.links number in
    acts_by app (state_at number bytes.host) (world.link number) link.host_here (stands.none_closed number) (λ here. (link.host here).host)

answers_in : (app : Application) (session : ℕ) (ticket : Ticket) (said : ApplicationAnswer) (conn : Session) → is_ticket ticket (ticket_of session conn) ≡ true
    → is_some (answered_in app session ticket said conn) ≡ is_some (answered_on app conn said)
answers_in app session ticket said conn is = ap (λ (b : Bool). is_some (if b then answered_on app conn said else None)) is

answers_by : (app : Application) (session : ℕ) (ticket : Ticket) (said : ApplicationAnswer) (service : Service) (link : Link) → IsTicketAt ticket session service → is_there service ≡ link.host_here → IsNotClosed service
    → (link.host_here ≡ true → conn_of service ≡ link.host) → is_some (answered_by app session ticket said service) ≡ host_is_answered app said link
answers_by app session ticket said Service.Free link is here going same = ap (λ (b : Bool). b && is_some (answered_on app link.host said)) here
answers_by app session ticket said (Service.Open rest conn) link is here going same =
    answers_in app session ticket said conn is
    ∙ ap (λ (c : Session). is_some (answered_on app c said)) (same (sym here)) ∙ ap (λ (b : Bool). b && is_some (answered_on app link.host said)) here
answers_by app session ticket said (Service.Closed cause) link is here going same = absurd going

answers_alike : (app : Application) (session : ℕ) (ticket : Ticket) (said : ApplicationAnswer) (number : ℕ) (bytes : ByteWorld) (world : World) → WorldRepresents bytes world
    → IsTicketAt ticket session (state_at number bytes.host) → is_some (answered_by app session ticket said (state_at number bytes.host)) ≡ host_is_answered app said (world.link number)
answers_alike app session ticket said number bytes world stands is =
    let link = stands.links number in
    answers_by app session ticket said (state_at number bytes.host) (world.link number) is link.host_here (stands.none_closed number) (λ here. (link.host here).host)

notes_by : (text : List ℕ) (service : Service) (link : Link) → is_there service ≡ link.host_here → IsNotClosed service → (link.host_here ≡ true → conn_of service ≡ link.host)
    → is_some (noted_by text service) ≡ host_notes text link
notes_by text Service.Free link here going same = ap (λ (b : Bool). b && is_some (noted text link.host)) here
notes_by text (Service.Open rest conn) link here going same =
    ap (λ (c : Session). is_some (noted text c)) (same (sym here)) ∙ ap (λ (b : Bool). b && is_some (noted text link.host)) here
notes_by text (Service.Closed cause) link here going same = absurd going

notes_alike : (text : List ℕ) (number : ℕ) (bytes : ByteWorld) (world : World) → WorldRepresents bytes world
    → is_some (noted_by text (state_at number bytes.host)) ≡ host_notes text (world.link number)
notes_alike text number bytes world stands =
    let link = stands.links number in
    notes_by text (state_at number bytes.host) (world.link number) link.host_here (stands.none_closed number) (λ here. (link.host here).host)

-- ---- losses

live_and_held : (live held : Bool) → (live && held) ≡ not (not live || not held)
live_and_held true true = refl
live_and_held true false = refl
live_and_held false true = refl
live_and_held false false = refl

up_and_held : (number : ℕ) (bytes : ByteWorld) (world : World) → WorldRepresents bytes world → is_up number bytes ≡ is_link_up (world.link number)
up_and_held number bytes world stands =
    let link = stands.links number in
    live_and_held (is_live (transits_at number bytes).down) (is_held number bytes)
    ∙ ap (λ (lost : Bool). not (lost || not (is_held number bytes))) link.lost
    ∙ ap (λ (held : Bool). not ((world.link number).lost || not held)) (held_alike number bytes world stands)

host_sees_alike : (number : ℕ) (bytes : ByteWorld) (world : World) → WorldRepresents bytes world
    → (is_lost number bytes && host_there number bytes) ≡ host_sees (world.link number)
host_sees_alike number bytes world stands =
    let link = stands.links number in
    both_alike (is_lost number bytes) (world.link number).lost _ _ link.lost (λ _. link.host_here)

terminal_sees_alike : (terminal : ℕ) (bytes : ByteWorld) (world : World) → WorldRepresents bytes world
    → sees_loss (slot_at terminal bytes).at bytes ≡ terminal_sees world (world.place terminal)
terminal_sees_alike terminal bytes world stands = by_place (world.place terminal) (stands.places terminal)
  where
    by_place : (place : Place) → IsAt (slot_at terminal bytes) place → sees_loss (slot_at terminal bytes).at bytes ≡ terminal_sees world place
    by_place (Place.At number) at = ap (λ (o : Option ℕ). sees_loss o bytes) at ∙ (stands.links number).lost
    by_place (Place.Alone display) at = ap (λ (o : Option ℕ). sees_loss o bytes) at.0

-- ---- connecting

held_or_free : (held : Bool) (number : ℕ) (one other : Option ℕ) → one ≡ other → (if held then one else Some number) ≡ (if not held then Some number else other)
held_or_free true number one other same = same
held_or_free false number one other same = refl

-- The least number that nobody holds is the same over bytes and over messages.
free_alike : (count number : ℕ) (bytes : ByteWorld) (world : World) → WorldRepresents bytes world
    → free_from count number bytes ≡ find (λ n. is_free (world.link n)) (range_with_len number count)
unfolding free_from
free_alike zero number bytes world stands = refl
free_alike (suc count) number bytes world stands =
    held_or_free (is_held number bytes) number (free_from count (number + 1) bytes) (find (λ n. is_free (world.link n)) (range_with_len (number + 1) count))
    (free_alike count (number + 1) bytes world stands)
    ∙ ap (λ (held : Bool). if not held then Some number else find (λ n. is_free (world.link n)) (range_with_len (number + 1) count)) (held_alike number bytes world stands)

pub same_free : (bytes : ByteWorld) (world : World) → WorldRepresents bytes world → free_number bytes ≡ free_link world.link
same_free bytes world stands = free_alike most_connections 0 bytes world stands

connects_alike : (terminal : ℕ) (bytes : ByteWorld) (world : World) → WorldRepresents bytes world
    → may_connect (slot_at terminal bytes).at bytes ≡ may_join world (world.place terminal)
connects_alike terminal bytes world stands = by_place (world.place terminal) (stands.places terminal)
  where
    by_place : (place : Place) → IsAt (slot_at terminal bytes) place → may_connect (slot_at terminal bytes).at bytes ≡ may_join world place
    by_place (Place.At number) at = ap (λ (o : Option ℕ). may_connect o bytes) at
    by_place (Place.Alone display) at =
        ap (λ (o : Option ℕ). may_connect o bytes) at.0 ∙ ap (λ (o : Option ℕ). is_some o) (same_free bytes world stands)

-- ---- what is under way

-- tokens that say no item and leave nothing unfinished are none
none_unfinished : (before : List ℕ) (tokens : List Token) → items_after before tokens ≡ [] → unfinished_after before tokens ≡ [] → (before ≡ []) × (tokens ≡ [])
none_unfinished before [] items rest = (rest, refl)
none_unfinished before (Data byte ∷ tokens) items rest = absurd (not_empty before byte [] (none_unfinished (before ++ byte ∷ []) tokens items rest).0)
none_unfinished before (End ∷ tokens) items rest = absurd (cc)
none_unfinished before (OptToken verb code ∷ tokens) items rest = absurd (cc)
none_unfinished before (SubToken bytes ∷ tokens) items rest = absurd (cc)
none_unfinished before (OtherToken code ∷ tokens) items rest = absurd (cc)

-- bytes that leave nothing say an item
some_items : (rest : Rest) (byte : ℕ) (bytes : List ℕ) → Delivers record_limit rest (byte ∷ bytes) [] nothing → ⊥
some_items rest byte bytes delivers =
    let none : delivers.tokens ≡ [] = (none_unfinished rest.unfinished delivers.tokens (sym delivers.said) (sym delivers.reads.unfinished)).1 in
    let encoded : rest.partial ++ byte ∷ bytes ≡ [] = delivers.reads.encoded ∙ append-nil (text delivers.tokens) ∙ ap text none in
    not_empty rest.partial byte bytes encoded

-- some bytes are taken, where there are some and more than none are taken
some_taken : (count : ℕ) (bytes : List ℕ) → 0 < count → is_queued (take count bytes) ≡ is_queued bytes
some_taken zero bytes above = absurd (omega arith)
some_taken (suc count) [] above = refl
some_taken (suc count) (byte ∷ bytes) above = refl

none_spoken : {X : Type 0} (Means : WireItem → X → Type 0) (items : List WireItem) → Pairwise Means items [] → items ≡ []
none_spoken Means [] each = refl
none_spoken Means (item ∷ items) each = absurd each

module _ (one : OneDelivery) (no_bytes : ReadingNothing) where
  -- Some bytes are under way exactly where some message is, unless all that they say represents none.
  queued_alike : {X : Type 0} (spoken : List WireItem → List WireItem) (Means : WireItem → X → Type 0) (rest : Rest) (bytes : List ℕ) (messages : List X) → spoken [] ≡ []
      → ((items : List WireItem) → Delivers record_limit rest bytes items nothing → spoken items ≡ [] → items ≡ []) → BytesRepresent spoken Means rest bytes messages
      → is_queued bytes ≡ is_queued messages
  queued_alike spoken Means rest [] [] none bring stands = refl
  queued_alike spoken Means rest (byte ∷ bytes) (message ∷ messages) none bring stands = refl
  queued_alike {X} spoken Means rest [] (message ∷ messages) none bring stands = by_items stands.items stands.delivers stands.each
    where
      by_items : (items : List WireItem) → Delivers record_limit rest [] items nothing → Pairwise Means (spoken items) (message ∷ messages) → false ≡ true
      by_items [] delivers each = absurd (subst (λ (l : List WireItem). Pairwise Means l (message ∷ messages)) none each)
      by_items (item ∷ items) delivers each =
          let stays : Delivers record_limit rest [] [] rest = record { tokens = []; reads = no_bytes record_limit rest; is_rest = stands.is_rest; said = refl } in
          let same : item ∷ items ≡ [] = (one record_limit rest [] (item ∷ items) [] nothing rest delivers stays).0 in
          absurd (cc)
  queued_alike {X} spoken Means rest (byte ∷ bytes) [] none bring stands =
      let nothing_said : stands.items ≡ [] = bring stands.items stands.delivers (none_spoken Means (spoken stands.items) stands.each) in
      absurd (some_items rest byte bytes (subst (λ (l : List WireItem). Delivers record_limit rest (byte ∷ bytes) l nothing) nothing_said stands.delivers))

  taken_alike : {X : Type 0} (spoken : List WireItem → List WireItem) (Means : WireItem → X → Type 0) (rest : Rest) (count : ℕ) (bytes : List ℕ) (messages : List X) → 0 < count
      → spoken [] ≡ [] → ((items : List WireItem) → Delivers record_limit rest bytes items nothing → spoken items ≡ [] → items ≡ [])
      → BytesRepresent spoken Means rest bytes messages → is_queued (take count bytes) ≡ is_queued messages
  taken_alike spoken Means rest count bytes messages above none bring stands =
      some_taken count bytes above ∙ queued_alike spoken Means rest bytes messages none bring stands

  -- something comes up, or down, to an end that is there
  up_alike : (number count : ℕ) (bytes : ByteWorld) (world : World) → WorldRepresents bytes world → 0 < count
      → (host_there number bytes && is_queued (take count (up_of number bytes))) ≡ comes_up (world.link number)
  up_alike number count bytes world stands above =
      let link = stands.links number in
      both_alike (host_there number bytes) (world.link number).host_here _ _ link.host_here
      (λ here. taken_alike all_items RepresentsUp link.read count (up_of number bytes) (world.link number).up above refl (λ items delivers none. none) link.up)

  down_alike : (number count : ℕ) (bytes : ByteWorld) (world : World) → WorldRepresents bytes world → 0 < count → BringAMessage number bytes
      → (terminal_there number bytes && is_queued (take count (down_of number bytes))) ≡ comes_down (world.link number)
  down_alike number count bytes world stands above bring =
      let link = stands.links number in
      both_alike (terminal_there number bytes) (is_some (world.link number).term_here) _ _ (ap (λ (here : Option ℕ). is_some here) link.term_here)
      (λ here. by_here (world.link number).term_here refl here)
    where
      by_here : (here : Option ℕ) → (world.link number).term_here ≡ here → is_some here ≡ true
          → is_queued (take count (down_of number bytes)) ≡ is_queued (world.link number).down
      by_here None held is = absurd (cc)
      by_here (Some terminal) held is =
          let found : terminal_at number bytes.slots ≡ Some terminal = (stands.links number).term_here ∙ held in
          let link : LinkRepresents (link_with (Some terminal) number bytes) (world.link number) =
          subst (λ (h : Option ℕ). LinkRepresents (link_with h number bytes) (world.link number)) found (stands.links number) in
          let term = link.term terminal held in
          let at : terminal_rest number bytes ≡ term.rest = ap (λ (h : Option ℕ). rest_of_terminal h bytes) found ∙ ap rest_at term.holds.attached in
          taken_alike without_nops RepresentsDown term.rest count (down_of number bytes) (world.link number).down above refl
          (λ items delivers. bring items (subst (λ (r : Rest). Delivers record_limit r (down_of number bytes) items nothing) (sym at) delivers)) term.down

  -- An event has a place over bytes exactly where it has over messages.
  pub skips_are_those : SameSkips
  skips_are_those begin events (event.Key terminal key) bytes is reached counted = terminals_alike terminal bytes (after begin events) reached.stands
  skips_are_those begin events (event.Up number count) bytes is reached counted =
      ap (λ (b : Bool). is_link number && b) (up_alike number count bytes (after begin events) reached.stands counted)
  skips_are_those begin events (event.Down number count) bytes is reached counted =
      ap (λ (b : Bool). is_link number && b) (down_alike number count bytes (after begin events) reached.stands counted.0 counted.1)
  skips_are_those begin events (event.Act number) bytes is reached counted =
      ap (λ (b : Bool). is_link number && b)
      (ap (λ (panels : Panels). is_some (acted_by (application_of panels) (state_at number bytes.host))) reached.panels
      ∙ acts_alike (application_of begin.panels) number bytes (after begin events) reached.stands)
  skips_are_those begin events (event.Answer number ticket said) bytes is reached counted =
      ap (λ (b : Bool). is_link number && b)
      (ap (λ (panels : Panels). is_some (answered_by (application_of panels) (session_at number bytes.host) ticket said (state_at number bytes.host))) reached.panels
      ∙ answers_alike (application_of begin.panels) (session_at number bytes.host) ticket said number bytes (after begin events) reached.stands counted)
  skips_are_those begin events (event.Note number text) bytes is reached counted =
      ap (λ (b : Bool). is_link number && b) (notes_alike text number bytes (after begin events) reached.stands)
  skips_are_those begin events (event.KeepAlive number) bytes is reached counted = tt
  skips_are_those begin events (event.Lose number) bytes is reached counted =
      ap (λ (b : Bool). is_link number && b) (up_and_held number bytes (after begin events) reached.stands)
  skips_are_those begin events (event.HostSees number) bytes is reached counted =
      ap (λ (b : Bool). is_link number && b) (host_sees_alike number bytes (after begin events) reached.stands)
  skips_are_those begin events (event.TermSees terminal) bytes is reached counted =
      both_alike (is_terminal terminal bytes) _ _ _ (terminals_alike terminal bytes (after begin events) reached.stands)
      (λ _. terminal_sees_alike terminal bytes (after begin events) reached.stands)
  skips_are_those begin events (event.Connect terminal wanted) bytes is reached counted =
      both_alike (is_terminal terminal bytes) _ _ _ (terminals_alike terminal bytes (after begin events) reached.stands)
      (λ _. connects_alike terminal bytes (after begin events) reached.stands)
  skips_are_those begin events (event.RestartTerm terminal) bytes is reached counted = terminals_alike terminal bytes (after begin events) reached.stands
  skips_are_those begin events event.RestartHost bytes is reached counted = refl

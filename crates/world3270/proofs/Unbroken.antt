-- Nobody refuses, and neither end closes a connection, over bytes: what is known of messages, said of the bytes that stand for them.
use Rattle.std.proofs.Common.{◌≡◌, ◌||◌, ◌==◌, ℕ, zero, suc, Bool, true, false, Option, None, Some, List, [], ◌∷◌, ◌++◌, length, replicate, append_assoc, refl, ap, sym, subst, ◌∙◌, if◌then◌else◌}
use Rattle.std.proofs.lemmas.List.Elements.{All-append, All-cons, All-nil}
use Rattle.std.proofs.lemmas.Bool.{eqb-true}
use Rattle.std.proofs.lemmas.List.{append-nil}
use Rattle.std.specs.List.{AllByRecursion, list_any}
use Rattle.std.specs.Prelude.{All}
use Rattle.shadow.specs.Pairs.{Pairwise}
use Rattle.telnet_wire.specs.Items.{WireItem}
use Rattle.telnet_wire.specs.Reading.{nothing}
use Rattle.tn3270e_msg.specs.Header.{negative, record_limit, type_code}
use Rattle.tn3270e_msg.specs.declared.header.DataType.TheVariants.{Data3270, Response}
use Rattle.tn3270e_msg.specs.declared.cause.Cause.{Cause}
use Rattle.tn3270e_msg.specs.Talk.{NegotiationMessage}
use Rattle.lu_pool.specs.Asking.{answer_to}
use Rattle.term_core.specs.Says.{response, outcome_flag}
use Rattle.term_core.specs.declared.outcome.Outcome.{Outcome}
use Rattle.term_core.specs.declared.outcome.Outcome.TheVariants.{DeviceEnd, Refused}
use Rattle.host_core.specs.Application.{Application, application_of}
use Rattle.host_core.specs.Messages.{ToTerminal, ToHost, Verdict}
use Rattle.host_core.specs.Takes.{HostStep, pool_after, took as host_took}
use Rattle.world3270.specs.statement.Always.{is_refusal}
use Rattle.world3270.specs.model.ByteWorld.{ByteWorld}
use Rattle.world3270.specs.model.Steps.{came_down, came_up, closed_if, done, stepped_by, place_after, said, went_down}
use Rattle.world3270.specs.refinement.MessageLaws.{MessageLaws, WorldLaws}
use Rattle.world3270.specs.model.Link.{Link, host_left_if, host_stepped, sent, term_left_if, term_stepped}
use Rattle.world3270.specs.model.Enabled.{is_enabled}
use Rattle.world3270.specs.refinement.Refines.{WorldSetup, IsWorldSetup, Reached, GoesOn, StepsAreSimulated, after}
use Rattle.world3270.specs.refinement.Sendable.{IsWellFormed}
use Rattle.world3270.specs.refinement.Representation.{link_of}
use Rattle.world3270.specs.refinement.Represents.{RepresentsUp, without_nops}
use Rattle.world3270.specs.model.Terminal.{TermStep, took as term_took}
use Rattle.world3270.specs.statement.Unbroken.{SameEnds, DeliveriesCloseNothing, IsNegativeResponse, IsNotNegative, NobodyHasRefused, NothingIsRefused, UnderWayRefusesNothing}
use Rattle.world3270.specs.model.World.{World, Event, IsEvent, AreEvents, with_at}
use Rattle.world3270.specs.declared.event.Event.TheVariants as event
use Rattle.world3270.specs.declared.event.Stepped.{Stepped}
use Rattle.world3270.proofs.Known.{facts, after_more, are_more}
use Rattle.world3270.proofs.RepresentsLinks.{up_behind_rest}

-- ---- over messages: who is at the ends of a connection

-- the connection is as lost as it was, and the same are at its ends
record Stays (old new : Link) : Type 0 where
  lost : new.lost ≡ old.lost
  host : new.host_here ≡ old.host_here
  terminal : new.term_here ≡ old.term_here

same : (link : Link) → Stays link link
same link = record { lost = refl; host = refl; terminal = refl }

one_after : (one two three : Link) → Stays one two → Stays two three → Stays one three
one_after one two three first second =
    record { lost = second.lost ∙ first.lost; host = second.host ∙ first.host; terminal = second.terminal ∙ first.terminal }

-- one of the connections changed, and its ends stay
one_stays : (link : ℕ → Link) (number : ℕ) (new : Link) → Stays (link number) new → (other : ℕ) → Stays (link other) (with_at number new link other)
one_stays link number new stays other = by_test (other == number) refl
  where
    by_test : (b : Bool) → (other == number) ≡ b → Stays (link other) (if b then new else link other)
    by_test true e = subst (λ (n : ℕ). Stays (link n) new) (sym (eqb-true other number e)) stays
    by_test false e = same (link other)

-- a history that is empty had no cause added
no_more : (causes : List Cause) (cause : Cause) → causes ++ cause ∷ [] ≡ [] → ⊥
no_more [] cause e = absurd (cc)
no_more (first ∷ causes) cause e = absurd (cc)

none_closes : (closes : Option Cause) (world : World) → (closed_if closes world).causes ≡ [] → closes ≡ None
none_closes None world e = refl
none_closes (Some cause) world e = absurd (no_more world.causes cause e)

closed_links : (closes : Option Cause) (world : World) (number : ℕ) → (closed_if closes world).link number ≡ world.link number
closed_links None world number = refl
closed_links (Some cause) world number = refl

host_stays : (step : HostStep) (rest : List ToHost) (link : Link) → step.closes ≡ None → Stays link (host_stepped step rest link)
host_stays step rest link none =
    subst (λ (c : Option Cause). Stays link (host_left_if c (record link { up = rest; host = step.conn; down = sent link.lost link.down step.sends }))) (sym none)
    (record { lost = refl; host = refl; terminal = refl })

term_stays : (step : TermStep) (rest : List ToTerminal) (link : Link) → step.closes ≡ None → Stays link (term_stepped step rest link)
term_stays step rest link none =
    subst (λ (c : Option Cause). Stays link (term_left_if c (record link { down = rest; term = step.end; up = sent link.lost link.up step.sends }))) (sym none)
    (record { lost = refl; host = refl; terminal = refl })

-- a message that closes nothing leaves all at their ends
up_stays : (number : ℕ) (up : List ToHost) (world : World) → (came_up number up world).causes ≡ []
    → (other : ℕ) → Stays (world.link other) ((came_up number up world).link other)
up_stays number [] world none other = same (world.link other)
up_stays number (message ∷ rest) world none other =
    let link : Link = world.link number in
    let step : HostStep = host_took (answer_to world.pool) link.host message in
    let then_is : World = record world { pool = pool_after number step world.pool; link = with_at number (host_stepped step rest link) world.link } in
    subst (λ (l : Link). Stays (world.link other) l) (sym (closed_links step.closes then_is other))
    (one_stays world.link number (host_stepped step rest link) (host_stays step rest link (none_closes step.closes then_is none)) other)

down_stays : (number terminal : ℕ) (down : List ToTerminal) (world : World) → (came_down number terminal down world).causes ≡ []
    → (other : ℕ) → Stays (world.link other) ((came_down number terminal down world).link other)
down_stays number terminal [] world none other = same (world.link other)
down_stays number terminal (message ∷ rest) world none other =
    let link : Link = world.link number in
    let step : TermStep = term_took link.term message in
    let then_is : World = said step.sends (record world {
      link = with_at number (term_stepped step rest link) world.link;
      place = with_at terminal (place_after step.closes number step.end.display) world.place;
    }) in
    subst (λ (l : Link). Stays (world.link other) l) (sym (closed_links step.closes then_is other))
    (one_stays world.link number (term_stepped step rest link) (term_stays step rest link (none_closes step.closes then_is none)) other)

went_stays : (number : ℕ) (here : Option ℕ) (world : World) → (went_down number here world).causes ≡ []
    → (other : ℕ) → Stays (world.link other) ((went_down number here world).link other)
went_stays number None world none other = same (world.link other)
went_stays number (Some terminal) world none other = down_stays number terminal (world.link number).down world none other

-- an event leaves all at their ends, where no end ever closed
abbrev LeavesEnds : Application → Event → Type 0
LeavesEnds app event = (world : World) → (stepped_by app event world).causes ≡ [] → (other : ℕ) → Stays (world.link other) ((stepped_by app event world).link other)

up_leaves : (app : Application) (number : ℕ) → LeavesEnds app (Event.Up number)
up_leaves app number world none other = by_place (is_enabled app (Event.Up number) world) none
  where
    by_place : (b : Bool) → World.causes (if b then done app (Event.Up number) world else world) ≡ []
        → Stays (world.link other) (World.link (if b then done app (Event.Up number) world else world) other)
    by_place true none = up_stays number (world.link number).up world none other
    by_place false none = same (world.link other)

down_leaves : (app : Application) (number : ℕ) → LeavesEnds app (Event.Down number)
down_leaves app number world none other = by_place (is_enabled app (Event.Down number) world) none
  where
    by_place : (b : Bool) → World.causes (if b then done app (Event.Down number) world else world) ≡ []
        → Stays (world.link other) (World.link (if b then done app (Event.Down number) world else world) other)
    by_place true none = went_stays number (world.link number).term_here world none other
    by_place false none = same (world.link other)

-- so does an event that happens again and again
all_stay : WorldLaws → (begin : WorldSetup) → IsWorldSetup begin → (event : Event) → IsEvent event → IsWellFormed event → LeavesEnds (application_of begin.panels) event
    → (count : ℕ) (events : List Event) → AreEvents events → All IsWellFormed events → (other : ℕ)
    → Stays ((after begin events).link other) ((after begin (events ++ replicate count event)).link other)
all_stay known begin is event real typed leaves zero events are all other =
    subst (λ (es : List Event). Stays ((after begin events).link other) ((after begin es).link other)) (sym (append-nil events)) (same ((after begin events).link other))
all_stay known begin is event real typed leaves (suc count) events are all other =
    let app : Application = application_of begin.panels in
    let more : List Event = events ++ event ∷ [] in
    let are_all : AreEvents more = are_more events (event ∷ []) are (real, tt) in
    let all_typed : All IsWellFormed more = All-append IsWellFormed events (event ∷ []) all (All-cons IsWellFormed event [] typed (All-nil IsWellFormed)) in
    let next : after begin more ≡ stepped_by app event (after begin events) = after_more begin events (event ∷ []) in
    let none : (stepped_by app event (after begin events)).causes ≡ [] =
    ap (λ (w : World). w.causes) (sym next) ∙ (facts known begin is more are_all all_typed).nobody_refuses.none_closed in
    let one : Stays ((after begin events).link other) ((after begin more).link other) =
    subst (λ (w : World). Stays ((after begin events).link other) (w.link other)) (sym next) (leaves (after begin events) none other) in
    let others = all_stay known begin is event real typed leaves count more are_all all_typed other in
    subst (λ (es : List Event). Stays ((after begin events).link other) ((after begin es).link other)) (append_assoc events (event ∷ []) (replicate count event))
    (one_after ((after begin events).link other) ((after begin more).link other) ((after begin (more ++ replicate count event)).link other) one others)

-- ---- over bytes

module _ (known : WorldLaws) where
  ends_stay : (begin : WorldSetup) (events : List Event) (old new : ByteWorld) → IsWorldSetup begin → Reached begin events old → (event : Event) (more : List Event)
      → IsEvent event → IsWellFormed event → LeavesEnds (application_of begin.panels) event → (count : ℕ) → more ≡ replicate count event → Reached begin (events ++ more) new
      → (number : ℕ) → SameEnds number old new
  ends_stay begin events old new is before event more real typed leaves count repeats reached number =
      let all = all_stay known begin is event real typed leaves count events before.are_events before.typed number in
      let stays = subst (λ (es : List Event). Stays ((after begin events).link number) ((after begin (events ++ es)).link number)) (sym repeats) all in
      let was = before.stands.links number in
      let now = reached.stands.links number in
      record {
        lost = now.lost ∙ stays.lost ∙ sym was.lost;
        host = now.host_here ∙ stays.host ∙ sym was.host_here;
        terminal = now.term_here ∙ stays.terminal ∙ sym was.term_here;
      }

  -- bytes that come leave all at their ends
  pub up_same : (begin : WorldSetup) (events : List Event) (at count : ℕ) (old : ByteWorld) (answer : Stepped) (new : ByteWorld) → IsWorldSetup begin → Reached begin events old
      → GoesOn begin events (event.Up at count) old answer new → (number : ℕ) → SameEnds number old new
  up_same begin events at count old answer new is reached goes number =
      ends_stay begin events old new is reached (Event.Up at) goes.more tt tt (up_leaves (application_of begin.panels) at) (length goes.comes_to.completed)
      goes.comes_to.one_each goes.reached number

  pub down_same : (begin : WorldSetup) (events : List Event) (at count : ℕ) (old : ByteWorld) (answer : Stepped) (new : ByteWorld) → IsWorldSetup begin → Reached begin events old
      → GoesOn begin events (event.Down at count) old answer new → (number : ℕ) → SameEnds number old new
  down_same begin events at count old answer new is reached goes number =
      ends_stay begin events old new is reached (Event.Down at) goes.more tt tt (down_leaves (application_of begin.panels) at) (length (without_nops goes.comes_to.completed))
      goes.comes_to.one_each goes.reached number

module _ (known : WorldLaws) (goes : StepsAreSimulated) where
  pub deliveries_close_nothing : DeliveriesCloseNothing
  deliveries_close_nothing (event.Up at count) old answer new is delivery steps number =
      up_same known is.begin is.events at count old answer new is.is_begin is.reached
      (goes is.begin is.events (event.Up at count) old answer new is.is_begin is.reached (tt, tt) steps) number
  deliveries_close_nothing (event.Down at count) old answer new is delivery steps number =
      down_same known is.begin is.events at count old answer new is.is_begin is.reached
      (goes is.begin is.events (event.Down at count) old answer new is.is_begin is.reached (tt, tt) steps) number
  deliveries_close_nothing (event.Key terminal key) old answer new is delivery steps number = absurd delivery
  deliveries_close_nothing (event.Act at) old answer new is delivery steps number = absurd delivery
  deliveries_close_nothing (event.Answer at ticket said) old answer new is delivery steps number = absurd delivery
  deliveries_close_nothing (event.Note at text) old answer new is delivery steps number = absurd delivery
  deliveries_close_nothing (event.KeepAlive at) old answer new is delivery steps number = absurd delivery
  deliveries_close_nothing (event.Lose at) old answer new is delivery steps number = absurd delivery
  deliveries_close_nothing (event.HostSees at) old answer new is delivery steps number = absurd delivery
  deliveries_close_nothing (event.TermSees terminal) old answer new is delivery steps number = absurd delivery
  deliveries_close_nothing (event.Connect terminal wanted) old answer new is delivery steps number = absurd delivery
  deliveries_close_nothing (event.RestartTerm terminal) old answer new is delivery steps number = absurd delivery
  deliveries_close_nothing event.RestartHost old answer new is delivery steps number = absurd delivery

-- ---- responses

-- the bytes of a record, and the first and the third of them
abbrev bytes_of : WireItem → List ℕ
bytes_of (WireItem.Record bytes) = bytes
bytes_of item = []

abbrev first_of : List ℕ → ℕ
first_of [] = 0
first_of (one ∷ bytes) = one

abbrev third_of : List ℕ → ℕ
third_of (one ∷ two ∷ three ∷ bytes) = three
third_of bytes = 0

carried_out : (outcome : Outcome) → outcome_flag outcome ≡ 0 → outcome ≡ DeviceEnd
carried_out DeviceEnd e = refl
carried_out (Refused sense) e = absurd (cc)

says_done : (sequence : ℕ) (outcome : Outcome) (message : ToHost) → RepresentsUp (response sequence outcome) message → is_refusal message ≡ false → outcome ≡ DeviceEnd
says_done sequence outcome (ToHost.TalksUp (NegotiationMessage.Opt verb code)) stands none = absurd (cc)
says_done sequence outcome (ToHost.TalksUp (NegotiationMessage.Sub sending)) stands none = absurd (cc)
says_done sequence outcome (ToHost.Data parts) stands none =
    let kinds : type_code Response ≡ type_code Data3270 = ap (λ (i : WireItem). first_of (bytes_of i)) stands.2 in absurd (cc)
says_done sequence outcome (ToHost.Response number Verdict.Positive) stands none =
    let flags : outcome_flag outcome ≡ outcome_flag stands.0 = ap (λ (i : WireItem). third_of (bytes_of i)) stands.1 in
    carried_out outcome (flags ∙ ap outcome_flag stands.3)
says_done sequence outcome (ToHost.Response number Verdict.Negative) stands none = absurd (cc)

not_either : (one other : Bool) → (one || other) ≡ false → (one ≡ false) × (other ≡ false)
not_either true other e = absurd (cc)
not_either false other e = (refl, e)

pub among : (sequence : ℕ) (outcome : Outcome) (before behind : List WireItem) (messages : List ToHost)
    → Pairwise RepresentsUp (before ++ response sequence outcome ∷ behind) messages → list_any is_refusal messages ≡ false → outcome ≡ DeviceEnd
among sequence outcome [] behind [] pairs none = absurd pairs
among sequence outcome [] behind (message ∷ messages) pairs none =
    says_done sequence outcome message pairs.0 (not_either (is_refusal message) (list_any is_refusal messages) none).0
among sequence outcome (item ∷ before) behind [] pairs none = absurd pairs
among sequence outcome (item ∷ before) behind (message ∷ messages) pairs none =
    among sequence outcome before behind messages pairs.1 (not_either (is_refusal message) (list_any is_refusal messages) none).1

-- a negative response begins as one
first_is : (item : WireItem) (is : IsNegativeResponse item) → first_of (bytes_of item) ≡ type_code Response
first_is item is = ap (λ (i : WireItem). first_of (bytes_of i)) is.is_record ∙ ap first_of is.begins.encoded ∙ ap type_code is.kind

third_is : (item : WireItem) (is : IsNegativeResponse item) → third_of (bytes_of item) ≡ negative
third_is item is = ap (λ (i : WireItem). third_of (bytes_of i)) is.is_record ∙ ap third_of is.begins.encoded ∙ is.flag

-- no item that represents a message other than a refusal is one
not_negative : (item : WireItem) (message : ToHost) → RepresentsUp item message → is_refusal message ≡ false → IsNotNegative item
not_negative item (ToHost.TalksUp (NegotiationMessage.Opt verb code)) stands none = λ is. absurd (let both = sym stands ∙ is.is_record in cc)
not_negative item (ToHost.TalksUp (NegotiationMessage.Sub sending)) stands none = λ is. absurd (let both = sym stands ∙ is.is_record in cc)
not_negative item (ToHost.Data parts) stands none = λ is.
    let kinds : type_code Response ≡ type_code Data3270 = sym (first_is item is) ∙ ap (λ (i : WireItem). first_of (bytes_of i)) stands.2 in absurd (cc)
not_negative item (ToHost.Response number Verdict.Positive) stands none = λ is.
    let flags : negative ≡ outcome_flag DeviceEnd =
    sym (third_is item is) ∙ ap (λ (i : WireItem). third_of (bytes_of i)) stands.1 ∙ ap outcome_flag stands.3 in absurd (cc)
not_negative item (ToHost.Response number Verdict.Negative) stands none = absurd (cc)

pub none_negative : (items : List WireItem) (messages : List ToHost) → Pairwise RepresentsUp items messages → list_any is_refusal messages ≡ false → AllByRecursion IsNotNegative items
none_negative [] messages pairs none = tt
none_negative (item ∷ items) [] pairs none = absurd pairs
none_negative (item ∷ items) (message ∷ messages) pairs none =
    let both = not_either (is_refusal message) (list_any is_refusal messages) none in
    (not_negative item message pairs.0 both.0, none_negative items messages pairs.1 both.1)

pub nobody_has_refused : WorldLaws → NobodyHasRefused
nobody_has_refused known begin events bytes is reached = (facts known begin is events reached.are_events reached.typed).nobody_refuses

pub nothing_is_refused : MessageLaws → NothingIsRefused
nothing_is_refused known bytes number sequence outcome before behind is there delivers =
    let link : Link = (after is.begin is.events).link number in
    let stands = is.reached.stands.links number in
    let up = up_behind_rest (link_of number bytes) link stands (sym stands.host_here ∙ there) in
    let one = known.links.one_delivery record_limit (link_of number bytes).host_rest (link_of number bytes).up up.items (before ++ response sequence outcome ∷ behind)
    nothing nothing up.delivers delivers in
    among sequence outcome before behind link.up (subst (λ (items : List WireItem). Pairwise RepresentsUp items link.up) one.0 up.each)
    ((facts known.worlds is.begin is.is_begin is.events is.reached.are_events is.reached.typed).nobody_refuses.none_refused number)

pub under_way_refuses_nothing : WorldLaws → UnderWayRefusesNothing
under_way_refuses_nothing known begin events bytes number is reached =
    let stands = reached.stands.links number in
    let none = (facts known begin is events reached.are_events reached.typed).nobody_refuses.none_refused number in
    record {
      read = stands.read;
      holds = λ there. sym (stands.host (sym stands.host_here ∙ there)).rest_is;
      encoded = stands.up;
      carried_out = λ sequence outcome before behind among_them.
          among sequence outcome before behind ((after begin events).link number).up
          (subst (λ (items : List WireItem). Pairwise RepresentsUp items ((after begin events).link number).up) among_them stands.up.each) none;
    }

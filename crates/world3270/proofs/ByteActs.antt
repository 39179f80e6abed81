-- What the host sends in its turn, and notes that it sends, over bytes: they stand for the messages that it sends.
use Rattle.std.proofs.Common.{◌≡◌, ◌<◌, ◌==◌, ℕ, Bool, true, false, Option, Some, None, is_some, List, [], ◌∷◌, ◌++◌, length, refl, ap, sym, subst, ◌∙◌, IfSome, if◌then◌else◌}
use Rattle.host_core.specs.Questions.{act_by, answered_by, answered_on, has_its_panel, is_asking, is_ticket, panel_for, ticket_of}
use Rattle.host_core.specs.declared.question.Answer.{Answer as ApplicationAnswer}
use Rattle.host_core.specs.declared.question.Ticket.{Ticket}
use Rattle.world3270.proofs.Answered.{IsDone, by_act, by_answer}
use Rattle.world3270.proofs.RepresentsSizes.{is_narrow}
use Rattle.world3270.proofs.Down.{shape_of_model}
use Rattle.codes3270.specs.declared.size.Model.{Model}
use Rattle.std.specs.Prelude.{All, ◌&&◌}
use Rattle.std.specs.Option.{option_and_then}
use Rattle.std.proofs.lemmas.Bool.{and_parts, ltb-true}
use Rattle.std.proofs.lemmas.List.{length-set, set-get_or}
use Rattle.std.proofs.lemmas.List.Elements.{All-head, All-nil, All-tail}
use Rattle.codes3270.specs.Size.{ScreenSize}
use Rattle.shadow.specs.Belief.{Shadow}
use Rattle.shadow.specs.Fits.{is_paintable}
use Rattle.shadow.specs.Laws.{PaintIsBounded}
use Rattle.telnet_wire.specs.Items.{sent_bytes}
use Rattle.host_core.specs.Acts.{Act, Decision, Sent, acted, decided, decision_on, done as done_act, may_act}
use Rattle.host_core.specs.Answering.{number_in}
use Rattle.host_core.specs.Application.{Application, application_of}
use Rattle.host_core.specs.Does.{Does as HostDoes, acted_by, noted_by, with_conn, sent_on, DoesAnswer}
use Rattle.host_core.specs.KeepAlive.{is_bound, may_keep_alive, no_operation, with_nop}
use Rattle.host_core.specs.Laws.{PaintsWhatFits}
use Rattle.host_core.specs.Messages.{ToTerminal}
use Rattle.host_core.specs.NoteLaws.{IsNoteOf}
use Rattle.host_core.specs.Notes.{note_command, may_note, noted, noted_as}
use Rattle.host_core.specs.Says.{item_sent}
use Rattle.host_core.specs.Session.{Session, is_agreed}
use Rattle.host_core.specs.Reports.{no_reports}
use Rattle.host_core.specs.State.{Host, Connection, Service, unused, most_connections, connection_at, state_at, with_connection, session_at}
use Rattle.host_core.specs.declared.acted.Acted.{Acted}
use Rattle.host_core.specs.declared.acted.Acted.TheVariants as acted_as
use Rattle.panels.specs.Panel.{Panels}
use Rattle.world3270.specs.refinement.MessageLaws.{MessageLaws}
use Rattle.world3270.specs.model.ByteSteps.{OnConnection, answer_acted, is_link}
use Rattle.world3270.specs.model.ByteWorld.{ByteWorld, Transits, is_there, transits_at, with_host, host_there, host_out, out_of}
use Rattle.world3270.specs.refinement.LowerLaws.{LowerLaws}
use Rattle.world3270.specs.model.Steps.{done}
use Rattle.world3270.specs.model.Link.{Link, sent, host_sent}
use Rattle.world3270.specs.statement.Numbers.{IsNumber}
use Rattle.world3270.specs.model.Enabled.{is_enabled as is_enabled_over_messages, host_is_answered}
use Rattle.world3270.specs.model.Places.{EndsAgree}
use Rattle.world3270.specs.refinement.Refines.{WorldSetup, IsWorldSetup, Reached, GoesOn, SameSkips, once, after, once_taken}
use Rattle.world3270.specs.model.TrackedTerminals.{TrackedTerminal}
use Rattle.world3270.specs.refinement.Sendable.{IsWellFormed, PaintsAScreen, IsSpelt}
use Rattle.world3270.specs.refinement.Representation.{WorldRepresents, IsFlow, AreTransits, IsNotClosed, IsSettled, conn_of, tracked_of, link_with}
use Rattle.world3270.specs.refinement.Represents.{ByteLink, LinkRepresents}
use Rattle.world3270.specs.refinement.RepresentsEnds.{PaintRepresents}
use Rattle.world3270.specs.refinement.RepresentsLinks.{said_down, sent_down, HostSends, NopRepresents}
use Rattle.world3270.specs.model.World.{World, Event, IsEvent, with_link, new_world}
use Rattle.world3270.specs.declared.event.Event.TheVariants as event
use Rattle.world3270.specs.declared.event.Stepped.{Stepped}
use Rattle.world3270.proofs.Frames.{beyond_is_alone, changed_stands, flow_there, connection_other, connection_same, connection_within, link_there, sits_same, there_settled, with_parts}
use Rattle.world3270.proofs.ItemsSpelt.{IsEncodable, CommandFitsScreen, spells}
use Rattle.world3270.proofs.Known.{Facts, Goes, facts_now, facts_once, is_application, reached_more, reached_one, reached_still}
use Rattle.world3270.proofs.OneOfMany.{with_other, with_same}
use Rattle.world3270.proofs.UnderWay.{lost_says, more_flows, more_under_way}
use Rattle.world3270.proofs.Worlds.{run_good, new_good}

-- ---- the connection, once something is said

-- the world once the host has said this on a connection
abbrev told : Sent → ℕ → ByteWorld → ByteWorld
told sending number old = with_host (with_connection number (sent_on sending (connection_at number old.host)) old.host) old

-- the connection, where the host's line is this one
abbrev with_this : Option ℕ → Transits → List ℕ → TrackedTerminal → Service → List ℕ → ByteLink
with_this here transits up tracked service out = with_parts here (record { service = service; out = out; reports = no_reports }) transits up tracked

-- the host's line says more, and the connection has that under way
connection_says : (here : Option ℕ) (transits : Transits) (up : List ℕ) (tracked : TrackedTerminal) (sending : Sent) (service : Service) (out : List ℕ) → is_there service ≡ true → IsNotClosed service
    → IsFlow true out transits.down
    → with_this here transits up tracked (with_conn sending.conn service) (out ++ sent_bytes (item_sent sending.message ∷ []))
    ≡ said_down sending.conn (item_sent sending.message ∷ []) (with_this here transits up tracked service out)
connection_says here transits up tracked sending Service.Free out there going flow = absurd (cc)
connection_says here transits up tracked sending (Service.Open rest conn) out there going flow =
    ap (λ (down : List ℕ). record (with_this here transits up tracked (Service.Open rest sending.conn) out) { down = down })
    (more_under_way out (sent_bytes (item_sent sending.message ∷ [])) transits.down flow)
connection_says here transits up tracked sending (Service.Closed cause) out there going flow = absurd going

-- the host's line is then this one
with_connection_there : (number : ℕ) (old : ByteWorld) (sending : Sent) → number < length old.host.connections
    → connection_at number (told sending number old).host ≡ sent_on sending (connection_at number old.host)
with_connection_there number old sending below = connection_same number (sent_on sending (connection_at number old.host)) old.host below

-- what the host has to send then
abbrev said_out : ℕ → ByteWorld → Sent → List ℕ
said_out number old sending = host_out number old ++ sent_bytes (item_sent sending.message ∷ [])

-- and the connection has that more under way
told_link : (here : Option ℕ) (number : ℕ) (old : ByteWorld) (sending : Sent) → number < length old.host.connections → host_there number old ≡ true
    → IsNotClosed (state_at number old.host) → IsFlow true (host_out number old) (transits_at number old).down
    → link_with here number (told sending number old) ≡ said_down sending.conn (item_sent sending.message ∷ []) (link_with here number old)
told_link here number old sending below there going flow =
    let transits : Transits = transits_at number old in
    let tracked : TrackedTerminal = tracked_of here (told sending number old) in
    let service : Service = with_conn sending.conn (state_at number old.host) in
    ap (λ (l : Connection). with_this here transits (out_of here (told sending number old)) tracked l.service l.out) (with_connection_there number old sending below)
    ∙ ap (λ (up : List ℕ). with_this here transits up tracked service (said_out number old sending)) (sits_same here old (told sending number old) refl).0
    ∙ ap (λ (s : TrackedTerminal). with_this here transits (out_of here old) s service (said_out number old sending)) (sits_same here old (told sending number old) refl).1
    ∙ connection_says here transits (out_of here old) (tracked_of here old) sending (state_at number old.host) (host_out number old) there going flow

-- on a lost connection what is said vanishes; else it stands for what is sent
said_stands : HostSends → (bytes : ByteLink) (link : Link) (sending : Sent) → LinkRepresents bytes link → (link.lost ≡ false → IsEncodable sending.message)
    → LinkRepresents (said_down sending.conn (item_sent sending.message ∷ []) bytes) (sent_down sending.conn (sending.message ∷ []) link)
said_stands sends bytes link sending stands good = by_loss link.lost refl
  where
    by_loss : (lost : Bool) → link.lost ≡ lost
        → LinkRepresents (said_down sending.conn (item_sent sending.message ∷ []) bytes) (sent_down sending.conn (sending.message ∷ []) link)
    by_loss true is = lost_says sends bytes link sending.conn (item_sent sending.message ∷ []) (sending.message ∷ []) stands is
    by_loss false is =
        let encoded : IsEncodable sending.message = good is in
        sends bytes link sending.conn (item_sent sending.message ∷ []) (sending.message ∷ []) stands (encoded.comes, tt) (encoded.stands, tt)

-- ---- the world, once something is said

-- over messages
abbrev says : Sent → ℕ → World → World
says sending number world = with_link number (host_sent (Some sending) (world.link number)) world

still_open : (conn : Session) (service : Service) → IsNotClosed service → IsNotClosed (with_conn conn service)
still_open conn Service.Free going = tt
still_open conn (Service.Open rest old) going = tt
still_open conn (Service.Closed cause) going = going

still_there : (conn : Session) (service : Service) → is_there service ≡ true → is_there (with_conn conn service) ≡ true
still_there conn Service.Free there = there
still_there conn (Service.Open rest old) there = refl
still_there conn (Service.Closed cause) there = refl

module _ (sends : HostSends) (number : ℕ) (old : ByteWorld) (world : World) (sending : Sent) (stands : WorldRepresents old world)
    (below : number < most_connections) (there : host_there number old ≡ true) (good : (world.link number).lost ≡ false → IsEncodable sending.message) where
  in_connections : number < length old.host.connections
  in_connections = connection_within number old world stands below

  goes_down : IsFlow true (host_out number old) (transits_at number old).down
  goes_down = subst (λ (b : Bool). IsFlow b (host_out number old) (transits_at number old).down) there (stands.flows number).down

  told_flow : (here : Option ℕ) → AreTransits here number old → AreTransits here number (told sending number old)
  told_flow here are = record {
    together = are.together;
    down = subst (λ (l : Connection). IsFlow (is_there l.service) l.out (transits_at number old).down) (sym (with_connection_there number old sending in_connections))
        (subst (λ (b : Bool). IsFlow b (host_out number old ++ sent_bytes (item_sent sending.message ∷ [])) (transits_at number old).down)
        (sym (still_there sending.conn (state_at number old.host) there))
        (more_flows (host_out number old) (sent_bytes (item_sent sending.message ∷ [])) (transits_at number old).down goes_down));
    up = subst (λ (out : List ℕ). IsFlow (is_some here) out (transits_at number old).up) (sym (sits_same here old (told sending number old) refl).0) are.up;
  }

  told_stands_here : (here : Option ℕ) → LinkRepresents (link_with here number old) (world.link number)
      → LinkRepresents (link_with here number (told sending number old)) (host_sent (Some sending) (world.link number))
  told_stands_here here stood =
      subst (λ (b : ByteLink). LinkRepresents b (host_sent (Some sending) (world.link number)))
      (sym (told_link here number old sending in_connections there (stands.none_closed number) goes_down))
      (said_stands sends (link_with here number old) (world.link number) sending stood good)

  told_stands : EndsAgree world → EndsAgree (says sending number world) → WorldRepresents (told sending number old) (says sending number world)
  told_stands agree agrees =
      let now = with_same number (host_sent (Some sending) (world.link number)) world.link in
      changed_stands number (length old.slots) old (told sending number old) world (says sending number world)
      (record {
        connections = λ other differs. connection_other number other (sent_on sending (connection_at number old.host)) old.host differs;
        transits = λ other differs. refl;
        slots = λ other differs. refl;
        links = λ other differs. with_other number other (host_sent (Some sending) (world.link number)) world.link differs;
        places = λ other differs. refl;
        connection_count = length-set old.host.connections number (sent_on sending (connection_at number old.host));
        serves = refl;
        way_count = refl;
        slot_count = refl;
        terminals = refl;
        world_serves = refl;
        pool = stands.pool;
        before = beyond_is_alone number old world stands;
        behind = beyond_is_alone number old world stands;
        none_closed = subst (λ (l : Connection). IsNotClosed l.service) (sym (with_connection_there number old sending in_connections))
            (still_open sending.conn (state_at number old.host) (stands.none_closed number));
        settled = subst (λ (l : Connection). IsSettled l) (sym (with_connection_there number old sending in_connections))
            (there_settled (sent_on sending (connection_at number old.host)) (still_there sending.conn (state_at number old.host) there));
        flow = subst (λ (l : Link). AreTransits l.term_here number (told sending number old)) (sym now)
            (told_flow (world.link number).term_here (flow_there number old world agree stands));
        link = subst (λ (l : Link). LinkRepresents (link_with l.term_here number (told sending number old)) l) (sym now)
            (told_stands_here (world.link number).term_here (link_there number old world agree stands));
        place = stands.places (length old.slots);
      })
      agree stands agrees

-- ---- NOP

-- NOP is behind what the host has to send
abbrev nop_told : ℕ → ByteWorld → ByteWorld
nop_told number old = with_host (with_connection number (with_nop (connection_at number old.host)) old.host) old

bound_there : (service : Service) → is_bound service ≡ true → is_there service ≡ true
bound_there Service.Free is = absurd (cc)
bound_there (Service.Open rest conn) is = refl
bound_there (Service.Closed cause) is = absurd (cc)

if_may : (may : Bool) (one other : Connection) → may ≡ true → (if may then one else other) ≡ one
if_may may one other is = rw is refl

module _ (nop : NopRepresents) (number : ℕ) (old : ByteWorld) (world : World) (stands : WorldRepresents old world)
    (below : number < most_connections) (there : host_there number old ≡ true) where
  connection_is : connection_at number (nop_told number old).host ≡ with_nop (connection_at number old.host)
  connection_is = connection_same number (with_nop (connection_at number old.host)) old.host (connection_within number old world stands below)

  nop_goes_down : IsFlow true (host_out number old) (transits_at number old).down
  nop_goes_down = subst (λ (b : Bool). IsFlow b (host_out number old) (transits_at number old).down) there (stands.flows number).down

  nop_link : (here : Option ℕ) → link_with here number (nop_told number old) ≡ said_down (conn_of (state_at number old.host)) (no_operation ∷ []) (link_with here number old)
  nop_link here =
      let transits : Transits = transits_at number old in
      let service : Service = state_at number old.host in
      let new : ByteWorld = nop_told number old in
      let out : List ℕ = host_out number old ++ sent_bytes (no_operation ∷ []) in
      ap (λ (l : Connection). with_this here transits (out_of here new) (tracked_of here new) l.service l.out) connection_is
      ∙ ap (λ (up : List ℕ). with_this here transits up (tracked_of here new) service out) (sits_same here old new refl).0
      ∙ ap (λ (s : TrackedTerminal). with_this here transits (out_of here old) s service out) (sits_same here old new refl).1
      ∙ ap (λ (down : List ℕ). record (with_this here transits (out_of here old) (tracked_of here old) service (host_out number old)) { down = down })
      (more_under_way (host_out number old) (sent_bytes (no_operation ∷ [])) transits.down nop_goes_down)

  nop_flow : (here : Option ℕ) → AreTransits here number old → AreTransits here number (nop_told number old)
  nop_flow here are = record {
    together = are.together;
    down = subst (λ (l : Connection). IsFlow (is_there l.service) l.out (transits_at number old).down) (sym connection_is)
        (subst (λ (b : Bool). IsFlow b (host_out number old ++ sent_bytes (no_operation ∷ [])) (transits_at number old).down) (sym there)
        (more_flows (host_out number old) (sent_bytes (no_operation ∷ [])) (transits_at number old).down nop_goes_down));
    up = subst (λ (out : List ℕ). IsFlow (is_some here) out (transits_at number old).up) (sym (sits_same here old (nop_told number old) refl).0) are.up;
  }

  nop_stands_here : (here : Option ℕ) → LinkRepresents (link_with here number old) (world.link number) → LinkRepresents (link_with here number (nop_told number old)) (world.link number)
  nop_stands_here here stood =
      subst (λ (b : ByteLink). LinkRepresents b (world.link number)) (sym (nop_link here)) (nop (link_with here number old) (world.link number) stood)

  nop_told_stands : EndsAgree world → WorldRepresents (nop_told number old) world
  nop_told_stands agree =
      changed_stands number (length old.slots) old (nop_told number old) world world
      (record {
        connections = λ other differs. connection_other number other (with_nop (connection_at number old.host)) old.host differs;
        transits = λ other differs. refl;
        slots = λ other differs. refl;
        links = λ other differs. refl;
        places = λ other differs. refl;
        connection_count = length-set old.host.connections number (with_nop (connection_at number old.host));
        serves = refl;
        way_count = refl;
        slot_count = refl;
        terminals = refl;
        world_serves = refl;
        pool = stands.pool;
        before = beyond_is_alone number old world stands;
        behind = beyond_is_alone number old world stands;
        none_closed = subst (λ (l : Connection). IsNotClosed l.service) (sym connection_is) (stands.none_closed number);
        settled = subst (λ (l : Connection). IsSettled l) (sym connection_is) (there_settled (with_nop (connection_at number old.host)) there);
        flow = nop_flow (world.link number).term_here (flow_there number old world agree stands);
        link = nop_stands_here (world.link number).term_here (link_there number old world agree stands);
        place = stands.places (length old.slots);
      })
      agree stands agree

-- Keeping a connection alive is nothing over messages.
pub keep_alive_goes : MessageLaws → (number : ℕ) → Goes (event.KeepAlive number)
keep_alive_goes known number begin events old answer new is reached real place stepped_by =
    let parts = and_parts (is_link number) (may_keep_alive (connection_at number old.host)) place in
    let bound = and_parts (is_bound (state_at number old.host)) (length (host_out number old) == 0) parts.1 in
    let made : new ≡ nop_told number old =
    stepped_by.1
    ∙ ap (λ (c : Connection). with_host (with_connection number c old.host) old)
    (if_may (may_keep_alive (connection_at number old.host)) (with_nop (connection_at number old.host)) (connection_at number old.host) parts.1) in
    record {
      more = [];
      comes_to = refl;
      reached = reached_more begin events [] old new reached tt (All-nil IsWellFormed) (ap (λ (w : ByteWorld). w.host.panels) made)
          (subst (λ (w : ByteWorld). WorldRepresents w (after begin events)) (sym made)
          (nop_told_stands known.links.nop number old (after begin events) reached.stands (ltb-true number most_connections parts.0)
          (bound_there (state_at number old.host) bound.0) (facts_now known.worlds begin events old is reached).agree));
    }

-- ---- what the host does

pub acting : (app : Application) (service : Service) (sending : Sent) → acted_by app service ≡ Some sending → (is_there service ≡ true) × (acted app (conn_of service) ≡ Some sending)
acting app Service.Free sending is = absurd (cc)
acting app (Service.Open rest conn) sending is = (refl, is)
acting app (Service.Closed cause) sending is = absurd (cc)

pub noting : (text : List ℕ) (service : Service) (sending : Sent) → noted_by text service ≡ Some sending → (is_there service ≡ true) × (noted text (conn_of service) ≡ Some sending)
noting text Service.Free sending is = absurd (cc)
noting text (Service.Open rest conn) sending is = (refl, is)
noting text (Service.Closed cause) sending is = absurd (cc)

-- which command that is
only_if : (b : Bool) (one sending : Sent) → (if b then Some one else None) ≡ Some sending → sending ≡ one
only_if true one sending is = cc
only_if false one sending is = absurd (cc)

decided_sent : (app : Application) (conn : Session) (b : Bool) (decision : Decision) (sending : Sent) → option_and_then (decided app conn) (if b then Some decision else None) ≡ Some sending
    → (act : Act) × (sending ≡ done_act app conn act)
decided_sent app conn true (Decision.Do act) sending is = (act, cc)
decided_sent app conn true Decision.Asks sending is = absurd (cc)
decided_sent app conn false decision sending is = absurd (cc)

pub act_sent : (app : Application) (conn : Session) (sending : Sent) → acted app conn ≡ Some sending → (act : Act) × (sending ≡ done_act app conn act)
act_sent app conn sending is = decided_sent app conn (may_act conn.turn conn.pending (is_agreed conn.talk.state)) (decision_on app conn conn.turn_reason) sending is

if_some : (b : Bool) (what : Option Sent) (sending : Sent) → (if b then what else None) ≡ Some sending → what ≡ Some sending
if_some true what sending is = is
if_some false what sending is = absurd (cc)

pub answering : (app : Application) (session : ℕ) (ticket : Ticket) (said : ApplicationAnswer) (service : Service) (sending : Sent) → answered_by app session ticket said service ≡ Some sending
    → (is_there service ≡ true) × (answered_on app (conn_of service) said ≡ Some sending)
answering app session ticket said Service.Free sending is = absurd (cc)
answering app session ticket said (Service.Open rest conn) sending is = (refl, if_some (is_ticket ticket (ticket_of session conn)) (answered_on app conn said) sending is)
answering app session ticket said (Service.Closed cause) sending is = absurd (cc)

pub answer_sent : (app : Application) (conn : Session) (said : ApplicationAnswer) (sending : Sent) → answered_on app conn said ≡ Some sending → sending ≡ done_act app conn (act_by app conn said (panel_for app conn said))
answer_sent app conn said sending is = only_if (is_asking app conn && has_its_panel app said) (done_act app conn (act_by app conn said (panel_for app conn said))) sending is

pub note_sent : (text : List ℕ) (conn : Session) (sending : Sent) → noted text conn ≡ Some sending → sending ≡ noted_as text conn
note_sent text conn sending is = only_if (may_note conn.turn conn.pending (is_agreed conn.talk.state)) (noted_as text conn) sending is

-- an act's command fits where it is sent
pub act_suits : (size : ScreenSize) (shadow : Shadow) (message : ToTerminal) → PaintsWhatFits size shadow message → CommandFitsScreen message
act_suits size shadow (ToTerminal.TalksDown saying) paints = absurd paints
act_suits size shadow (ToTerminal.Paint number wanted over) paints = subst (λ (s : Shadow). is_paintable s wanted ≡ true) (sym paints.1) paints.0.fits
act_suits size shadow (ToTerminal.ReadBuffer number) paints = tt
act_suits size shadow (ToTerminal.Note number command) paints = absurd paints

-- the message that is sent is the last under way
last_of : {X : Type 0} (P : X → Type 0) (xs : List X) (x : X) → All P (xs ++ x ∷ []) → P x
last_of P [] x all = All-head P x [] all
last_of P (first ∷ xs) x all = last_of P xs x (All-tail P first (xs ++ x ∷ []) all)

last_sent : {X : Type 0} (P : X → Type 0) (lost : Bool) (queue : List X) (x : X) → lost ≡ false → All P (sent lost queue (x ∷ [])) → P x
last_sent P true queue x is all = absurd (cc)
last_sent P false queue x is all = last_of P queue x all

-- where the host's line is as it was, all is
nothing_said : (number : ℕ) (old : ByteWorld) (host : Host) → host ≡ with_connection number (connection_at number host) old.host → connection_at number host ≡ connection_at number old.host
    → with_host host old ≡ old
nothing_said number old host others connection =
    ap (λ (h : Host). with_host h old)
    (others ∙ ap (λ (l : Connection). with_connection number l old.host) connection
    ∙ ap (λ connections. record old.host { connections = connections }) (set-get_or old.host.connections number unused))

-- it happens once, or not at all
record Went (begin : WorldSetup) (events : List Event) (message : Event) (answer : Stepped) (new : ByteWorld) : Type 0 where
  more : List Event
  is_once : more ≡ once message answer
  reached : Reached begin (events ++ more) new

went_on : (begin : WorldSetup) (events : List Event) (message : Event) (number : ℕ) (sending : Sent) (old new : ByteWorld) (answer : Stepped) (host : Host) (act : Acted)
    → IsDone (Some sending) (connection_at number old.host) act (connection_at number host) → host ≡ with_connection number (connection_at number host) old.host
    → answer ≡ answer_acted act → new ≡ with_host host old → Reached begin events old → Reached begin (events ++ message ∷ []) (told sending number old)
    → Went begin events message answer new
went_on begin events message number sending old new answer host acted_as.Sent does others answers leaves before reached = record {
  more = message ∷ [];
  is_once = ap (λ (a : Stepped). once message a) (sym answers);
  reached = subst (λ (w : ByteWorld). Reached begin (events ++ message ∷ []) w)
      (sym (leaves ∙ ap (λ (h : Host). with_host h old) (others ∙ ap (λ (l : Connection). with_connection number l old.host) does))) reached;
}
went_on begin events message number sending old new answer host acted_as.Memory does others answers leaves before reached = record {
  more = [];
  is_once = ap (λ (a : Stepped). once message a) (sym answers);
  reached = reached_still begin events old new before (leaves ∙ nothing_said number old host others does);
}
went_on begin events message number sending old new answer host acted_as.Nothing does others answers leaves before reached = absurd does

module _ (known : MessageLaws) (skips : SameSkips) (given : LowerLaws) (stands_for : PaintRepresents) (bounded : PaintIsBounded) where
  -- The world stands for the one in which the message was sent.
  told_reached : (begin : WorldSetup) (events : List Event) (message : Event) (number : ℕ) (sending : Sent) (old : ByteWorld) → IsWorldSetup begin → Reached begin events old
      → IsEvent message → IsWellFormed message → is_enabled_over_messages (application_of begin.panels) message (after begin events) ≡ true
      → done (application_of begin.panels) message (after begin events) ≡ says sending number (after begin events)
      → number < most_connections → host_there number old ≡ true → CommandFitsScreen sending.message → Reached begin (events ++ message ∷ []) (told sending number old)
  told_reached begin events message number sending old is reached such typed place is_done below there suits =
      let world : World = after begin events in
      let link : Link = world.link number in
      let before : Facts world = facts_now known.worlds begin events old is reached in
      let behind : Facts (says sending number world) =
      subst (λ (w : World). Facts w) is_done (facts_once known.worlds begin events message old is reached such typed place) in
      let now = with_same number (host_sent (Some sending) link) world.link in
      reached_one begin events message old (told sending number old) reached such typed place refl
      (subst (λ (w : World). WorldRepresents (told sending number old) w) (sym is_done)
      (told_stands known.links.sends number old world sending reached.stands below there
      (λ up. spells stands_for bounded sending.message suits (record {
        screen = last_sent PaintsAScreen link.lost link.down sending.message up (subst (λ (l : Link). All PaintsAScreen l.down) now (behind.paints number));
        encoded = last_sent IsSpelt link.lost link.down sending.message up (subst (λ (l : Link). All IsSpelt l.down) now (behind.encoded number));
        number = last_sent (λ (m : ToTerminal). IfSome (number_in m) IsNumber) link.lost link.down sending.message up
            (subst (λ (l : Link). All (λ (m : ToTerminal). IfSome (number_in m) IsNumber) l.down) now (behind.numbers number).down);
      }))
      before.agree behind.agree))

  -- what the host holds of a connection is the same over messages
  same_conn : (begin : WorldSetup) (events : List Event) (old : ByteWorld) (number : ℕ) → Reached begin events old → host_there number old ≡ true
      → conn_of (state_at number old.host) ≡ ((after begin events).link number).host
  same_conn begin events old number reached there =
      let link = reached.stands.links number in
      (link.host (sym link.host_here ∙ there)).host

  pub act_goes : (number : ℕ) → Goes (event.Act number)
  act_goes number begin events old answer new is reached real place stepped_by =
      let parts = and_parts (is_link number) (is_some (acted_by (application_of old.host.panels) (state_at number old.host))) place in
      by_does (acted_by (application_of old.host.panels) (state_at number old.host)) refl parts.1 stepped_by
    where
      by_does : (does : Option Sent) → acted_by (application_of old.host.panels) (state_at number old.host) ≡ does → is_some does ≡ true → OnConnection (HostDoes does) number old answer new
          → GoesOn begin events (event.Act number) old answer new
      by_does None e some acts = absurd (cc)
      by_does (Some sending) e some acts =
          let app : Application = application_of begin.panels in
          let link : Link = (after begin events).link number in
          let below : number < most_connections = ltb-true number most_connections (and_parts (is_link number) _ place).0 in
          let found = acting app (state_at number old.host) sending
          (ap (λ (panels : Panels). acted_by (application_of panels) (state_at number old.host)) (sym reached.panels) ∙ e) in
          let does : acted app link.host ≡ Some sending = ap (λ (c : Session). acted app c) (sym (same_conn begin events old number reached found.0)) ∙ found.1 in
          let suits : CommandFitsScreen sending.message =
          let sent_by = act_sent app link.host sending does in
          subst (λ (s : Sent). CommandFitsScreen s.message) (sym sent_by.1)
          (act_suits _ _ _ (known.worlds.given.belief.fit app link.host sent_by.0 (is_application known.worlds begin is))) in
          let went = went_on begin events (Event.Act number) number sending old new answer acts.host acts.act (by_act (Some sending) (connection_at number old.host) acts.act (connection_at number acts.host) acts.acts) acts.others acts.answers acts.leaves reached
          (told_reached begin events (Event.Act number) number sending old is reached tt tt (sym (skips begin events (event.Act number) old is reached tt) ∙ place)
          (ap (λ (o : Option Sent). with_link number (host_sent o link) (after begin events)) does) below found.0 suits) in
          record { more = went.more; comes_to = went.is_once; reached = went.reached }

  -- it has a place over messages
  answer_has_place : (app : Application) (said : ApplicationAnswer) (number : ℕ) (link : Link) (sending : Sent) → is_link number ≡ true → link.host_here ≡ true → answered_on app link.host said ≡ Some sending
      → (is_link number && host_is_answered app said link) ≡ true
  answer_has_place app said number link sending linked here does =
      ap (λ (b : Bool). b && host_is_answered app said link) linked ∙ ap (λ (b : Bool). b && is_some (answered_on app link.host said)) here ∙ ap (λ (o : Option Sent). is_some o) does

  taken_if : (message : Event) (answer : Stepped) (act : Acted) → answer ≡ answer_acted act → (act ≡ acted_as.Nothing → ⊥) → once message answer ≡ once_taken message answer
  taken_if message answer acted_as.Sent is some = ap (once message) is ∙ sym (ap (once_taken message) is)
  taken_if message answer acted_as.Memory is some = ap (once message) is ∙ sym (ap (once_taken message) is)
  taken_if message answer acted_as.Nothing is some = absurd (some refl)

  does_something : (sending : Sent) (old : Connection) (act : Acted) (new : Connection) → IsDone (Some sending) old act new → act ≡ acted_as.Nothing → ⊥
  does_something sending old acted_as.Sent new does nothing = absurd (cc)
  does_something sending old acted_as.Memory new does nothing = absurd (cc)
  does_something sending old acted_as.Nothing new does nothing = does

  pub answer_goes : (number : ℕ) (ticket : Ticket) (said : ApplicationAnswer) → Goes (event.Answer number ticket said)
  answer_goes number ticket said begin events old answer new is reached real place stepped_by =
      let session : ℕ = session_at number old.host in
      let parts = and_parts (is_link number) (is_some (answered_by (application_of old.host.panels) session ticket said (state_at number old.host))) place in
      by_does (answered_by (application_of old.host.panels) session ticket said (state_at number old.host)) refl parts.0 parts.1 stepped_by
    where
      by_does : (does : Option Sent) → answered_by (application_of old.host.panels) (session_at number old.host) ticket said (state_at number old.host) ≡ does → is_link number ≡ true → is_some does ≡ true
          → OnConnection (DoesAnswer (application_of old.host.panels) said does) number old answer new → GoesOn begin events (event.Answer number ticket said) old answer new
      by_does None e linked some acts = absurd (cc)
      by_does (Some sending) e linked some acts =
          let app : Application = application_of begin.panels in
          let link : Link = (after begin events).link number in
          let below : number < most_connections = ltb-true number most_connections linked in
          let found = answering app (session_at number old.host) ticket said (state_at number old.host) sending
          (ap (λ (panels : Panels). answered_by (application_of panels) (session_at number old.host) ticket said (state_at number old.host)) (sym reached.panels) ∙ e) in
          let does : answered_on app link.host said ≡ Some sending = ap (λ (c : Session). answered_on app c said) (sym (same_conn begin events old number reached found.0)) ∙ found.1 in
          let here : link.host_here ≡ true = sym (reached.stands.links number).host_here ∙ found.0 in
          let suits : CommandFitsScreen sending.message =
          subst (λ (s : Sent). CommandFitsScreen s.message) (sym (answer_sent app link.host said sending does))
          (act_suits _ _ _ (known.worlds.given.belief.fit app link.host (act_by app link.host said (panel_for app link.host said)) (is_application known.worlds begin is))) in
          let done : IsDone (Some sending) (connection_at number old.host) acts.act (connection_at number acts.host) =
          by_answer (application_of old.host.panels) said (Some sending) (connection_at number old.host) acts.act (connection_at number acts.host) acts.acts in
          let went = went_on begin events (Event.Answer number said) number sending old new answer acts.host acts.act done acts.others acts.answers acts.leaves reached
          (told_reached begin events (Event.Answer number said) number sending old is reached real.0 tt (answer_has_place app said number link sending linked here does)
          (ap (λ (o : Option Sent). with_link number (host_sent o link) (after begin events)) does) below found.0 suits) in
          record {
            more = went.more;
            comes_to = went.is_once ∙ taken_if (Event.Answer number said) answer acts.act acts.answers (does_something sending (connection_at number old.host) acts.act (connection_at number acts.host) done);
            reached = went.reached;
          }

  pub note_goes : (number : ℕ) (text : List ℕ) → Goes (event.Note number text)
  note_goes number text begin events old answer new is reached real place stepped_by =
      let parts = and_parts (is_link number) (is_some (noted_by text (state_at number old.host))) place in
      by_does (noted_by text (state_at number old.host)) refl parts.1 stepped_by
    where
      by_does : (does : Option Sent) → noted_by text (state_at number old.host) ≡ does → is_some does ≡ true → OnConnection (HostDoes does) number old answer new
          → GoesOn begin events (event.Note number text) old answer new
      by_does None e some acts = absurd (cc)
      by_does (Some sending) e some acts =
          let app : Application = application_of begin.panels in
          let app_is = is_application known.worlds begin is in
          let link : Link = (after begin events).link number in
          let below : number < most_connections = ltb-true number most_connections (and_parts (is_link number) _ place).0 in
          let found = noting text (state_at number old.host) sending e in
          let does : noted text link.host ≡ Some sending = ap (λ (c : Session). noted text c) (sym (same_conn begin events old number reached found.0)) ∙ found.1 in
          let kept = (run_good given app app_is events (new_world app begin.serves begin.pool begin.models) reached.are_events
          (new_good given app app_is begin.serves begin.pool begin.models is.pool)).links number in
          let model : Model = link.term.display.model in
          let note : IsNoteOf link.host.size (note_command link.host.size text) = record { text = text; is_text = real.0; is = refl } in
          let suits : CommandFitsScreen sending.message =
          subst (λ (s : Sent). CommandFitsScreen s.message) (sym (note_sent text link.host sending does))
          (link.host.size, shape_of_model app model link.host.size app_is kept.sizes.host, is_narrow model link.host.size kept.sizes.host, note) in
          let went = went_on begin events (Event.Note number text) number sending old new answer acts.host acts.act (by_act (Some sending) (connection_at number old.host) acts.act (connection_at number acts.host) acts.acts) acts.others acts.answers acts.leaves reached
          (told_reached begin events (Event.Note number text) number sending old is reached real.0 tt (sym (skips begin events (event.Note number text) old is reached tt) ∙ place)
          (ap (λ (o : Option Sent). with_link number (host_sent o link) (after begin events)) does) below found.0 suits) in
          record { more = went.more; comes_to = went.is_once; reached = went.reached }

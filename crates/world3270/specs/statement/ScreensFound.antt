-- A paint finds the screen that the terminal had when the host decided on the paint (our profile): from the decision on
-- the keyboard is locked, and only the paint is under way. So a field that is kept has what the operator had in it at
-- the decision.
use Rattle.std.specs.Prelude.{◌≡◌, ◌≢◌, ◌==◌, ℕ, Bool, true, false, List, [], ◌∷◌, Option, None, Some, ⊤, slice_get}
use Rattle.codes3270.specs.declared.attention.Aid.TheVariants.{NoAid}
use Rattle.codes3270.specs.declared.attribute.Attr.{Attr}
use Rattle.datastream.specs.Screen.{Screen}
use Rattle.panels.specs.Screen.{Values, field_content}
use Rattle.panels.specs.declared.panel.Field.{Field as PanelField}
use Rattle.telnet_wire.specs.Reading.{Rest}
use Rattle.shadow.specs.Painted.{plainly_painted}
use Rattle.host_core.specs.Acts.{Act, Decision, decision_on, values_shown, wanted_by, when_shown}
use Rattle.host_core.specs.Application.{Application, application_of}
use Rattle.host_core.specs.Questions.{act_by, is_ask, panel_for}
use Rattle.host_core.specs.Session.{Session, Pending, model_in}
use Rattle.host_core.specs.State.{Service, state_at}
use Rattle.host_core.specs.declared.question.Answer.{Answer as ApplicationAnswer}
use Rattle.host_core.specs.declared.turn.Turn.TheVariants as whose
use Rattle.world3270.specs.model.ByteSteps.{Steps}
use Rattle.world3270.specs.model.ByteWorld.{ByteWorld}
use Rattle.world3270.specs.model.Steps.{stepped_by, run}
use Rattle.world3270.specs.model.Enabled.{is_enabled}
use Rattle.world3270.specs.refinement.Refines.{AreValidEvents, IsReached, IsValidEvent}
use Rattle.world3270.specs.statement.Observation.{TerminalSeen, seen_link}
use Rattle.world3270.specs.statement.ByteObservation.{seen_connection}
use Rattle.world3270.specs.statement.Leading.{IsWhereItLeads}
use Rattle.world3270.specs.statement.Shown.{HasShown, IsPanelShown, is_painting}
use Rattle.world3270.specs.statement.ShownFields.{ShowsField, fitted}
use Rattle.world3270.specs.statement.ShownSince.{HostRests, decides}
use Rattle.world3270.specs.model.World.{World, Event as MessageEvent}
use Rattle.world3270.specs.declared.event.Event.{Event}
use Rattle.world3270.specs.declared.event.Event.TheVariants as event
use Rattle.world3270.specs.declared.event.Stepped.TheVariants as stepped

-- Holds if it is the terminal `was`, and its last restoring write found the screen that `was` has.
pub record IsFound (was terminal : TerminalSeen) : Type 0 where
  pub same_terminal : terminal.number ≡ was.number
  pub same_screen : terminal.before_restored ≡ was.screen

-- ---- of a world over messages

-- whether the host may decide by this event what to show on the connection
abbrev pub decides_over : ℕ → MessageEvent → Bool
decides_over number (MessageEvent.Act at) = number == at
decides_over number (MessageEvent.Answer at said) = number == at
decides_over number event = false

-- Before each of these events, one after another, the host is attached to the connection; it decides nothing there.
abbrev pub HostRestsOver : Application → ℕ → List MessageEvent → World → Type 0
HostRestsOver app number [] world = ⊤
HostRestsOver app number (event ∷ events) world =
    ((world.link number).host_here ≡ true) × (decides_over number event ≡ true → is_enabled app event world ≡ false)
    × HostRestsOver app number events (stepped_by app event world)

-- If the host decides in this world to show a panel on a connection, and decides nothing there during the events after
-- it, and the paint is answered by then: it found the screen that the terminal, still the same one, has in this world.
abbrev pub PaintsFindTheScreen : Application → World → Type 0
PaintsFindTheScreen app world =
    (number : ℕ) (event : MessageEvent) (events : List MessageEvent) (terminal : TerminalSeen) →
    let decided = stepped_by app event world in
    let now = run app events decided in
    decides_over number event ≡ true → is_enabled app event world ≡ true
    → is_painting (decided.link number).host.pending ≡ true → HostRestsOver app number events decided
    → is_painting (now.link number).host.pending ≡ false → (seen_link (now.link number)).terminal ≡ Some terminal
    → (was : TerminalSeen) × ((seen_link (world.link number)).terminal ≡ Some was) × IsFound was terminal

-- Holds if it is the terminal `was`, with the screen of `was`.
pub record IsStill (was terminal : TerminalSeen) : Type 0 where
  pub same_terminal : terminal.number ≡ was.number
  pub same_screen : terminal.screen ≡ was.screen

-- whether a note waits for its answer
abbrev pub is_noting : Pending → Bool
is_noting Pending.Nothing = false
is_noting (Pending.Writing number command) = false
is_noting (Pending.Reading number) = false
is_noting (Pending.Noting number command) = true

-- If the host has the turn on a connection, and no note waits for its answer there, the screen stays until the host
-- decides. So a question is answered while the screen that it was asked about is displayed, and so is what the host has
-- read.
abbrev pub TurnsKeepTheScreen : Application → World → Type 0
TurnsKeepTheScreen app world = (number : ℕ) (events : List MessageEvent) (terminal : TerminalSeen) →
    let now = run app events world in
    (world.link number).host.turn ≡ whose.Host → is_noting (world.link number).host.pending ≡ false
    → HostRestsOver app number events world
    → (seen_link (now.link number)).terminal ≡ Some terminal
    → (was : TerminalSeen) × ((seen_link (world.link number)).terminal ≡ Some was) × IsStill was terminal

-- ---- of a world over bytes

-- the application's answer that an event is, if it is one
abbrev pub answer_in : Event → Option ApplicationAnswer
answer_in (event.Answer number ticket said) = Some said
answer_in event = None

-- Holds if this act is decided: by the host itself; or by this answer of the application to the open question.
abbrev pub IsDecidedBy : Application → Session → Option ApplicationAnswer → Act → Type 0
IsDecidedBy app conn None act = decision_on app conn conn.turn_reason ≡ Decision.Do act
IsDecidedBy app conn (Some said) act = (is_ask (decision_on app conn conn.turn_reason) ≡ true)
    × (act ≡ act_by app conn said (panel_for app conn said))

-- Holds if the session `conn` decided on what `host` shows, by itself or by this answer: its decision is to show this
-- panel with this message, where the key leads that was pressed on the screen `before`; and `screen` is the wanted
-- screen of that decision, painted on `before`.
pub record IsDecisionPainted (app : Application) (conn : Session) (said : Option ApplicationAnswer) (host : Session)
    (before screen : Screen) : Type 0 where
  pub asked : ℕ
  pub keep : Bool
  pub given : Values
  pub decided : IsDecidedBy app conn said (Act.Show asked host.message keep given)
  pub panel_is : host.panel ≡ app.shown (model_in conn) asked
  pub values_are : host.values ≡ values_shown app host.panel host.message given
  pub painted : screen
      ≡ plainly_painted (wanted_by app (when_shown conn) host.panel host.message keep host.values) before
  pub leads : IsWhereItLeads app conn before host keep said

-- Holds if a terminal shows a decision that the host made by this event in this state of the connection: its screen is
-- the wanted screen of that decision, painted on the screen that it had when the host decided; and it shows the panel.
-- If a key was pressed on that screen, the screen that was left before showed the connection's panel of then.
pub record IsDecisionShown (app : Application) (event : Event) (service : Service) (host : Session)
    (was terminal : TerminalSeen) : Type 0 where
  pub rest : Rest
  pub conn : Session
  pub is_open : service ≡ Service.Open rest conn
  pub found : IsFound was terminal
  pub pressed_on : was.screen.aid ≢ NoAid → IsPanelShown app true conn was.before_restored was.last_restored
  pub decision : IsDecisionPainted app conn (answer_in event) host was.screen terminal.last_restored
  pub shown : IsPanelShown app true host was.screen terminal.last_restored

-- If the host decided by this event to show a panel on a connection, and has decided nothing there since, then after
-- the paint is answered the terminal shows that decision. So it shows the panel to which the key leads that was pressed;
-- each field of it has the host's value or fill, or, cell by cell, the text that the operator had in it when the host
-- decided.
abbrev pub DecisionsAreShown : ByteWorld → Type 0
DecisionsAreShown world = (number : ℕ) (event : Event) (events : List Event) (before decided : ByteWorld)
    (rest behind : Rest) (conn host : Session) (terminal : TerminalSeen)
    → IsReached before → IsValidEvent event → AreValidEvents events → decides number event ≡ true
    → Steps event before stepped.Done decided → HostRests number events decided world
    → state_at number decided.host ≡ Service.Open rest conn → is_painting conn.pending ≡ true
    → state_at number world.host ≡ Service.Open behind host → HasShown host
    → (seen_connection number world).terminal ≡ Some terminal
    → (was : TerminalSeen) × ((seen_connection number before).terminal ≡ Some was)
    × IsDecisionShown (application_of world.host.panels) event (state_at number before.host) host was terminal

-- `DecisionsAreShown` holds of each world over bytes.
abbrev pub DecisionsAreShownOverBytes : Type 0
DecisionsAreShownOverBytes = (world : ByteWorld) → DecisionsAreShown world

-- In each world over bytes a screen stays while the host has the turn, with no note under way, and decides nothing.
abbrev pub TurnsKeepTheScreenOverBytes : Type 0
TurnsKeepTheScreenOverBytes = (number : ℕ) (events : List Event) (before world : ByteWorld) (rest : Rest)
    (conn : Session) (terminal : TerminalSeen)
    → IsReached before → AreValidEvents events → HostRests number events before world
    → state_at number before.host ≡ Service.Open rest conn → conn.turn ≡ whose.Host → is_noting conn.pending ≡ false
    → (seen_connection number world).terminal ≡ Some terminal
    → (was : TerminalSeen) × ((seen_connection number before).terminal ≡ Some was) × IsStill was terminal

-- A terminal doesn't show the decision if a field on its screen has another text: neither the value or fill nor what
-- the operator had in it.
abbrev pub OtherTextsAreNotShown : Type 0
OtherTextsAreNotShown = (app : Application) (event : Event) (service : Service) (host : Session)
    (was terminal : TerminalSeen) (index : ℕ) (field : PanelField) (attribute : Attr) (text : List ℕ)
    → slice_get (app.fields host.panel) index ≡ Some field → ShowsField terminal.last_restored field attribute text
    → text ≢ fitted field.extent.length (field_content host.values host.message field)
    → ((other : Attr) → ShowsField was.screen field other text → ⊥)
    → IsDecisionShown app event service host was terminal → ⊥

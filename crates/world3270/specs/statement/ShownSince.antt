-- Only the host's decisions change what is shown on a connection: an application's answer is shown until the host
-- decides again (our profile).
use Rattle.std.specs.Prelude.{◌≡◌, ◌==◌, ℕ, Bool, true, false, List, [], ◌∷◌, Some, unwrap_or}
use Rattle.keyboard.specs.declared.key.Key.{Key}
use Rattle.keyboard.specs.declared.key.Lock.TheVariants.{Wait}
use Rattle.telnet_wire.specs.Reading.{Rest}
use Rattle.panels.specs.declared.message.Message.TheVariants.{Told}
use Rattle.host_core.specs.Application.{Application, application_of}
use Rattle.host_core.specs.Questions.{panel_asked, panel_for, values_for}
use Rattle.host_core.specs.Session.{Session, model_in}
use Rattle.host_core.specs.State.{Service, state_at}
use Rattle.host_core.specs.declared.question.Answer.{Answer as ApplicationAnswer}
use Rattle.host_core.specs.declared.question.Ticket.{Ticket}
use Rattle.world3270.specs.model.ByteSteps.{Steps, is_enabled}
use Rattle.world3270.specs.model.ByteWorld.{ByteWorld, is_there}
use Rattle.world3270.specs.refinement.Refines.{AreValidEvents, IsReached, IsValidEvent}
use Rattle.world3270.specs.statement.Observation.{TerminalSeen}
use Rattle.world3270.specs.statement.ByteObservation.{seen_connection}
use Rattle.world3270.specs.statement.Shown.{HasShown, IsPanelShown}
use Rattle.world3270.specs.model.Terminal.{Display, after_key}
use Rattle.world3270.specs.declared.event.Event.{Event}
use Rattle.world3270.specs.declared.event.Event.TheVariants as event
use Rattle.world3270.specs.declared.event.Stepped.{Stepped}
use Rattle.world3270.specs.declared.event.Stepped.TheVariants as stepped

-- ---- one event

-- Holds if panel, values and message are equal.
pub record IsSamePanel (old new : Session) : Type 0 where
  pub panel : new.panel ≡ old.panel
  pub values : new.values ≡ old.values
  pub message : new.message ≡ old.message

-- whether the host may decide by this event what to show on the connection: it acts there, or is answered
abbrev pub decides : ℕ → Event → Bool
decides number (event.Act at) = number == at
decides number (event.Answer at ticket said) = number == at
decides number event = false

-- Holds if the host decides nothing on the connection by this event: it isn't such an event, or it is skipped.
abbrev pub DecidesNothing : ℕ → Event → ByteWorld → Type 0
DecidesNothing number event world = decides number event ≡ true → is_enabled event world ≡ false

-- A connection on which the host decides nothing by the event has the same panel after it, if the host is there before
-- and after.
abbrev pub PanelsStay : Event → ByteWorld → ByteWorld → Type 0
PanelsStay event old new = (number : ℕ) (rest behind : Rest) (conn later : Session) → DecidesNothing number event old
    → state_at number old.host ≡ Service.Open rest conn → state_at number new.host ≡ Service.Open behind later
    → IsSamePanel conn later

-- ---- an answer

-- Holds if the connection has the panel that the answer names (or, if it names none, the panel of the question), with
-- the answer's values, message and cursor field. `asked`: the connection when the question was open, also at connect.
pub record IsAnswered (app : Application) (asked : Session) (said : ApplicationAnswer) (now : Session) : Type 0 where
  pub panel : now.panel ≡ app.shown (model_in asked) (unwrap_or said.panel (panel_asked app asked asked.turn_reason))
  pub values : now.values ≡ values_for app asked said (panel_for app asked said)
  pub message : now.message ≡ Told said.message said.cursor

-- These events lead from `old` to `new`. Before each the host is attached to the connection; it decides nothing there.
abbrev pub HostRests : ℕ → List Event → ByteWorld → ByteWorld → Type 0
HostRests number [] old new = new ≡ old
HostRests number (event ∷ events) old new =
    (answer : Stepped) × (mid : ByteWorld) × Steps event old answer mid × (is_there (state_at number old.host) ≡ true)
    × DecidesNothing number event old
    × HostRests number events mid new

-- If an answer was taken and the host has decided nothing on the connection since, then after the paint is answered the
-- screen shows what was answered.
abbrev pub AnswersAreShown : ByteWorld → Type 0
AnswersAreShown world = (number : ℕ) (ticket : Ticket) (said : ApplicationAnswer) (events : List Event)
    (asked taken : ByteWorld) (rest behind : Rest) (conn host : Session) (terminal : TerminalSeen)
    → IsReached asked → IsValidEvent (event.Answer number ticket said) → AreValidEvents events
    → Steps (event.Answer number ticket said) asked stepped.Done taken
    → HostRests number events taken world
    → state_at number asked.host ≡ Service.Open rest conn → state_at number world.host ≡ Service.Open behind host
    → (seen_connection number world).terminal ≡ Some terminal → HasShown host
    → IsAnswered (application_of world.host.panels) conn said host
    × IsPanelShown (application_of world.host.panels) true host terminal.before_restored terminal.last_restored

-- ---- what a paint finds

-- While the keyboard is locked for the host, no key changes the screen or unlocks it. So a paint finds the screen that
-- the key sent, but for notes.
abbrev pub WaitingKeepsTheScreen : Type 0
WaitingKeepsTheScreen =
    (key : Key) (display : Display) → display.keyboard.lock ≡ Wait → ((after_key key display).screen ≡ display.screen)
    × ((after_key key display).keyboard.lock ≡ Wait)

-- ---- the laws

-- `PanelsStay` holds of each step.
abbrev pub StepsKeepPanels : Type 0
StepsKeepPanels = (event : Event) (old : ByteWorld) (answer : Stepped) (new : ByteWorld) → IsReached old
    → IsValidEvent event
    → Steps event old answer new → PanelsStay event old new

-- `AnswersAreShown` holds of each world over bytes.
abbrev pub AnswersAreShownOverBytes : Type 0
AnswersAreShownOverBytes = (world : ByteWorld) → AnswersAreShown world

-- What the operator is shown is the panel that the host has for the connection (our profile).
use Rattle.std.specs.Prelude.{◌≡◌, ℕ, Bool, true, false, Some}
use Rattle.datastream.specs.Screen.{Screen}
use Rattle.telnet_wire.specs.Reading.{Rest}
use Rattle.host_core.specs.Application.{Application, application_of}
use Rattle.host_core.specs.Session.{Session, Pending}
use Rattle.host_core.specs.State.{Service, state_at}
use Rattle.host_core.specs.declared.turn.Turn.TheVariants as whose
use Rattle.host_core.specs.declared.turn_reason.TurnReason.TheVariants.{Agreement}
use Rattle.world3270.specs.model.ByteWorld.{ByteWorld}
use Rattle.world3270.specs.refinement.Refines.{IsReached}
use Rattle.world3270.specs.statement.Observation.{TerminalSeen, seen_link}
use Rattle.world3270.specs.statement.ByteObservation.{seen_connection}
use Rattle.world3270.specs.model.World.{World}
use Rattle.world3270.specs.statement.Showing.{ShowsItsPanel}
use Rattle.world3270.specs.statement.ShownFields.{AreShown, ValuesAreShown, WantsItsFields}

-- whether a paint waits for its answer
abbrev pub is_painting : Pending → Bool
is_painting Pending.Nothing = false
is_painting (Pending.Writing number command) = true
is_painting (Pending.Reading number) = false
is_painting (Pending.Noting number command) = false

-- Holds if a panel was shown on the connection and its paint is answered: no paint waits for its answer, and the host
-- doesn't have the turn because the session has just been agreed on.
pub record HasShown (host : Session) : Type 0 where
  pub answered : is_painting host.pending ≡ false
  pub not_first : host.turn ≡ whose.Host → host.turn_reason ≡ Agreement → ⊥

-- Holds if the screen shows the connection's panel, with the connection's values and message; so it shows each field of
-- the panel, with its value or as it was on the screen before, and each value of the panel. The cursor is where the
-- panel and the message want it.
pub record IsPanelShown (app : Application) (waits : Bool) (host : Session) (before screen : Screen) : Type 0 where
  pub shown : ShowsItsPanel app waits host before screen
  pub fields : AreShown waits (app.fields host.panel) host.values host.message before screen
  pub values : ValuesAreShown (app.values host.panel) host.values screen
  pub cursor : screen.cursor ≡ (app.screen host.panel host.values host.message false).cursor

-- ---- of a world over messages

-- On each connection with both ends attached, lost or not, if a panel was shown and its paint is answered: the screen
-- that the host's last restoring write left shows the connection's panel, with the connection's values and message,
-- over the screen that this write found.
abbrev pub PanelIsShown : Application → World → Type 0
PanelIsShown app world = (number : ℕ) (terminal : TerminalSeen) → let link = world.link number in
    link.host_here ≡ true → (seen_link link).terminal ≡ Some terminal → HasShown link.host
    → ShowsItsPanel app true link.host terminal.before_restored terminal.last_restored

-- That screen also shows each field and value of the panel, if each screen that the application asks for has them.
abbrev pub FieldsAreShown : Application → World → Type 0
FieldsAreShown app world = WantsItsFields app → (number : ℕ) (terminal : TerminalSeen) → let link = world.link number in
    link.host_here ≡ true → (seen_link link).terminal ≡ Some terminal → HasShown link.host
    → IsPanelShown app true link.host terminal.before_restored terminal.last_restored

-- ---- of a world over bytes

-- On each connection, if a panel was shown and its paint is answered, the screen that the host left shows it.
abbrev pub WhatIsAnsweredIsShown : ByteWorld → Type 0
WhatIsAnsweredIsShown world = (number : ℕ) (rest : Rest) (host : Session) (terminal : TerminalSeen)
    → state_at number world.host ≡ Service.Open rest host
    → (seen_connection number world).terminal ≡ Some terminal → HasShown host
    → IsPanelShown (application_of world.host.panels) true host terminal.before_restored terminal.last_restored

-- `WhatIsAnsweredIsShown` holds of each world whose bytes represent a world over messages.
abbrev pub PanelIsShownOverBytes : Type 0
PanelIsShownOverBytes = (bytes : ByteWorld) → IsReached bytes → WhatIsAnsweredIsShown bytes

-- What happens on a connection of a world over bytes are moves of `EveryTerminalOverBytes` (our profile).
use Rattle.std.specs.Prelude.{◌≡◌, ℕ, true, false, List, [], ◌∷◌, Some}
use Rattle.keyboard.specs.declared.key.Lock.TheVariants.{Wait}
use Rattle.host_core.specs.Application.{application_of}
use Rattle.world3270.specs.declared.event.Event.{Event}
use Rattle.world3270.specs.declared.event.Stepped.{Stepped}
use Rattle.world3270.specs.model.ByteSteps.{Steps, is_lost}
use Rattle.world3270.specs.model.ByteWorld.{ByteWorld, slot_at, terminal_at}
use Rattle.world3270.specs.model.TrackedTerminals.{TrackedTerminal}
use Rattle.world3270.specs.refinement.Refines.{IsReached, IsValidEvent}
use Rattle.world3270.specs.statement.EveryTerminalBytes.{BeginsOverBytes, IsHost, LeadTo, OverBytes, Pressed, RightOverBytes}
use Rattle.world3270.specs.statement.Instances.{IsAgreedOn, over_bytes}

-- ---- one event

-- Connection `number` of a world, at whose end this terminal is.
abbrev pub over_bytes_if : Pressed → (number terminal : ℕ) → ByteWorld → OverBytes
over_bytes_if pressed number terminal world = record (over_bytes number terminal world) { pressed = pressed }

-- Holds if the terminal's keyboard is locked where a 3278's would be: it keeps its promise to wait. So Clear isn't
-- pressed in the wait.
pub record IsLockedIf (pressed : Pressed) (tracked : TrackedTerminal) : Type 0 where
  pub locked : pressed.waits ≡ true → tracked.terminal.station.keyboard.lock ≡ Wait
  pub uncleared : pressed.cleared ≡ false

-- Holds if moves lead from the connection in the old world to that in the new one, where the same terminal is at it.
-- `pressed` is what was pressed in the wait before them, and `later` then.
pub record IsMovedTo (number terminal : ℕ) (pressed : Pressed) (old new : ByteWorld) : Type 0 where
  pub later : Pressed
  pub states : List OverBytes
  pub lead : LeadTo (application_of old.host.panels) number states (over_bytes_if pressed number terminal old)
      (over_bytes_if later number terminal new)
  pub locked : IsLockedIf later (slot_at terminal new).tracked
  pub there : terminal_at number new.slots ≡ Some terminal

-- In each world whose bytes represent a world over messages, an event is moves on each connection that isn't lost, and
-- that it neither loses nor closes. The host after it is one that its type allows.
abbrev pub EventsAreMoves : Type 0
EventsAreMoves = (number terminal : ℕ) (pressed : Pressed) (event : Event) (old : ByteWorld) (answer : Stepped)
    (new : ByteWorld)
    → IsReached old → terminal_at number old.slots ≡ Some terminal → is_lost number old ≡ false
    → IsLockedIf pressed (slot_at terminal old).tracked
    → IsValidEvent event → Steps event old answer new → IsHost new.host → is_lost number new ≡ false
    → IsMovedTo number terminal pressed old new

-- ---- from agreement on

-- These events happen one after another, from the old world to the new one. None of them loses or closes the
-- connection, and each host is one that its type allows.
abbrev pub GoOnAt : ℕ → List Event → ByteWorld → ByteWorld → Type 0
GoOnAt number [] old new = new ≡ old
GoOnAt number (event ∷ events) old new =
    (answer : Stepped) × (next : ByteWorld) × IsValidEvent event × Steps event old answer next × IsHost next.host
    × (is_lost number next ≡ false) × GoOnAt number events next new

-- Holds if the connection in the old world is a begin of `EveryTerminalOverBytes`, and moves lead from it to that in
-- the new one; so the theorem holds of it.
pub record IsOneOfThese (number terminal : ℕ) (lu : List ℕ) (old new : ByteWorld) : Type 0 where
  pub begins : BeginsOverBytes (application_of old.host.panels) number lu (over_bytes number terminal old)
  pub pressed : Pressed
  pub states : List OverBytes
  pub lead : LeadTo (application_of old.host.panels) number states (over_bytes number terminal old)
      (over_bytes_if pressed number terminal new)
  pub right : RightOverBytes (application_of old.host.panels) number lu begins.begin states
      (over_bytes number terminal old)
      (over_bytes_if pressed number terminal new)
      lead

-- From just after agreement on, whatever events happen, as long as the connection isn't lost.
abbrev pub WorldsMoveOverBytes : Type 0
WorldsMoveOverBytes = (number terminal : ℕ) (lu : List ℕ) (events : List Event) (old new : ByteWorld)
    → IsReached old → IsHost old.host → IsAgreedOn number terminal lu old → GoOnAt number events old new
    → IsOneOfThese number terminal lu old new

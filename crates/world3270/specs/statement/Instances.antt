-- The connections of worlds are such as `EveryTerminal` and `EveryTerminalOverBytes` speak of (our profile).
use Rattle.std.specs.Prelude.{◌≡◌, ℕ, true, false, List, [], Some}
use Rattle.codes3270.specs.declared.attention.Aid.TheVariants.{NoAid}
use Rattle.keyboard.specs.declared.key.Lock.TheVariants.{Wait}
use Rattle.telnet_wire.specs.Reading.{Rest}
use Rattle.host_core.specs.Application.{Application, application_of}
use Rattle.host_core.specs.Laws.{MarksInput}
use Rattle.host_core.specs.Session.{Pending, Session, agreed_lu}
use Rattle.host_core.specs.State.{Service, state_at}
use Rattle.host_core.specs.Takes.{may_have_changed}
use Rattle.host_core.specs.declared.turn.Turn.TheVariants as whose
use Rattle.host_core.specs.declared.turn_reason.TurnReason.TheVariants.{Agreement}
use Rattle.host_core.specs.declared.unheard.Unheard.TheVariants.{Input}
use Rattle.world3270.specs.model.ByteSteps.{is_lost}
use Rattle.world3270.specs.model.ByteWorld.{ByteWorld, slot_at, terminal_at, up_of}
use Rattle.world3270.specs.model.Link.{Link}
use Rattle.world3270.specs.model.World.{World}
use Rattle.world3270.specs.refinement.Refines.{IsReached}
use Rattle.world3270.specs.refinement.Representation.{with_out}
use Rattle.world3270.specs.statement.EveryTerminal.{AreByTheRules, FirstPaint, LinkWithReport, Move, RightOf, after_moves}
use Rattle.world3270.specs.statement.EveryTerminalBytes.{BeginsOverBytes, IsHost, OverBytes, Pressed, Represents}

-- Connection `number` of a world, at whose end this terminal is: what the host has to send is under way. No panel was
-- sent yet, and nothing pressed.
abbrev pub over_bytes : (number terminal : ℕ) → ByteWorld → OverBytes
over_bytes number terminal world = record {
  host = world.host;
  down = [];
  up = up_of number world;
  tracked = with_out [] (slot_at terminal world).tracked;
  pressed = record { waits = true; first = NoAid; cleared = false };
}

-- Holds just after the host has agreed on this LU on a connection that isn't lost, with this terminal at its other end;
-- the host doesn't rely on the terminal's wait.
pub record IsAgreedOn (number terminal : ℕ) (lu : List ℕ) (world : ByteWorld) : Type 0 where
  pub rest : Rest
  pub host : Session
  pub is_open : state_at number world.host ≡ Service.Open rest host
  pub agreed : agreed_lu host.talk.state ≡ Some lu
  pub any : host.unheard ≡ Input
  pub turn : host.turn ≡ whose.Host
  pub pending : host.pending ≡ Pending.Nothing
  pub first : host.turn_reason ≡ Agreement
  pub there : terminal_at number world.slots ≡ Some terminal
  pub live : is_lost number world ≡ false

-- In each world whose bytes represent a world over messages, and whose host is one that its type allows, such a
-- connection is a begin of `EveryTerminalOverBytes`.
abbrev pub WorldsBeginOverBytes : Type 0
WorldsBeginOverBytes = (number terminal : ℕ) (lu : List ℕ) (world : ByteWorld) → IsReached world → IsHost world.host
    → IsAgreedOn number terminal lu world
    → BeginsOverBytes (application_of world.host.panels) number lu (over_bytes number terminal world)

-- ---- what happens on it then

-- Holds if this is the connection of a world, but for the terminal's number, and without its promise to wait. It does
-- wait: while `EveryTerminal` says that a 3278's keyboard would be locked, this one is.
pub record IsTheSame (link : Link) (t : LinkWithReport) : Type 0 where
  pub link_is : t.link ≡ record link { term_here = Some 0; term = record link.term { waits = false } }
  pub waits : t.waits ≡ true → link.term.display.keyboard.lock ≡ Wait

-- Holds if from a begin of `EveryTerminal` on moves that keep the rules lead to the connection; so `RightOf` holds of it.
pub record IsMoved (app : Application) (lu : List ℕ) (link : Link) : Type 0 where
  pub begin : LinkWithReport
  pub begins : FirstPaint app lu begin
  pub moves : List Move
  pub by_the_rules : AreByTheRules app moves begin
  pub same : IsTheSame link (after_moves app moves begin)
  pub right : RightOf app lu (after_moves app moves begin)

-- After any list of events each connection that isn't lost is so, if the host has agreed on an LU there, and doesn't
-- rely on the terminal's wait; and if the application marks its input fields, as a host for such terminals does.
abbrev pub ConnectionsAreMoved : Application → World → Type 0
ConnectionsAreMoved app world = MarksInput app → (number : ℕ) (lu : List ℕ) → let link = world.link number in link.lost ≡ false
    → agreed_lu link.host.talk.state ≡ Some lu → may_have_changed link.host.unheard ≡ true → IsMoved app lu link

-- ---- over bytes

-- Holds if the host has agreed on this LU on a connection that isn't lost, with this terminal at its other end; the host
-- doesn't rely on the terminal's wait.
pub record HasAgreedOn (number terminal : ℕ) (lu : List ℕ) (world : ByteWorld) : Type 0 where
  pub rest : Rest
  pub host : Session
  pub is_open : state_at number world.host ≡ Service.Open rest host
  pub agreed : agreed_lu host.talk.state ≡ Some lu
  pub any : may_have_changed host.unheard ≡ true
  pub there : terminal_at number world.slots ≡ Some terminal
  pub live : is_lost number world ≡ false

-- what was pressed in the wait
abbrev pub pressed_in : LinkWithReport → Pressed
pressed_in t = record { waits = t.waits; first = t.told.screen.aid; cleared = t.cleared }

-- Holds if from a begin of `EveryTerminal` on moves that keep the rules lead to a connection that these bytes represent,
-- as `EveryTerminalOverBytes` has it of its bytes, whatever their `pressed`; so `RightOf` holds of it.
pub record IsMovedOverBytes (app : Application) (number : ℕ) (lu : List ℕ) (bytes : OverBytes) : Type 0 where
  pub begin : LinkWithReport
  pub begins : FirstPaint app lu begin
  pub moves : List Move
  pub by_the_rules : AreByTheRules app moves begin
  pub represents : let now = after_moves app moves begin in
      Represents number (record bytes { pressed = pressed_in now }) now
  pub right : RightOf app lu (after_moves app moves begin)

-- In each world whose bytes represent a world over messages, such a connection is so: as long as it isn't lost, whatever
-- happens on it.
abbrev pub WorldsGoOnOverBytes : Type 0
WorldsGoOnOverBytes = (number terminal : ℕ) (lu : List ℕ) (world : ByteWorld) → IsReached world
    → HasAgreedOn number terminal lu world
    → IsMovedOverBytes (application_of world.host.panels) number lu (over_bytes number terminal world)

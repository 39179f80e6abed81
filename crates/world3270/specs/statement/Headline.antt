-- The headline: what holds between a host and its terminals after every event, whatever is typed,
-- delivered, lost, connected again or restarted (our profile).
use Rattle.std.specs.Prelude.{◌≡◌, ℕ, Bool, false, List, length, None, Some, if◌then◌else◌}
use Rattle.codes3270.specs.declared.attention.Aid.{Aid}
use Rattle.codes3270.specs.declared.attention.Aid.TheVariants.{NoAid, Enter, Clear, Pf, Pa}
use Rattle.codes3270.specs.declared.attribute.Attr.{Attr as Attribute}
use Rattle.datastream.specs.Fields.{Field, fields}
use Rattle.datastream.specs.Screen.{Screen}
use Rattle.shadow.specs.Belief.{Shadow, nulls}
use Rattle.shadow.specs.Exactness.{EachField, ProtectedSeen, ReturnedTold}
use Rattle.shadow.specs.Meets.{Meets}
use Rattle.shadow.specs.Pairs.{Pairwise}
use Rattle.lu_pool.specs.Holders.{holder}
use Rattle.host_core.specs.declared.turn.Turn.TheVariants as whose
use Rattle.world3270.specs.statement.Observation.{HostSeen, TerminalSeen, SeenLink, Observation}

-- ---- (a) nobody else works in your name: an LU has one live session, and the host granted it

-- Holds if the connection is a live session with this LU: it isn't lost, both ends are attached,
-- and the terminal is bound to the LU.
pub record IsLive (link : SeenLink) (lu : List ℕ) : Type 0 where
  pub up : link.lost ≡ false
  pub host : HostSeen
  pub host_is : link.host ≡ Some host
  pub terminal : TerminalSeen
  pub terminal_is : link.terminal ≡ Some terminal
  pub bound : terminal.bound ≡ Some lu

-- Holds if no two connections are live sessions with the same LU.
abbrev pub OneSessionEach : Observation → Type 0
OneSessionEach world =
    (one other : ℕ) (lu : List ℕ) → IsLive (world.link one) lu → IsLive (world.link other) lu → one ≡ other

-- Holds if the host agreed on this LU in the negotiation on connection `number`, and that
-- connection holds the LU in the pool.
pub record IsGranted (world : Observation) (number : ℕ) (host : HostSeen) (lu : List ℕ) : Type 0 where
  pub agreed : host.agreed ≡ Some lu
  pub held : holder world.pool lu ≡ Some number

-- Holds if on each connection with both ends attached, lost or not, the host granted the LU that
-- the terminal is bound to.
abbrev pub BoundIsGranted : Observation → Type 0
BoundIsGranted world =
    (number : ℕ) (host : HostSeen) (terminal : TerminalSeen) (lu : List ℕ) → (world.link number).host ≡ Some host
    → (world.link number).terminal ≡ Some terminal → terminal.bound ≡ Some lu → IsGranted world number host lu

-- ---- what the host knows when it decides what to do next

-- Holds if the host may decide: both ends are attached (also if the connection is lost), the host
-- has the turn, and the terminal has answered its last command.
pub record IsHostsTurn (link : SeenLink) : Type 0 where
  pub host : HostSeen
  pub host_is : link.host ≡ Some host
  pub terminal : TerminalSeen
  pub terminal_is : link.terminal ≡ Some terminal
  pub turn : host.turn ≡ whose.Host
  pub answered : host.pending ≡ None

-- Holds if the AID is one with which a terminal returns its modified fields: Enter or a PF key.
abbrev pub SentFields : Aid → Type 0
SentFields Enter = Unit {0}
SentFields (Pf key) = Unit {0}
SentFields NoAid = ⊥
SentFields Clear = ⊥
SentFields (Pa key) = ⊥

-- (b) Holds if the host's belief is true of the screen: each field attribute is at the address where
-- the host believes it, and equal but for MDT, and so is each character that it knows. The host knows
-- every field of the screen, and the exact text of each protected one.
pub record SeesTheScreen (shadow : Shadow) (screen : Screen) : Type 0 where
  pub meets : Meets shadow screen
  pub protected : EachField ProtectedSeen shadow screen

-- (c) Holds if, after Enter or a PF key, the host has the text (nulls removed) of each field that was
-- returned, also of a protected one.
abbrev pub KnowsTheReturned : Shadow → Screen → Type 0
KnowsTheReturned shadow screen = SentFields screen.aid → EachField ReturnedTold shadow screen

-- Holds if this is the attribute of an unmodified input field: unprotected, with MDT off.
abbrev pub IsUnmodified : Attribute → Type 0
IsUnmodified attribute = (attribute.protected ≡ false) × (attribute.mdt ≡ false)

-- Holds if the field `now` is at the address of the field `left`; and if it is an unmodified input
-- field, it has the text of `left`, or nulls if Erase Input was pressed since.
pub record IsAsLeft (erased : Bool) (left now : Field) : Type 0 where
  pub same_place : now.place ≡ left.place
  pub text : IsUnmodified now.attr → now.text ≡ (if erased then nulls (length left.text) else left.text)

-- (d) Holds if, after Enter or a PF key, each unmodified input field still has the text that the host left there by its
-- last restoring write (one that restored the keyboard), or nulls if Erase Input was pressed since.
abbrev pub KeptTheUnreturned : TerminalSeen → Type 0
KeptTheUnreturned terminal =
    SentFields terminal.screen.aid
    → Pairwise (IsAsLeft terminal.erased) (fields terminal.last_restored.cells) (fields terminal.screen.cells)

-- Parts (b), (c) and (d), of one connection.
pub record Agrees (host : HostSeen) (terminal : TerminalSeen) : Type 0 where
  pub sees : SeesTheScreen host.shadow terminal.screen
  pub returned : KnowsTheReturned host.shadow terminal.screen
  pub unreturned : KeptTheUnreturned terminal

-- ---- the headline

-- Part (a) at any time; parts (b) to (d) on each connection on which the host may decide.
pub record Headline (world : Observation) : Type 0 where
  pub one_session_each : OneSessionEach world
  pub bound_is_granted : BoundIsGranted world
  pub agrees : (number : ℕ) (turn : IsHostsTurn (world.link number)) → Agrees turn.host turn.terminal

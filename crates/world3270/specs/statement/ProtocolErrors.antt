-- There is no protocol error in a world over bytes (our profile; responses are those of RFC 1647, section 10.4):
-- neither end closes a connection for a cause, and no terminal rejects a command.
use Rattle.std.specs.Prelude.{◌≡◌, ◌<◌, ◌^◌, ⊤, ℕ, true, List, [], ◌∷◌, Some}
use Rattle.std.specs.List.{AllByRecursion}
use Rattle.datastream.specs.declared.fault.Sense.{Sense}
use Rattle.telnet_wire.specs.Items.{WireItem}
use Rattle.telnet_wire.specs.Reading.{Rest, IsRest, Delivers, nothing}
use Rattle.tn3270e_msg.specs.Header.{record_limit}
use Rattle.term_core.specs.Says.{response}
use Rattle.term_core.specs.State.{phase_of}
use Rattle.term_core.specs.declared.outcome.Outcome.TheVariants.{Refused}
use Rattle.term_core.specs.declared.phase.TermPhase.{TermPhase}
use Rattle.term_core.specs.declared.phase.TermPhase.TheVariants as phase
use Rattle.host_core.specs.Session.{Session}
use Rattle.host_core.specs.State.{Service, state_at}
use Rattle.host_core.specs.declared.turn.Turn.TheVariants as whose
use Rattle.host_core.specs.declared.turn_reason.TurnReason.TheVariants as turn_reasons
use Rattle.world3270.specs.model.ByteSteps.{Steps}
use Rattle.world3270.specs.model.ByteWorld.{ByteWorld, host_there, slot_at, terminal_at, up_of}
use Rattle.world3270.specs.refinement.Deliveries.{host_rest}
use Rattle.world3270.specs.refinement.Refines.{AreValidEvents, IsReached}
use Rattle.world3270.specs.refinement.Representation.{IsNotClosed}
use Rattle.world3270.specs.statement.Unbroken.{EndsStay, IsNegativeResponse, IsNotNegative, SaysNoRefusal}
use Rattle.world3270.specs.declared.event.Event.{Event}
use Rattle.world3270.specs.declared.event.Event.TheVariants as event
use Rattle.world3270.specs.declared.event.Stepped.{Stepped}

-- ---- in a world

-- Holds if a terminal in this phase hasn't closed its connection for a cause.
abbrev pub HasNotClosed : TermPhase → Type 0
HasNotClosed (phase.Closed cause) = ⊥
HasNotClosed phase.Idle = ⊤
HasNotClosed phase.Talking = ⊤
HasNotClosed (phase.Refused reason) = ⊤
HasNotClosed (phase.Bound lu) = ⊤

-- Holds if the bytes under way to a host, after what its decoder holds, are whole items, and none of these is a
-- negative response.
pub record CarriesNoRefusal (number : ℕ) (world : ByteWorld) : Type 0 where
  pub is_rest : IsRest record_limit (host_rest number world)
  pub items : List WireItem
  pub delivers : Delivers record_limit (host_rest number world) (up_of number world) items nothing
  pub none : AllByRecursion IsNotNegative items

-- Holds if neither end of a connection has closed it for a cause, no negative response is under way to an attached
-- host, and none is the reason why the host has the turn. (An end that closes leaves at once, and what is under way to a
-- host that has left is never read: so `MakesNoProtocolError` says more.)
pub record HasNoProtocolError (world : ByteWorld) : Type 0 where
  pub hosts : (number : ℕ) → IsNotClosed (state_at number world.host)
  pub terminals : (terminal : ℕ) → HasNotClosed (phase_of (slot_at terminal world).tracked.terminal.link)
  pub responses : (number : ℕ) → host_there number world ≡ true → CarriesNoRefusal number world
  pub turns : (number : ℕ) (rest : Rest) (conn : Session) → state_at number world.host ≡ Service.Open rest conn
      → conn.turn ≡ whose.Host
      → conn.turn_reason ≡ turn_reasons.Refusal → ⊥

-- ---- in a step

-- Holds if the event isn't a delivery to a terminal, or the terminal rejects nothing, also if the host has left.
abbrev pub RefusesNothing : Event → ByteWorld → ByteWorld → Type 0
RefusesNothing (event.Down number count) old new = (terminal : ℕ) → terminal_at number old.slots ≡ Some terminal
    → SaysNoRefusal terminal old new
RefusesNothing (event.Key terminal key) old new = ⊤
RefusesNothing (event.Up number count) old new = ⊤
RefusesNothing (event.Act number) old new = ⊤
RefusesNothing (event.Answer number ticket said) old new = ⊤
RefusesNothing (event.Note number text) old new = ⊤
RefusesNothing (event.KeepAlive number) old new = ⊤
RefusesNothing (event.Lose number) old new = ⊤
RefusesNothing (event.HostSees number) old new = ⊤
RefusesNothing (event.TermSees terminal) old new = ⊤
RefusesNothing (event.Connect terminal wanted) old new = ⊤
RefusesNothing (event.RestartTerm terminal) old new = ⊤
RefusesNothing event.RestartHost old new = ⊤

-- Holds if no end closes a connection for a cause (one that leaves sees a loss or restarts), nor a terminal rejects a
-- command.
pub record MakesNoProtocolError (event : Event) (old new : ByteWorld) : Type 0 where
  pub ends : EndsStay event old new
  pub responses : RefusesNothing event old new

-- Holds if each of these events, in the world to which those before it lead, makes no protocol error.
abbrev pub MakeNoProtocolErrors : List Event → ByteWorld → Type 0
MakeNoProtocolErrors [] world = ⊤
MakeNoProtocolErrors (event ∷ events) world =
    (answer : Stepped) (next : ByteWorld) → Steps event world answer next → MakesNoProtocolError event world next
    × MakeNoProtocolErrors events next

-- ---- the laws

-- No world whose bytes represent a world over messages has a protocol error.
abbrev pub WorldsHaveNoProtocolError : Type 0
WorldsHaveNoProtocolError = (bytes : ByteWorld) → IsReached bytes → HasNoProtocolError bytes

-- No events in such a world make a protocol error.
abbrev pub EventsMakeNoProtocolErrors : Type 0
EventsMakeNoProtocolErrors = (events : List Event) (bytes : ByteWorld) → IsReached bytes → AreValidEvents events
    → MakeNoProtocolErrors events bytes

-- Each response by which a terminal rejects a command is a negative response.
abbrev pub RefusalsAreNegative : Type 0
RefusalsAreNegative = (number : ℕ) (sense : Sense) → number < 2 ^ 16
    → IsNegativeResponse (response number (Refused sense))

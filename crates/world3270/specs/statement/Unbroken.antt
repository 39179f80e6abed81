-- Over bytes no terminal rejects a command, and no delivery makes an end close its connection (our
-- profile; responses are those of RFC 1647, section 10.4).
use Rattle.std.specs.Prelude.{◌≡◌, ◌==◌, ⊤, ℕ, Bool, true, false, List, ◌∷◌, ◌++◌, Some}
use Rattle.std.specs.List.{AllByRecursion}
use Rattle.telnet_wire.specs.Items.{WireItem, Record, CanCome, sent_bytes}
use Rattle.telnet_wire.specs.Reading.{Rest, Delivers, nothing}
use Rattle.term_core.specs.Says.{response}
use Rattle.term_core.specs.declared.outcome.Outcome.{Outcome}
use Rattle.term_core.specs.declared.outcome.Outcome.TheVariants.{DeviceEnd}
use Rattle.tn3270e_msg.specs.Header.{Begins, negative, record_limit}
use Rattle.tn3270e_msg.specs.declared.header.Header.{Header}
use Rattle.tn3270e_msg.specs.declared.header.DataType.TheVariants.{Response}
use Rattle.host_core.specs.Messages.{ToHost}
use Rattle.host_core.specs.State.{state_at}
use Rattle.world3270.specs.statement.Always.{NoCommandIsRejected}
use Rattle.world3270.specs.model.ByteSteps.{Steps, is_lost}
use Rattle.world3270.specs.model.ByteWorld.{ByteWorld, host_there, slot_at, terminal_at, up_of}
use Rattle.world3270.specs.refinement.Deliveries.{host_rest}
use Rattle.world3270.specs.refinement.Refines.{WorldSetup, GoesOn, IsWorldSetup, IsReached, Reached, after}
use Rattle.world3270.specs.refinement.Representation.{rest_of}
use Rattle.world3270.specs.refinement.Represents.{BytesUp}
use Rattle.world3270.specs.model.World.{Event as MessageEvent}
use Rattle.world3270.specs.declared.event.Event.{Event}
use Rattle.world3270.specs.declared.event.Event.TheVariants as event
use Rattle.world3270.specs.declared.event.Stepped.{Stepped}

-- Holds if the event is a delivery of bytes, to the host or to the terminal.
abbrev pub IsDelivery : Event → Type 0
IsDelivery (event.Up number count) = ⊤
IsDelivery (event.Down number count) = ⊤
IsDelivery event = ⊥

-- Holds if an event changes neither whether the connection is lost nor who is attached.
pub record SameEnds (number : ℕ) (old new : ByteWorld) : Type 0 where
  pub lost : is_lost number new ≡ is_lost number old
  pub host : host_there number new ≡ host_there number old
  pub terminal : terminal_at number new.slots ≡ terminal_at number old.slots

-- No delivery makes an end close a connection.
abbrev pub DeliveriesCloseNothing : Type 0
DeliveriesCloseNothing = (event : Event) (old : ByteWorld) (answer : Stepped) (new : ByteWorld)
    → IsReached old → IsDelivery event → Steps event old answer new → (number : ℕ) → SameEnds number old new

-- ---- ends that leave

-- whether the host leaves a connection by this event: it sees that the connection is lost, or restarts
abbrev pub host_leaves : ℕ → Event → Bool
host_leaves number (event.HostSees at) = number == at
host_leaves number event.RestartHost = true
host_leaves number event = false

-- whether a terminal leaves its connection by this event: it sees that the connection is lost, or restarts
abbrev pub terminal_leaves : ℕ → Event → Bool
terminal_leaves terminal (event.TermSees at) = terminal == at
terminal_leaves terminal (event.RestartTerm at) = terminal == at
terminal_leaves terminal event = false

-- Holds if each attached end is still attached after the event, unless it leaves by one of these events.
pub record EndsStay (event : Event) (old new : ByteWorld) : Type 0 where
  pub host : (number : ℕ) → host_leaves number event ≡ false → host_there number old ≡ true
      → host_there number new ≡ true
  pub terminal : (terminal number : ℕ) → terminal_leaves terminal event ≡ false
      → terminal_at number old.slots ≡ Some terminal → terminal_at number new.slots ≡ Some terminal

-- No event makes an end close a connection for a cause: an end that leaves saw a loss, or restarted.
abbrev pub NobodyCloses : Type 0
NobodyCloses = (begin : WorldSetup) (events : List MessageEvent) (event : Event) (old : ByteWorld) (answer : Stepped)
    (new : ByteWorld)
    → IsWorldSetup begin → Reached begin events old → GoesOn begin events event old answer new → EndsStay event old new

-- Over messages neither end has ever closed a connection for a cause, and no terminal has ever rejected a command.
abbrev pub NobodyHasRefused : Type 0
NobodyHasRefused = (begin : WorldSetup) (events : List MessageEvent) (bytes : ByteWorld)
    → IsWorldSetup begin → Reached begin events bytes → NoCommandIsRejected (after begin events)

-- ---- responses

-- Holds if the item is a negative response, with any sense code.
pub record IsNegativeResponse (item : WireItem) : Type 0 where
  pub bytes : List ℕ
  pub header : Header
  pub body : List ℕ
  pub is_record : item ≡ Record bytes
  pub begins : Begins bytes header body
  pub kind : header.kind ≡ Response
  pub flag : header.flag ≡ negative

abbrev pub IsNotNegative : WireItem → Type 0
IsNotNegative item = IsNegativeResponse item → ⊥

-- Each response under way to an attached host is positive.
abbrev pub NothingIsRefused : Type 0
NothingIsRefused = (bytes : ByteWorld) (number sequence : ℕ) (outcome : Outcome) (before behind : List WireItem)
    → IsReached bytes → host_there number bytes ≡ true
    → Delivers record_limit (rest_of (state_at number bytes.host)) (up_of number bytes)
    (before ++ response sequence outcome ∷ behind) nothing
    → outcome ≡ DeviceEnd

-- Holds if, after `read`, the bytes under way to a host spell these messages, and each response among
-- them is positive. While the host is attached, `read` is what its decoder holds; after it has left,
-- `read` is the beginning of at most one item.
pub record SpellsNoRefusal (number : ℕ) (bytes : ByteWorld) (messages : List ToHost) : Type 0 where
  pub read : Rest
  pub holds : host_there number bytes ≡ true → read ≡ host_rest number bytes
  pub encoded : BytesUp read (up_of number bytes) messages
  pub carried_out : (sequence : ℕ) (outcome : Outcome) (before behind : List WireItem)
      → encoded.items ≡ before ++ response sequence outcome ∷ behind → outcome ≡ DeviceEnd

-- On each connection, also if its host has left, the bytes under way to the host spell the messages
-- under way to it, and reject nothing.
abbrev pub UnderWayRefusesNothing : Type 0
UnderWayRefusesNothing = (begin : WorldSetup) (events : List MessageEvent) (bytes : ByteWorld) (number : ℕ)
    → IsWorldSetup begin → Reached begin events bytes
    → SpellsNoRefusal number bytes ((after begin events).link number).up

-- Holds if in a step a terminal appended items to what it had to send, each response among them is
-- positive, and no item is a negative response of any other form.
pub record SaysNoRefusal (terminal : ℕ) (old new : ByteWorld) : Type 0 where
  pub says : List WireItem
  pub sent : (slot_at terminal new).tracked.terminal.out ≡ (slot_at terminal old).tracked.terminal.out
      ++ sent_bytes says
  pub fit : AllByRecursion (CanCome record_limit) says
  pub carried_out : (sequence : ℕ) (outcome : Outcome) (before behind : List WireItem)
      → says ≡ before ++ response sequence outcome ∷ behind → outcome ≡ DeviceEnd
  pub none : AllByRecursion IsNotNegative says

-- A terminal rejects nothing that is delivered to it, whether or not the host is still attached.
abbrev pub TerminalsRefuseNothing : Type 0
TerminalsRefuseNothing = (terminal number count : ℕ) (old : ByteWorld) (answer : Stepped) (new : ByteWorld)
    → IsReached old → terminal_at number old.slots ≡ Some terminal → Steps (event.Down number count) old answer new
    → SaysNoRefusal terminal old new

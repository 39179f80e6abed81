-- A delivery of bytes as deliveries of messages (our profile): each item whose last byte was taken is one delivered
-- message, unless it is NOP, which represents none. Items are those of RFC 854, 855 and 885, as the receiving decoder
-- reads them.
use Rattle.std.specs.Prelude.{◌≡◌, ℕ, List, [], Option, Some, None, length, replicate, take}
use Rattle.telnet_wire.specs.Items.{WireItem}
use Rattle.telnet_wire.specs.Reading.{Rest, Delivers, nothing}
use Rattle.tn3270e_msg.specs.Header.{record_limit}
use Rattle.host_core.specs.State.{state_at}
use Rattle.term_core.specs.State.{Link, Detached, Attached, Closed}
use Rattle.world3270.specs.model.ByteWorld.{ByteWorld, down_of, slot_at, terminal_at}
use Rattle.world3270.specs.refinement.Representation.{rest_of}
use Rattle.world3270.specs.refinement.Represents.{without_nops}
use Rattle.world3270.specs.model.World.{Event as MessageEvent}
use Rattle.world3270.specs.declared.event.Stepped.{Stepped}
use Rattle.world3270.specs.declared.event.Stepped.TheVariants as stepped

-- ---- the decoders at the ends of a connection

-- what the host's decoder holds: the bytes of an item that isn't complete
abbrev pub host_rest : ℕ → ByteWorld → Rest
host_rest number world = rest_of (state_at number world.host)

abbrev pub rest_at : Link → Rest
rest_at Detached = nothing
rest_at (Attached rest talk) = rest
rest_at (Closed cause) = nothing

abbrev pub rest_of_terminal : Option ℕ → ByteWorld → Rest
rest_of_terminal None world = nothing
rest_of_terminal (Some terminal) world = rest_at (slot_at terminal world).tracked.terminal.link

-- what the decoder of the terminal at a connection holds
abbrev pub terminal_rest : ℕ → ByteWorld → Rest
terminal_rest number world = rest_of_terminal (terminal_at number world.slots) world

-- ---- a delivery

-- the bytes that were taken in a delivery with this outcome: all of them, or the first ones if memory was refused
abbrev pub taken_by : Stepped → List ℕ → List ℕ
taken_by stepped.Done bytes = bytes
taken_by (stepped.Part taken) bytes = take taken bytes
taken_by stepped.Memory bytes = []
taken_by stepped.Skipped bytes = []
taken_by (stepped.Refused why) bytes = []

-- Holds if a decoder that holds `rest` completes the items `completed` with these bytes, and `events` has one
-- `delivery` for each of them that represents a message.
pub record AreDeliveries (spoken : List WireItem → List WireItem) (rest : Rest) (bytes : List ℕ)
    (delivery : MessageEvent) (events : List MessageEvent) : Type 0 where
  pub completed : List WireItem
  pub behind : Rest
  pub delivers : Delivers record_limit rest bytes completed behind
  pub one_each : events ≡ replicate (length (spoken completed)) delivery

-- Holds unless the bytes under way to the terminal are NOPs alone: if they spell items, one represents a message.
abbrev pub BringAMessage : ℕ → ByteWorld → Type 0
BringAMessage number world =
    (items : List WireItem) → Delivers record_limit (terminal_rest number world) (down_of number world) items nothing
    → without_nops items ≡ [] → items ≡ []

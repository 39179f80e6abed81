-- How the code keeps the bytes under way (our profile). Only private contracts and proofs need it.
use Rattle.std.specs.Prelude.{◌≡◌, ◌<◌, ◌≤◌, ℕ, List, [], Option, Some, None, slice_index_or}
use Rattle.host_core.specs.State.{most_connections}
use Rattle.term_core.specs.Feeds.{IsAttached, LacksReplyRoom}
use Rattle.term_core.specs.Room.{out_room}
use Rattle.term_core.specs.State.{TerminalWithRoom, Link, Detached, Closed}
use Rattle.tn3270e_msg.specs.declared.cause.Stop.{Stop}
use Rattle.tn3270e_msg.specs.declared.cause.Stop.TheVariants as stop
use Rattle.world3270.specs.model.ByteWorld.{Transit, TerminalSlot, no_slot}
use Rattle.world3270.specs.model.TrackedTerminals.{TrackedTerminal, TrackedTakesByte}
use Rattle.world3270.specs.declared.link.InFlight.{InFlight}
use Rattle.world3270.specs.declared.link.InFlight.TheVariants as in_flight

abbrev pub transit_of : InFlight → Transit
transit_of in_flight.Live = Transit.Live
transit_of (in_flight.Cut kept) = Transit.Cut kept
transit_of (in_flight.SenderGone bytes) = Transit.SenderGone bytes.items

-- Holds if a terminal at no connection is detached; one at a connection is at one of the 64, with room for its output.
abbrev pub IsSoundSlot : Option ℕ → TerminalWithRoom → Type 0
IsSoundSlot None device = device.terminal.link ≡ Detached
IsSoundSlot (Some number) device = (number < most_connections) × (out_room ≤ device.room)

-- Why a terminal takes no bytes in this state; None if it takes them.
abbrev pub BlocksInput : Option Stop → Link → Type 0
BlocksInput None link = IsAttached link
BlocksInput (Some stop.Going) link = link ≡ Detached
BlocksInput (Some stop.Memory) link = ⊥
BlocksInput (Some (stop.Closed cause)) link = link ≡ Closed cause

-- A terminal is fed a byte, and stops as `Stop` says: it takes the byte, unless memory was refused.
abbrev pub TookByte : Stop → TrackedTerminal → ℕ → TrackedTerminal → Type 0
TookByte stop.Going old byte new = TrackedTakesByte old byte new × IsAttached new.terminal.link
TookByte stop.Memory old byte new = (new ≡ old) × LacksReplyRoom out_room new.terminal.out
TookByte (stop.Closed cause) old byte new = TrackedTakesByte old byte new × (new.terminal.link ≡ Closed cause)

-- the bytes that the terminal with this number has to send; none if there is no number
abbrev pub out_among : Option ℕ → List TerminalSlot → List ℕ
out_among None slots = []
out_among (Some terminal) slots = (slice_index_or slots terminal no_slot).tracked.terminal.out

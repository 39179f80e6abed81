-- The world over bytes (our profile): a host, the bytes under way on each connection, and terminals, each with the
-- history of its screen. The bytes that an end has to send are the bytes under way: there is no other queue.
use Rattle.std.specs.Prelude.{◌==◌, ◌≤◌, ◌-◌, ℕ, Bool, true, false, List, [], Option, Some, None, is_some, drop, position, replicate, slice_index_or, slice_set, take, map}
use Rattle.lu_pool.specs.declared.entry.Entry.{Entry}
use Rattle.panels.specs.Panel.{Panels}
use Rattle.host_core.specs.State.{Host, Service, connection_at, host_for, state_at, most_connections}
use Rattle.host_core.specs.declared.terminals.Terminals.{Terminals}
use Rattle.codes3270.specs.Size.{cells_in, model_2}
use Rattle.codes3270.specs.declared.size.Model.{Model}
use Rattle.codes3270.specs.declared.size.Model.TheVariants.{M2}
use Rattle.datastream.specs.Screen.{blank_screen}
use Rattle.term_core.specs.State.{model_of, new_terminal, lost}
use Rattle.world3270.specs.model.TrackedTerminals.{TrackedTerminal, newly_tracked}

-- The bytes under way in one direction. Live: all bytes that the sender has to send. Cut, on a lost
-- connection: the first ones of these, as many as there were at the loss and are not delivered yet.
-- SenderGone: these bytes, which the sender had to send when it left.
pub data Transit : Type 0 where
  Live : Transit
  Cut : ℕ → Transit
  SenderGone : List ℕ → Transit

-- both directions of a connection
pub record Transits : Type 0 where
  pub down : Transit
  pub up : Transit

-- a terminal, and the number of the connection whose end it holds, if it holds one
pub record TerminalSlot : Type 0 where
  pub tracked : TrackedTerminal
  pub at : Option ℕ

pub record ByteWorld : Type 0 where
  pub host : Host
  pub links : List Transits  -- by the numbers of connections
  pub slots : List TerminalSlot  -- by the numbers of terminals

-- ---- one direction

-- the bytes under way, of a sender that has these to send
abbrev pub under_way : Transit → List ℕ → List ℕ
under_way Transit.Live out = out
under_way (Transit.Cut kept) out = take kept out
under_way (Transit.SenderGone bytes) out = bytes

-- after the first `count` bytes under way were delivered
abbrev pub came : ℕ → Transit → Transit
came count Transit.Live = Transit.Live
came count (Transit.Cut kept) = Transit.Cut (kept - count)
came count (Transit.SenderGone bytes) = Transit.SenderGone (drop count bytes)

-- after the connection is lost while the sender has `count` bytes to send
abbrev pub cut : ℕ → Transit → Transit
cut count Transit.Live = Transit.Cut count
cut count (Transit.Cut kept) = Transit.Cut kept
cut count (Transit.SenderGone bytes) = Transit.SenderGone bytes

-- after the sender leaves while it has these bytes to send
abbrev pub sender_gone : List ℕ → Transit → Transit
sender_gone out Transit.Live = Transit.SenderGone out
sender_gone out (Transit.Cut kept) = Transit.SenderGone (take kept out)
sender_gone out (Transit.SenderGone bytes) = Transit.SenderGone bytes

abbrev pub is_live : Transit → Bool
is_live Transit.Live = true
is_live (Transit.Cut kept) = false
is_live (Transit.SenderGone bytes) = false

-- whether the bytes under way are still the sender's
abbrev pub is_senders : Transit → Bool
is_senders Transit.Live = true
is_senders (Transit.Cut kept) = true
is_senders (Transit.SenderGone bytes) = false

-- ---- connections and terminals

-- of a connection that was never used: as if both ends had left with nothing to send
abbrev pub unused_transits : Transits
unused_transits = record { down = Transit.SenderGone []; up = Transit.SenderGone [] }

abbrev pub begun_transits : Transits
begun_transits = record { down = Transit.Live; up = Transit.Live }

abbrev pub new_tracked : Model → TrackedTerminal
new_tracked model = record {
  terminal = new_terminal model;
  history = record {
    last_restored = blank_screen (cells_in model_2);
    before_restored = blank_screen (cells_in model_2);
    erased = false;
  };
}

-- a new terminal of this model, at no connection
abbrev pub new_slot : Model → TerminalSlot
new_slot model = record { tracked = new_tracked model; at = None }

-- in place of a terminal that isn't there
abbrev pub no_slot : TerminalSlot
no_slot = new_slot M2

-- a terminal at the begin of connection `number`, on which it will request the LU `wanted`, if one
abbrev pub attached_slot : Model → Option (List ℕ) → ℕ → TerminalSlot
attached_slot model wanted number = record { tracked = newly_tracked model wanted; at = Some number }

-- after a terminal leaves its connection; its history stays
abbrev pub alone : TerminalSlot → TerminalSlot
alone old =
    record { tracked = record { terminal = lost old.tracked.terminal; history = old.tracked.history }; at = None }

abbrev pub transits_at : ℕ → ByteWorld → Transits
transits_at number world = slice_index_or world.links number unused_transits

abbrev pub slot_at : ℕ → ByteWorld → TerminalSlot
slot_at terminal world = slice_index_or world.slots terminal no_slot

-- the model of a terminal, which it keeps
abbrev pub model_at : ℕ → ByteWorld → Model
model_at terminal world = model_of (slot_at terminal world).tracked.terminal

abbrev pub with_transits : ℕ → Transits → ByteWorld → ByteWorld
with_transits number transits world = record world { links = slice_set world.links number transits }

abbrev pub with_slot : ℕ → TerminalSlot → ByteWorld → ByteWorld
with_slot terminal slot world = record world { slots = slice_set world.slots terminal slot }

abbrev pub with_host : Host → ByteWorld → ByteWorld
with_host host world = record world { host = host }

-- ---- who is where

abbrev pub is_attached_to : ℕ → Option ℕ → Bool
is_attached_to number None = false
is_attached_to number (Some at) = at == number

-- the terminal that holds an end of a connection, if one does
abbrev pub terminal_at : ℕ → List TerminalSlot → Option ℕ
terminal_at number slots = position (λ slot. is_attached_to number slot.at) slots

abbrev pub is_there : Service → Bool
is_there Service.Free = false
is_there (Service.Open rest conn) = true
is_there (Service.Closed cause) = true

-- whether the host holds its end of a connection
abbrev pub host_there : ℕ → ByteWorld → Bool
host_there number world = is_there (state_at number world.host)

abbrev pub terminal_there : ℕ → ByteWorld → Bool
terminal_there number world = is_some (terminal_at number world.slots)

-- ---- what is under way

abbrev pub out_of : Option ℕ → ByteWorld → List ℕ
out_of None world = []
out_of (Some terminal) world = (slot_at terminal world).tracked.terminal.out

-- the bytes that the host, or the terminal, has to send on a connection
abbrev pub host_out : ℕ → ByteWorld → List ℕ
host_out number world = (connection_at number world.host).out

abbrev pub terminal_out : ℕ → ByteWorld → List ℕ
terminal_out number world = out_of (terminal_at number world.slots) world

-- the bytes under way on a connection, to the terminal and to the host
abbrev pub down_of : ℕ → ByteWorld → List ℕ
down_of number world = under_way (transits_at number world).down (host_out number world)

abbrev pub up_of : ℕ → ByteWorld → List ℕ
up_of number world = under_way (transits_at number world).up (terminal_out number world)

-- ---- a world at its begin

-- a new world: a host that serves the terminals `serves`, and one terminal for each of these models
abbrev pub new_byte_world : Terminals → Panels → List Entry → List Model → ByteWorld
new_byte_world serves panels pool models = record {
  host = host_for serves panels pool;
  links = replicate most_connections unused_transits;
  slots = map new_slot models;
}

-- Holds if a world may have this number of terminals: 1 to 16.
pub record IsTerminalCount (count : ℕ) : Type 0 where
  pub some : 1 ≤ count
  pub few : count ≤ 16

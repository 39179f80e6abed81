-- When a world over bytes represents one over messages (our profile): each connection represents its
-- counterpart, and each terminal is at the same place.
use Rattle.std.specs.Prelude.{◌≡◌, ◌≤◌, ⊤, ℕ, Bool, false, List, [], length, Option, Some, None, is_some}
use Rattle.host_core.specs.Application.{application_of}
use Rattle.codes3270.specs.declared.size.Model.TheVariants.{M2}
use Rattle.telnet_wire.specs.Reading.{Rest, nothing}
use Rattle.host_core.specs.declared.terminals.Terminals.TheVariants.{Waiting as WaitingTerminals}
use Rattle.host_core.specs.Session.{Session, new_conn}
use Rattle.host_core.specs.State.{Service, Connection, connection_at, state_at, most_connections}
use Rattle.term_core.specs.State.{Detached}
use Rattle.world3270.specs.model.ByteSteps.{is_lost}
use Rattle.world3270.specs.model.ByteWorld.{ByteWorld, Transit, TerminalSlot, under_way, is_live, is_there, new_tracked, transits_at, slot_at, host_there, terminal_at, host_out, out_of, down_of}
use Rattle.world3270.specs.model.TrackedTerminals.{TrackedTerminal}
use Rattle.world3270.specs.refinement.Represents.{ByteLink, LinkRepresents, sized}
use Rattle.world3270.specs.model.Terminal.{Display}
use Rattle.world3270.specs.model.World.{Place, World}

-- ---- a connection of the world over bytes

-- the state, which no step reads, of a connection that isn't open
abbrev pub unread_conn : Session
unread_conn = new_conn WaitingTerminals (application_of (record { start = 0; lus = []; panels = [] }))

-- the host's state of a connection, and what its decoder holds
abbrev pub conn_of : Service → Session
conn_of Service.Free = unread_conn
conn_of (Service.Open rest conn) = conn
conn_of (Service.Closed cause) = unread_conn

abbrev pub rest_of : Service → Rest
rest_of Service.Free = nothing
rest_of (Service.Open rest conn) = rest
rest_of (Service.Closed cause) = nothing

-- the terminal with this output
abbrev pub with_out : List ℕ → TrackedTerminal → TrackedTerminal
with_out out tracked = record tracked { terminal = record tracked.terminal { out = out } }

abbrev pub tracked_of : Option ℕ → ByteWorld → TrackedTerminal
tracked_of None world = new_tracked M2
tracked_of (Some terminal) world = with_out [] (slot_at terminal world).tracked

-- connection `number` as one over bytes, with the terminal `here`, if one is; its output counts as under way
abbrev pub link_with : Option ℕ → ℕ → ByteWorld → ByteLink
link_with here number world = record {
  lost = is_lost number world;
  down = down_of number world;
  up = under_way (transits_at number world).up (out_of here world);
  host_here = host_there number world;
  host = conn_of (state_at number world.host);
  host_rest = rest_of (state_at number world.host);
  term_here = here;
  tracked = tracked_of here world;
}

abbrev pub link_of : ℕ → ByteWorld → ByteLink
link_of number world = link_with (terminal_at number world.slots) number world

-- ---- what is under way

-- Holds if the bytes under way in a direction fit the sender: a lost connection keeps no more bytes
-- than its sender has to send, and a sender that has left isn't attached.
abbrev pub IsFlow : Bool → List ℕ → Transit → Type 0
IsFlow there out Transit.Live = ⊤
IsFlow there out (Transit.Cut kept) = kept ≤ length out
IsFlow there out (Transit.SenderGone bytes) = there ≡ false

-- Holds if a connection is lost in both directions or in none, and both fit their senders.
pub record AreTransits (here : Option ℕ) (number : ℕ) (world : ByteWorld) : Type 0 where
  pub together : is_live (transits_at number world).up ≡ is_live (transits_at number world).down
  pub down : IsFlow (host_there number world) (host_out number world) (transits_at number world).down
  pub up : IsFlow (is_some here) (out_of here world) (transits_at number world).up

-- ---- terminals

-- Holds if a terminal is at no connection, has this display and history, and has nothing to send.
pub record IsAlone (tracked : TrackedTerminal) (display : Display) : Type 0 where
  pub detached : tracked.terminal.link ≡ Detached
  pub silent : tracked.terminal.out ≡ []
  pub screen : tracked.terminal.station.screen ≡ sized display
  pub keyboard : tracked.terminal.station.keyboard ≡ display.keyboard
  pub last_restored : tracked.history.last_restored ≡ display.last_restored
  pub before_restored : tracked.history.before_restored ≡ display.before_restored
  pub erased : tracked.history.erased ≡ display.erased

abbrev pub IsAt : TerminalSlot → Place → Type 0
IsAt slot (Place.At number) = slot.at ≡ Some number
IsAt slot (Place.Alone display) = (slot.at ≡ None) × IsAlone slot.tracked display

-- ---- the world

-- Holds if the host hasn't closed the connection: an end that closes leaves at once.
abbrev pub IsNotClosed : Service → Type 0
IsNotClosed Service.Free = ⊤
IsNotClosed (Service.Open rest conn) = ⊤
IsNotClosed (Service.Closed cause) = ⊥

-- Holds if a free connection has nothing to send.
abbrev pub IsSettled : Connection → Type 0
IsSettled connection = is_there connection.service ≡ false → connection.out ≡ []

-- Holds if a world over bytes represents this world over messages.
pub record WorldRepresents (bytes : ByteWorld) (world : World) : Type 0 where
  pub connections : length bytes.host.connections ≡ most_connections
  pub transits : length bytes.links ≡ most_connections
  pub terminals : length bytes.slots ≡ world.terminals
  pub pool : bytes.host.pool ≡ world.pool
  pub serves : bytes.host.terminals ≡ world.serves
  pub none_closed : (number : ℕ) → IsNotClosed (state_at number bytes.host)
  pub settled : (number : ℕ) → IsSettled (connection_at number bytes.host)
  pub flows : (number : ℕ) → AreTransits (terminal_at number bytes.slots) number bytes
  pub links : (number : ℕ) → LinkRepresents (link_of number bytes) (world.link number)
  pub places : (terminal : ℕ) → IsAt (slot_at terminal bytes) (world.place terminal)

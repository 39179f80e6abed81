-- The part of a world that the headline speaks of (our profile). Here it is taken from a world over messages; in
-- ByteObservation, from a world over bytes.
use Rattle.std.specs.Prelude.{ℕ, Bool, true, false, List, Option, Some, None}
use Rattle.datastream.specs.Screen.{Screen}
use Rattle.lu_pool.specs.declared.entry.Entry.{Entry}
use Rattle.shadow.specs.Belief.{Shadow}
use Rattle.host_core.specs.Answering.{number_of}
use Rattle.host_core.specs.declared.turn.Turn.{Turn}
use Rattle.host_core.specs.Session.{Session, agreed_lu}
use Rattle.world3270.specs.model.Link.{Link}
use Rattle.world3270.specs.model.Terminal.{TermEnd, bound_to}
use Rattle.world3270.specs.model.World.{World}

-- the host's end of a connection; `pending` is None if no command waits for its answer
pub record HostSeen : Type 0 where
  pub agreed : Option (List ℕ)  -- the name of the LU that the host agreed on
  pub turn : Turn  -- whether the host or the terminal is to act next
  pub pending : Option ℕ  -- the SEQ-NUMBER of the command that isn't answered yet
  pub shadow : Shadow  -- what the host believes of the terminal's screen

-- the terminal's end of a connection
pub record TerminalSeen : Type 0 where
  pub number : ℕ  -- which terminal it is, from 0
  pub bound : Option (List ℕ)  -- the name of the LU that the terminal is bound to
  pub screen : Screen
  pub last_restored : Screen  -- the screen just after the host's last write that restored the keyboard
  pub before_restored : Screen  -- the screen just before that write
  pub erased : Bool  -- whether Erase Input was pressed since that write

-- a connection, with those of its ends that are attached
pub record SeenLink : Type 0 where
  pub lost : Bool
  pub host : Option HostSeen
  pub terminal : Option TerminalSeen

-- the pool of LUs, and each connection by its number
pub record Observation : Type 0 where
  pub pool : List Entry
  pub link : ℕ → SeenLink

-- ---- of a world over messages

-- the host's end, from its state of the connection
abbrev pub conn_seen : Session → HostSeen
conn_seen conn = record {
  agreed = agreed_lu conn.talk.state;
  turn = conn.turn;
  pending = number_of conn.pending;
  shadow = conn.shadow;
}

-- the host's end, if the host is attached
abbrev pub host_seen : Bool → Session → Option HostSeen
host_seen true conn = Some (conn_seen conn)
host_seen false conn = None

-- the terminal's end, which terminal `number` holds
abbrev pub end_seen : ℕ → TermEnd → TerminalSeen
end_seen number end = record {
  number = number;
  bound = bound_to end.talk.talk.state;
  screen = end.display.screen;
  last_restored = end.display.last_restored;
  before_restored = end.display.before_restored;
  erased = end.display.erased;
}

-- the terminal's end, if a terminal is attached
abbrev pub terminal_seen : Option ℕ → TermEnd → Option TerminalSeen
terminal_seen None end = None
terminal_seen (Some number) end = Some (end_seen number end)

abbrev pub seen_link : Link → SeenLink
seen_link link = record {
  lost = link.lost;
  host = host_seen link.host_here link.host;
  terminal = terminal_seen link.term_here link.term;
}

abbrev pub seen : World → Observation
seen world = record { pool = world.pool; link = λ number. seen_link (world.link number) }

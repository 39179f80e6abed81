-- The part of a world over bytes that the headline speaks of (our profile).
use Rattle.std.specs.Prelude.{ℕ, List, Option, Some, None}
use Rattle.term_core.specs.declared.phase.TermPhase.{TermPhase}
use Rattle.term_core.specs.declared.phase.TermPhase.TheVariants as phase
use Rattle.term_core.specs.State.{phase_of}
use Rattle.host_core.specs.State.{Service, state_at}
use Rattle.world3270.specs.model.ByteSteps.{is_lost}
use Rattle.world3270.specs.model.ByteWorld.{ByteWorld, slot_at, terminal_at}
use Rattle.world3270.specs.model.TrackedTerminals.{TrackedTerminal}
use Rattle.world3270.specs.statement.Observation.{HostSeen, TerminalSeen, SeenLink, Observation, conn_seen}

-- the host's end: none if the host has left the connection or closed it
abbrev pub service_seen : Service → Option HostSeen
service_seen Service.Free = None
service_seen (Service.Open rest conn) = Some (conn_seen conn)
service_seen (Service.Closed cause) = None

-- the LU that a terminal is bound to, if it is bound
abbrev pub bound_of : TermPhase → Option (List ℕ)
bound_of (phase.Bound lu) = Some lu
bound_of phase.Idle = None
bound_of phase.Talking = None
bound_of (phase.Refused reason) = None
bound_of (phase.Closed cause) = None

-- the terminal with this number
abbrev pub tracked_seen : ℕ → TrackedTerminal → TerminalSeen
tracked_seen number tracked = record {
  number = number;
  bound = bound_of (phase_of tracked.terminal.link);
  screen = tracked.terminal.station.screen.screen;
  last_restored = tracked.history.last_restored;
  before_restored = tracked.history.before_restored;
  erased = tracked.history.erased;
}

-- the terminal's end, if a terminal is attached
abbrev pub attached_seen : Option ℕ → ByteWorld → Option TerminalSeen
attached_seen None world = None
attached_seen (Some terminal) world = Some (tracked_seen terminal (slot_at terminal world).tracked)

-- a connection, by its number
abbrev pub seen_connection : ℕ → ByteWorld → SeenLink
seen_connection number world = record {
  lost = is_lost number world;
  host = service_seen (state_at number world.host);
  terminal = attached_seen (terminal_at number world.slots) world;
}

-- the pool, and the connections by their numbers
abbrev pub seen_bytes : ByteWorld → Observation
seen_bytes world = record { pool = world.host.pool; link = λ number. seen_connection number world }

-- What feeding a host bytes does (our profile).
use Rattle.std.specs.Prelude.{◌≡◌, ◌<◌, ◌≤◌, ◌+◌, ◌⊎◌, ⊤, ℕ, List, take, length}
use Rattle.tn3270e_msg.specs.Writing.{reply_room}
use Rattle.tn3270e_msg.specs.declared.cause.Fed.{Fed}
use Rattle.tn3270e_msg.specs.declared.cause.Stop.{Stop}
use Rattle.tn3270e_msg.specs.declared.cause.Stop.TheVariants.{Going, Memory, Closed as ClosedStop}
use Rattle.host_core.specs.Bytes.{ConnectionAndPool, TakesBytes}
use Rattle.host_core.specs.Rooms.{out_room}
use Rattle.host_core.specs.State.{Service, Host, connection_at, with_connection}

-- holds if the number is open
abbrev pub IsOpen : Service → Type 0
IsOpen Service.Free = ⊥
IsOpen (Service.Open rest conn) = ⊤
IsOpen (Service.Closed cause) = ⊥

-- Holds if it stopped for this reason. Going: all bytes are taken, or the number is free. Memory: before a byte,
-- because unsent output leaves less of the connection's room than a reply may take. Closed: the connection is closed.
abbrev pub StopsFor : Stop → ConnectionAndPool → List ℕ → ℕ → ConnectionAndPool → Type 0
StopsFor Going old bytes taken new = ((taken ≡ length bytes) × IsOpen new.connection.service)
    ⊎ ((taken ≡ 0) × (old.connection.service ≡ Service.Free))
StopsFor Memory old bytes taken new = (taken < length bytes) × IsOpen new.connection.service
    × (out_room < length new.connection.out + reply_room)
StopsFor (ClosedStop cause) old bytes taken new = new.connection.service ≡ Service.Closed cause

-- holds if it took the first `fed.taken` bytes, and the new state is the one after these
pub record Feeds (number : ℕ) (old : ConnectionAndPool) (bytes : List ℕ) (fed : Fed)
    (new : ConnectionAndPool) : Type 0 where
  pub few : fed.taken ≤ length bytes
  pub takes : TakesBytes number old (take fed.taken bytes) new
  pub stops : StopsFor fed.stop old bytes fed.taken new

-- ---- the host

-- the pool, and the state of the connection with this number
abbrev pub connection_and_pool_at : ℕ → Host → ConnectionAndPool
connection_and_pool_at number host = record { pool = host.pool; connection = connection_at number host }

-- the host with another pool, and another state of one connection number; all others are as they were
abbrev pub with_connection_and_pool : ℕ → ConnectionAndPool → Host → Host
with_connection_and_pool number counter host = with_connection number counter.connection
    (record host { pool = counter.pool })

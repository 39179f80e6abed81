-- What always holds of a host and the earlier ones (our profile): no LU has two connections.
use Rattle.std.specs.Prelude.{◌≡◌, ◌≢◌, ◌<◌, ◌⊎◌, ℕ, List, length, Option, Some}
use Rattle.lu_pool.specs.Pool.{Holds}
use Rattle.lu_pool.specs.declared.entry.Entry.{Entry}
use Rattle.host_core.specs.OneNumber.{IsSettled}
use Rattle.host_core.specs.Reserving.{HasLu, IsTaken, reserver}
use Rattle.host_core.specs.Sound.{OthersHold}
use Rattle.host_core.specs.State.{Service, lu_of, most_connections, phase_of, state_at}
use Rattle.host_core.specs.declared.phase.Phase.TheVariants as phase
use Rattle.server.specs.Hosts.{Hosts, host_at, host_of, lu_in, owner_at}

-- the state of a number's connection
abbrev pub service_at : ℕ → Hosts → Service
service_at conn hosts = state_at conn (host_at conn hosts)

-- Holds if no two connections are granted the same LU, whichever hosts they belong to.
abbrev pub NobodyShares : Hosts → Type 0
NobodyShares hosts = (one other : ℕ) (lu : List ℕ) → lu_of (service_at one hosts) ≡ Some lu
    → lu_of (service_at other hosts) ≡ Some lu → one ≡ other

-- holds if no connection negotiates
abbrev pub NobodyTalks : Hosts → Type 0
NobodyTalks hosts = (conn : ℕ) → conn < most_connections → phase_of (service_at conn hosts) ≢ phase.Talking

-- Holds of a connection in the earlier host at this place: it is there, asks for no LU any more, and the newest host
-- has nothing under its number and reserves its LU, if it has it.
pub record IsEarlier (hosts : Hosts) (conn place : ℕ) : Type 0 where
  pub there : place < length hosts.earlier
  pub is_open : state_at conn (host_of (Some place) hosts) ≢ Service.Free
  pub settled : IsSettled (state_at conn (host_of (Some place) hosts))
  pub free_now : state_at conn hosts.current ≡ Service.Free
  pub reserved : (lu : List ℕ) → lu_of (state_at conn (host_of (Some place) hosts)) ≡ Some lu
      → HasLu hosts.current.pool lu
      → Holds hosts.current.pool (reserver conn) lu

-- what holds of a host and the earlier ones
pub record IsApart (hosts : Hosts) : Type 0 where
  pub owners : length hosts.owners ≡ most_connections
  pub earlier : (conn place : ℕ) → owner_at conn hosts ≡ Some place → IsEarlier hosts conn place
  pub unshared : (one other place there : ℕ) (lu : List ℕ) → owner_at one hosts ≡ Some place
      → owner_at other hosts ≡ Some there
      → lu_of (state_at one (host_of (Some place) hosts)) ≡ Some lu
      → lu_of (state_at other (host_of (Some there) hosts)) ≡ Some lu
      → one ≡ other

-- ---- reserving

-- holds if nobody holds an LU of the pool
abbrev pub NobodyHolds : List Entry → Type 0
NobodyHolds pool = (holder : ℕ) (lu : List ℕ) → Holds pool holder lu → ⊥

-- What reserving an LU, if there is one, does to a pool: afterwards somebody holds it, if the pool has it, and nobody
-- holds any other LU than before; the pool has no new LU.
pub record Reserves (conn : ℕ) (lu : Option (List ℕ)) (old new : List Entry) : Type 0 where
  pub taken : (it : List ℕ) → lu ≡ Some it → HasLu new it → IsTaken new it
  pub held : (holder : ℕ) (it : List ℕ) → Holds new holder it
      → Holds old holder it ⊎ ((holder ≡ reserver conn) × (lu ≡ Some it))
  pub others : OthersHold (reserver conn) old new
  pub lus : (it : List ℕ) → HasLu new it → HasLu old it

-- holds if the pool holds, for each connection below this number that is bound, its LU, if the pool has it
abbrev pub KeepsFor : Hosts → (below : ℕ) → List Entry → Type 0
KeepsFor hosts below pool = (conn : ℕ) (lu : List ℕ) → conn < below → lu_in (phase_of (service_at conn hosts)) ≡ Some lu
    → HasLu pool lu → Holds pool (reserver conn) lu

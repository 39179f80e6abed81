-- LUs that a host reserves, since sessions of another host have them (our profile). An LU is reserved under a number,
-- as a connection holds one; no connection is granted it until it is released.
use Rattle.std.specs.Prelude.{◌≡◌, ◌+◌, ℕ, List, Option, Some}
use Rattle.lu_pool.specs.Asking.{answer_to}
use Rattle.lu_pool.specs.Holders.{granted_if, given_back}
use Rattle.lu_pool.specs.Pool.{Holds, entry}
use Rattle.lu_pool.specs.declared.entry.Entry.{Entry}
use Rattle.std.specs.Prelude.{slice_get}
use Rattle.host_core.specs.State.{Host, most_connections}
use Rattle.host_core.specs.Takes.{granted_by}

-- the holder of what is reserved under a number: no connection
abbrev pub reserver : ℕ → ℕ
reserver number = most_connections + number

-- the pool in which an LU is granted to a holder, if the pool has the LU and nobody holds it
abbrev pub granted_if_free : (holder : ℕ) → (lu : List ℕ) → List Entry → List Entry
granted_if_free holder lu pool = granted_if holder (granted_by (answer_to pool (Some lu))) pool

-- the host that has reserved this LU under a number, in place of another, if its pool has the LU and nobody holds it
abbrev pub reserved : ℕ → (lu : List ℕ) → Host → Host
reserved number lu host =
    record host { pool = granted_if_free (reserver number) lu (given_back (reserver number) host.pool) }

-- the host that has reserved nothing under a number
abbrev pub released : ℕ → Host → Host
released number host = record host { pool = given_back (reserver number) host.pool }

-- holds if the pool has this LU
abbrev pub HasLu : List Entry → List ℕ → Type 0
HasLu pool lu = (place : ℕ) × (holder : Option ℕ) × (slice_get pool place ≡ Some (entry lu holder))

-- holds if somebody holds this LU
abbrev pub IsTaken : List Entry → List ℕ → Type 0
IsTaken pool lu = (holder : ℕ) × Holds pool holder lu

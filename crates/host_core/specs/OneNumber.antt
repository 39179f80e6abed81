-- What a call on one connection number leaves as it was (our profile).
use Rattle.std.specs.Prelude.{◌≡◌, ◌≢◌, ⊤, ℕ, true, List, Some}
use Rattle.host_core.specs.Reserving.{HasLu}
use Rattle.host_core.specs.Session.{is_agreed}
use Rattle.host_core.specs.Sound.{OthersHold}
use Rattle.host_core.specs.State.{Service, Host, connection_at, lu_of, state_at}

-- holds if the number asks the pool for no LU any more: it is free or closed, or its ends agreed
abbrev pub IsSettled : Service → Type 0
IsSettled Service.Free = ⊤
IsSettled (Service.Open rest conn) = is_agreed conn.talk.state ≡ true
IsSettled (Service.Closed cause) = ⊤

-- Holds if a settled number stays settled and is granted no LU that it hadn't, and no number becomes free.
pub record KeepsLu (old new : Service) : Type 0 where
  pub settled : IsSettled old → IsSettled new
  pub granted : IsSettled old → (lu : List ℕ) → lu_of new ≡ Some lu → lu_of old ≡ Some lu
  pub free : new ≡ Service.Free → old ≡ Service.Free

-- Holds if no other number changes, other holders hold the same LUs, the pool has no new LU, and the number keeps its
-- LU once it is settled.
pub record ChangesOne (number : ℕ) (old new : Host) : Type 0 where
  pub others : (other : ℕ) → other ≢ number → connection_at other new ≡ connection_at other old
  pub holders : OthersHold number old.pool new.pool
  pub lus : (lu : List ℕ) → HasLu new.pool lu → HasLu old.pool lu
  pub keeps : KeepsLu (state_at number old) (state_at number new)

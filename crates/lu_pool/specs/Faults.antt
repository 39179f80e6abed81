-- What a search for all faults of a list of names has found (our profile; only for the contracts of private functions).
use Rattle.std.specs.Prelude.{◌≡◌, ◌<◌, ℕ, List, Option, Some, Contains, slice_get}
use Rattle.lu_pool.specs.Reading.{HasFault}
use Rattle.lu_pool.specs.declared.fault.PoolFault.{PoolFault}
use Rattle.lu_pool.specs.declared.fault.PoolFault.TheVariants.{BadName, Twice}

-- holds if a text before the one at an index names this LU
abbrev pub IsReadBefore : List (Option (List ℕ)) → ℕ → List ℕ → Type 0
IsReadBefore read place lu = (earlier : ℕ) × (earlier < place) × (slice_get read earlier ≡ Some (Some lu))

-- the list has the faults of the first `n` texts, and no others
pub record AreFaultsBefore (n : ℕ) (read : List (Option (List ℕ))) (found : List PoolFault) : Type 0 where
  pub only : (fault : PoolFault) → Contains found fault → HasFault read fault
  pub each : (j : ℕ) → j < n → (HasFault read (BadName j) → Contains found (BadName j))
      × (HasFault read (Twice j) → Contains found (Twice j))

-- How a list of names gives a pool, or a fault (our profile).
use Rattle.std.specs.Prelude.{◌≡◌, ◌↔◌, ℕ, ◌<◌, List, length, map, Option, None, Some, slice_get, Contains, IsTrue, String}
use Rattle.std.specs.String.{string_bytes}
use Rattle.tn3270e_msg.specs.Lu.{is_lu, lu_of}
use Rattle.lu_pool.specs.declared.entry.Entry.{Entry}
use Rattle.lu_pool.specs.declared.fault.PoolFault.{PoolFault}
use Rattle.lu_pool.specs.declared.fault.PoolFault.TheVariants.{BadName, Twice, BadCount, Memory}
use Rattle.lu_pool.specs.Pool.{entry, IsCount}

-- the LU that each of these texts names, or `None` for a text that is no LU name
abbrev pub parsed_names : {Z : Type 0} → List (String Z) → List (Option (List ℕ))
parsed_names names = map (λ name. lu_of (string_bytes name)) names

-- holds if the pool has the LUs that were read, in their order, and no connection holds one
pub record IsReadFrom (read : List (Option (List ℕ))) (pool : List Entry) : Type 0 where
  pub lus : read ≡ map (λ at. Some at.lu) pool
  pub free : pool ≡ map (λ at. entry at.lu None) pool

-- holds if the texts have this fault: their number, a text that is no LU name, or one that names an earlier text's LU
abbrev pub HasFault : List (Option (List ℕ)) → PoolFault → Type 0
HasFault read BadCount = IsCount (length read) → ⊥
HasFault read (BadName place) = slice_get read place ≡ Some None
HasFault read (Twice place) =
    (earlier : ℕ) × (lu : List ℕ) × (earlier < place) × (slice_get read earlier ≡ Some (Some lu))
    × (slice_get read place ≡ Some (Some lu))
HasFault read Memory = ⊥

-- holds if the texts have no fault
abbrev pub IsRight : List (Option (List ℕ)) → Type 0
IsRight read = (fault : PoolFault) → HasFault read fault → ⊥

-- holds if the texts have this fault, and a right number if it is of one of them
abbrev pub IsFaultOf : List (Option (List ℕ)) → PoolFault → Type 0
IsFaultOf read BadCount = HasFault read BadCount
IsFaultOf read fault = IsCount (length read) × HasFault read fault

-- the list has all these faults of the texts, and no others
abbrev pub AreFaultsOf : List (Option (List ℕ)) → List PoolFault → Type 0
AreFaultsOf read found = (fault : PoolFault) → Contains found fault ↔ IsFaultOf read fault

-- holds if no text before this index has a fault
abbrev pub HasNoFaultBefore : List (Option (List ℕ)) → ℕ → Type 0
HasNoFaultBefore read place = (before : ℕ) → before < place → (HasFault read (BadName before) → ⊥)
    × (HasFault read (Twice before) → ⊥)

-- holds if this is the first fault: the number of texts, or else the first text with a fault; or memory was refused
abbrev pub IsFirstFault : List (Option (List ℕ)) → PoolFault → Type 0
IsFirstFault read BadCount = HasFault read BadCount
IsFirstFault read (BadName place) = IsCount (length read) × HasFault read (BadName place) × HasNoFaultBefore read place
IsFirstFault read (Twice place) = IsCount (length read) × HasFault read (Twice place) × HasNoFaultBefore read place
IsFirstFault read Memory = IsCount (length read)

-- holds if a text after those of these entries has this fault
pub data IsTextFault (pool : List Entry) (place : ℕ) (read : Option (List ℕ)) (fault : PoolFault) : Type 0 where
  no_name : read ≡ None → fault ≡ BadName place → IsTextFault pool place read fault
  named_before : (lu : List ℕ) (earlier : ℕ) (at : Entry) → read ≡ Some lu → slice_get pool earlier ≡ Some at
      → at.lu ≡ lu → fault ≡ Twice place → IsTextFault pool place read fault

-- holds if the text names this LU, and no entry has it yet
pub record IsNew (pool : List Entry) (read : Option (List ℕ)) (lu : List ℕ) : Type 0 where
  pub read_as : read ≡ Some lu
  pub is_lu : IsTrue (is_lu lu)
  pub absent : (place : ℕ) (at : Entry) → slice_get pool place ≡ Some at → at.lu ≡ lu → ⊥

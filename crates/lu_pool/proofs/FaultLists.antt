-- How all faults of a list of names are found.
use Rattle.std.proofs.Common.{◌≡◌, ◌⊎◌, ◌++◌, ◌+◌, ◌<◌, ◌≤◌, inl, inr, ℕ, List, [], ◌∷◌, length, Option, None, Some, sym, subst, arith}
use Rattle.std.specs.Prelude.{Contains}
use Rattle.std.proofs.lemmas.List.Elements.{Contains-append_left, Contains-push, Contains-push_cases}
use Rattle.std.proofs.lemmas.Option.{slice_get_within}
use Rattle.lu_pool.specs.Faults.{AreFaultsBefore}
use Rattle.lu_pool.specs.Pool.{IsCount}
use Rattle.lu_pool.specs.Reading.{AreFaultsOf, HasFault, IsFaultOf}
use Rattle.lu_pool.specs.declared.fault.PoolFault.{PoolFault}
use Rattle.lu_pool.specs.declared.fault.PoolFault.TheVariants.{BadName, Twice, BadCount, Memory}

abbrev Lus : Type 0
Lus = List (Option (List ℕ))

at_or_under : (j n : ℕ) → j < n + 1 → (j < n) ⊎ (j ≡ n)
at_or_under j n less = grind arith

pub none_found : (lus : Lus) → AreFaultsBefore 0 lus []
none_found lus = record { only = λ fault (k, below, at). absurd (omega (arith, below)); each = λ j less. absurd (omega (arith, less)) }

module _ (n : ℕ) (lus : Lus) (found : List PoolFault) (before : AreFaultsBefore n lus found) where
  -- the text at the index has no fault
  none_here : (HasFault lus (BadName n) → ⊥) → (HasFault lus (Twice n) → ⊥) → (j : ℕ) → (j < n) ⊎ (j ≡ n)
      → (HasFault lus (BadName j) → Contains found (BadName j)) × (HasFault lus (Twice j) → Contains found (Twice j))
  none_here named once j (inl less) = before.each j less
  none_here named once j (inr same) = (λ is. absurd (named (subst (λ k. HasFault lus (BadName k)) same is)), λ is. absurd (once (subst (λ k. HasFault lus (Twice k)) same is)))

  pub no_fault_here : (HasFault lus (BadName n) → ⊥) → (HasFault lus (Twice n) → ⊥) → AreFaultsBefore (n + 1) lus found
  no_fault_here named once = record { only = before.only; each = λ j less. none_here named once j (at_or_under j n less) }

  -- it has a fault
  pushed : (fault : PoolFault) → HasFault lus fault → (given : PoolFault) → Contains found given ⊎ (fault ≡ given) → HasFault lus given
  pushed fault is given (inl has) = before.only given has
  pushed fault is given (inr same) = subst (HasFault lus) same is

  one_here : (fault : PoolFault) → (HasFault lus (BadName n) → fault ≡ BadName n) → (HasFault lus (Twice n) → fault ≡ Twice n) → (j : ℕ) → (j < n) ⊎ (j ≡ n)
      → (HasFault lus (BadName j) → Contains (found ++ fault ∷ []) (BadName j)) × (HasFault lus (Twice j) → Contains (found ++ fault ∷ []) (Twice j))
  one_here fault named twice j (inl less) = (
    λ is. Contains-append_left found (fault ∷ []) (BadName j) ((before.each j less).0 is),
    λ is. Contains-append_left found (fault ∷ []) (Twice j) ((before.each j less).1 is),
  )
  one_here fault named twice j (inr same) =
      subst (λ k. (HasFault lus (BadName k) → Contains (found ++ fault ∷ []) (BadName k)) × (HasFault lus (Twice k) → Contains (found ++ fault ∷ []) (Twice k))) (sym same) (
        λ bad. subst (Contains (found ++ fault ∷ [])) (named bad) (Contains-push found fault),
        λ again. subst (Contains (found ++ fault ∷ [])) (twice again) (Contains-push found fault),
      )

  pub fault_here : (fault : PoolFault) → HasFault lus fault → (HasFault lus (BadName n) → fault ≡ BadName n) → (HasFault lus (Twice n) → fault ≡ Twice n)
      → AreFaultsBefore (n + 1) lus (found ++ fault ∷ [])
  fault_here fault is named twice = record {
    only = λ given has. pushed fault is given (Contains-push_cases found fault given has);
    each = λ j less. one_here fault named twice j (at_or_under j n less);
  }

  -- ---- all texts

  with_count : IsCount (length lus) → (fault : PoolFault) → HasFault lus fault → IsFaultOf lus fault
  with_count count BadCount is = is
  with_count count (BadName place) is = (count, is)
  with_count count (Twice place) is = (count, is)
  with_count count Memory is = absurd is

  in_all : length lus ≤ n → IsCount (length lus) → (fault : PoolFault) → IsFaultOf lus fault → Contains found fault
  in_all end count BadCount wrong = absurd (wrong count)
  in_all end count (BadName j) (right, is) = let below = slice_get_within lus j None is in (before.each j (omega (arith, below, end))).0 is
  in_all end count (Twice j) (right, (earlier, lu, less, was, is)) = let below = slice_get_within lus j (Some lu) is in (before.each j (omega (arith, below, end))).1 (earlier, lu, less, was, is)
  in_all end count Memory (right, none) = absurd none

  pub all_found : length lus ≤ n → IsCount (length lus) → AreFaultsOf lus found
  all_found end count fault = (λ has. with_count count fault (before.only fault has), in_all end count fault)

-- ---- a wrong count

only_count : (lus : Lus) → (IsCount (length lus) → ⊥) → (fault : PoolFault) → IsFaultOf lus fault → Contains (BadCount ∷ []) fault
only_count lus wrong BadCount is = Contains-push [] BadCount
only_count lus wrong (BadName j) (right, is) = absurd (wrong right)
only_count lus wrong (Twice j) (right, is) = absurd (wrong right)
only_count lus wrong Memory (right, is) = absurd (wrong right)

count_alone : (lus : Lus) → (IsCount (length lus) → ⊥) → (fault : PoolFault) → Contains [] fault ⊎ (BadCount ≡ fault) → IsFaultOf lus fault
count_alone lus wrong fault (inl (k, below, at)) = absurd (omega (arith, below))
count_alone lus wrong fault (inr same) = subst (IsFaultOf lus) same wrong

pub wrong_count : (lus : Lus) → (IsCount (length lus) → ⊥) → AreFaultsOf lus (BadCount ∷ [])
wrong_count lus wrong fault = (λ has. count_alone lus wrong fault (Contains-push_cases [] BadCount fault has), only_count lus wrong fault)

-- The addresses from one on.
use Rattle.std.proofs.Common.{◌≡◌, ℕ, suc, ◌+◌, ◌-◌, ◌<◌, List, ◌∷◌, arith, ap, sym, ◌∙◌}
use Rattle.std.specs.List.{range_with_len}

-- the next of those that are left
pub next_address : (left : List ℕ) (from size address : ℕ) → range_with_len from (size - from) ≡ left → (from < size) × (address ≡ from)
    → left ≡ address ∷ range_with_len (from + 1) (size - (from + 1))
next_address left from size address is found =
    let count : size - from ≡ suc (size - (from + 1)) = let inside = found.0 in omega arith in
    sym is ∙ ap (range_with_len from) count
    ∙ ap (λ (first : ℕ). first ∷ range_with_len (from + 1) (size - (from + 1))) (sym found.1)

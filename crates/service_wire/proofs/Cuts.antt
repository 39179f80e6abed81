-- Received bytes, cut into pieces.
use Rattle.std.proofs.Common.{◌≡◌, refl, sym, ap, ◌∙◌, ℕ, zero, suc, ◌+◌, ◌-◌, ◌≤◌, arith, List, [], ◌∷◌, ◌++◌, length, take, append_assoc}
use Rattle.std.proofs.Math.Seq.{take-append-add}
use Rattle.service_wire.specs.Laws.{CutsDontMatter}
use Rattle.service_wire.specs.Lines.{Received, received}

-- what is cut off doesn't matter for the front
take_of_front : (n : ℕ) (xs ys : List ℕ) → take n (take n xs ++ ys) ≡ take n (xs ++ ys)
take_of_front zero xs ys = refl
take_of_front (suc n) [] ys = refl
take_of_front (suc n) (x ∷ xs) ys = ap (λ (rest : List ℕ). x ∷ rest) (take_of_front n xs ys)

pub cuts_dont_matter : CutsDontMatter
cuts_dont_matter before front back = ap (λ (bytes : List ℕ). record before { bytes = bytes })
    (take_of_front before.limit (before.bytes ++ front) back ∙ ap (take before.limit) (append_assoc before.bytes front back))

-- the bytes for which there is room are what is kept
pub kept : (before : Received) (bytes : List ℕ) → length before.bytes ≤ before.limit
    → record before { bytes = before.bytes ++ take (before.limit - length before.bytes) bytes } ≡ received before bytes
kept before bytes fits =
    let all : length before.bytes + (before.limit - length before.bytes) ≡ before.limit = omega (arith, fits) in
    ap (λ (bytes : List ℕ). record before { bytes = bytes })
    (sym (take-append-add before.bytes bytes (before.limit - length before.bytes)) ∙ ap (λ (n : ℕ). take n (before.bytes ++ bytes)) all)

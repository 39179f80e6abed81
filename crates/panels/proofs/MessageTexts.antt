-- The text of a message fills its room.
use Rattle.std.proofs.Common.{◌≡◌, ◌∙◌, ◌-◌, ◌++◌, ℕ, List, ap, length, take, drop, replicate, arith}
use Rattle.std.specs.Prelude.{min}
use Rattle.std.proofs.Math.Nat.{min_comm}
use Rattle.std.proofs.lemmas.List.{drop-replicate, take_min}

pub padded : (text front : List ℕ) (size most : ℕ) → size ≡ min (length text) most → front ≡ take size text
    → front ++ drop size (replicate most 0) ≡ take most text ++ replicate (most - length text) 0
padded text front size most is copied =
    let cut : front ≡ take most text = copied ∙ ap (λ (n : ℕ). take n text) (is ∙ min_comm (length text) most) ∙ take_min most text in
    let left : most - size ≡ most - length text = omega (arith, is) in
    ap (λ (bytes : List ℕ). bytes ++ drop size (replicate most 0)) cut
    ∙ ap (λ (bytes : List ℕ). take most text ++ bytes) (drop-replicate size most 0 ∙ ap (λ (n : ℕ). replicate n 0) left)

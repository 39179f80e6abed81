-- Two lists that agree, item by item: of such pairs the relations of our profile are built.
use Rattle.std.specs.Prelude.{⊤, List, [], ◌∷◌}

abbrev pub Pairwise : {X Y : Type 0} → (X → Y → Type 0) → List X → List Y → Type 0
Pairwise R [] [] = ⊤
Pairwise R [] (y ∷ ys) = ⊥
Pairwise R (x ∷ xs) [] = ⊥
Pairwise R (x ∷ xs) (y ∷ ys) = R x y × Pairwise R xs ys

-- CellBeliefs that hold nothing but nulls.
use Rattle.std.proofs.Common.{◌≡◌, ℕ, zero, suc, ◌+◌, true, List, [], ◌∷◌, map, replicate, Option, Some, refl, ap, ◌∙◌}
use Rattle.codes3270.specs.declared.attribute.Cell.TheVariants.{Char}
use Rattle.shadow.specs.declared.known.Known.{Known}
use Rattle.shadow.specs.declared.known.Known.TheVariants.{Char as KnownChar}
use Rattle.shadow.specs.declared.cell_belief.CellBelief.{CellBelief}
use Rattle.shadow.specs.declared.cell_belief.CellBelief.TheVariants.{Known as KnownPlace, Unknown}
use Rattle.shadow.specs.Belief.{Belief, Shadow}
use Rattle.shadow.specs.InPlace.{beliefs_held, chars_known, shadow_held, AreHeld, IsHeld}
use Rattle.shadow.specs.Since.{cells_written, Since, stored_past}
use Rattle.shadow.specs.Taken.{new_cell, formatted_as}

abbrev pub null_place : CellBelief
null_place = KnownPlace 0

pub since_nulls : (n : ℕ) → Since (replicate n null_place) (replicate n null_place) (replicate n stored_past)
since_nulls zero = tt
since_nulls (suc n) = (refl, λ e. absurd (cc), since_nulls n)

are_held : (whole : List CellBelief) (n : ℕ) → AreHeld whole (replicate n null_place)
are_held whole zero = tt
are_held whole (suc n) = are_held whole n

pub held_nulls : (n : ℕ) → IsHeld (replicate n null_place)
held_nulls n = are_held (replicate n null_place) n

are_held_unknown : (whole : List CellBelief) (n : ℕ) → AreHeld whole (replicate n Unknown)
are_held_unknown whole zero = tt
are_held_unknown whole (suc n) = are_held_unknown whole n

pub held_unknown : (n : ℕ) → IsHeld (replicate n Unknown)
held_unknown n = are_held_unknown (replicate n Unknown) n

none_believed : (whole : List CellBelief) (at n : ℕ) → beliefs_held whole at (replicate n null_place) ≡ []
none_believed whole at zero = refl
none_believed whole at (suc n) = none_believed whole (at + 1) n

pub no_beliefs : (n : ℕ) → beliefs_held (replicate n null_place) 0 (replicate n null_place) ≡ []
no_beliefs n = none_believed (replicate n null_place) 0 n

pub cells_nulls : (n : ℕ) → cells_written (replicate n null_place) (replicate n stored_past) ≡ map new_cell (replicate n (Char 0))
cells_nulls zero = refl
cells_nulls (suc n) = ap (λ (ks : List Known). KnownChar (Some 0) true ∷ ks) (cells_nulls n)

pub chars_nulls : (n : ℕ) → chars_known (replicate n null_place) ≡ replicate n (Some 0)
chars_nulls zero = refl
chars_nulls (suc n) = ap (λ (ks : List (Option ℕ)). Some 0 ∷ ks) (chars_nulls n)

pub unformatted_nulls : (n : ℕ) → shadow_held true (replicate n null_place) ≡ Shadow.Unformatted (replicate n (Some 0))
unformatted_nulls n =
    ap (λ (bs : List Belief). formatted_as bs (chars_known (replicate n null_place))) (no_beliefs n) ∙ ap Shadow.Unformatted (chars_nulls n)

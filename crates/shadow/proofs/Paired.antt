-- A field with what came for it.
use Rattle.std.proofs.Common.{◌≡◌, ℕ, Bool, true, false, List, [], ◌∷◌, Some, None, refl, if◌then◌else◌, nat_eq, option_map}
use Rattle.datastream.specs.InboundFields.{Returned}
use Rattle.shadow.specs.Belief.{Belief, next_address}
use Rattle.shadow.specs.Came.{text_at, came_past}
use Rattle.shadow.specs.Heard.{answers}
use Rattle.shadow.specs.Borrowed.{answer}

-- one field more
pub answers_step : (size : ℕ) (b : Belief) (bs : List Belief) (rs : List Returned)
    → answers size (b ∷ bs) rs ≡ option_map (λ more. answer b (text_at (next_address size b.place) rs) ∷ more) (answers size bs (came_past (next_address size b.place) rs))
answers_step size b bs [] = refl
answers_step size b bs (r ∷ rs) = cases (nat_eq (next_address size b.place) r.first)
  where
    cases : (t : Bool) → (if t then option_map (λ more. answer b (Some r.text) ∷ more) (answers size bs rs) else option_map (λ more. answer b None ∷ more) (answers size bs (r ∷ rs)))
        ≡ option_map (λ more. answer b (if t then Some r.text else None) ∷ more) (answers size bs (if t then rs else r ∷ rs))
    cases true = refl
    cases false = refl

-- One value of many changes.
use Rattle.std.proofs.Common.{◌≡◌, ◌≢◌, ◌==◌, ℕ, Bool, true, false, eq-eqb, ne_eqb, refl, ap, sym, subst, if◌then◌else◌}
use Rattle.std.proofs.lemmas.Bool.{eqb-true}
use Rattle.std.proofs.lemmas.Bool.Decides.{Decides-eqb}
use Rattle.world3270.specs.model.World.{with_at}

-- what holds of each number, after one changed
pub all_with : {X : Type 0} (P : ℕ → X → Type 0) (number : ℕ) (x : X) (old : ℕ → X) → P number x → ((other : ℕ) → P other (old other)) → (other : ℕ) → P other (with_at number x old other)
all_with {X} P number x old new rest other = by_test (other == number) refl
  where
    by_test : (b : Bool) → (other == number) ≡ b → P other (if b then x else old other)
    by_test true e = subst (λ n. P n x) (sym (eqb-true other number e)) new
    by_test false e = rest other

pub differs : (other number : ℕ) → (other == number) ≡ false → other ≡ number → ⊥
differs other number e same = let yes = (Decides-eqb other number).1 same in absurd (cc)

pub same_number : (number : ℕ) → (number == number) ≡ true
same_number number = eq-eqb number number refl

pub with_same : {X : Type 0} (number : ℕ) (x : X) (old : ℕ → X) → with_at number x old number ≡ x
with_same {X} number x old = ap (λ (b : Bool). if b then x else old number) (same_number number)

pub with_other : {X : Type 0} (number other : ℕ) (x : X) (old : ℕ → X) → other ≢ number → with_at number x old other ≡ old other
with_other {X} number other x old apart = ap (λ (b : Bool). if b then x else old other) (ne_eqb other number apart)

-- what holds of one number, and of each other, holds of all
pub one_or_another : (P : ℕ → Type 0) (number : ℕ) → P number → ((other : ℕ) → other ≢ number → P other) → (other : ℕ) → P other
one_or_another P number here others other = by_test (other == number) refl
  where
    by_test : (b : Bool) → (other == number) ≡ b → P other
    by_test true e = subst P (sym (eqb-true other number e)) here
    by_test false e = others other (differs other number e)

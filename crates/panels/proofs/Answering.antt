-- What the first of several answers is.
use Rattle.std.proofs.Common.{◌≡◌, zero, suc, ℕ, Bool, true, false, cond, List, [], ◌∷◌, Option, Some, None, refl, sym, subst}
use Rattle.std.specs.Prelude.{slice_get, is_some, option_map, unwrap_or}
use Rattle.std.specs.Option.{option_or}
use Rattle.std.proofs.lemmas.Bool.{false≢true}
use Rattle.std.proofs.lemmas.Option.{none-some, same_Some}
use Rattle.datastream.specs.declared.wanted.Want.{Want}
use Rattle.panels.specs.Screen.{first_some}

-- what is answered, if anything, has a property
abbrev pub Answers : (Want → Type 0) → Option Want → Type 0
Answers P o = (w : Want) → o ≡ Some w → P w

pub or_answers : (P : Want → Type 0) (a b : Option Want) → Answers P a → Answers P b → Answers P (option_or a b)
or_answers P None b one other = other
or_answers P (Some w) b one other = one

pub left_answers : (P : Want → Type 0) (a b : Option Want) → is_some a ≡ true → Answers P a → Answers P (option_or a b)
left_answers P None b is one = absurd (false≢true is)
left_answers P (Some w) b is one = one

pub first_answers : {X : Type 0} (P : Want → Type 0) (find : X → Option Want) (xs : List X) → ((i : ℕ) (x : X) → slice_get xs i ≡ Some x → Answers P (find x))
    → Answers P (first_some find xs)
first_answers P find [] each = λ w is. absurd (none-some w is)
first_answers P find (x ∷ xs) each = or_answers P (find x) (first_some find xs) (each zero x refl) (first_answers P find xs (λ i y there. each (suc i) y there))

pub left_is_some : (a b : Option Want) → is_some a ≡ true → is_some (option_or a b) ≡ true
left_is_some None b is = absurd (false≢true is)
left_is_some (Some w) b is = refl

pub right_is_some : (a b : Option Want) → is_some b ≡ true → is_some (option_or a b) ≡ true
right_is_some None b is = is
right_is_some (Some w) b is = refl

pub first_is_some : {X : Type 0} (find : X → Option Want) (xs : List X) (i : ℕ) (x : X) → slice_get xs i ≡ Some x → is_some (find x) ≡ true → is_some (first_some find xs) ≡ true
first_is_some find [] i x there is = absurd (none-some x there)
first_is_some find (y ∷ ys) zero x there is = left_is_some (find y) (first_some find ys) (subst (λ z. is_some (find z) ≡ true) (sym (same_Some y x there)) is)
first_is_some find (y ∷ ys) (suc i) x there is = right_is_some (find y) (first_some find ys) (first_is_some find ys i x there is)

pub mapped_is_some : (f : ℕ → Want) (o : Option ℕ) (n : ℕ) → o ≡ Some n → is_some (option_map f o) ≡ true
mapped_is_some f o n is = rw is refl

pub given_is_some : (b : Bool) (w : Want) → b ≡ true → is_some (cond b (Some w) None) ≡ true
given_is_some b w is = rw is refl

pub mapped_answer : {X Y : Type 0} (f : X → Y) (o : Option X) (y : Y) → option_map f o ≡ Some y → (x : X) × (o ≡ Some x) × (f x ≡ y)
mapped_answer f None y is = absurd (none-some y is)
mapped_answer f (Some x) y is = (x, refl, same_Some (f x) y is)

pub none_given : (b : Bool) (v w : Want) → cond b None (Some v) ≡ Some w → (b ≡ false) × (v ≡ w)
none_given true v w is = absurd (none-some w is)
none_given false v w is = (refl, same_Some v w is)

-- what is taken if nothing is answered has the property too, or something is answered
pub taken_answer : (P : Want → Type 0) (o : Option Want) (null : Want) → is_some o ≡ true → Answers P o → P (unwrap_or o null)
taken_answer P None null is answers = absurd (false≢true is)
taken_answer P (Some w) null is answers = answers w refl

pub taken_or : (P : Want → Type 0) (o : Option Want) (null : Want) → P null → Answers P o → P (unwrap_or o null)
taken_or P None null at_null answers = at_null
taken_or P (Some w) null at_null answers = answers w refl

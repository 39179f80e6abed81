-- The letters of a name, as they are read.
use Rattle.std.proofs.Common.{◌≡◌, true, not, ℕ, ◌-◌, ◌++◌, ◌≤◌, List, [], ◌∷◌, length, take, drop, map, replicate, refl, sym, ap, ◌∙◌, arith}
use Rattle.std.specs.List.{list_all}
use Rattle.std.specs.Char.{is_ascii_digit, to_ascii_uppercase}
use Rattle.std.proofs.lemmas.Bool.{and_parts}
use Rattle.std.proofs.lemmas.Bool.Decides.{nat_tests}
use Rattle.std.proofs.lemmas.List.{take-append-drop, length-take-le, drop-replicate}
use Rattle.tn3270e_msg.specs.Laws.{NameIsReadAsItself}
use Rattle.tn3270e_msg.specs.Lu.{is_lu, is_lu_letter, IsPadded}

-- letters of which the first are a name, and the rest were never written
pub padded_by : (letters : List ℕ) (count : ℕ) → is_lu (take count letters) ≡ true → count ≤ 8 → length letters ≡ 8
    → drop count letters ≡ drop count (replicate {A = ℕ} 8 0) → IsPadded letters count
padded_by letters count name fits long untouched =
    let all : length (take count letters) ≡ count = length-take-le count letters (omega (arith, long)) in
    let rest : drop count letters ≡ replicate (8 - count) 0 = untouched ∙ drop-replicate count 8 0 in
    record {
      is_lu = name;
      all = sym all;
      padded = rw all (sym (take-append-drop count letters) ∙ ap (λ (zeros : List ℕ). take count letters ++ zeros) rest);
    }

-- a letter of a name is in upper case
upper_letter : (letter : ℕ) → is_lu_letter letter ≡ true → to_ascii_uppercase letter ≡ letter
upper_letter letter h = grind (arith, nat_tests, h)

upper_letters : (name : List ℕ) → list_all is_lu_letter name ≡ true → map to_ascii_uppercase name ≡ name
upper_letters [] h = refl
upper_letters (x ∷ xs) h =
    let parts = and_parts (is_lu_letter x) _ h in
    rw (upper_letter x parts.0, upper_letters xs parts.1) refl

upper_name : (name : List ℕ) → is_lu name ≡ true → map to_ascii_uppercase name ≡ name
upper_name [] h = refl
upper_name (x ∷ xs) h =
    let parts = and_parts (not (is_ascii_digit x)) _ h in
    upper_letters (x ∷ xs) (and_parts (list_all is_lu_letter (x ∷ xs)) _ parts.1).0

-- a name of an LU is read as itself
pub name_is_read_as_itself : NameIsReadAsItself
name_is_read_as_itself name h = rw (upper_name name h, h) refl

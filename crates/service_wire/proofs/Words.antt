-- A line is cut at its first blank.
use Rattle.std.proofs.Common.{◌≡◌, refl, ap, ◌∙◌, arith, ℕ, ◌+◌, ◌==◌, Bool, true, false, not, cond, if◌then◌else◌, List, [], ◌∷◌, ◌++◌, length, length-append, take, drop, None, Some}
use Rattle.std.proofs.Math.Seq.{drop-append-add, take-append_seam, take-length}
use Rattle.std.proofs.lemmas.Bool.{and_parts, eq-eqb, ne_eqb}
use Rattle.std.specs.List.{list_all, position_or_len, after_first}
use Rattle.service_wire.specs.Lines.{first_word, is_blank, operand_of}

-- whether a byte isn't a blank
abbrev pub is_letter : ℕ → Bool
is_letter byte = not (is_blank byte)

no_blank_in : (text : List ℕ) → list_all is_letter text ≡ true → position_or_len is_blank text ≡ length text
no_blank_in [] letters = refl
no_blank_in (x ∷ text) letters =
    let parts = and_parts (is_letter x) (list_all is_letter text) letters in
    let rest = no_blank_in text parts.1 in
    let at : position_or_len is_blank (x ∷ text) ≡ 1 + position_or_len is_blank text =
    ap (λ (b : Bool). cond b (1 + position_or_len is_blank text) 0) parts.0 in
    omega (arith, at, rest)

module _ (back : List ℕ) where
  blank_at : (front : List ℕ) → list_all is_letter front ≡ true → position_or_len is_blank (front ++ 0x20 ∷ back) ≡ length front
  blank_at [] letters = refl
  blank_at (x ∷ front) letters =
      let parts = and_parts (is_letter x) (list_all is_letter front) letters in
      let rest = blank_at front parts.1 in
      let at : position_or_len is_blank (x ∷ front ++ 0x20 ∷ back) ≡ 1 + position_or_len is_blank (front ++ 0x20 ∷ back) =
      ap (λ (b : Bool). cond b (1 + position_or_len is_blank (front ++ 0x20 ∷ back)) 0) parts.0 in
      omega (arith, at, rest)

  module _ (front : List ℕ) (letters : list_all is_letter front ≡ true) where
    pub first_word_is : first_word (front ++ 0x20 ∷ back) ≡ front
    first_word_is = ap (λ (n : ℕ). take n (front ++ 0x20 ∷ back)) (blank_at front letters) ∙ take-append_seam front (0x20 ∷ back)

    pub operand_is : operand_of (front ++ 0x20 ∷ back) ≡ Some back
    operand_is =
        let at = blank_at front letters in
        let size = length-append front (0x20 ∷ back) in
        let differs : (position_or_len is_blank (front ++ 0x20 ∷ back) == length (front ++ 0x20 ∷ back)) ≡ false =
        ne_eqb _ _ (λ same. omega (arith, at, size, same)) in
        ap (λ (b : Bool). if b then None else Some (after_first is_blank (front ++ 0x20 ∷ back))) differs
        ∙ ap (λ (n : ℕ). Some (drop (n + 1) (front ++ 0x20 ∷ back))) at
        ∙ ap (λ (rest : List ℕ). Some rest) (drop-append-add front (0x20 ∷ back) 1)

-- a text without a blank is one word
module _ (text : List ℕ) (letters : list_all is_letter text ≡ true) where
  no_blank : position_or_len is_blank text ≡ length text
  no_blank = no_blank_in text letters

  pub one_word : first_word text ≡ text
  one_word = ap (λ (n : ℕ). take n text) no_blank ∙ take-length text

  pub no_operand : operand_of text ≡ None
  no_operand = ap (λ (b : Bool). if b then None else Some (after_first is_blank text)) (eq-eqb (position_or_len is_blank text) (length text) no_blank)

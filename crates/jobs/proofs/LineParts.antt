-- The numbers that a parse gives, and the words of a line.
use Rattle.std.proofs.Common.{◌≡◌, refl, sym, ap, subst, ◌∙◌, arith, ℕ, suc, ◌+◌, ◌^◌, ◌<◌, ◌≤◌, ◌==◌, Bool, true, false, not, min, ◌⊎◌, inl, inr, cond, List, [], ◌∷◌, length, None, Some, Result, Ok, Err}
use Rattle.std.specs.List.{position_or_len, before_first, onto_first}
use Rattle.std.specs.Result.{result_unwrap_or}
use Rattle.std.specs.Str.{all_ascii_digits}
use Rattle.std.specs.Str.Parse.{ParsesUnsigned, digits_value}
use Rattle.std.proofs.lemmas.Bool.{and_parts, cases_lt}
use Rattle.std.proofs.lemmas.List.Splits.{slice_split_first}
use Rattle.std.proofs.lemmas.Str.Parse.{IsNumeralModel, numerals_by_value, parse_digits, tells_all_ascii_digits}
use Rattle.presentation.specs.Glyph.{blank}
use Rattle.jobs.specs.HexLines.{words_of}
use Rattle.jobs.specs.LineParts.{is_digits, largest_number, number_of, behind}

-- ---- numbers

digits_test : IsNumeralModel (λ digits. all_ascii_digits digits ≡ true) (digits_value 10)
digits_test = numerals_by_value (λ digits. all_ascii_digits digits ≡ true) tells_all_ascii_digits

is_fitting : (number value : ℕ) → number ≡ value → value < 2 ^ 64 → number ≡ min value largest_number
is_fitting number value is fits = omega arith

is_largest : (digits : List ℕ) (value : ℕ) → not (length digits == 0) ≡ true → ((0 < length digits) × (value < 2 ^ 64) → ⊥) → largest_number ≡ min value largest_number
is_largest [] value some fails = absurd (let n : false ≡ true = some in cc)
is_largest (digit ∷ digits) value some fails = by_order (cases_lt value (2 ^ 64))
  where
    by_order : (value < 2 ^ 64) ⊎ (2 ^ 64 ≤ value) → largest_number ≡ min value largest_number
    by_order (inl below) = absurd (fails (omega arith, below))
    by_order (inr above) = omega arith

pub number_parsed : {E : Type 0} (word : List ℕ) (parsed : Result ℕ E) → ParsesUnsigned 64 10 word parsed → is_digits word ≡ true
    → result_unwrap_or parsed largest_number ≡ min (digits_value 10 word) largest_number
number_parsed {E} word (Ok number) is digits =
    let parts = and_parts (not (length word == 0)) (all_ascii_digits word) digits in
    let fits = parse_digits digits_test {E = E} 64 word (Ok number) is parts.1 in
    is_fitting number (digits_value 10 word) fits.1 fits.0.1
number_parsed {E} word (Err fault) is digits =
    let parts = and_parts (not (length word == 0)) (all_ascii_digits word) digits in
    is_largest word (digits_value 10 word) parts.0 (parse_digits digits_test {E = E} 64 word (Err fault) is parts.1)

pub number_is : (word : List ℕ) (number : ℕ) → is_digits word ≡ true → number ≡ min (digits_value 10 word) largest_number → Some number ≡ number_of word
unfolding number_of
number_is word number digits is = rw digits (ap (λ (n : ℕ). Some n) is)

pub no_number : (word : List ℕ) → is_digits word ≡ false → None ≡ number_of word
unfolding number_of
no_number word fails = rw fails refl

-- ---- words

pub one_word : (line : List ℕ) → position_or_len (λ char. char == blank) line ≡ length line → words_of line ≡ line ∷ []
one_word [] none = refl
one_word (char ∷ line) none = by_test (char == blank) refl (one_word line)
  where
    by_test : (b : Bool) → (char == blank) ≡ b → (position_or_len (λ char. char == blank) line ≡ length line → words_of line ≡ line ∷ [])
        → words_of (char ∷ line) ≡ (char ∷ line) ∷ []
    by_test true is others = absurd (let n = subst (λ (b : Bool). cond (not b) (1 + position_or_len (λ char. char == blank) line) 0 ≡ suc (length line)) is none in omega arith)
    by_test false is others =
        let n = subst (λ (b : Bool). cond (not b) (1 + position_or_len (λ char. char == blank) line) 0 ≡ suc (length line)) is none in
        ap (λ (b : Bool). cond b ([] ∷ words_of line) (onto_first char (words_of line))) is ∙ ap (onto_first char) (others (omega arith))

pub some_words : (line : List ℕ) → (first : List ℕ) × (others : List (List ℕ)) × (words_of line ≡ first ∷ others)
some_words [] = ([], [], refl)
some_words (char ∷ line) = by_test (char == blank) refl (some_words line)
  where
    by_test : (b : Bool) → (char == blank) ≡ b → ((first : List ℕ) × (others : List (List ℕ)) × (words_of line ≡ first ∷ others))
        → (first : List ℕ) × (others : List (List ℕ)) × (words_of (char ∷ line) ≡ first ∷ others)
    by_test true is behind_it = ([], words_of line, ap (λ (b : Bool). cond b ([] ∷ words_of line) (onto_first char (words_of line))) is)
    by_test false is behind_it = (
      char ∷ behind_it.0,
      behind_it.1,
      ap (λ (b : Bool). cond b ([] ∷ words_of line) (onto_first char (words_of line))) is ∙ ap (onto_first char) behind_it.2,
    )

-- a line has no blank, or is cut at its first
abbrev pub HasNoBlank : List ℕ → Type 0
HasNoBlank line = position_or_len (λ char. char == blank) line ≡ length line

abbrev pub SplitsAtBlank : List ℕ → List ℕ → List ℕ → Type 0
SplitsAtBlank line front back = (position_or_len (λ char. char == blank) line < length line) × (front ≡ before_first (λ char. char == blank) line) × (back ≡ behind line)

pub word_more : (line front back : List ℕ) → SplitsAtBlank line front back → words_of line ≡ front ∷ words_of back
word_more line front back cut = slice_split_first (λ char. char == blank) line 0 cut.0 ∙ (λ i. sym cut.1 i ∷ words_of (sym cut.2 i))

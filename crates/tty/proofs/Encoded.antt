-- A character's bytes read as that character.
use Rattle.std.proofs.Common.{◌≡◌, ℕ, ◌+◌, ◌/◌, ◌%◌, ◌<◌, ◌≤◌, true, false, List, [], ◌∷◌, refl, ap, sym, subst, ◌∙◌, inl, inr, arith, append-nil}
use Rattle.std.specs.Prelude.{◌==◌}
use Rattle.std.specs.Char.{encode_utf8, is_ascii_control, IsScalar}
use Rattle.std.specs.Int.{IsInRange}
use Rattle.std.proofs.lemmas.Bool.{cases_lt, lt-ltb, le-ltb}
use Rattle.std.proofs.lemmas.Bool.Decides.{nat_tests}
use lib.Utf8.{scalar_cases}
use Rattle.std.proofs.lemmas.Str.{encode_ascii, IsUtf8-encode}
use Rattle.tty.specs.declared.keystroke.Keystroke.TheVariants.{Char}
use Rattle.tty.specs.KeySequences.{character, meaning}
use Rattle.tty.specs.KeyReading.{read_bytes}
use Rattle.tty.specs.KeyLaws.{one, CharactersAreRead}
use Rattle.tty.proofs.Characters.{character_is}
use Rattle.tty.proofs.Single.{is_single, single_read}

-- a first byte that begins no sequence and is no control character
meaning_is : (first : ℕ) (rest : List ℕ) (letter : ℕ) → IsScalar letter → encode_utf8 letter ≡ first ∷ rest → 0x1B < first
    → is_ascii_control first ≡ false → meaning (first ∷ rest) ≡ Char letter
meaning_is first rest letter scalar encoded large none =
    let other : (first == 0x1B) ≡ false = grind (arith, nat_tests) in
    rw (other, none) (subst (λ (bytes : List ℕ). character bytes ≡ Char letter) encoded
    (character_is (encode_utf8 letter) [] letter (IsUtf8-encode letter scalar) (sym (append-nil (encode_utf8 letter)))))

single_one : (a : ℕ) → 0x1B < a → a < 0x80 → is_single [] (a ∷ []) ≡ true
single_one a low high = grind (arith, nat_tests)

single_two : (a b : ℕ) → IsInRange 0xC2 0xDF a → IsInRange 0x80 0xBF b → is_single [] (a ∷ b ∷ []) ≡ true
single_two a b first second = grind (arith, nat_tests)

single_three : (a b c : ℕ) → IsInRange 0xE0 0xEF a → IsInRange 0x80 0xBF b → IsInRange 0x80 0xBF c → is_single [] (a ∷ b ∷ c ∷ []) ≡ true
single_three a b c first second third = grind (arith, nat_tests)

single_four : (a b c d : ℕ) → IsInRange 0xF0 0xF4 a → IsInRange 0x80 0xBF b → IsInRange 0x80 0xBF c → IsInRange 0x80 0xBF d → is_single [] (a ∷ b ∷ c ∷ d ∷ []) ≡ true
single_four a b c d first second third fourth = grind (arith, nat_tests)

one_byte : (c : ℕ) → 0x1B < c → c < 0x80 → is_ascii_control c ≡ false → IsScalar c → read_bytes [] (encode_utf8 c) ≡ one (Char c)
one_byte c low high none scalar =
    let encoded = encode_ascii c high in
    subst (λ (bytes : List ℕ). read_bytes [] bytes ≡ one (Char c)) (sym encoded)
    (single_read [] (c ∷ []) (single_one c low high) ∙ ap one (meaning_is c [] c scalar encoded low none))

two_bytes : (c : ℕ) → 0x80 ≤ c → c < 0x800 → IsScalar c → read_bytes [] (encode_utf8 c) ≡ one (Char c)
unfolding encode_utf8
two_bytes c low high scalar =
    let encoded : encode_utf8 c ≡ (192 + c / 64) ∷ (128 + c % 64) ∷ [] = rw (le-ltb c 128 low, lt-ltb c 2048 high) refl in
    let first : IsInRange 0xC2 0xDF (192 + c / 64) = (omega arith, omega arith) in
    let second : IsInRange 0x80 0xBF (128 + c % 64) = (omega arith, omega arith) in
    let none : is_ascii_control (192 + c / 64) ≡ false = grind (arith, nat_tests) in
    subst (λ (bytes : List ℕ). read_bytes [] bytes ≡ one (Char c)) (sym encoded)
    (single_read [] ((192 + c / 64) ∷ (128 + c % 64) ∷ []) (single_two _ _ first second) ∙ ap one (meaning_is _ _ c scalar encoded (omega arith) none))

three_bytes : (c : ℕ) → 0x800 ≤ c → c < 0x1_0000 → IsScalar c → read_bytes [] (encode_utf8 c) ≡ one (Char c)
unfolding encode_utf8
three_bytes c low high scalar =
    let encoded : encode_utf8 c ≡ (224 + c / 4096) ∷ (128 + c / 64 % 64) ∷ (128 + c % 64) ∷ [] =
    rw (le-ltb c 128 (omega arith), le-ltb c 2048 low, lt-ltb c 65536 high) refl in
    let first : IsInRange 0xE0 0xEF (224 + c / 4096) = (omega arith, omega arith) in
    let second : IsInRange 0x80 0xBF (128 + c / 64 % 64) = (omega arith, omega arith) in
    let third : IsInRange 0x80 0xBF (128 + c % 64) = (omega arith, omega arith) in
    let none : is_ascii_control (224 + c / 4096) ≡ false = grind (arith, nat_tests) in
    subst (λ (bytes : List ℕ). read_bytes [] bytes ≡ one (Char c)) (sym encoded)
    (single_read [] ((224 + c / 4096) ∷ (128 + c / 64 % 64) ∷ (128 + c % 64) ∷ []) (single_three _ _ _ first second third)
    ∙ ap one (meaning_is _ _ c scalar encoded (omega arith) none))

four_bytes : (c : ℕ) → 0x1_0000 ≤ c → c < 0x11_0000 → IsScalar c → read_bytes [] (encode_utf8 c) ≡ one (Char c)
unfolding encode_utf8
four_bytes c low high scalar =
    let encoded : encode_utf8 c ≡ (240 + c / 262144) ∷ (128 + c / 4096 % 64) ∷ (128 + c / 64 % 64) ∷ (128 + c % 64) ∷ [] =
    rw (le-ltb c 128 (omega arith), le-ltb c 2048 (omega arith), le-ltb c 65536 low) refl in
    let first : IsInRange 0xF0 0xF4 (240 + c / 262144) = (omega arith, omega arith) in
    let second : IsInRange 0x80 0xBF (128 + c / 4096 % 64) = (omega arith, omega arith) in
    let third : IsInRange 0x80 0xBF (128 + c / 64 % 64) = (omega arith, omega arith) in
    let fourth : IsInRange 0x80 0xBF (128 + c % 64) = (omega arith, omega arith) in
    let none : is_ascii_control (240 + c / 262144) ≡ false = grind (arith, nat_tests) in
    subst (λ (bytes : List ℕ). read_bytes [] bytes ≡ one (Char c)) (sym encoded)
    (single_read [] ((240 + c / 262144) ∷ (128 + c / 4096 % 64) ∷ (128 + c / 64 % 64) ∷ (128 + c % 64) ∷ []) (single_four _ _ _ _ first second third fourth)
    ∙ ap one (meaning_is _ _ c scalar encoded (omega arith) none))

-- a character that is no control character is above them
above_controls : (c : ℕ) → is_ascii_control c ≡ false → 0x1B < c
above_controls c none = grind (arith, nat_tests)

scalar_below : (c : ℕ) → IsScalar c → c < 0x11_0000
scalar_below c scalar = elim (scalar_cases c scalar) [ inl low ↦ omega arith | inr high ↦ high.1 ]

pub characters_are_read : CharactersAreRead
characters_are_read c scalar none =
    elim (cases_lt c 0x80) [
      | inl small ↦ one_byte c (above_controls c none) small none scalar
      | inr more ↦ elim (cases_lt c 0x800) [
        | inl small ↦ two_bytes c more small scalar
        | inr more ↦ elim (cases_lt c 0x1_0000) [
          | inl small ↦ three_bytes c more small scalar
          | inr more ↦ four_bytes c more (scalar_below c scalar) scalar
        ]
      ]
    ]

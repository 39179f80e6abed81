-- The character that bytes spell.
use Rattle.std.proofs.Common.{◌≡◌, ℕ, List, [], ◌∷◌, ◌++◌, length, refl, arith}
use Rattle.std.specs.Char.{encode_utf8}
use Rattle.std.specs.Str.{chars, IsUtf8}
use Rattle.std.proofs.lemmas.Bool.{false_from_ne_true}
use Rattle.std.proofs.lemmas.Str.{chars_past_char, IsUtf8-from_is_utf8, is_utf8-from_IsUtf8}
use Rattle.tty.specs.declared.keystroke.Keystroke.TheVariants.{Char, Unknown}
use Rattle.tty.specs.KeySequences.{character, first_of}

pub character_is : (bytes rest : List ℕ) (letter : ℕ) → IsUtf8 bytes → bytes ≡ encode_utf8 letter ++ rest → character bytes ≡ Char letter
character_is bytes rest letter utf8 encoded = rw (is_utf8-from_IsUtf8 bytes utf8, chars_past_char bytes rest letter utf8 encoded) refl

pub no_character : (text : List ℕ) → length text ≡ 0 → first_of (chars text) ≡ Unknown
unfolding chars
no_character [] none = refl
no_character (byte ∷ bytes) none = absurd (omega (arith, none))

pub first_is : (text rest : List ℕ) (letter : ℕ) → IsUtf8 text → text ≡ encode_utf8 letter ++ rest → first_of (chars text) ≡ Char letter
first_is text rest letter utf8 encoded = rw (chars_past_char text rest letter utf8 encoded) refl

pub well_formed : (bytes text : List ℕ) → text ≡ bytes → IsUtf8 bytes → first_of (chars text) ≡ character bytes
well_formed bytes text same utf8 = rw (is_utf8-from_IsUtf8 bytes utf8, same) refl

pub ill_formed : (bytes : List ℕ) → ¬ (IsUtf8 bytes) → Unknown ≡ character bytes
ill_formed bytes none = rw (false_from_ne_true _ (λ is. none (IsUtf8-from_is_utf8 bytes is))) refl

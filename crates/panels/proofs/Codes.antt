-- The codes of characters are storable, and no nulls.
use Rattle.std.proofs.Common.{◌≡◌, ◌≤◌, ℕ, List, [], ◌∷◌, Option, Some, None, true, refl, arith}
use Rattle.std.specs.Prelude.{IsTrue}
use Rattle.std.specs.List.{cons_option}
use Rattle.std.proofs.lemmas.List.Elements.{All-nil, All-cons}
use Rattle.std.proofs.lemmas.Bool.Decides.{nat_tests}
use Rattle.codes3270.specs.CodePage.{code_of}
use Rattle.codes3270.proofs.CodeRange.{code_in_range}
use Rattle.panels.specs.Characters.{is_character, AreCharacters, codes_of}

character_in_range : (b : ℕ) → 0x40 ≤ b → b ≤ 0xFE → is_character b ≡ true
character_in_range b low high = grind (arith, nat_tests)

pub character_of_code : (c b : ℕ) → code_of c ≡ Some b → is_character b ≡ true
character_of_code c b is =
    let range : (0x40 ≤ b) × (b ≤ 0xFE) = code_in_range b c is in
    character_in_range b range.0 range.1

all_with : (o : Option ℕ) (bytes : List ℕ) → ((b : ℕ) → o ≡ Some b → is_character b ≡ true) → AreCharacters bytes → AreCharacters (cons_option o bytes)
all_with None bytes is are = are
all_with (Some b) bytes is are = All-cons (λ byte. IsTrue (is_character byte)) b bytes (is b refl) are

pub codes_are_characters : (cs : List ℕ) → AreCharacters (codes_of cs)
codes_are_characters [] = All-nil (λ byte. IsTrue (is_character byte))
codes_are_characters (c ∷ cs) = all_with (code_of c) (codes_of cs) (character_of_code c) (codes_are_characters cs)

-- Characters as the host's codes (our profile; code page 037).
use Rattle.std.specs.Prelude.{ℕ, ◌==◌, ◌&&◌, not, Bool, IsTrue, List, All, filter_map}
use Rattle.codes3270.specs.CodePage.{code_of}
use Rattle.codes3270.specs.Storable.{is_storable}

-- whether a byte is a character that a cell can hold, and not a null
abbrev pub is_character : ℕ → Bool
is_character byte = is_storable byte && not (byte == 0)

abbrev pub AreCharacters : List ℕ → Type 0
AreCharacters bytes = All (λ byte. IsTrue (is_character byte)) bytes

-- the codes of a text's characters; a character without a code is left out
abbrev pub codes_of : List ℕ → List ℕ
codes_of characters = filter_map code_of characters

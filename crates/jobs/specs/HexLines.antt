-- The lines of a text, and the bytes of a line in hexadecimal (our profile).
use Rattle.std.specs.Prelude.{ℕ, ◌==◌, List, [], ◌∷◌, ◌++◌, Option, Some, None, Result, Ok, Err, if◌then◌else◌}
use Rattle.std.specs.List.{onto_first, slice_split}
use Rattle.hex.specs.Hex.{decode_of}
use Rattle.hex.specs.declared.error.FromHexError.{FromHexError}
use Rattle.presentation.specs.Glyph.{blank}
use Rattle.term_core.specs.ScreenText.{newline}

-- the lines of a text, without their newlines; the last line may lack one
abbrev pub lines_of : List ℕ → List (List ℕ)
lines_of [] = []
lines_of (char ∷ text) = if char == newline then [] ∷ lines_of text else onto_first char (lines_of text)

-- the words of a line, separated by one blank each; a word may be empty
abbrev pub words_of : List ℕ → List (List ℕ)
words_of line = slice_split (λ char. char == blank) line

abbrev pub if_decoded : Result (List ℕ) FromHexError → Option (List ℕ)
if_decoded (Ok bytes) = Some bytes
if_decoded (Err fault) = None

-- the bytes of a word of pairs of hexadecimal digits, in either case
abbrev pub bytes_of_word : List ℕ → Option (List ℕ)
bytes_of_word word = if_decoded (decode_of word)

-- bytes and the bytes after them; None unless both are given
abbrev pub joined : Option (List ℕ) → Option (List ℕ) → Option (List ℕ)
joined None back = None
joined (Some front) None = None
joined (Some front) (Some back) = Some (front ++ back)

abbrev pub bytes_of_words : List (List ℕ) → Option (List ℕ)
bytes_of_words [] = Some []
bytes_of_words (word ∷ words) = joined (bytes_of_word word) (bytes_of_words words)

-- the bytes of a line; None if it isn't hexadecimal
unfoldable pub bytes_of_line : List ℕ → Option (List ℕ)
bytes_of_line line = bytes_of_words (words_of line)

-- The parts of a line, and decimal numbers (our profile).
use Rattle.std.specs.Prelude.{ℕ, ◌==◌, ◌-◌, ◌^◌, ◌&&◌, not, min, Bool, List, length, Option, Some, None, if◌then◌else◌}
use Rattle.std.specs.List.{after_first}
use Rattle.std.specs.Str.{all_ascii_digits}
use Rattle.std.specs.Str.Parse.{digits_value}
use Rattle.presentation.specs.Glyph.{blank}

-- the text after the first blank; empty if there is no blank
abbrev pub behind : List ℕ → List ℕ
behind text = after_first (λ char. char == blank) text

-- whether a word consists of decimal digits, at least one
abbrev pub is_digits : List ℕ → Bool
is_digits word = not (length word == 0) && all_ascii_digits word

-- the largest number in 64 bits
abbrev pub largest_number : ℕ
largest_number = 2 ^ 64 - 1

-- the value of a decimal number of any length, at most `largest_number`; None if the word isn't decimal digits
unfoldable pub number_of : List ℕ → Option ℕ
number_of word = if is_digits word then Some (min (digits_value 10 word) largest_number) else None

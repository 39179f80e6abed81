-- Texts for the last row of a screen (our profile).
use Rattle.std.specs.Prelude.{◌≡◌, ◌≤◌, ◌&&◌, not, nat_lt, ℕ, Bool, true, List, [], ◌∷◌, length, take, Option, Some, None, unwrap_or, if◌then◌else◌, chars}
use Rattle.std.specs.Char.{encode_utf8}
use Rattle.std.specs.List.{list_all, flat_map}
use Rattle.std.specs.Option.{option_and_then}
use Rattle.codes3270.specs.CodePage.{code_of, character_of}

-- the characters of the longest last row of a 3278, that of 132 columns, after its attribute
abbrev pub longest_text : ℕ
longest_text = 131

-- whether this is the code of a character of code page 037
abbrev pub is_graphic : ℕ → Bool
is_graphic code = not (nat_lt code 0x40) && nat_lt code 0xFF

-- whether codes are such a text: at most 131 characters of code page 037
abbrev pub is_text : List ℕ → Bool
is_text codes = not (nat_lt longest_text (length codes)) && list_all is_graphic codes

-- the codes, if they are such a text
abbrev pub text_of_codes : List ℕ → Option (List ℕ)
text_of_codes codes = if is_text codes then Some codes else None

-- a code before other codes; None unless both are given
abbrev pub code_before : Option ℕ → Option (List ℕ) → Option (List ℕ)
code_before None codes = None
code_before (Some code) None = None
code_before (Some code) (Some codes) = Some (code ∷ codes)

-- the characters' codes in code page 037; None unless each has one
abbrev pub coded : List ℕ → Option (List ℕ)
coded [] = Some []
coded (char ∷ text) = code_before (code_of char) (coded text)

-- the codes of a text in UTF-8; None unless it has at most 131 characters, all in code page 037
unfoldable pub text_of : List ℕ → Option (List ℕ)
text_of text = option_and_then text_of_codes (coded (chars text))

-- the character that is printed for a code: a blank if the code is of none
abbrev pub shown : ℕ → ℕ
shown code = unwrap_or (character_of code) 0x20

-- a code's character in UTF-8
abbrev pub spelt : ℕ → List ℕ
spelt code = encode_utf8 (shown code)

-- the text of codes, in UTF-8
abbrev pub text_from : List ℕ → List ℕ
text_from codes = flat_map spelt codes

-- Holds if the first `size` bytes are the codes of a text.
pub record IsKept (codes : List ℕ) (size : ℕ) : Type 0 where
  pub text : is_text (take size codes) ≡ true
  pub fits : size ≤ length codes

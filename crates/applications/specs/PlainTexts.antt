-- How a text is written in the characters of code page 037 (our profile; decompositions, marks and normalization form
-- C: The Unicode Standard, sections 3.7 and 3.11, and its table of general categories). A text is a list of bytes in
-- UTF-8, a character its code point.
use Rattle.std.specs.Prelude.{ℕ, ◌==◌, ◌||◌, Bool, not, List, chars, codes, encode_utf8, filter, flat_map, length, Option, Some, None, is_some, unwrap_or, if◌then◌else◌}
use Rattle.std.specs.Char.{is_control}
use Rattle.std.specs.Int.{is_in_range}
use Rattle.std.specs.List.{list_all, list_any}
use Rattle.std.specs.Option.{option_or}
use Rattle.unicode_normalization.specs.Decompose.{decompose}
use Rattle.unicode_normalization.specs.Forms.{Nfkd, nfc}
use Rattle.unicode_normalization.specs.Lookups.{is_combining_mark}
use Rattle.codes3270.specs.CodePage.{code_of}

-- whether code page 037 has the character
abbrev pub has_code : ℕ → Bool
has_code character = is_some (code_of character)

-- whether some character of a text has no code
abbrev pub lacks_code : List ℕ → Bool
lacks_code text = list_any (λ character. not (has_code character)) (chars text)

-- ---- characters that Unicode doesn't decompose

-- the plain form of punctuation
abbrev pub punctuation : ℕ → Option (List ℕ)
punctuation character =
    if is_in_range 0x2018 0x201B character then Some (codes "'")  -- single quotation marks
    else if is_in_range 0x201C 0x201F character then Some (codes "\"")  -- double quotation marks
    else if character == 0x2039 then Some (codes "<")  -- single angle quotation marks
    else if character == 0x203A then Some (codes ">")
    else if character == 0x02BC then Some (codes "'")  -- apostrophe
    else if character == 0x2032 then Some (codes "'")  -- prime
    else if is_in_range 0x2010 0x2015 character then Some (codes "-")  -- hyphens and dashes
    else if character == 0x2212 then Some (codes "-")  -- minus sign
    else if character == 0x2044 then Some (codes "/")  -- fraction slash
    else if character == 0x1680 then Some (codes " ")  -- space mark
    else if is_in_range 0x2028 0x2029 character then Some (codes " ")  -- line and paragraph separators
    else if is_in_range 0x200B 0x200F character then Some (codes "")  -- zero width space, joiners, direction marks
    else if character == 0x2060 then Some (codes "")  -- word joiner
    else if character == 0xFEFF then Some (codes "")  -- byte order mark
    else None

-- the plain form of a letter of ISO 8859-2, 8859-9 or 8859-15
abbrev pub letter : ℕ → Option (List ℕ)
letter character =
    if character == 0x0110 then Some (codes "D")
    else if character == 0x0111 then Some (codes "d")
    else if character == 0x0131 then Some (codes "i")
    else if character == 0x0141 then Some (codes "L")
    else if character == 0x0142 then Some (codes "l")
    else if character == 0x0152 then Some (codes "OE")
    else if character == 0x0153 then Some (codes "oe")
    else None

-- the plain form of a character that Unicode doesn't decompose
abbrev pub substitute : ℕ → Option (List ℕ)
substitute character = option_or (punctuation character) (letter character)

-- ---- any character

-- whether a part of a decomposition can be written: it has a code or a substitute, or is a combining mark (an accent)
abbrev pub is_writable : ℕ → Bool
is_writable part = has_code part || (is_combining_mark part || is_some (substitute part))

-- what is written for a part of a decomposition: nothing for a combining mark
abbrev pub written : ℕ → List ℕ
written part = if has_code part then encode_utf8 part else unwrap_or (substitute part) (codes "")

-- The plain form of a character: the character itself if it has a code; a blank for a control character; the parts of
-- its compatibility decomposition if each can be written; else a question mark. A character without a decomposition is
-- its own part.
abbrev pub plain_form : ℕ → List ℕ
plain_form character =
    if has_code character then encode_utf8 character
    else if is_control character then codes " "
    else if list_all is_writable (decompose Nfkd character) then flat_map written (decompose Nfkd character)
    else codes "?"

-- ---- a text

-- The plain form of a text: the text itself if all its characters have codes; else letters and accents are composed
-- first (normalization form C), and then each character is replaced by its plain form.
abbrev pub plain_text : List ℕ → List ℕ
plain_text text = if lacks_code text then flat_map plain_form (nfc (chars text)) else text

-- the number of characters of a text that have no code
abbrev pub count_without_code : List ℕ → ℕ
count_without_code text = length (filter (λ character. not (has_code character)) (chars text))

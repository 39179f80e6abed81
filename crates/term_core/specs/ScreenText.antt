-- The screen as text (our profile).
use Rattle.std.specs.Prelude.{ℕ, ◌+◌, ◌*◌, ◌/◌, ◌%◌, ◌==◌, Bool, true, false, List, [], ◌∷◌, ◌++◌, if◌then◌else◌, codes, slice_index, replicate, suc, zero}
use Rattle.std.specs.List.{flat_map}
use Rattle.std.specs.Char.{encode_utf8}
use Rattle.std.specs.Fmt.{decimal}
use Rattle.codes3270.specs.Aid.{byte_of_aid}
use Rattle.codes3270.specs.declared.attribute.Cell.{Cell}
use Rattle.datastream.specs.Screen.{Screen}
use Rattle.presentation.specs.Glyph.{glyph_at, blank}
use Rattle.keyboard.specs.State.{Keyboard}
use Rattle.keyboard.specs.Names.{lock_name}
use Rattle.presentation.specs.Sizes.{SizedScreen}
use Rattle.term_core.specs.State.{Station}

abbrev pub newline : ℕ
newline = 10

-- the characters that are printed for `count` cells, from an address on
unfoldable pub glyphs : List Cell → ℕ → ℕ → List ℕ
glyphs cells at zero = []
glyphs cells at (suc count) = glyph_at cells at ∷ glyphs cells (at + 1) count

-- a character before a trimmed text: a blank is dropped if no text follows
abbrev pub before_trimmed : ℕ → List ℕ → List ℕ
before_trimmed char [] = if char == blank then [] else char ∷ []
before_trimmed char (next ∷ text) = char ∷ next ∷ text

-- a text without the blanks at its end
abbrev pub trimmed : List ℕ → List ℕ
trimmed [] = []
trimmed (char ∷ text) = before_trimmed char (trimmed text)

-- the line for a row with these characters, in UTF-8
abbrev pub line_of : List ℕ → List ℕ
line_of row = flat_map encode_utf8 (trimmed row) ++ newline ∷ []

-- the line for the row with an index, in rows of `columns` cells
abbrev pub line : ℕ → List Cell → ℕ → List ℕ
line columns cells row = line_of (glyphs cells (row * columns) columns)

-- the lines for the first `count` rows
unfoldable pub lines : ℕ → List Cell → ℕ → List ℕ
lines columns cells zero = []
lines columns cells (suc count) = lines columns cells count ++ line columns cells count

-- the lines for all rows
abbrev pub all_lines : SizedScreen → List ℕ
all_lines sized = lines sized.size.columns sized.screen.cells sized.size.rows

-- the word after the lock's name in insert mode
abbrev pub insert_word : Bool → List ℕ
insert_word true = codes " insert"
insert_word false = []

-- a byte as two hexadecimal digits
abbrev pub hexadecimal_digit : ℕ → ℕ
hexadecimal_digit value = slice_index (codes "0123456789ABCDEF") value

abbrev pub hexadecimal : ℕ → List ℕ
hexadecimal byte = hexadecimal_digit (byte / 16) ∷ hexadecimal_digit (byte % 16) ∷ []

-- the line with the cursor address, the keyboard lock and the AID
abbrev pub status_line : Screen → Keyboard → List ℕ
status_line screen keyboard =
    codes "cursor " ++ decimal screen.cursor ++ codes " lock " ++ lock_name keyboard.lock
    ++ insert_word keyboard.inserting
    ++ codes " aid " ++ hexadecimal (byte_of_aid screen.aid) ++ newline ∷ []

abbrev pub screen_text : Station → List ℕ
screen_text station = all_lines station.screen ++ status_line station.screen.screen station.keyboard

-- ---- for private functions: the same text, a character at a time; blanks wait until another character comes

-- what a character adds to a line: nothing if it is a blank, else the blanks that wait and itself
abbrev pub let_out : ℕ → ℕ → List ℕ
let_out waiting glyph = if glyph == blank then [] else replicate waiting blank ++ glyph ∷ []

-- the number of blanks that wait after a character
abbrev pub waiting_behind : ℕ → ℕ → ℕ
waiting_behind waiting glyph = if glyph == blank then waiting + 1 else 0

-- The characters of a picture are graphic.
use Rattle.std.proofs.Common.{◌≡◌, ℕ, ◌+◌, ◌-◌, ◌==◌, ◌&&◌, nat_lt, nat_le, Bool, true, false, List, [], ◌∷◌, ◌++◌, length, map, take, get_or, Option, Some, None, if◌then◌else◌, suc, zero, arith, refl, ◌∙◌}
use Rattle.std.specs.Prelude.{unwrap_or, slice_index}
use Rattle.std.specs.List.{flat_map, list_all, range_with_len}
use Rattle.std.specs.Int.{is_in_range}
use Rattle.std.proofs.lemmas.Bool.{and_parts, and_from, leb-true, le-leb, ltb-true, lt-ltb}
use Rattle.std.proofs.lemmas.List.Folds.{list_all-append}
use Rattle.codes3270.proofs.Tables.{passes_at}
use Rattle.codes3270.specs.CodePage.{characters, character_of}
use Rattle.codes3270.specs.declared.attribute.Cell.{Cell}
use Rattle.codes3270.specs.declared.attribute.Cell.TheVariants.{Char, Attr}
use Rattle.datastream.specs.Screen.{attribute_over}
use Rattle.presentation.specs.Glyph.{blank, glyph_at, glyph_of, is_hidden}
use Rattle.tty.specs.declared.status.Trouble.{Trouble}
use Rattle.keyboard.specs.State.{Keyboard}
use Rattle.tty.specs.declared.place.Place.{Place}
use Rattle.tty.specs.declared.picture.PictureCell.{PictureCell}
use Rattle.tty.specs.Pictures.{plain, is_graphic, has_graphic}
use Rattle.tty.specs.Painting.{page_cells, painted_at, screen_cells, with_status}
use Rattle.tty.specs.StatusRow.{connection_word, reason, seconds_text, signs, keys_hint, letter_at, position_text, in_columns, status_cells}
use Rattle.tty.specs.declared.status.StatusPlace.{StatusPlace}
use Rattle.tty.specs.declared.status.StatusPlace.TheVariants as status

all_mapped : (f : ℕ → PictureCell) (from count : ℕ) → ((at : ℕ) → has_graphic (f at) ≡ true) → list_all has_graphic (map f (range_with_len from count)) ≡ true
all_mapped f from zero each = refl
all_mapped f from (suc count) each =
    and_from (has_graphic (f from)) (list_all has_graphic (map f (range_with_len (from + 1) count))) (each from) (all_mapped f (from + 1) count each)

all_joined : (front back : List PictureCell) → list_all has_graphic front ≡ true → list_all has_graphic back ≡ true → list_all has_graphic (front ++ back) ≡ true
all_joined front back first second =
    list_all-append has_graphic front back ∙ and_from (list_all has_graphic front) (list_all has_graphic back) first second

-- ---- the screen

character_by : (in_range : Bool) (code : ℕ) → is_in_range 0x40 0xFE code ≡ in_range
    → is_graphic (unwrap_or (if in_range then Some (slice_index characters (code - 0x40)) else None) blank) ≡ true
character_by true code e =
    let parts = and_parts (nat_le 0x40 code) (nat_le code 0xFE) e in
    let low = leb-true 0x40 code parts.0 in
    let high = leb-true code 0xFE parts.1 in
    passes_at (λ (k : ℕ). is_graphic (slice_index characters k)) 191 (code - 0x40) refl (omega (arith, low, high))
character_by false code e = refl

code_by : (dup fm : Bool) (code : ℕ) → is_graphic (if dup then 0x2A else if fm then 0x3B else unwrap_or (character_of code) blank) ≡ true
code_by true fm code = refl
code_by false true code = refl
code_by false false code = character_by (is_in_range 0x40 0xFE code) code refl

shown_by : (hidden : Bool) (cell : Cell) → is_graphic (if hidden then blank else glyph_of cell) ≡ true
shown_by true cell = refl
shown_by false (Char code) = code_by (code == 0x1C) (code == 0x1E) code
shown_by false (Attr attribute) = refl

drawn_by : (is_soft : Bool) (glyph : ℕ) → is_graphic glyph ≡ true → is_graphic (if is_soft then 0x2D else glyph) ≡ true
drawn_by true glyph is = refl
drawn_by false glyph is = is

screen_graphic : (cells : List Cell) → list_all has_graphic (screen_cells cells) ≡ true
screen_graphic cells =
    all_mapped (painted_at cells) 0 (length cells) (λ at. drawn_by (glyph_at cells at == 0xAD) (glyph_at cells at)
    (shown_by (is_hidden (attribute_over cells at)) (get_or cells at (Char 0))))

-- ---- the status row

byte_graphic : (byte : ℕ) → nat_lt 0x20 byte ≡ true → nat_lt byte 0x7F ≡ true → is_graphic byte ≡ true
byte_graphic byte low high =
    let above = ltb-true 0x20 byte low in
    let below = ltb-true byte 0x7F high in
    let within : nat_lt byte 256 ≡ true = lt-ltb byte 256 (omega (arith, below)) in
    let from : nat_le 0x20 byte ≡ true = le-leb 0x20 byte (omega (arith, above)) in
    rw (within, from, high) refl

letter_by : (above below : Bool) (byte : ℕ) → nat_lt 0x20 byte ≡ above → nat_lt byte 0x7F ≡ below → is_graphic (if above && below then byte else 0x20) ≡ true
letter_by false below byte low high = refl
letter_by true false byte low high = refl
letter_by true true byte low high = byte_graphic byte low high

pub text_graphic : (count : ℕ) (text : List ℕ) → list_all has_graphic (in_columns count text) ≡ true
text_graphic count text =
    all_mapped (λ (column : ℕ). plain (letter_at text column)) 0 count
    (λ column. letter_by (nat_lt 0x20 (get_or text column 0x20)) (nat_lt (get_or text column 0x20) 0x7F) (get_or text column 0x20) refl refl)

status_graphic : (columns : ℕ) (keyboard : Keyboard) (connected : Bool) (trouble : Option Trouble) (lu : List ℕ) (held : Bool) (seconds : ℕ) (cursor : Place)
    → list_all has_graphic (status_cells columns keyboard connected trouble lu held seconds cursor) ≡ true
status_graphic columns keyboard connected trouble lu held seconds cursor =
    let a = in_columns 16 (connection_word connected) in
    let b = in_columns 13 (reason keyboard.lock trouble) in
    let c = in_columns 8 (signs keyboard.inserting held) in
    let d = in_columns 15 lu in
    let e = in_columns 17 keys_hint in
    let f = in_columns (columns - 72) (position_text cursor) in
    let one = all_joined a b (text_graphic 16 (connection_word connected)) (text_graphic 13 (reason keyboard.lock trouble)) in
    let t = in_columns 3 (seconds_text seconds) in
    let timed = all_joined (a ++ b) t one (text_graphic 3 (seconds_text seconds)) in
    let two = all_joined ((a ++ b) ++ t) c timed (text_graphic 8 (signs keyboard.inserting held)) in
    let three = all_joined (((a ++ b) ++ t) ++ c) d two (text_graphic 15 lu) in
    let four = all_joined ((((a ++ b) ++ t) ++ c) ++ d) e three (text_graphic 17 keys_hint) in
    all_joined (((((a ++ b) ++ t) ++ c) ++ d) ++ e) f four (text_graphic (columns - 72) (position_text cursor))

-- the first cells of a screen
all_first : (count : ℕ) (cells : List PictureCell) → list_all has_graphic cells ≡ true → list_all has_graphic (take count cells) ≡ true
all_first zero [] all = refl
all_first zero (cell ∷ cells) all = refl
all_first (suc count) [] all = refl
all_first (suc count) (cell ∷ cells) all =
    let both = and_parts (has_graphic cell) (list_all has_graphic cells) all in
    and_from (has_graphic cell) (list_all has_graphic (take count cells)) both.0 (all_first count cells both.1)

placed_graphic : (place : StatusPlace) (columns : ℕ) (screen row : List PictureCell) → list_all has_graphic screen ≡ true → list_all has_graphic row ≡ true
    → list_all has_graphic (with_status place columns screen row) ≡ true
placed_graphic status.Below columns screen row first second = all_joined screen row first second
placed_graphic status.Over columns screen row first second =
    all_joined (take (length screen - columns) screen) row (all_first (length screen - columns) screen first) second
placed_graphic status.Nowhere columns screen row first second = first

pub picture_graphic : (place : StatusPlace) (columns : ℕ) (cells : List Cell) (keyboard : Keyboard) (connected : Bool) (trouble : Option Trouble) (lu : List ℕ) (held : Bool) (seconds : ℕ) (cursor : Place)
    → list_all has_graphic (with_status place columns (screen_cells cells) (status_cells columns keyboard connected trouble lu held seconds cursor)) ≡ true
picture_graphic place columns cells keyboard connected trouble lu held seconds cursor =
    placed_graphic place columns (screen_cells cells) (status_cells columns keyboard connected trouble lu held seconds cursor) (screen_graphic cells)
    (status_graphic columns keyboard connected trouble lu held seconds cursor)

-- ---- pages

pages_graphic : (f : ℕ → List PictureCell) → ((row : ℕ) → list_all has_graphic (f row) ≡ true) → (from count : ℕ)
    → list_all has_graphic (flat_map f (range_with_len from count)) ≡ true
pages_graphic f each from zero = refl
pages_graphic f each from (suc count) =
    all_joined (f from) (flat_map f (range_with_len (from + 1) count)) (each from) (pages_graphic f each (from + 1) count)

pub page_graphic : (rows columns : ℕ) (lines : List (List ℕ)) → list_all has_graphic (page_cells rows columns lines) ≡ true
page_graphic rows columns lines =
    pages_graphic (λ (row : ℕ). in_columns columns (get_or lines row [])) (λ row. text_graphic columns (get_or lines row [])) 0 rows

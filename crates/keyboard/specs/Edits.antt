-- What typing and erasing do to a field's text from the cursor on (GA23-0059-07 on keyboard operation). That an edit on
-- an unformatted screen ends at the last cell, and in which order refusals are tested, is our profile.
use Rattle.std.specs.Prelude.{◌+◌, ◌-◌, ◌%◌, ◌==◌, ◌&&◌, ◌||◌, not, ℕ, Bool, true, false, if◌then◌else◌, List, [], ◌∷◌, ◌++◌, length, take, drop, replicate, slice_index_or, slice_set, Option, Some, None, option_map, Result, Ok, Err, nat_le}
use Rattle.std.specs.List.{list_all}
use Rattle.codes3270.specs.CodePage.{code_of}
use Rattle.codes3270.specs.declared.attribute.Cell.{Cell}
use Rattle.codes3270.specs.declared.attribute.Cell.TheVariants.{Char}
use Rattle.codes3270.specs.declared.attribute.Attr.{Attr as Attribute}
use Rattle.datastream.specs.Screen.{Screen, is_char, ring, text_before_attribute, attribute_in, attribute_over}
use Rattle.datastream.specs.Meaning.{across, modified}
use Rattle.keyboard.specs.declared.key.Refusal.{Refusal}
use Rattle.keyboard.specs.declared.key.Refusal.TheVariants.{NoCode, Protected, NotNumeric, NoRoom}
use Rattle.keyboard.specs.Places.{is_free_at, next_start, governing_place}

-- the cells that an edit at an address can reach: all, round the end; on an unformatted screen, those up to the last
abbrev pub reach : List Cell → ℕ → List Cell
reach cells at = if list_all is_char cells then drop at cells else ring at cells

-- the characters from an address to the end of its field
abbrev pub text_from : List Cell → ℕ → List ℕ
text_from cells at = text_before_attribute (reach cells at)

-- the cells with the first `count` characters of a text stored from an address on, wrapping round at the end
abbrev pub laid : ℕ → ℕ → List ℕ → List Cell → List Cell
laid at count text cells =
    across at count (λ place old. Char (slice_index_or text ((place + length cells - at) % length cells) 0)) cells

-- the cells with MDT on in the attribute at an address, if one is given
abbrev pub marked_at : Option ℕ → List Cell → List Cell
marked_at None cells = cells
marked_at (Some place) cells = slice_set cells place (modified (slice_index_or cells place (Char 0)))

-- the screen with a text stored from the cursor on, and MDT on in the cursor's field
abbrev pub rewritten : List ℕ → Screen → Screen
rewritten text screen =
    let cells = laid screen.cursor (length text) text screen.cells in
    record screen { cells = marked_at (governing_place cells screen.cursor) cells }

-- a text without its first null, if it has one: `y ++ 0 ∷ z` gives `y ++ z`
abbrev pub without_null : List ℕ → Option (List ℕ)
without_null [] = None
without_null (byte ∷ text) = if byte == 0 then Some text else option_map (λ rest. byte ∷ rest) (without_null text)

-- the text after a character typed before it takes the room of the first character or, in insert mode, first null
abbrev pub with_room : Bool → List ℕ → Option (List ℕ)
with_room false text = Some (drop 1 text)
with_room true text = without_null text

-- the text without its first character and with a null at its end: `d ∷ y` gives `y ++ 0 ∷ []`
abbrev pub deleted : List ℕ → List ℕ
deleted text = drop 1 text ++ 0 ∷ []

-- the part of a text that is in the row of its first character
abbrev pub within_row : ℕ → ℕ → List ℕ → List ℕ
within_row columns at text = take (columns - at % columns) text

-- the address to which the cursor moves after typing: `next`, the next cell, if it has no attribute; the next start, if
-- it has that of an autoskip field (protected and numeric); the cell after it, if it has another attribute
abbrev pub past_attribute : Option Attribute → List Cell → ℕ → ℕ
past_attribute None cells next = next
past_attribute (Some attribute) cells next =
    if attribute.protected && attribute.numeric then next_start cells next else (next + 1) % length cells

-- the screen with the cursor moved on after a character was typed
abbrev pub advanced : Screen → Screen
advanced screen =
    let cells = screen.cells in
    let next = (screen.cursor + 1) % length cells in
    record screen { cursor = past_attribute (attribute_in (slice_index_or cells next (Char 0))) cells next }

-- whether a numeric field accepts a character: `0` to `9`, `.` and `-`
abbrev pub is_numeric_letter : ℕ → Bool
is_numeric_letter letter = (nat_le 0x30 letter && nat_le letter 0x39) || letter == 0x2E || letter == 0x2D

-- whether a field with this attribute is numeric; cells without a field aren't
abbrev pub wants_numbers : Option Attribute → Bool
wants_numbers None = false
wants_numbers (Some attribute) = attribute.numeric

-- the screen after a character was stored before the text for which there is room, or the refusal if there is no room
abbrev pub typed_before : ℕ → Option (List ℕ) → Screen → Result Screen Refusal
typed_before byte None screen = Err NoRoom
typed_before byte (Some rest) screen = Ok (advanced (rewritten (byte ∷ rest) screen))

-- the screen after a character with this code was typed, or the refusal
abbrev pub typed_code : Bool → ℕ → Option ℕ → Screen → Result Screen Refusal
typed_code inserting letter None screen = Err NoCode
typed_code inserting letter (Some byte) screen =
    let cells = screen.cells in
    let at = screen.cursor in
    if not (is_free_at cells at) then Err Protected
    else if wants_numbers (attribute_over cells at) && not (is_numeric_letter letter) then Err NotNumeric
    else typed_before byte (with_room inserting (text_from cells at)) screen

-- the screen after a character was typed at the cursor, or the refusal
abbrev pub typed : Bool → ℕ → Screen → Result Screen Refusal
typed inserting letter screen = typed_code inserting letter (code_of letter) screen

-- the screen with another text from the cursor on, or the refusal if the cell is protected; the cursor stays
abbrev pub changed : List ℕ → Screen → Result Screen Refusal
changed text screen = if is_free_at screen.cells screen.cursor then Ok (rewritten text screen) else Err Protected

-- Delete: the screen without the character at the cursor; the rest of its field, within the cursor's row, moves left
abbrev pub with_deleted : ℕ → Screen → Result Screen Refusal
with_deleted columns screen =
    changed (deleted (within_row columns screen.cursor (text_from screen.cells screen.cursor))) screen

-- Erase EOF: the screen with nulls from the cursor to the end of its field
abbrev pub with_field_erased : Screen → Result Screen Refusal
with_field_erased screen = changed (replicate (length (text_from screen.cells screen.cursor)) 0) screen

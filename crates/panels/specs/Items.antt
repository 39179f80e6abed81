-- Names and items of a panel text (our profile).
use Rattle.std.specs.Prelude.{◌≡◌, ℕ, ◌==◌, ℤ, pos, ◌+ℤ◌, ◌-ℤ◌, ◌*ℤ◌, ◌≤ℤ◌, int_le, Bool, ◌&&◌, ◌||◌, List, [], length, is_none, unwrap_or, chars}
use Rattle.std.specs.List.{list_any, list_all}
use Rattle.std.specs.Int.{is_in_range}
use Rattle.codes3270.specs.CodePage.{code_of}
use Rattle.codes3270.specs.Size.{ScreenSize}
use Rattle.panels.specs.Size.{item_rows, message_start}
use Rattle.panels.specs.declared.extent.Extent.{Extent}
use Rattle.panels.specs.Draft.{DraftItem}

-- whether a name has 1 to 16 letters, each of which is allowed
abbrev pub is_name : (ℕ → Bool) → List ℕ → Bool
is_name is_letter name = is_in_range 1 16 (length name) && list_all is_letter name

abbrev pub is_digit : ℕ → Bool
is_digit letter = is_in_range 0x30 0x39 letter

-- `A` to `Z` and digits
abbrev pub is_panel_letter : ℕ → Bool
is_panel_letter letter = is_in_range 0x41 0x5A letter || is_digit letter

-- `a` to `z`, digits and `_`
abbrev pub is_field_letter : ℕ → Bool
is_field_letter letter = is_in_range 0x61 0x7A letter || is_digit letter || letter == 0x5F

abbrev pub is_panel_name : List ℕ → Bool
is_panel_name name = is_name is_panel_letter name

abbrev pub is_field_name : List ℕ → Bool
is_field_name name = is_name is_field_letter name

-- the buffer address of a row and a column of a screen, both numbered from 1 on
abbrev pub first_of : ScreenSize → ℤ → ℤ → ℤ
first_of size row column = ((row -ℤ pos 1) *ℤ pos size.columns) +ℤ (column -ℤ pos 1)

-- how many rows below that of its table an item is: none, or one for each copy before it
abbrev pub rows_below : DraftItem → ℕ
rows_below item = unwrap_or item.copy 0

-- the address of an item's first character; its attribute is before it
abbrev pub first_cell : ScreenSize → DraftItem → ℤ
first_cell size item = first_of size (item.row +ℤ pos (rows_below item)) item.column

abbrev pub is_between : ℤ → ℤ → ℤ → Bool
is_between low high value = int_le low value && int_le value high

-- whether an item with its first character at an address has its attribute on the screen, has a character, and ends
-- before the message row
abbrev pub is_above_message : ScreenSize → ℤ → ℤ → Bool
is_above_message screen_size first size = int_le (pos 1) first
    && is_between (pos 1) (pos (message_start screen_size) -ℤ first) size

-- whether the item's row is above that of messages, and its column on the screen
abbrev pub has_row : ScreenSize → DraftItem → Bool
has_row size item = is_between (pos 1) (pos (item_rows size) -ℤ pos (rows_below item)) item.row

abbrev pub has_column : ScreenSize → DraftItem → Bool
has_column size item = is_between (pos 1) (pos size.columns) item.column

-- whether the item's row and column are on a screen of this size, above the message row
abbrev pub is_in_rows : ScreenSize → DraftItem → Bool
is_in_rows size item = has_row size item && has_column size item

-- whether the item, with its attribute, lies above the message row
abbrev pub is_on_screen : ScreenSize → DraftItem → Bool
is_on_screen size item = is_in_rows size item && is_above_message size (first_cell size item) item.size

-- whether the item lies above the message row, and its fill is no longer than it
abbrev pub is_in_place : ScreenSize → DraftItem → Bool
is_in_place size item = is_on_screen size item && int_le (pos (length (chars item.fill))) item.size

-- holds if the cell is the item's attribute or one of its characters
abbrev pub HasCell : ScreenSize → DraftItem → ℤ → Type 0
HasCell size item cell = (first_cell size item ≤ℤ (cell +ℤ pos 1))
    × ((cell +ℤ pos 1) ≤ℤ (first_cell size item +ℤ item.size))

-- holds if the extent has the item's address and its number of characters
abbrev pub IsExtentOf : ScreenSize → DraftItem → Extent → Type 0
IsExtentOf size item extent = (pos extent.first ≡ first_cell size item) × (pos extent.length ≡ item.size)

abbrev pub has_no_code : ℕ → Bool
has_no_code character = is_none (code_of character)

-- whether some character of the item's text, fill or label has no code
abbrev pub lacks_code : DraftItem → Bool
lacks_code item = list_any has_no_code (chars (unwrap_or item.text [])) || list_any has_no_code (chars item.fill)
    || list_any has_no_code (chars item.label)

-- The picture of a screen, a keyboard and a status (our profile).
use Rattle.std.specs.Prelude.{ℕ, ◌+◌, ◌-◌, ◌*◌, ◌/◌, ◌%◌, ◌==◌, if◌then◌else◌, Bool, List, [], ◌++◌, map, length, max, min, take, Option, get_or, slice_index_or}
use Rattle.std.specs.List.{flat_map, range_with_len}
use Rattle.codes3270.specs.declared.attribute.Cell.{Cell}
use Rattle.codes3270.specs.declared.attribute.Cell.TheVariants.{Char}
use Rattle.datastream.specs.Screen.{attribute_over}
use Rattle.presentation.specs.Glyph.{glyph_at}
use Rattle.presentation.specs.Sizes.{SizedScreen}
use Rattle.keyboard.specs.State.{Keyboard}
use Rattle.tty.specs.declared.place.Place.{Place}
use Rattle.tty.specs.declared.picture.PictureCell.{PictureCell}
use Rattle.tty.specs.Looks.{look_of}
use Rattle.tty.specs.Pictures.{PictureParts, origin}
use Rattle.tty.specs.StatusRow.{in_columns, status_cells}
use Rattle.tty.specs.declared.status.StatusPlace.{StatusPlace}
use Rattle.tty.specs.declared.status.StatusPlace.TheVariants as status
use Rattle.tty.specs.declared.status.Trouble.{Trouble}

-- the character that is drawn for one: a hyphen for the soft hyphen, to which browsers and some terminals give no width
abbrev pub drawn_as : ℕ → ℕ
drawn_as glyph = if glyph == 0xAD then 0x2D else glyph

-- the picture's cell for an address: the character that is drawn for it, in a hidden field a blank, and its look
abbrev pub painted_at : List Cell → ℕ → PictureCell
painted_at cells at = record {
  glyph = drawn_as (glyph_at cells at);
  look = look_of (slice_index_or cells at (Char 0)) (attribute_over cells at);
}

abbrev pub screen_cells : List Cell → List PictureCell
screen_cells cells = map (painted_at cells) (range_with_len 0 (length cells))

-- the place of an address in rows of this many columns
abbrev pub place_of : ℕ → ℕ → Place
place_of columns at = record { row = at / columns; column = at % columns }

-- how many rows the status row adds
abbrev pub status_rows : StatusPlace → ℕ
status_rows status.Below = 1
status_rows status.Over = 0
status_rows status.Nowhere = 0

-- the rows of a screen with this many columns, and the status row
abbrev pub with_status : StatusPlace → (columns : ℕ) → (screen row : List PictureCell) → List PictureCell
with_status status.Below columns screen row = screen ++ row
with_status status.Over columns screen row = take (length screen - columns) screen ++ row
with_status status.Nowhere columns screen row = screen

-- the picture: the rows of the screen, and the status row at its place
abbrev pub picture_of : StatusPlace → SizedScreen → Keyboard → Bool → Option Trouble → List ℕ → Bool → ℕ → PictureParts
picture_of place sized keyboard connected trouble lu held seconds =
    let cursor : Place = place_of sized.size.columns sized.screen.cursor in
    record {
      rows = sized.size.rows + status_rows place;
      columns = sized.size.columns;
      cells = with_status place sized.size.columns (screen_cells sized.screen.cells)
          (status_cells sized.size.columns keyboard connected trouble lu held seconds cursor);
      cursor = cursor;
    }

-- the first rows and columns of a page of text
abbrev pub page_cells : (rows columns : ℕ) → List (List ℕ) → List PictureCell
page_cells rows columns lines = flat_map (λ row. in_columns columns (get_or lines row [])) (range_with_len 0 rows)

-- the picture of a page of text in place of a screen: as many rows and columns, and the cursor in the upper left corner
abbrev pub page_of : SizedScreen → List (List ℕ) → PictureParts
page_of sized lines = record {
  rows = sized.size.rows;
  columns = sized.size.columns;
  cells = page_cells sized.size.rows sized.size.columns lines;
  cursor = origin;
}

-- the rows or columns that a notice has on a tty with this many
abbrev pub notice_side : ℕ → ℕ
notice_side tty_side = max 1 (min 999 tty_side)

-- the picture of a text on a tty of any size: it goes on from row to row, and the cursor is in the upper left corner
abbrev pub notice_of : (tty_rows tty_columns : ℕ) → List ℕ → PictureParts
notice_of tty_rows tty_columns text = record {
  rows = notice_side tty_rows;
  columns = notice_side tty_columns;
  cells = in_columns (notice_side tty_rows * notice_side tty_columns) text;
  cursor = origin;
}

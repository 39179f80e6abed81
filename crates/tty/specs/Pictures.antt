-- Pictures: what an operator sees (our profile).
use Rattle.std.specs.Prelude.{◌≡◌, ℕ, ◌+◌, ◌*◌, ◌<◌, ◌==◌, ◌&&◌, ◌||◌, Bool, true, List, length, if◌then◌else◌, nat_lt, nat_le}
use Rattle.std.specs.List.{list_all}
use Rattle.tty.specs.declared.place.Place.{Place}
use Rattle.tty.specs.declared.look.Look.TheVariants.{Plain, Erased}
use Rattle.tty.specs.declared.picture.PictureCell.{PictureCell}
use Rattle.tty.specs.Looks.{same_look}

-- a picture: its size, its cells, row by row, and the cursor's place
pub record PictureParts : Type 0 where
  pub rows : ℕ
  pub columns : ℕ
  pub cells : List PictureCell
  pub cursor : Place

-- whether a character is one of the graphic characters of ISO 8859-1
abbrev pub is_graphic : ℕ → Bool
is_graphic glyph = nat_lt glyph 256 && (nat_le 0x20 glyph && nat_lt glyph 0x7F || nat_le 0xA0 glyph)

abbrev pub has_graphic : PictureCell → Bool
has_graphic cell = is_graphic cell.glyph

-- there is a cell for each place, with a graphic character, and the cursor is at one of them; row and column numbers
-- have three digits at most
pub record IsSized (picture : PictureParts) : Type 0 where
  pub cells : length picture.cells ≡ picture.rows * picture.columns
  pub row : picture.cursor.row < picture.rows
  pub column : picture.cursor.column < picture.columns
  pub few_rows : picture.rows < 1000
  pub few_columns : picture.columns < 1000
  pub graphic : list_all has_graphic picture.cells ≡ true

-- a cell with a character outside of any field
abbrev pub plain : ℕ → PictureCell
plain glyph = record { glyph = glyph; look = Plain }

-- the cell that an erased tty shows
abbrev pub erased_cell : PictureCell
erased_cell = record { glyph = 0x20; look = Erased }

abbrev pub same_cell : PictureCell → PictureCell → Bool
same_cell one other = one.glyph == other.glyph && same_look one.look other.look

-- the place in the upper left corner
abbrev pub origin : Place
origin = record { row = 0; column = 0 }

-- the place after this one, in rows of this many columns
abbrev pub next_place : ℕ → Place → Place
next_place columns place =
    if place.column + 1 == columns
    then record { row = place.row + 1; column = 0 }
    else record { row = place.row; column = place.column + 1 }

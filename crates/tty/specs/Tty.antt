-- A tty, and what the control functions that are used here do to it (ECMA-48; our profile).
use Rattle.std.specs.Prelude.{ℕ, ◌+◌, ◌==◌, ◌&&◌, ◌||◌, not, Bool, true, false, List, [], ◌∷◌, if◌then◌else◌, nat_lt}
use Rattle.tty.specs.declared.place.Place.{Place}

-- a colour: the tty's own, or one of its palette by name, or by its number in the palette of 256 (ISO 8613-6, 13.1.8)
pub data Colour : Type 0 where
  Default : Colour
  Red : Colour
  Green : Colour
  Blue : Colour
  Indexed : ℕ → Colour

-- the graphic rendition of a character
pub record Rendition : Type 0 where
  pub foreground : Colour
  pub background : Colour
  pub bold : Bool
  pub underlined : Bool

-- a character of the tty, with its rendition
pub record TtyCell : Type 0 where
  pub glyph : ℕ
  pub rendition : Rendition

-- A tty: its size; the character at each row and column; the place and the rendition of the next character; and whether
-- an effect was outside of our profile, so that the tty may show anything.
pub record Tty : Type 0 where
  pub rows : ℕ
  pub columns : ℕ
  pub grid : ℕ → ℕ → TtyCell
  pub cursor : Place
  pub rendition : Rendition
  pub garbled : Bool

-- the control functions: a graphic character, CUP (ECMA-48, 8.3.21) to a place, SGR (8.3.117) with one parameter or
-- more, ED (8.3.39) with parameter 2, and BEL (8.3.3)
pub data Control : Type 0 where
  Graphic : ℕ → Control
  CursorTo : Place → Control
  SelectRendition : ℕ → List ℕ → Control
  EraseAll : Control
  Bell : Control

abbrev pub default_rendition : Rendition
default_rendition = record {
  foreground = Colour.Default;
  background = Colour.Default;
  bold = false;
  underlined = false;
}

-- SGR with one parameter: 0 default, 1 bold, 4 underlined, 31 red, 32 green, 34 blue; others are not used
abbrev pub selected_by : ℕ → Rendition → Rendition
selected_by parameter now =
    if parameter == 0 then default_rendition
    else if parameter == 1 then record now { bold = true }
    else if parameter == 4 then record now { underlined = true }
    else if parameter == 31 then record now { foreground = Colour.Red }
    else if parameter == 32 then record now { foreground = Colour.Green }
    else if parameter == 34 then record now { foreground = Colour.Blue }
    else now

-- The rendition after the parameters of an SGR, which act one after another. 38, 5 and a number are the foreground by
-- that number of the palette, 48, 5 and a number the background.
abbrev pub selected : List ℕ → Rendition → Rendition
selected [] now = now
selected (one ∷ []) now = selected_by one now
selected (one ∷ two ∷ []) now = selected_by two (selected_by one now)
selected (one ∷ two ∷ three ∷ more) now =
    if one == 38 && two == 5 then selected more (record now { foreground = Colour.Indexed three })
    else if one == 48 && two == 5 then selected more (record now { background = Colour.Indexed three })
    else selected (two ∷ three ∷ more) (selected_by one now)

abbrev pub is_inside : Tty → Place → Bool
is_inside tty place = nat_lt place.row tty.rows && nat_lt place.column tty.columns

-- the tty after a graphic character at the cursor, which moves a column on; our profile excludes places off the tty
abbrev pub with_graphic : ℕ → Tty → Tty
with_graphic glyph tty = record tty {
  grid = λ row column.
      if row == tty.cursor.row && column == tty.cursor.column
      then record { glyph = glyph; rendition = tty.rendition }
      else tty.grid row column;
  cursor = record { row = tty.cursor.row; column = tty.cursor.column + 1 };
  garbled = tty.garbled || not (is_inside tty tty.cursor);
}

-- the tty after a control function
abbrev pub after : Control → Tty → Tty
after (Graphic glyph) tty = with_graphic glyph tty
after (CursorTo place) tty = record tty { cursor = place; garbled = tty.garbled || not (is_inside tty place) }
after (SelectRendition first more) tty = record tty { rendition = selected (first ∷ more) tty.rendition }
after EraseAll tty =
    record tty { grid = λ row column. record { glyph = 0x20; rendition = default_rendition }; garbled = false }
after Bell tty = tty

-- the tty after several control functions
abbrev pub after_all : List Control → Tty → Tty
after_all [] tty = tty
after_all (control ∷ controls) tty = after_all controls (after control tty)

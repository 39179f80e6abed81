-- When a tty shows a picture.
use Rattle.std.specs.Prelude.{◌≡◌, ◌⊎◌, ℕ, Bool, ◌≤◌, true, false, List, [], ◌∷◌, Option, Some, None}
use Rattle.tty.specs.declared.place.Place.{Place}
use Rattle.tty.specs.declared.colors.Colors.{Colors}
use Rattle.tty.specs.declared.colors.Colors.TheVariants.{Dark, Light, Terminal, Mono}
use Rattle.tty.specs.declared.look.Look.{Look}
use Rattle.tty.specs.declared.look.Look.TheVariants.{Plain, UnprotectedNormal, UnprotectedBright, ProtectedNormal, ProtectedBright, Erased}
use Rattle.tty.specs.declared.picture.PictureCell.{PictureCell}
use Rattle.tty.specs.Pictures.{PictureParts, origin, next_place}
use Rattle.tty.specs.Spelling.{all_spelt}
use Rattle.tty.specs.Changes.{drawing_of}
use Rattle.tty.specs.Reading.{read}
use Rattle.tty.specs.Tty.{Tty, TtyCell, Rendition, Colour, default_rendition, after_all}

-- a rendition by numbers of the palette
abbrev pub by_number : (foreground background : ℕ) → (bold underlined : Bool) → Rendition
by_number foreground background bold underlined = record {
  foreground = Colour.Indexed foreground;
  background = Colour.Indexed background;
  bold = bold;
  underlined = underlined;
}

-- a rendition on the tty's own background
abbrev pub on_default : Colour → (bold underlined : Bool) → Rendition
on_default foreground bold underlined = record {
  foreground = foreground;
  background = Colour.Default;
  bold = bold;
  underlined = underlined;
}

-- the graphic rendition that a look has; what was erased has the default one
abbrev pub rendition_of : Colors → Look → Rendition
rendition_of Dark Plain = by_number 252 16 false false
rendition_of Dark UnprotectedNormal = by_number 40 16 false true
rendition_of Dark UnprotectedBright = by_number 203 16 false true
rendition_of Dark ProtectedNormal = by_number 75 16 false false
rendition_of Dark ProtectedBright = by_number 231 16 true false
rendition_of Dark Erased = default_rendition
rendition_of Light Plain = by_number 16 231 false false
rendition_of Light UnprotectedNormal = by_number 22 231 false true
rendition_of Light UnprotectedBright = by_number 124 231 false true
rendition_of Light ProtectedNormal = by_number 19 231 false false
rendition_of Light ProtectedBright = by_number 16 231 true false
rendition_of Light Erased = default_rendition
rendition_of Terminal Plain = default_rendition
rendition_of Terminal UnprotectedNormal = on_default Colour.Green false true
rendition_of Terminal UnprotectedBright = on_default Colour.Red false true
rendition_of Terminal ProtectedNormal = on_default Colour.Blue false false
rendition_of Terminal ProtectedBright = on_default Colour.Default true false
rendition_of Terminal Erased = default_rendition
rendition_of Mono Plain = default_rendition
rendition_of Mono UnprotectedNormal = on_default Colour.Default false true
rendition_of Mono UnprotectedBright = on_default Colour.Default true true
rendition_of Mono ProtectedNormal = default_rendition
rendition_of Mono ProtectedBright = on_default Colour.Default true false
rendition_of Mono Erased = default_rendition

-- the character of a tty that shows a cell
abbrev pub tty_cell : Colors → PictureCell → TtyCell
tty_cell colors cell = record { glyph = cell.glyph; rendition = rendition_of colors cell.look }

-- the character of an erased tty
abbrev pub erased : TtyCell
erased = record { glyph = 0x20; rendition = default_rendition }

-- holds if the tty's characters from a place on, row by row, show these cells
abbrev pub ShowsFrom : Colors → ℕ → Place → List PictureCell → (ℕ → ℕ → TtyCell) → Type 0
ShowsFrom colors columns place [] grid = Unit {0}
ShowsFrom colors columns place (cell ∷ cells) grid =
    (grid place.row place.column ≡ tty_cell colors cell) × ShowsFrom colors columns (next_place columns place) cells grid

-- the tty has a place for each cell
pub record HasRoom (picture : PictureParts) (tty : Tty) : Type 0 where
  pub rows : picture.rows ≤ tty.rows
  pub columns : picture.columns ≤ tty.columns

-- holds if a place is below or to the right of a picture with these rows and columns
abbrev pub IsBeyond : (rows columns : ℕ) → Place → Type 0
IsBeyond rows columns place = (rows ≤ place.row) ⊎ (columns ≤ place.column)

-- The tty shows the picture in its upper left corner, in these colours, and is erased at all other places: it has
-- nothing of a larger picture that it showed before.
pub record Shows (colors : Colors) (picture : PictureParts) (tty : Tty) : Type 0 where
  pub cells : ShowsFrom colors picture.columns origin picture.cells tty.grid
  pub beyond : (place : Place) → IsBeyond picture.rows picture.columns place
      → tty.grid place.row place.column ≡ erased
  pub cursor : tty.cursor ≡ picture.cursor
  pub sound : tty.garbled ≡ false

-- holds if the tty shows the picture that is known, or none is known
abbrev pub ShowsKnown : Colors → Option PictureParts → Tty → Type 0
ShowsKnown colors None tty = Unit {0}
ShowsKnown colors (Some picture) tty = Shows colors picture tty

-- the tty after it has read these bytes
abbrev pub after_bytes : List ℕ → Tty → Tty
after_bytes bytes tty = after_all (read bytes) tty

-- holds if each tty that has room, and shows the known picture, shows the new one after the bytes for it
abbrev pub IsShownAfter : Colors → Option PictureParts → PictureParts → Type 0
IsShownAfter colors known picture =
    (tty : Tty) → HasRoom picture tty → ShowsKnown colors known tty
    → Shows colors picture (after_bytes (all_spelt (drawing_of colors known picture)) tty)

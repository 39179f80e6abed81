-- What follows from the definitions of drawing (our profile).
use Rattle.std.specs.Prelude.{◌≡◌, ℕ, true, false, List, map, Option, IfSome, slice_index_or}
use Rattle.codes3270.specs.declared.attribute.Cell.{Cell}
use Rattle.codes3270.specs.declared.attribute.Cell.TheVariants.{Char}
use Rattle.datastream.specs.Screen.{attribute_in, attribute_over}
use Rattle.presentation.specs.Glyph.{blank, is_hidden}
use Rattle.tty.specs.declared.colors.Colors.{Colors}
use Rattle.tty.specs.Pictures.{PictureParts, IsSized}
use Rattle.tty.specs.Painting.{painted_at, screen_cells}
use Rattle.tty.specs.Drawn.{IsShownAfter}

-- What is written over any known picture, or on an unknown tty, makes the tty show the new picture, in any colours.
abbrev pub AreShown : Type 0
AreShown = (colors : Colors) (known : Option PictureParts) (picture : PictureParts) → IfSome known IsSized
    → IsSized picture → IsShownAfter colors known picture

-- Each cell of a hidden field is a blank.
abbrev pub AreBlank : Type 0
AreBlank = (cells : List Cell) (at : ℕ) → is_hidden (attribute_over cells at) ≡ true
    → (painted_at cells at).glyph ≡ blank

-- two screens with the same attributes, and with the same characters but for those of hidden fields
pub record DifferInHidden (one other : List Cell) : Type 0 where
  pub attributes : map attribute_in one ≡ map attribute_in other
  pub shown : (at : ℕ) → is_hidden (attribute_over one at) ≡ false
      → slice_index_or one at (Char 0) ≡ slice_index_or other at (Char 0)

-- Two screens that differ only in the characters of hidden fields have the same cells in their pictures.
abbrev pub AreUntold : Type 0
AreUntold = (one other : List Cell) → DifferInHidden one other → screen_cells one ≡ screen_cells other

-- A screen and its fields (GA23-0059-07 on the character buffer, on fields, and on field attributes): the cells form a
-- ring, and an attribute governs the cells after it up to the next attribute.
use Rattle.std.specs.Prelude.{◌≡◌, ◌+◌, ◌-◌, ◌%◌, ◌<◌, slice_index_or, ℕ, Bool, true, false, List, [], ◌∷◌, ◌++◌, length, take, drop, replicate, Option, Some, None, if◌then◌else◌}
use Rattle.std.specs.Option.{option_or}
use Rattle.codes3270.specs.declared.attribute.Cell.{Cell}
use Rattle.codes3270.specs.declared.attribute.Cell.TheVariants.{Char, Attr}
pub use Rattle.codes3270.specs.Attribute.{attribute_in, is_char, is_open_attribute}
use Rattle.codes3270.specs.declared.attention.Aid.{Aid}
use Rattle.codes3270.specs.declared.attention.Aid.TheVariants.{NoAid}
use Rattle.codes3270.specs.declared.attribute.Attr.{Attr as Attribute}

-- the cells by address, the cursor's address, and the AID
pub record Screen : Type 0 where
  pub cells : List Cell
  pub cursor : ℕ
  pub aid : Aid

-- a screen with `size` cells, all of them null, the cursor at 0 and no AID
abbrev pub blank_screen : ℕ → Screen
blank_screen size = record { cells = replicate size (Char 0); cursor = 0; aid = NoAid }

-- all cells, beginning at an address and wrapping round at the end
abbrev pub ring : ℕ → List Cell → List Cell
ring from cells = drop from cells ++ take from cells

-- the last attribute in a list of cells
abbrev pub last_attribute : List Cell → Option Attribute
last_attribute [] = None
last_attribute (cell ∷ cells) = option_or (last_attribute cells) (attribute_in cell)

-- the attribute that governs the cell at an address: the last one on the ring that ends with that cell
abbrev pub attribute_over : List Cell → ℕ → Option Attribute
attribute_over cells at = last_attribute (ring (at + 1) cells)

-- whether a field with this attribute is protected; without one, cells count as unprotected
abbrev pub protects : Option Attribute → Bool
protects None = false
protects (Some attribute) = attribute.protected

-- whether the cell at an address is protected
abbrev pub is_protected : List Cell → ℕ → Bool
is_protected cells at = protects (attribute_over cells at)

-- the characters before the first attribute
abbrev pub text_before_attribute : List Cell → List ℕ
text_before_attribute [] = []
text_before_attribute (Char byte ∷ cells) = byte ∷ text_before_attribute cells
text_before_attribute (Attr attribute ∷ cells) = []

-- the characters of the field whose attribute is at an address: up to the next attribute, wrapping round at the end
abbrev pub field_text : List Cell → ℕ → List ℕ
field_text cells at = text_before_attribute (ring (at + 1) cells)

-- the addresses of the cells that pass a test; the first cell is at address `at`
abbrev pub places_from : (Cell → Bool) → ℕ → List Cell → List ℕ
places_from passes at [] = []
places_from passes at (cell ∷ cells) =
    if passes cell then at ∷ places_from passes (at + 1) cells else places_from passes (at + 1) cells

-- whether the cell at an address has a character
abbrev pub is_char_at : List Cell → ℕ → Bool
is_char_at cells at = is_char (slice_index_or cells at (Char 0))

-- Holds if the attribute that governs the cell at `at` is at `attr`, which is `back` cells before it, wrapping round at
-- the start, with only characters between. `back` is 0 if the cell has the attribute itself.
pub record IsGoverned (cells : List Cell) (at attr : ℕ) : Type 0 where
  pub back : ℕ
  pub near : back < length cells
  pub place : attr ≡ (at + length cells - back) % length cells
  pub there : is_char_at cells attr ≡ false
  pub none_nearer : (nearer : ℕ) → nearer < back → is_char_at cells ((at + length cells - nearer) % length cells) ≡ true

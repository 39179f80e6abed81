-- A cell as a code and a flag (our profile). The flag says whether the cell has an attribute. The code is its
-- character's, or the byte that its attribute is written as (GA23-0059-07 on field attributes). Contracts of
-- `PackedCell` and `PackedCells` use these definitions.
use Rattle.std.specs.Prelude.{◌≡◌, ℕ, Bool, true, false, not, List}
use Rattle.std.proofs.Common.{refl}
use Rattle.codes3270.specs.Attribute.{attr_of, attr_byte}
use Rattle.codes3270.specs.Size.{ScreenSize}
use Rattle.codes3270.specs.declared.attribute.Cell.{Cell}
use Rattle.codes3270.specs.declared.attribute.Cell.TheVariants.{Char, Attr}
use Rattle.datastream.specs.Screen.{is_char}

-- the code with which a cell is stored
abbrev pub code_in : Cell → ℕ
code_in (Char code) = code
code_in (Attr attribute) = attr_byte attribute

-- the cell with this code: an attribute if the flag is true, else a character
abbrev pub cell_of : Bool → ℕ → Cell
cell_of true code = Attr (attr_of code)
cell_of false code = Char code

-- a cell made with this flag is an attribute exactly if the flag is true
pub has_attribute : (is_attribute : Bool) (code : ℕ) → not (is_char (cell_of is_attribute code)) ≡ is_attribute
has_attribute true code = refl
has_attribute false code = refl

-- a stored screen: its size, a code for each cell, and a bit for each cell that is set if the code is an attribute's
pub record Packed : Type 0 where
  pub size : ScreenSize
  pub codes : List ℕ
  pub attributes : List ℕ

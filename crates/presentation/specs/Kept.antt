-- For private functions: the packed cells of a screen, a code and an attribute bit each (our profile).
use Rattle.std.specs.Prelude.{◌≡◌, ◌≤◌, ℕ, List, length, map}
use Rattle.codes3270.specs.Size.{cells_in, most_cells}
use Rattle.codes3270.specs.declared.attribute.Cell.{Cell}
use Rattle.datastream.specs.CellBits.{has_bit, kept}
use Rattle.datastream.specs.CellCodes.{Packed, cell_of, code_in}

abbrev pub cell_by : List ℕ → ℕ → ℕ → Cell
cell_by attributes at code = cell_of (has_bit attributes at) code

-- the cells, by address
abbrev pub cells_of : Packed → List Cell
cells_of packed = kept (cell_by packed.attributes) 0 packed.codes

-- holds if there is a cell for each address of the size, and each code is that of its cell
pub record AreCells (packed : Packed) : Type 0 where
  pub size : length packed.codes ≡ cells_in packed.size
  pub few : cells_in packed.size ≤ most_cells
  pub codes : map code_in (cells_of packed) ≡ packed.codes

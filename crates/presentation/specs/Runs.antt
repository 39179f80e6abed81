-- For private functions: characters in consecutive cells.
use Rattle.std.specs.Prelude.{◌+◌, ℕ, List, ◌++◌, length, map, take, drop}
use Rattle.codes3270.specs.declared.attribute.Cell.{Cell}
use Rattle.codes3270.specs.declared.attribute.Cell.TheVariants.{Char}

-- the cells with a text stored from an address on
abbrev pub placed : ℕ → List ℕ → List Cell → List Cell
placed from text cells = take from cells ++ (map Char text ++ drop (from + length text) cells)

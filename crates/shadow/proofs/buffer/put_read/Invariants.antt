use Rattle.std.proofs.Common.{◌≡◌, ◌+◌, ◌++◌, length, take}
use Rattle.codes3270.specs.Size.{cells_in}
use Rattle.shadow.specs.Since.{beliefs_of_cells}
use Rattle.shadow.proofs.buffer.put_read.Given as goal

abbrev pub invariant-loop-cell : goal.invariant-loop-cell
invariant-loop-cell l = record {
  read : take l.at l.beliefs ++ beliefs_of_cells l.rest ≡ beliefs_of_cells l.fn.cells;
  each : l.at + length l.rest ≡ length l.beliefs;
  size : length l.beliefs ≡ cells_in l.fn.size;
}

abbrev pub decreases-loop-cell : goal.decreases-loop-cell
decreases-loop-cell l = length l.rest

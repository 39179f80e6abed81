use Rattle.std.proofs.Common.{◌≡◌, ◌≤◌, ◌-◌, ◌++◌, length, take, drop}
use Rattle.shadow.specs.Since.{cells_written, settled}
use Rattle.shadow.proofs.apply_write.settle.Given as goal

abbrev pub invariant-loop-at : goal.invariant-loop-at
invariant-loop-at l = record {
  size : length l.beliefs ≡ length l.fn.beliefs;
  within : l.at ≤ l.cells;
  cells : cells_written l.beliefs l.pasts ≡ cells_written l.fn.beliefs l.pasts;
  settled_ : settled (cells_written l.fn.beliefs l.pasts) l.pasts l.fn.beliefs l.pasts
      ≡ take l.at l.beliefs ++ settled (cells_written l.fn.beliefs l.pasts) l.pasts (drop l.at l.beliefs) (drop l.at l.pasts);
}

abbrev pub decreases-loop-at : goal.decreases-loop-at
decreases-loop-at l = l.cells - l.at

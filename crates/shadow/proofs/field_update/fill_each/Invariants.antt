use Rattle.std.proofs.Common.{◌≡◌, ◌++◌, length, take, drop}
use Rattle.shadow.specs.Filled.{fill_of, front_filled}
use Rattle.shadow.proofs.field_update.fill_each.Given as goal

abbrev pub invariant-loop-place : goal.invariant-loop-place
invariant-loop-place l = record {
  size : length l.beliefs ≡ length l.fn.beliefs;
  filled : take l.from l.fn.beliefs ++ front_filled (fill_of l.fn.update) (drop l.from l.fn.beliefs) ≡ take l.place l.beliefs ++ front_filled (fill_of l.update) (drop l.place l.beliefs);
}

use Rattle.std.proofs.Common.{◌≡◌, ◌≤◌, ◌-◌}
use Rattle.shadow.specs.Filled.{Fill}
use Rattle.shadow.proofs.Walks.{Between, all_taken}
use Rattle.shadow.proofs.apply_inbound.take_fields.Given as goal

abbrev pub invariant-loop-place : goal.invariant-loop-place
invariant-loop-place l = record {
  within : l.place ≤ l.cells;
  update : Fill;
  walked : Between l.erased l.fn.beliefs update l.place l.returned_cursor l.fn.returned l.beliefs;
  -- where no attribute stands the walk ends before it begins
  none : l.cells ≤ l.place → l.beliefs ≡ all_taken l.erased l.fn.beliefs l.fn.returned;
}

abbrev pub decreases-loop-place : goal.decreases-loop-place
decreases-loop-place l = l.cells - l.place

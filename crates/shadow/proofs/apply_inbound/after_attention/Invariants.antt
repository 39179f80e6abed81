use Rattle.std.proofs.Common.{◌≤◌, ◌-◌}
use Rattle.shadow.specs.Filled.{fill_of, fill_after}
use Rattle.shadow.proofs.KeyWalks.{Between}
use Rattle.shadow.proofs.apply_inbound.after_attention.Given as goal

abbrev pub invariant-loop-place : goal.invariant-loop-place
invariant-loop-place l = record {
  within : l.place ≤ l.cells;
  walked : Between l.fn.beliefs (fill_after l.filled (fill_of l.update)) l.place l.beliefs;
}

abbrev pub decreases-loop-place : goal.decreases-loop-place
decreases-loop-place l = l.cells - l.place

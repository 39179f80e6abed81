use Rattle.std.proofs.Common.{◌≡◌, ◌≤◌, ◌-◌, length}
use Rattle.shadow.proofs.Settles.{kept_to}
use Rattle.shadow.proofs.apply_write.record_before.Given as goal

abbrev pub invariant-loop-place : goal.invariant-loop-place
invariant-loop-place l = record {
  within : l.place ≤ l.cells;
  size : length l.pasts ≡ length l.beliefs;
  kept : l.pasts ≡ kept_to (length l.beliefs) l.beliefs l.place;
}

abbrev pub decreases-loop-place : goal.decreases-loop-place
decreases-loop-place l = l.cells - l.place

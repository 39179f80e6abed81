use Rattle.std.proofs.Common.{◌≡◌, ◌≤◌, ◌-◌, ◌++◌, length, map, take, drop}
use Rattle.shadow.specs.InPlace.{chars_known}
use Rattle.shadow.specs.Since.{place_off}
use Rattle.shadow.proofs.apply_write.marks_off.Given as goal

abbrev pub invariant-loop-place : goal.invariant-loop-place
invariant-loop-place l = record {
  off : map place_off l.fn.beliefs ≡ take l.place l.beliefs ++ map place_off (drop l.place l.beliefs);
  size : length l.beliefs ≡ length l.fn.beliefs;
  within : l.place ≤ l.cells;
  stands : length (chars_known (drop l.place l.beliefs)) ≡ 0;
}

abbrev pub decreases-loop-place : goal.decreases-loop-place
decreases-loop-place l = l.cells - l.place

use Rattle.std.proofs.Common.{◌≡◌, ◌-◌, ◌||◌, drop, length}
use Rattle.shadow.specs.Filled.{is_possible, any_lost}
use Rattle.shadow.specs.InPlace.{chars_known, beliefs_held}
use Rattle.shadow.proofs.apply_inbound.erased_if_possible.Given as goal

abbrev pub invariant-loop-place : goal.invariant-loop-place
invariant-loop-place l = record {
  stands : length (chars_known (drop l.place l.beliefs)) ≡ 0;
  possible : is_possible (length l.beliefs) (beliefs_held l.beliefs 0 l.beliefs) l.fn.returned ≡ is_possible (length l.beliefs) (beliefs_held l.beliefs l.place (drop l.place l.beliefs)) l.returned_cursor;
  lost : any_lost (length l.beliefs) (beliefs_held l.beliefs 0 l.beliefs) l.fn.returned ≡ (l.erased || any_lost (length l.beliefs) (beliefs_held l.beliefs l.place (drop l.place l.beliefs)) l.returned_cursor);
}

abbrev pub decreases-loop-place : goal.decreases-loop-place
decreases-loop-place l = l.cells - l.place

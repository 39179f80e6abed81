use Rattle.std.proofs.Common.{◌≡◌, ◌≤◌, ◌<◌, ◌-◌, ℕ, true}
use Rattle.datastream.specs.CellBits.{has_bit}
use Rattle.shadow.proofs.cell_beliefs.are_set.Given as goal

abbrev pub invariant-loop-at : goal.invariant-loop-at
invariant-loop-at l = record {
  from : l.from ≤ l.at;
  set : (cell : ℕ) → l.from ≤ cell → cell < l.at → cell < l.to → has_bit l.bits cell ≡ true;
}

abbrev pub decreases-loop-at : goal.decreases-loop-at
decreases-loop-at l = l.to - l.at

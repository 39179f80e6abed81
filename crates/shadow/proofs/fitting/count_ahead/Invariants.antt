use Rattle.std.proofs.Common.{◌≡◌, ◌≤◌, ◌+◌, ◌*◌, length}
use Rattle.codes3270.specs.Size.{most_cells}
use Rattle.shadow.specs.Painted.{count_ahead}
use Rattle.shadow.proofs.fitting.count_ahead.Given as goal

abbrev pub invariant-loop-want : goal.invariant-loop-want
invariant-loop-want l = record {
  counted : count_ahead l.fn.ahead ≡ l.count + count_ahead l.want-iterator;
  few : l.count + length l.want-iterator ≤ 2 * most_cells;
}

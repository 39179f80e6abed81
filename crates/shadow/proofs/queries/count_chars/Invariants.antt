use Rattle.std.proofs.Common.{◌≡◌, ◌≤◌, ◌+◌, ◌*◌, length}
use Rattle.codes3270.specs.Size.{most_cells}
use Rattle.shadow.specs.InPlace.{chars_known}
use Rattle.shadow.proofs.queries.count_chars.Given as goal

abbrev pub invariant-loop-place : goal.invariant-loop-place
invariant-loop-place l = record {
  counted : length (chars_known l.fn.ahead) ≡ l.count + length (chars_known l.place-iterator);
  few : l.count + length l.place-iterator ≤ 2 * most_cells;
}

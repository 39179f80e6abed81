use Rattle.std.proofs.Common.{◌≡◌, ◌++◌}
use Rattle.tty.specs.StatusRow.{in_columns}
use Rattle.tty.proofs.picture.put_text.Given as goal

abbrev pub invariant-loop-column : goal.invariant-loop-column
invariant-loop-column l = l.cells.items ≡ l.fn.cells.items ++ in_columns l.column l.text

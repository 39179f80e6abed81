use Rattle.std.proofs.Common.{◌≡◌, ◌≤◌, ◌+◌, ◌++◌, length}
use Rattle.codes3270.specs.Size.{most_cells}
use Rattle.datastream.specs.Inbound.{without_nulls}
use Rattle.host_core.proofs.learning.append_text.Given as goal

abbrev pub invariant-loop-byte : goal.invariant-loop-byte
invariant-loop-byte l = record {
  put : l.text.items ++ without_nulls l.byte-iterator ≡ l.fn.text.items ++ without_nulls l.fn.characters;
  few : length l.text.items + length l.byte-iterator ≤ most_cells;
}

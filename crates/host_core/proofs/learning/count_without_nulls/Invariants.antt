use Rattle.std.proofs.Common.{◌≡◌, ◌≤◌, ◌+◌, length}
use Rattle.codes3270.specs.Size.{most_cells}
use Rattle.datastream.specs.Inbound.{without_nulls}
use Rattle.host_core.proofs.learning.count_without_nulls.Given as goal

abbrev pub invariant-loop-byte : goal.invariant-loop-byte
invariant-loop-byte l = record {
  counted : l.count + length (without_nulls l.byte-iterator) ≡ length (without_nulls l.fn.characters);
  few : l.count + length l.byte-iterator ≤ most_cells;
}

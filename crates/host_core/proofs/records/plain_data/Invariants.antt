use Rattle.std.proofs.Common.{◌≡◌, ◌≤◌, ◌+◌, ◌++◌, length}
use Rattle.datastream.specs.Escapes.{without_escapes}
use Rattle.tn3270e_msg.specs.Header.{record_limit}
use Rattle.host_core.proofs.records.plain_data.Given as goal

abbrev pub invariant-loop-byte : goal.invariant-loop-byte
invariant-loop-byte l = record {
  put : l.plain.items ++ l.byte-iterator ≡ without_escapes l.fn.body;
  few : length l.plain.items + length l.byte-iterator ≤ record_limit;
}

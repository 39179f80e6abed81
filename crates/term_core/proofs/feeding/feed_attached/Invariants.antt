use Rattle.std.proofs.Common.{◌-◌, ◌≤◌, length, take, None}
use Rattle.std.specs.Vec.{vec_capacity}
use Rattle.term_core.specs.Bytes.{TakesBytes}
use Rattle.term_core.specs.Over.{IsRunning, terminal_of}
use Rattle.term_core.proofs.feeding.feed_attached.Given as goal

abbrev pub invariant-loop-taken : goal.invariant-loop-taken
invariant-loop-taken l = record {
  running : IsRunning l.decoder;
  few : l.taken ≤ length l.bytes;
  taken : TakesBytes (terminal_of l.initial.decoder l.initial.talk None l.initial.station l.initial.out) (take l.taken l.bytes) (terminal_of l.decoder l.talk None l.station l.out);
  capacity : vec_capacity l.initial.out ≤ vec_capacity l.out;
}

abbrev pub decreases-loop-taken : goal.decreases-loop-taken
decreases-loop-taken l = length l.bytes - l.taken

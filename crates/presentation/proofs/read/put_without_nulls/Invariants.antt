use Rattle.std.proofs.Common.{length}
use Rattle.datastream.specs.Inbound.{without_nulls}
use Rattle.codes3270.proofs.Appendings.{IsAppending}
use Rattle.presentation.proofs.read.put_without_nulls.Given as goal

abbrev pub invariant-loop-rest : goal.invariant-loop-rest
invariant-loop-rest l = IsAppending l.fn.out l.out (without_nulls l.rest) (without_nulls l.fn.bytes)

abbrev pub decreases-loop-rest : goal.decreases-loop-rest
decreases-loop-rest l = length l.rest

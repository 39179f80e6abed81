use Rattle.std.proofs.Common.{length, ℕ}
use Rattle.codes3270.specs.Size.{cells_in}
use Rattle.datastream.specs.InboundReading.{IsReadTo}
use Rattle.datastream.proofs.inbound_reader.check_fields.Given as goal

abbrev pub invariant-loop-rest : goal.invariant-loop-rest
invariant-loop-rest l = (count : ℕ) × IsReadTo (cells_in l.size) l.form l.text count l.rest

abbrev pub decreases-loop-rest : goal.decreases-loop-rest
decreases-loop-rest l = length l.rest

use Rattle.std.proofs.Common.{◌≡◌, ◌+◌, ℕ}
use Rattle.codes3270.specs.Size.{cells_in}
use Rattle.datastream.specs.declared.inbound_part.Form.TheVariants.{Buffer}
use Rattle.datastream.specs.InboundReading.{IsReadTo}
use Rattle.datastream.proofs.inbound_reader.check_cells.Given as goal

abbrev pub invariant-loop-left : goal.invariant-loop-left
invariant-loop-left l = (count : ℕ) × (count + l.left ≡ cells_in l.fn.size) × IsReadTo (cells_in l.fn.size) Buffer l.text count l.rest

abbrev pub decreases-loop-left : goal.decreases-loop-left
decreases-loop-left l = l.left

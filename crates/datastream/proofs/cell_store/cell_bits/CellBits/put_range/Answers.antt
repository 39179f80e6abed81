use Rattle.std.proofs.Common.{Bool, ap, sym, arith, if◌then◌else◌}
use Rattle.datastream.specs.CellBits.{has_bit}
use Rattle.datastream.proofs.Words.{not_within}
use Rattle.datastream.proofs.cell_store.cell_bits.CellBits.put_range.Goals as goal

pub returns-else-from-to : goal.returns-else-from-to
returns-else-from-to c = λ other. sym (ap (λ (t : Bool). if t then c.args.bit else has_bit c.args.self.now other) (not_within c.args.from c.args.to other (λ after before. omega arith)))

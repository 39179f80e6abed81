use Rattle.std.proofs.Common.{arith}
use Rattle.datastream.proofs.Words.{none_from, lowest_from}
use Rattle.datastream.proofs.cell_store.cell_bits.first_in.Goals as goal

pub returns-then-rest-eq0 : goal.returns-then-rest-eq0
returns-then-rest-eq0 c = none_from c.args.word c.args.from (omega arith)

pub returns-else-rest-eq0 : goal.returns-else-rest-eq0
returns-else-rest-eq0 c = lowest_from c.args.word c.args.from (omega arith) (omega arith)

use Rattle.std.proofs.Common.{arith}
use Rattle.datastream.proofs.Words.{run_set, run_cleared}
use Rattle.datastream.proofs.cell_store.cell_bits.with_bits.Goals as goal

pub returns-then-bit : goal.returns-then-bit
returns-then-bit c = λ other low. rw (c.if-bit.true) (run_set c.args.word c.ones_between-ones.result c.args.from c.args.to c.ones_between-ones.ensures other low)

pub returns-else-bit : goal.returns-else-bit
returns-else-bit c = λ other low. rw (c.if-bit.false) (run_cleared c.args.word c.ones_between-ones.result c.args.from c.args.to (omega arith) c.ones_between-ones.ensures other low)

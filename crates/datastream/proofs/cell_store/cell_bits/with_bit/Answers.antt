use Rattle.datastream.proofs.Keeping.{bit_set, bit_cleared}
use Rattle.datastream.proofs.cell_store.cell_bits.with_bit.Goals as goal

pub returns-then-bit : goal.returns-then-bit
returns-then-bit c = λ other few. rw (c.if-bit.true) (bit_set c.args.word c.args.place other c.requires)

pub returns-else-bit : goal.returns-else-bit
returns-else-bit c = λ other few. rw (c.if-bit.false) (bit_cleared c.args.word c.args.place other c.requires few)

use Rattle.std.proofs.lemmas.Nat.Bits.{bit_at-zero, bit_at_ones}
use Rattle.datastream.proofs.cell_store.cell_bits.word_of.Goals as goal

pub returns-then-bit : goal.returns-then-bit
returns-then-bit c = λ place few. rw (c.if-bit.true) (bit_at_ones 64 place few)

pub returns-else-bit : goal.returns-else-bit
returns-else-bit c = λ place few. rw (c.if-bit.false) (bit_at-zero place)

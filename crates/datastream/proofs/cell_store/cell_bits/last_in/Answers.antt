use Rattle.std.proofs.Common.{arith}
use Rattle.datastream.proofs.Words.{highest}
use Rattle.datastream.proofs.cell_store.cell_bits.last_in.Goals as goal

pub returns-else-word-eq0 : goal.returns-else-word-eq0
returns-else-word-eq0 c = highest c.args.word c.ranges.word.fits (omega (arith, c.if-word-eq0.false))

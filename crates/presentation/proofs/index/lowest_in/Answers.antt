use Rattle.std.specs.Int.{w64}
use Rattle.std.proofs.lemmas.Nat.Bits.{bit_at-trailing_zeros}
use Rattle.presentation.proofs.index.lowest_in.Goals as goal

pub returns-clause-within : goal.returns-clause-within
returns-clause-within c = (bit_at-trailing_zeros w64 c.args.word c.requires c.ranges.word.fits).0

pub returns-clause-set : goal.returns-clause-set
returns-clause-set c = (bit_at-trailing_zeros w64 c.args.word c.requires c.ranges.word.fits).1

pub returns-clause-clear : goal.returns-clause-clear
returns-clause-clear c = (bit_at-trailing_zeros w64 c.args.word c.requires c.ranges.word.fits).2

use Rattle.datastream.proofs.Words.{some_ones}
use Rattle.datastream.proofs.cell_store.cell_bits.some_ones_below.Goals as goal

pub returns : goal.returns
returns c = λ other low. some_ones c.args.place other c.requires.few

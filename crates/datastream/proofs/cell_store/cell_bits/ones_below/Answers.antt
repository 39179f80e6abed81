use Rattle.datastream.proofs.Words.{fewer_ones}
use Rattle.datastream.proofs.cell_store.cell_bits.ones_below.Goals as goal

pub returns : goal.returns
returns c = λ other low. fewer_ones c.args.place other c.requires

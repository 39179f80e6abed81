use Rattle.std.proofs.Common.{arith}
use Rattle.datastream.proofs.Words.{ones_within}
use Rattle.datastream.proofs.cell_store.cell_bits.ones_between.Goals as goal

pub returns : goal.returns
returns c = ones_within c.args.from c.args.to c.some_ones_below.result c.ones_below.result (omega arith) c.some_ones_below.ensures c.ones_below.ensures

use Rattle.std.proofs.Common.{arith}
use Rattle.datastream.specs.CellBits.{word_count}
use Rattle.datastream.proofs.Keeping.{alike}
use Rattle.datastream.proofs.cell_store.cell_bits.CellBits.all.Goals as goal

pub returns : goal.returns
returns c = λ cell few. alike c.word_of.result word_count cell c.args.bit (omega arith) c.word_of.ensures

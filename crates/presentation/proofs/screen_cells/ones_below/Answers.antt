use Rattle.datastream.proofs.Words.{some_ones}
use Rattle.presentation.proofs.screen_cells.ones_below.Goals as goal

pub returns : goal.returns
returns c = λ other low. some_ones c.args.place other c.requires.few

use Rattle.std.proofs.Common.{◌∙◌, sym}
use Rattle.presentation.proofs.KeptCells.{size}
use Rattle.presentation.proofs.screen_cells.ScreenCells.len.Goals as goal

pub returns-clause-len : goal.returns-clause-len
returns-clause-len c = c.len.ensures.len ∙ sym (size c.self.inside.packed.attributes c.self.inside.packed.codes c.args.self.now c.self.view_is)

use Rattle.std.proofs.Common.{◌<◌, ◌∙◌, length, sym, arith}
use Rattle.presentation.proofs.KeptCells.{size, cell_read}
use Rattle.presentation.proofs.screen_cells.ScreenCells.get.Goals as goal

pub get-requires : goal.get-requires
get-requires c =
    let i = c.self.inside.packed in
    omega (arith, c.requires, size i.attributes i.codes c.args.self.now c.self.view_is, c.self.invariant.size)

pub returns : goal.returns
returns c =
    let i = c.self.inside.packed in
    let inside : c.args.at < length i.codes = omega (arith, c.requires, size i.attributes i.codes c.args.self.now c.self.view_is) in
    c.get.ensures ∙ sym (cell_read i.attributes i.codes c.args.self.now c.self.view_is c.args.at c.get.result inside)

use Rattle.std.proofs.Common.{arith}
use Rattle.codes3270.specs.Size.{cells_in}
use Rattle.presentation.proofs.KeptCells.{size, first_read}
use Rattle.presentation.proofs.screen_cells.ScreenCells.attribute_from.Goals as goal

pub attribute_from-requires : goal.attribute_from-requires
attribute_from-requires c =
    let i = c.self.inside.packed in
    omega (arith, c.requires, size i.attributes i.codes c.args.self.now c.self.view_is, c.self.invariant.size)

pub returns-clause-place : goal.returns-clause-place
returns-clause-place c =
    let i = c.self.inside.packed in
    first_read i.attributes i.codes c.args.self.now c.self.view_is (cells_in i.size) c.args.from c.attribute_from.result c.self.invariant.size
    c.attribute_from.ensures.from c.attribute_from.ensures.within c.attribute_from.ensures.clear c.attribute_from.ensures.set

pub returns-clause-within : goal.returns-clause-within
returns-clause-within c =
    let i = c.self.inside.packed in
    omega (arith, size i.attributes i.codes c.args.self.now c.self.view_is, c.self.invariant.size, c.attribute_from.ensures.within)

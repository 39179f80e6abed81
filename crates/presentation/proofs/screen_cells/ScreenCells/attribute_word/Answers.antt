use Rattle.std.proofs.Common.{arith}
use Rattle.presentation.proofs.KeptCells.{size}
use Rattle.presentation.proofs.WordPlaces.{whole_word}
use Rattle.presentation.proofs.screen_cells.ScreenCells.attribute_word.Goals as goal

pub attribute_word-requires : goal.attribute_word-requires
attribute_word-requires c =
    let i = c.self.inside.packed in
    omega (arith, c.requires, size i.attributes i.codes c.args.self.now c.self.view_is, c.self.invariant.size, c.self.invariant.few)

pub returns : goal.returns
returns c =
    let i = c.self.inside.packed in
    whole_word i.attributes i.codes c.args.self.now c.self.view_is c.args.word c.attribute_word.result c.attribute_word.ensures
    (omega (arith, c.self.invariant.size, c.self.invariant.few)) c.requires

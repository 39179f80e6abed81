use Rattle.std.proofs.Common.{◌-◌, ◌*◌, arith}
use Rattle.presentation.proofs.KeptCells.{size}
use Rattle.presentation.proofs.WordPlaces.{cut_word}
use Rattle.presentation.proofs.screen_cells.ScreenCells.last_attribute_word.Goals as goal

pub returns : goal.returns
returns c =
    let i = c.self.inside.packed in
    let same = size i.attributes i.codes c.args.self.now c.self.view_is in
    cut_word i.attributes i.codes c.args.self.now c.self.view_is c.args.word c.attribute_word.result c.attribute_word.ensures
    (omega (arith, c.self.invariant.size, c.self.invariant.few)) c.ones_below.result (c.len.result - 64 * c.args.word)
    (omega (arith, c.requires.some, same, c.len.ensures.len)) (omega (arith, c.requires.some, same, c.len.ensures.len)) c.ones_below.ensures

use Rattle.std.proofs.Common.{◌∙◌, ap, sym, arith}
use Rattle.codes3270.specs.declared.attribute.Cell.TheVariants.{Attr}
use Rattle.presentation.proofs.KeptCells.{size, attribute_bit, attribute_read}
use Rattle.presentation.proofs.screen_cells.ScreenCells.attribute.Goals as goal

pub attribute_at-requires-clause-attribute : goal.attribute_at-requires-clause-attribute
attribute_at-requires-clause-attribute c =
    let i = c.self.inside.packed in
    attribute_bit i.attributes i.codes c.args.self.now c.self.view_is c.args.at (omega (arith, c.requires.placed, size i.attributes i.codes c.args.self.now c.self.view_is)) c.requires.attribute

pub returns : goal.returns
returns c =
    let i = c.self.inside.packed in
    attribute_read i.attributes i.codes c.args.self.now c.self.view_is c.args.at (omega (arith, c.requires.placed, size i.attributes i.codes c.args.self.now c.self.view_is)) c.requires.attribute
    ∙ ap Attr (sym c.attribute_at.ensures)

use Rattle.std.proofs.Common.{◌≡◌, ◌<◌, ◌∙◌, Bool, true, arith, ap, sym, length}
use Rattle.std.specs.Prelude.{slice_index_or}
use Rattle.codes3270.specs.declared.attribute.Cell.TheVariants.{Attr as AttrCell}
use Rattle.datastream.specs.CellBits.{has_bit}
use Rattle.datastream.specs.CellCodes.{cell_of}
use Rattle.shadow.specs.PackedBeliefs.{place_by}
use Rattle.shadow.specs.declared.mdt_state.MdtState.TheVariants.{On}
use Rattle.shadow.specs.declared.cell_belief.TextKnowledge.TheVariants.{Cells}
use Rattle.shadow.proofs.Keeping.{size_kept, attribute_read}
use Rattle.shadow.proofs.Stretches.{attribute_bit, stands_attribute}
use Rattle.shadow.proofs.cell_beliefs.CellBeliefs.attribute_at.Goals as goal

pub attribute_at-requires-clause-attribute : goal.attribute_at-requires-clause-attribute
attribute_at-requires-clause-attribute c =
    let i = c.self.inside in
    let size : length c.args.self.now ≡ length i.cells.codes = size_kept (place_by i.heads i.cells.attributes i.known i.told) i.cells.codes c.args.self.now c.self.view_is in
    let low : c.args.at < length i.cells.codes = omega (arith, c.requires.placed, size) in
    sym (attribute_bit i.heads i.cells.attributes i.known i.told i.cells.codes c.args.self.now c.self.view_is c.args.at low) ∙ stands_attribute c.args.self.now c.args.at c.requires.placed c.requires.stands

pub returns : goal.returns
returns c =
    let i = c.self.inside in
    let size : length c.args.self.now ≡ length i.cells.codes = size_kept (place_by i.heads i.cells.attributes i.known i.told) i.cells.codes c.args.self.now c.self.view_is in
    let low : c.args.at < length i.cells.codes = omega (arith, c.requires.placed, size) in
    let is : has_bit i.cells.attributes c.args.at ≡ true =
    sym (attribute_bit i.heads i.cells.attributes i.known i.told i.cells.codes c.args.self.now c.self.view_is c.args.at low) ∙ stands_attribute c.args.self.now c.args.at c.requires.placed c.requires.stands in
    attribute_read i.heads i.cells.attributes i.known i.told i.cells.codes c.args.at low c.args.self.now c.self.view_is (omega (arith, c.self.invariant.0, c.self.invariant.1, c.self.invariant.2, low)) (record { mdt = On; knowledge = Cells }) c.attribute_at.result
    (ap (λ (mark : Bool). cell_of mark (slice_index_or i.cells.codes c.args.at 0)) is ∙ ap AttrCell (sym c.attribute_at.ensures))

pub attribute_at-requires-clause-placed : goal.attribute_at-requires-clause-placed
attribute_at-requires-clause-placed c =
    let i = c.self.inside in
    let size : length c.args.self.now ≡ length i.cells.codes = size_kept (place_by i.heads i.cells.attributes i.known i.told) i.cells.codes c.args.self.now c.self.view_is in
    omega (arith, c.requires.placed, size, c.self.invariant.1)

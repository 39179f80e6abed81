use Rattle.std.proofs.Common.{◌≡◌, ◌<◌, ◌∙◌, arith, sym, length}
use Rattle.shadow.specs.declared.mdt_state.MdtState.TheVariants.{On}
use Rattle.shadow.specs.declared.cell_belief.TextKnowledge.TheVariants.{Cells}
use Rattle.shadow.specs.PackedBeliefs.{place_by}
use Rattle.shadow.proofs.Keeping.{size_kept, attribute_read, known_read, told_read, unknown_read}
use Rattle.shadow.proofs.cell_beliefs.CellBeliefs.get.Goals as goal

pub returns-in-Attr : goal.returns-in-Attr
returns-in-Attr c =
    let i = c.self.inside in
    let size : length c.args.self.now ≡ length i.cells.codes = size_kept (place_by i.heads i.cells.attributes i.known i.told) i.cells.codes c.args.self.now c.self.view_is in
    let low : c.args.at < length i.cells.codes = omega (arith, c.requires, size) in
    attribute_read i.heads i.cells.attributes i.known i.told i.cells.codes c.args.at low c.args.self.now c.self.view_is (omega (arith, c.self.invariant.0, c.self.invariant.1, c.self.invariant.2, low)) (record { mdt = On; knowledge = Cells }) c.in-Attr.attr (sym c.get.ensures ∙ c.in-Attr.is)

pub returns-then-has : goal.returns-then-has
returns-then-has c =
    let i = c.self.inside in
    let size : length c.args.self.now ≡ length i.cells.codes = size_kept (place_by i.heads i.cells.attributes i.known i.told) i.cells.codes c.args.self.now c.self.view_is in
    let low : c.args.at < length i.cells.codes = omega (arith, c.requires, size) in
    known_read i.heads i.cells.attributes i.known i.told i.cells.codes c.args.at low c.args.self.now c.self.view_is c.in-Char.char (sym c.get.ensures ∙ c.in-Char.is) (sym c.has.ensures ∙ c.if-has.true)

pub returns-then-has-2 : goal.returns-then-has-2
returns-then-has-2 c =
    let i = c.self.inside in
    let size : length c.args.self.now ≡ length i.cells.codes = size_kept (place_by i.heads i.cells.attributes i.known i.told) i.cells.codes c.args.self.now c.self.view_is in
    let low : c.args.at < length i.cells.codes = omega (arith, c.requires, size) in
    told_read i.heads i.cells.attributes i.known i.told i.cells.codes c.args.at low c.args.self.now c.self.view_is c.in-Char.char (sym c.get.ensures ∙ c.in-Char.is)
    (sym c.has.ensures ∙ c.if-has.false) (sym c.has-else-has.ensures ∙ c.if-has-2.true)

pub returns-else-has-2 : goal.returns-else-has-2
returns-else-has-2 c =
    let i = c.self.inside in
    let size : length c.args.self.now ≡ length i.cells.codes = size_kept (place_by i.heads i.cells.attributes i.known i.told) i.cells.codes c.args.self.now c.self.view_is in
    let low : c.args.at < length i.cells.codes = omega (arith, c.requires, size) in
    unknown_read i.heads i.cells.attributes i.known i.told i.cells.codes c.args.at low c.args.self.now c.self.view_is c.in-Char.char (sym c.get.ensures ∙ c.in-Char.is)
    (sym c.has.ensures ∙ c.if-has.false) (sym c.has-else-has.ensures ∙ c.if-has-2.false)

pub get-requires : goal.get-requires
get-requires c =
    let i = c.self.inside in
    let size : length c.args.self.now ≡ length i.cells.codes = size_kept (place_by i.heads i.cells.attributes i.known i.told) i.cells.codes c.args.self.now c.self.view_is in
    omega (arith, c.requires, size, c.self.invariant.1)

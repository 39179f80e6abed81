use Rattle.std.proofs.Common.{◌≡◌, ◌+◌, ap, sym, ◌∙◌, drop, length, List, ℕ, arith}
use Rattle.codes3270.specs.Size.{cells_in}
use Rattle.shadow.specs.declared.cell_belief.CellBelief.{CellBelief}
use Rattle.shadow.specs.InPlace.{chars_known}
use Rattle.shadow.specs.PackedBeliefs.{place_by}
use Rattle.shadow.proofs.Keeping.{size_kept}
use Rattle.shadow.proofs.Stretches.{first_attribute, drop_drop}
use Rattle.shadow.proofs.Walks.{none_left}
use Rattle.shadow.proofs.cell_beliefs.CellBeliefs.attribute_from.Goals as goal

pub returns-clause-place : goal.returns-clause-place
returns-clause-place c =
    let i = c.self.inside in
    first_attribute i.heads i.cells.attributes i.known i.told i.cells.codes c.args.self.now c.self.view_is (cells_in i.cells.size) c.args.from c.attribute_from.result c.self.invariant.1
    c.attribute_from.ensures.from c.attribute_from.ensures.within c.attribute_from.ensures.clear c.attribute_from.ensures.set

pub returns-clause-stands : goal.returns-clause-stands
returns-clause-stands c =
    let ps = c.args.self.now in
    let k = length (chars_known (drop c.args.from ps)) in
    let is : c.attribute_from.result ≡ c.args.from + k = returns-clause-place c in
    ap (λ (n : ℕ). length (chars_known (drop n ps))) is ∙ ap (λ (qs : List CellBelief). length (chars_known qs)) (sym (drop_drop c.args.from k ps)) ∙ none_left (drop c.args.from ps)

pub returns-clause-within : goal.returns-clause-within
returns-clause-within c =
    let i = c.self.inside in
    let size : length c.args.self.now ≡ length i.cells.codes = size_kept (place_by i.heads i.cells.attributes i.known i.told) i.cells.codes c.args.self.now c.self.view_is in
    omega (arith, size, c.self.invariant.1, c.attribute_from.ensures.within)

pub attribute_from-requires : goal.attribute_from-requires
attribute_from-requires c =
    let i = c.self.inside in
    let size : length c.args.self.now ≡ length i.cells.codes = size_kept (place_by i.heads i.cells.attributes i.known i.told) i.cells.codes c.args.self.now c.self.view_is in
    omega (arith, size, c.self.invariant.1, c.requires)

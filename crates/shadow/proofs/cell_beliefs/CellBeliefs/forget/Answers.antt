use Rattle.std.proofs.Common.{◌≡◌, arith, length}
use Rattle.shadow.specs.PackedBeliefs.{place_by}
use Rattle.shadow.proofs.Keeping.{size_kept}
use Rattle.shadow.proofs.Ranges.{forgotten}
use Rattle.shadow.proofs.cell_beliefs.CellBeliefs.forget.Goals as goal

pub invariant_of-self : goal.invariant_of-self
invariant_of-self c =
    let i = c.self.inside in
    let size : length c.args.self.now ≡ length i.cells.codes = size_kept (place_by i.heads i.cells.attributes i.known i.told) i.cells.codes c.args.self.now c.self.view_is in
    let kept_ = forgotten i.heads i.cells.attributes i.known i.told i.cells.codes c.args.self.now c.self.view_is c.args.from c.args.to c.requires.chars (omega (arith, c.requires.few, size)) c.self.invariant.3
    c.put_range.new.self c.put_range-2.new.self c.put_range.ensures c.put_range-2.ensures in
    (c.self.invariant.0, c.self.invariant.1, c.self.invariant.2, kept_.2)

pub returns : goal.returns
returns c =
    let i = c.self.inside in
    let size : length c.args.self.now ≡ length i.cells.codes = size_kept (place_by i.heads i.cells.attributes i.known i.told) i.cells.codes c.args.self.now c.self.view_is in
    (forgotten i.heads i.cells.attributes i.known i.told i.cells.codes c.args.self.now c.self.view_is c.args.from c.args.to c.requires.chars (omega (arith, c.requires.few, size)) c.self.invariant.3
    c.put_range.new.self c.put_range-2.new.self c.put_range.ensures c.put_range-2.ensures).0

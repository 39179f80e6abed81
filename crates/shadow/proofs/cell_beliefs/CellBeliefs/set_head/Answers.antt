use Rattle.std.proofs.Common.{◌≡◌, ◌<◌, ◌∙◌, arith, subst, length}
use Rattle.std.proofs.lemmas.List.{length-set}
use Rattle.shadow.specs.PackedBeliefs.{place_by, MarksKnown}
use Rattle.shadow.proofs.Keeping.{size_kept, head_kept, head_marked}
use Rattle.shadow.proofs.cell_beliefs.CellBeliefs.set_head.Goals as goal

pub returns : goal.returns
returns c =
    let i = c.self.inside in
    let size : length c.args.self.now ≡ length i.cells.codes = size_kept (place_by i.heads i.cells.attributes i.known i.told) i.cells.codes c.args.self.now c.self.view_is in
    let low : c.args.at < length i.cells.codes = omega (arith, c.requires, size) in
    head_kept i.heads i.cells.attributes i.known i.told i.cells.codes c.args.at (omega (arith, c.self.invariant.0, c.self.invariant.1, c.self.invariant.2, low)) low c.args.mdt c.args.knowledge c.args.self.now c.self.view_is

pub invariant_of-self : goal.invariant_of-self
invariant_of-self c =
    let i = c.self.inside in
    let size : length c.args.self.now ≡ length i.cells.codes = size_kept (place_by i.heads i.cells.attributes i.known i.told) i.cells.codes c.args.self.now c.self.view_is in
    let low : c.args.at < length i.cells.codes = omega (arith, c.requires, size) in (
      length-set i.heads c.args.at (record { mdt = c.args.mdt; knowledge = c.args.knowledge }) ∙ c.self.invariant.0,
      c.self.invariant.1,
      c.self.invariant.2,
      head_marked i.heads i.cells.attributes i.known i.told i.cells.codes c.args.at (omega (arith, c.self.invariant.0, c.self.invariant.1, c.self.invariant.2, low)) low c.args.mdt c.args.knowledge c.args.self.now c.self.view_is
          (subst (MarksKnown i.known) c.self.view_is c.self.invariant.3),
    )

use Rattle.std.proofs.Common.{◌≡◌, ◌∙◌, sym, length}
use Rattle.shadow.specs.PackedBeliefs.{place_by}
use Rattle.shadow.proofs.Keeping.{size_kept}
use Rattle.shadow.proofs.cell_beliefs.CellBeliefs.len.Goals as goal

pub returns-clause-len : goal.returns-clause-len
returns-clause-len c =
    let i = c.self.inside in
    let size : length c.args.self.now ≡ length i.cells.codes = size_kept (place_by i.heads i.cells.attributes i.known i.told) i.cells.codes c.args.self.now c.self.view_is in
    c.len.ensures.len ∙ sym size

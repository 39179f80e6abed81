use Rattle.std.proofs.Common.{◌≡◌, arith, length}
use Rattle.shadow.specs.PackedBeliefs.{place_by}
use Rattle.shadow.proofs.Keeping.{size_kept}
use Rattle.shadow.proofs.cell_beliefs.CellBeliefs.size.Goals as goal

pub returns-clause-cells : goal.returns-clause-cells
returns-clause-cells c =
    let i = c.self.inside in
    let size : length c.args.self.now ≡ length i.cells.codes = size_kept (place_by i.heads i.cells.attributes i.known i.told) i.cells.codes c.args.self.now c.self.view_is in
    rw c.size.ensures.size (omega (arith, size, c.size.ensures.cells))

pub returns-clause-few : goal.returns-clause-few
returns-clause-few c =
    let i = c.self.inside in
    let size : length c.args.self.now ≡ length i.cells.codes = size_kept (place_by i.heads i.cells.attributes i.known i.told) i.cells.codes c.args.self.now c.self.view_is in
    omega (arith, size, c.size.ensures.cells, c.size.ensures.few)

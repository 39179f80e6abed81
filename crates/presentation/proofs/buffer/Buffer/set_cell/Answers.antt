use Rattle.std.proofs.Common.{set, ap, arith}
use Rattle.std.proofs.lemmas.List.{length-set}
use Rattle.codes3270.specs.Size.{cells_in}
use Rattle.presentation.specs.Sizes.{SizedScreen}
use Rattle.presentation.proofs.Sized.{sized, changed_sized}
use Rattle.presentation.proofs.Storable.{with_stored}
use Rattle.presentation.proofs.buffer.Buffer.set_cell.Goals as goal

pub set-requires : goal.set-requires
set-requires c =
    let same = ap (λ (s : SizedScreen). cells_in s.size) c.self.view_is in
    omega (arith, same, c.get.ensures.value, c.requires.address, c.self.invariant.cells)

pub invariant_of-self : goal.invariant_of-self
invariant_of-self c =
    let i = c.self.inside in
    let old : SizedScreen = sized i.model i.size i.cursor i.aid i.cells in
    changed_sized old (set i.cells c.get.result c.args.cell) c.set.new.self i.cursor c.set.ensures (length-set i.cells c.get.result c.args.cell)
    (with_stored old.screen c.get.result c.args.cell c.requires.storable c.self.invariant.sendable) c.self.invariant

pub returns : goal.returns
returns c = rw (c.set.ensures, c.get.ensures.value, ← c.self.view_is)

use Rattle.std.proofs.Common.{ℕ, cond}
use Rattle.codes3270.specs.declared.attribute.Cell.{Cell}
use Rattle.datastream.specs.Meaning.{opened, erased}
use Rattle.datastream.specs.Screen.{is_protected}
use Rattle.datastream.proofs.Places.{length-across}
use Rattle.presentation.specs.Sizes.{SizedScreen}
use Rattle.presentation.proofs.Sized.{sized, changed_sized}
use Rattle.presentation.proofs.Storable.{with_opened}
use Rattle.presentation.proofs.buffer.Buffer.erase_up_to.Goals as goal

pub invariant_of-self : goal.invariant_of-self
invariant_of-self c =
    let i = c.self.inside in
    let old : SizedScreen = sized i.model i.size i.cursor i.aid i.cells in
    let far : ℕ = c.distance_to-count.result in
    changed_sized old (opened c.args.address far i.cells) c.erase_unprotected_in.new.cells i.cursor c.erase_unprotected_in.ensures
    (length-across c.args.address far (λ (at : ℕ) (was : Cell). cond (is_protected i.cells at) was (erased was)) i.cells)
    (with_opened old.screen c.args.address far c.self.invariant.sendable) c.self.invariant

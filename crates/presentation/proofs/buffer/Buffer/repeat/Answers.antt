use Rattle.std.proofs.Common.{ℕ}
use Rattle.codes3270.specs.declared.attribute.Cell.{Cell}
use Rattle.codes3270.specs.declared.attribute.Cell.TheVariants.{Char}
use Rattle.datastream.specs.Meaning.{filled}
use Rattle.datastream.proofs.Places.{length-across}
use Rattle.presentation.specs.Sizes.{SizedScreen}
use Rattle.presentation.proofs.Sized.{sized, changed_sized}
use Rattle.presentation.proofs.Storable.{with_filled}
use Rattle.presentation.proofs.buffer.Buffer.repeat.Goals as goal

pub invariant_of-self : goal.invariant_of-self
invariant_of-self c =
    let i = c.self.inside in
    let old : SizedScreen = sized i.model i.size i.cursor i.aid i.cells in
    let far : ℕ = c.distance_to-count.result in
    let code : Cell = Char c.args.byte in
    changed_sized old (filled c.args.address far code i.cells) c.fill.new.cells i.cursor c.fill.ensures (length-across c.args.address far (λ (at : ℕ) (was : Cell). code) i.cells)
    (with_filled old.screen c.args.address far code c.requires.storable c.self.invariant.sendable) c.self.invariant

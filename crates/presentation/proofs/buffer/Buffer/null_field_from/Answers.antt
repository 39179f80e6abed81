use Rattle.std.proofs.Common.{ℕ, true}
use Rattle.codes3270.specs.declared.attribute.Cell.{Cell}
use Rattle.codes3270.specs.declared.attribute.Cell.TheVariants.{Char}
use Rattle.datastream.specs.Meaning.{filled}
use Rattle.datastream.proofs.Places.{length-across}
use Rattle.presentation.specs.Sizes.{SizedScreen}
use Rattle.presentation.proofs.Sized.{sized, changed_sized}
use Rattle.presentation.proofs.Storable.{with_filled}
use Rattle.presentation.proofs.buffer.Buffer.null_field_from.Goals as goal

pub invariant_of-self : goal.invariant_of-self
invariant_of-self c =
    let i = c.self.inside in
    let old : SizedScreen = sized i.model i.size i.cursor i.aid i.cells in
    let far : ℕ = c.characters_ahead-ahead.result in
    changed_sized old (filled c.args.address far (Char 0) i.cells) c.fill.new.cells i.cursor c.fill.ensures (length-across c.args.address far (λ (at : ℕ) (was : Cell). Char 0) i.cells)
    (with_filled old.screen c.args.address far (Char 0) (λ i. true) c.self.invariant.sendable) c.self.invariant

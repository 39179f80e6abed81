use Rattle.std.proofs.Common.{map}
use Rattle.std.proofs.lemmas.List.{length-map}
use Rattle.datastream.specs.Meaning.{unmodified}
use Rattle.presentation.specs.Sizes.{SizedScreen}
use Rattle.presentation.proofs.Sized.{sized, changed_sized}
use Rattle.presentation.proofs.Storable.{with_mapped, storable_unmodified}
use Rattle.presentation.proofs.buffer.Buffer.prepare.Goals as goal

pub invariant_of-self : goal.invariant_of-self
invariant_of-self c =
    let i = c.self.inside in
    let old : SizedScreen = sized i.model i.size i.cursor i.aid i.cells in
    changed_sized old (map unmodified i.cells) c.reset_mdt.new.cells i.cursor c.reset_mdt.ensures (length-map i.cells unmodified)
    (with_mapped old.screen unmodified storable_unmodified c.self.invariant.sendable) c.self.invariant

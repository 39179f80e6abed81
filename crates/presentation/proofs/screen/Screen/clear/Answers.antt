use Rattle.codes3270.specs.Size.{cells_in}
use Rattle.presentation.proofs.AttributePlaces.{attributes_nulls}
use Rattle.presentation.proofs.screen.Screen.clear.Goals as goal

pub invariant_of-self : goal.invariant_of-self
invariant_of-self c = rw (c.clear-2.ensures, c.clear.ensures, attributes_nulls 0 (cells_in c.self.inside.buffer.size))

use Rattle.presentation.proofs.AttributePlaces.{attributes_erased}
use Rattle.presentation.proofs.screen.Screen.erase_unprotected.Goals as goal

pub invariant_of-self : goal.invariant_of-self
invariant_of-self c = rw (c.erase_unprotected.ensures, attributes_erased c.self.inside.buffer.screen.cells) c.self.invariant

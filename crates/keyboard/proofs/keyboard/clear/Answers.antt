use Rattle.keyboard.proofs.keyboard.clear.Goals as goal

pub returns : goal.returns
returns c = rw c.size-size.ensures.cells c.clear.ensures

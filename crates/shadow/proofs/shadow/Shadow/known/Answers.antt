use Rattle.shadow.proofs.Placed.{cell_of}
use Rattle.shadow.proofs.shadow.Shadow.known.Goals as goal

pub known_held_at-requires-clause-placed : goal.known_held_at-requires-clause-placed
known_held_at-requires-clause-placed c = cell_of c.in-Some.beliefs.now c.args.self.now c.args.addr c.get.result c.get.ensures.value c.in-Some.ensures.0 c.requires

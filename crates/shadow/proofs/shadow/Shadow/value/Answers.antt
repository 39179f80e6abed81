use Rattle.shadow.proofs.Placed.{cell_of}
use Rattle.shadow.proofs.shadow.Shadow.value.Goals as goal

pub value_held_at-requires : goal.value_held_at-requires
value_held_at-requires c = cell_of c.in-Some.beliefs.now c.args.self.now c.args.attr c.get.result c.get.ensures.value c.in-Some.ensures.0 c.requires

use Rattle.shadow.proofs.Placed.{cell_of}
use Rattle.shadow.proofs.shadow.Shadow.fact.Goals as goal

pub fact_held_at-requires : goal.fact_held_at-requires
fact_held_at-requires c = cell_of c.in-Some.beliefs.now c.args.self.now c.args.attr c.get.result c.get.ensures.value c.in-Some.ensures.0 c.requires

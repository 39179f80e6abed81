use Rattle.shadow.proofs.Placed.{cell_of}
use Rattle.shadow.proofs.shadow.Shadow.text.Goals as goal

pub text_held_at-requires : goal.text_held_at-requires
text_held_at-requires c = cell_of c.in-Some.beliefs.now c.args.self.now c.args.attr c.get.result c.get.ensures.value c.in-Some.ensures.0 c.requires

use Rattle.world3270.proofs.Headline.{nobody_refuses}
use Rattle.world3270.proofs.laws.nobody_refuses.Goals as goal

pub returns : goal.returns
returns c = nobody_refuses c.what_is_given.ensures

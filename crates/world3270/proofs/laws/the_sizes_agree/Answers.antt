use Rattle.world3270.proofs.Sizes.{all_sizes_agree}
use Rattle.world3270.proofs.laws.the_sizes_agree.Goals as goal

pub returns : goal.returns
returns c = all_sizes_agree c.what_is_given.ensures

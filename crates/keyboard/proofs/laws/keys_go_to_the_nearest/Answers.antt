use Rattle.keyboard.proofs.Homes.{home_is}
use Rattle.keyboard.proofs.Searches.{first_onward, first_backward, none_onward, none_backward}
use Rattle.keyboard.proofs.laws.keys_go_to_the_nearest.Goals as goal

pub returns-clause-onward : goal.returns-clause-onward
returns-clause-onward c = first_onward

pub returns-clause-backward : goal.returns-clause-backward
returns-clause-backward c = first_backward

pub returns-clause-none_onward : goal.returns-clause-none_onward
returns-clause-none_onward c = none_onward

pub returns-clause-none_backward : goal.returns-clause-none_backward
returns-clause-none_backward c = none_backward

pub returns-clause-home : goal.returns-clause-home
returns-clause-home c = home_is

use Rattle.world3270.proofs.Ends.{up_is_held, holders_are_here}
use Rattle.world3270.proofs.Places.{ends_agree}
use Rattle.world3270.proofs.laws.the_ends_agree.Goals as goal

pub returns-clause-agree : goal.returns-clause-agree
returns-clause-agree c = ends_agree

pub returns-clause-up : goal.returns-clause-up
returns-clause-up c = up_is_held c.what_is_given.ensures

pub returns-clause-holders : goal.returns-clause-holders
returns-clause-holders c = holders_are_here c.what_is_given.ensures

use Rattle.world3270.proofs.Headline.{acts_on_the_key, knows_the_cleared, leaves_nothing_open}
use Rattle.world3270.proofs.laws.what_was_pressed_is_acted_on.Goals as goal

pub returns-clause-key : goal.returns-clause-key
returns-clause-key c = acts_on_the_key c.what_is_given.ensures

pub returns-clause-cleared : goal.returns-clause-cleared
returns-clause-cleared c = knows_the_cleared c.what_is_given.ensures

pub returns-clause-unopened : goal.returns-clause-unopened
returns-clause-unopened c = leaves_nothing_open c.what_is_given.ensures

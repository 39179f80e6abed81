use Rattle.world3270.proofs.Others.{links_stay, holders_stay, pool_is_sound}
use Rattle.world3270.proofs.laws.the_others_stay.Goals as goal

pub returns-clause-links : goal.returns-clause-links
returns-clause-links c = links_stay

pub returns-clause-holders : goal.returns-clause-holders
returns-clause-holders c = holders_stay c.what_is_given.ensures

pub returns-clause-sound : goal.returns-clause-sound
returns-clause-sound c = pool_is_sound c.what_is_given.ensures

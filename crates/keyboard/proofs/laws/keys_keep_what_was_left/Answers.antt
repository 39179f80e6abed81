use Rattle.datastream.proofs.HeldRounds.{erased_input_round}
use Rattle.keyboard.proofs.Leaving.{keys_leave}
use Rattle.keyboard.proofs.Keeping.{keys_keep}
use Rattle.keyboard.proofs.Inside.{keys_stay}
use Rattle.keyboard.proofs.laws.keys_keep_what_was_left.Goals as goal

pub returns-clause-leave : goal.returns-clause-leave
returns-clause-leave c = keys_leave

pub returns-clause-keep : goal.returns-clause-keep
returns-clause-keep c = keys_keep c.kept_since_the_write.ensures.composes c.kept_since_the_write.ensures.erase_input

pub returns-clause-erase_input : goal.returns-clause-erase_input
returns-clause-erase_input c = erased_input_round

pub returns-clause-on_screen : goal.returns-clause-on_screen
returns-clause-on_screen c = keys_stay

use Rattle.keyboard.proofs.Locks.{refusals_set_the_lock, reset_alone, no_key_ends_wait}
use Rattle.keyboard.proofs.laws.locks_hold.Goals as goal

pub returns-clause-refused : goal.returns-clause-refused
returns-clause-refused c = refusals_set_the_lock

pub returns-clause-reset_alone : goal.returns-clause-reset_alone
returns-clause-reset_alone c = reset_alone

pub returns-clause-wait : goal.returns-clause-wait
returns-clause-wait c = no_key_ends_wait

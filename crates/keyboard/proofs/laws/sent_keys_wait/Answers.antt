use Rattle.keyboard.proofs.SentKeys.{sending_waits, clear_empties_the_screen, silent_keys_keep_the_aid, silent_keys_begin_no_wait, nothing_is_sent_at_a_lock}
use Rattle.keyboard.proofs.laws.sent_keys_wait.Goals as goal

pub returns-clause-sends : goal.returns-clause-sends
returns-clause-sends c = sending_waits

pub returns-clause-clears : goal.returns-clause-clears
returns-clause-clears c = clear_empties_the_screen

pub returns-clause-keeps : goal.returns-clause-keeps
returns-clause-keeps c = silent_keys_keep_the_aid

pub returns-clause-begins_no_wait : goal.returns-clause-begins_no_wait
returns-clause-begins_no_wait c = silent_keys_begin_no_wait

pub returns-clause-locked : goal.returns-clause-locked
returns-clause-locked c = nothing_is_sent_at_a_lock

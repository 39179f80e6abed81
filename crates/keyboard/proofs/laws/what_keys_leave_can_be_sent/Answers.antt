use Rattle.keyboard.proofs.Sendable.{keys_keep_sendable}
use Rattle.keyboard.proofs.laws.what_keys_leave_can_be_sent.Goals as goal

pub returns : goal.returns
returns c = keys_keep_sendable c.keys_keep_what_was_left.ensures.on_screen

use Rattle.world3270.proofs.KeyMoves.{keys_operate}
use Rattle.world3270.proofs.OtherTerminals.{careless_keys_operate, impatient_keys_operate, pasting_operates}
use Rattle.world3270.proofs.laws.terminals_keep_the_rules.Goals as goal

pub returns : goal.returns
returns c =
    let at_first = c.kept_since_the_write.ensures.at_first in
    let ours = keys_operate c.keys_keep_what_was_left.ensures.leave c.keys_keep_what_was_left.ensures.on_screen c.sent_keys_wait.ensures.keeps c.sent_keys_wait.ensures.locked c.sent_keys_wait.ensures.sends
    at_first c.kept_since_the_write.ensures.erase_input in
    record { ours = ours; impatient = impatient_keys_operate ours; careless = careless_keys_operate at_first ours; pasting = pasting_operates at_first }

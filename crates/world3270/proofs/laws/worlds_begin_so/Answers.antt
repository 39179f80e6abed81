use Rattle.world3270.proofs.AnyEvery.{takes_laws}
use Rattle.world3270.proofs.Instances.{worlds_begin}
use Rattle.world3270.proofs.Moved.{connections_are_moved, worlds_go_on}
use Rattle.world3270.proofs.RunsOfBytes.{a_begin}
use Rattle.world3270.proofs.RunsOfServing.{a_turn}
use Rattle.world3270.proofs.WorldMoves.{events_are_moves, worlds_move}
use Rattle.world3270.proofs.laws.worlds_begin_so.Goals as goal

pub returns-clause-worlds : goal.returns-clause-worlds
returns-clause-worlds c = worlds_begin c.what_is_given.ensures c.panels_are_shown.ensures.application c.what_is_served_is_marked.ensures

pub returns-clause-example : goal.returns-clause-example
returns-clause-example c = a_begin c.what_is_known.ensures c.one_reading.ensures.written c.panels_are_shown.ensures.application c.what_is_served_is_marked.ensures

pub returns-clause-turn : goal.returns-clause-turn
returns-clause-turn c = a_turn

pub returns-clause-moves : goal.returns-clause-moves
returns-clause-moves c = connections_are_moved c.what_is_given.ensures c.every_terminal.ensures c.terminals_keep_the_rules.ensures.ours c.sent_keys_wait.ensures.sends

pub returns-clause-bytes : goal.returns-clause-bytes
returns-clause-bytes c = worlds_go_on c.what_is_known.ensures c.what_is_served_is_marked.ensures c.every_terminal.ensures c.terminals_keep_the_rules.ensures.ours c.sent_keys_wait.ensures.sends

pub returns-clause-events : goal.returns-clause-events
returns-clause-events c =
    let stands = c.bytes_stand_for_messages.ensures in
    events_are_moves c.what_is_known.ensures c.bytes_follow_messages.ensures.steps
    (takes_laws c.what_is_known.ensures c.what_is_believed_has_a_size.ensures.meets c.sent_is_read.ensures stands.takes stands.sendable stands.nop stands.marks stands.down_taken c.one_reading.ensures.written) stands.presses
    c.terminals_keep_the_rules.ensures.ours c.sent_keys_wait.ensures.sends

pub returns-clause-runs : goal.returns-clause-runs
returns-clause-runs c =
    let stands = c.bytes_stand_for_messages.ensures in
    worlds_move c.what_is_known.ensures c.bytes_follow_messages.ensures.steps
    (takes_laws c.what_is_known.ensures c.what_is_believed_has_a_size.ensures.meets c.sent_is_read.ensures stands.takes stands.sendable stands.nop stands.marks stands.down_taken c.one_reading.ensures.written) stands.presses
    c.terminals_keep_the_rules.ensures.ours c.sent_keys_wait.ensures.sends c.what_is_given.ensures c.panels_are_shown.ensures.application c.what_is_served_is_marked.ensures c.every_terminal_over_bytes.ensures

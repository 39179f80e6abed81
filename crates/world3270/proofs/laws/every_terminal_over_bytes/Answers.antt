use Rattle.world3270.proofs.AnyEvery.{any_laws, every_terminal_over_bytes}
use Rattle.world3270.proofs.laws.every_terminal_over_bytes.Goals as goal

pub returns : goal.returns
returns c =
    let stands = c.bytes_stand_for_messages.ensures in
    let painted = c.painted_fields_are_there.ensures in
    every_terminal_over_bytes (any_laws c.what_is_known.ensures c.what_is_believed_has_a_size.ensures.meets stands.takes stands.sendable stands.nop stands.marks stands.down_taken c.one_reading.ensures.written c.sent_is_read.ensures painted.written painted.kept)

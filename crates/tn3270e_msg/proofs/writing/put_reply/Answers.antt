use Rattle.std.proofs.Common.{ℕ, arith, ap, length, length-append}
use Rattle.tn3270e_msg.specs.Lent.{payload}
use Rattle.telnet_wire.proofs.Lengths.{sub_fits}
use Rattle.tn3270e_msg.proofs.writing.put_reply.Goals as goal

pub unwrap-requires-in-Sub : goal.unwrap-requires-in-Sub
unwrap-requires-in-Sub c =
    let fits = sub_fits (payload c.message.result) in
    let short = ap length c.message.ensures.bytes in
    c.put_sub_message.ensures.put.room (omega (arith, length-append {A = ℕ}))

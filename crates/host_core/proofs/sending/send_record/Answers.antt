use Rattle.std.proofs.Common.{arith}
use Rattle.telnet_wire.proofs.Lengths.{record_fits}
use Rattle.host_core.proofs.sending.send_record.Goals as goal

pub unwrap-requires : goal.unwrap-requires
unwrap-requires c =
    let fits = record_fits c.args.bytes.now in
    c.put_record.ensures.room (omega arith)

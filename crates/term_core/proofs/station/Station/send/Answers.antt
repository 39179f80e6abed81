use Rattle.std.proofs.Common.{ℕ, arith, length, ap, length-append}
use Rattle.telnet_wire.proofs.Lengths.{record_fits}
use Rattle.term_core.proofs.station.Station.send.Goals as goal

pub unwrap-requires-2 : goal.unwrap-requires-2
unwrap-requires-2 c =
    let fits = record_fits c.as_slice.result.now in
    let value = ap length c.as_slice.ensures.value in
    let body = ap length c.put_reading.ensures.appended in
    let header = ap length (rw c.unwrap.ensures at c.extend_from_slice.ensures.items) in
    let cleared = ap length c.clear.ensures.items in
    let five = ap length c.header_bytes.ensures.bytes in
    c.put_record.ensures.room (omega (arith, length-append {A = ℕ}))

pub returns-clause-room : goal.returns-clause-room
returns-clause-room c =
    let fits = record_fits c.as_slice.result.now in
    let value = ap length c.as_slice.ensures.value in
    let body = ap length c.put_reading.ensures.appended in
    let header = ap length (rw c.unwrap.ensures at c.extend_from_slice.ensures.items) in
    let cleared = ap length c.clear.ensures.items in
    let five = ap length c.header_bytes.ensures.bytes in
    let sent = ap length (rw c.unwrap-2.ensures at c.put_record.ensures.appended) in
    omega (arith, length-append {A = ℕ}, c.put_record.new.out.ok.0, c.args.out.now.ok.0)

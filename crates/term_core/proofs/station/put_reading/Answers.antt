use Rattle.std.proofs.Common.{◌+◌, arith, length, true, false, vec_len}
use Rattle.std.specs.Vec.{vec_capacity}
use Rattle.datastream.specs.Inbound.{read_modified}
use Rattle.telnet_wire.proofs.Lengths.{ok_with_room}
use Rattle.term_core.proofs.station.put_reading.Goals as goal

pub unwrap-requires : goal.unwrap-requires
unwrap-requires c =
    let few = c.readings_fit.ensures.modified false in
    ok_with_room c.put_read_modified.result (vec_capacity c.args.body.now) (vec_len c.args.body.now + length (read_modified false c.args.screen.now.screen))
    c.put_read_modified.ensures.appends.room (omega arith)

pub unwrap-requires-in-ModifiedAll : goal.unwrap-requires-in-ModifiedAll
unwrap-requires-in-ModifiedAll c =
    let few = c.readings_fit.ensures.modified true in
    ok_with_room c.put_read_modified-in-ModifiedAll.result (vec_capacity c.args.body.now) (vec_len c.args.body.now + length (read_modified true c.args.screen.now.screen))
    c.put_read_modified-in-ModifiedAll.ensures.appends.room (omega arith)

pub returns-in-Modified-clause-short : goal.returns-in-Modified-clause-short
returns-in-Modified-clause-short c = rw c.in-Modified.is (c.readings_fit.ensures.modified false)

pub returns-in-ModifiedAll-clause-short : goal.returns-in-ModifiedAll-clause-short
returns-in-ModifiedAll-clause-short c = rw c.in-ModifiedAll.is (c.readings_fit.ensures.modified true)

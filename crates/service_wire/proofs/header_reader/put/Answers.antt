use Rattle.std.proofs.Common.{◌+◌, ◌-◌, length, arith}
use Rattle.service_wire.proofs.Readers.{put_parts}
use Rattle.service_wire.proofs.header_reader.put.Goals as goal

pub returns : goal.returns
returns c =
    let place = c.args.place in
    let bytes = c.args.bytes.now in
    let parts = put_parts c.args.room.now bytes c.copy_from_slice.new.self place (place + length bytes - place) c.requires c.copy_from_slice.ensures.after (omega arith) in
    record { before = parts.0; added = parts.1 }

-- The most bytes that what a host sends takes (our profile), so that room for it can be made first.
use Rattle.std.specs.Prelude.{ℕ, ◌+◌, ◌*◌, ◌≤◌, vec_len, Vec}
use Rattle.std.specs.Vec.{vec_capacity}
use Rattle.std.specs.declared.alloc.Global.{Global}
use Rattle.codes3270.specs.Size.{most_cells, most_columns}
use Rattle.tn3270e_msg.specs.Header.{header_length}
use Rattle.tn3270e_msg.specs.Writing.{reply_room}
use Rattle.host_core.specs.Messages.{ToTerminal}

-- the most bytes of a record that a host sends: a header, and a paint of the largest screen at three bytes a cell
abbrev pub record_room : ℕ
record_room = header_length + (9 + 3 * most_cells)

-- such a record on the wire, with each byte doubled, and IAC EOR
abbrev pub command_room : ℕ
command_room = 2 * record_room + 2

-- a Read Buffer on the wire: a header and a code, with each byte doubled, and IAC EOR
abbrev pub read_buffer_room : ℕ
read_buffer_room = 2 * (header_length + 1) + 2

-- a note on the wire: a header, code, WCC, SBA, and the longest last row, with each byte doubled, and IAC EOR
abbrev pub note_room : ℕ
note_room = 2 * (header_length + (4 + most_columns)) + 2

-- the most bytes that a message takes on the wire
abbrev pub room_for : ToTerminal → ℕ
room_for (ToTerminal.TalksDown saying) = reply_room
room_for (ToTerminal.Paint number wanted over) = command_room
room_for (ToTerminal.ReadBuffer number) = read_buffer_room
room_for (ToTerminal.Note number command) = note_room

-- The room for output that an open connection has: the largest command, and 1,024 bytes beside it.
abbrev pub out_room : ℕ
out_room = 1024 + command_room

-- holds if `room` bytes more fit into the output
abbrev pub HasRoomFor : ℕ → Vec ℕ Global → Type 0
HasRoomFor room out = vec_len out + room ≤ vec_capacity out

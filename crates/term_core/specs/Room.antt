-- The capacity that a terminal's output needs, in bytes (our profile). A terminal makes room for the largest reply
-- before it takes a byte, and for a key's data before the key acts.
use Rattle.std.specs.Prelude.{ℕ, ◌+◌, ◌*◌, ◌≤◌, vec_len, Vec}
use Rattle.std.specs.Vec.{vec_capacity}
use Rattle.std.specs.declared.alloc.Global.{Global}
use Rattle.codes3270.specs.Size.{most_cells}
use Rattle.tn3270e_msg.specs.Header.{header_length}

-- the most bytes of data that a read returns on any screen: an AID, a cursor address, and at most three bytes a cell
abbrev pub longest_reading : ℕ
longest_reading = 3 + 3 * most_cells

-- the most bytes of a record that a terminal sends: a header and the longest data
abbrev pub record_room : ℕ
record_room = header_length + longest_reading

-- the most bytes of a response on the wire: six bytes, each doubled, and IAC EOR
abbrev pub response_room : ℕ
response_room = 14

-- the most bytes that a data record takes on the wire: each byte doubled, and IAC EOR
abbrev pub data_room : ℕ
data_room = 2 * record_room + 2

-- the most bytes of a reply: a data record, and a response
abbrev pub reply_room : ℕ
reply_room = data_room + response_room

-- the most bytes that may wait unsent while the largest reply still has room
abbrev pub spare_room : ℕ
spare_room = 1024

-- the capacity that `new` gives the output buffer
abbrev pub out_room : ℕ
out_room = reply_room + spare_room

-- holds if a reply has room after the bytes in the buffer
abbrev pub HasRoom : Vec ℕ Global → Type 0
HasRoom out = vec_len out + reply_room ≤ vec_capacity out

-- holds if a data record has room after the bytes in the buffer
abbrev pub HasRoomForData : Vec ℕ Global → Type 0
HasRoomForData out = vec_len out + data_room ≤ vec_capacity out

-- holds if a response has room after the bytes in the buffer
abbrev pub HasRoomForResponse : Vec ℕ Global → Type 0
HasRoomForResponse out = vec_len out + response_room ≤ vec_capacity out

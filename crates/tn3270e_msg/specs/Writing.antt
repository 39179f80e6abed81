-- How a call that appends a message changes a vector: the message is a subnegotiation (RFC 855; RFC 1647, section 3).
use Rattle.std.specs.Prelude.{ℕ, ◌+◌, ◌*◌, ◌≤◌, Result, Vec, vec_len}
use Rattle.std.specs.Vec.{vec_capacity}
use Rattle.std.specs.declared.alloc.Global.{Global}
use Rattle.telnet_wire.specs.Token.{spelling, Sub}
use Rattle.telnet_wire.specs.Writing.{Appends}
use Rattle.tn3270e_msg.specs.declared.message.SubMessage.{SubMessage}
use Rattle.tn3270e_msg.specs.Lent.{payload}

-- holds if the call appended a subnegotiation with just this message's payload, or failed and changed nothing
abbrev pub PutsMessage : {E : Type 0} → Vec ℕ Global → SubMessage → Result (Unit {0}) E → Vec ℕ Global → Type 0
PutsMessage old message result new = Appends old (spelling (Sub (payload message))) result new

-- the most bytes of a talk's reply: a subnegotiation of 256 bytes, each doubled, with its begin and end
abbrev pub reply_room : ℕ
reply_room = 2 * 256 + 4

-- holds if the vector has room for a reply
abbrev pub HasRoomForReply : Vec ℕ Global → Type 0
HasRoomForReply out = vec_len out + reply_room ≤ vec_capacity out

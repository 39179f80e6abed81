-- Keeping a connection alive: IAC NOP is sent, which has no effect at the terminal (RFC 854), so that TCP notices a
-- peer that is gone. When it is sent is our profile.
use Rattle.std.specs.Prelude.{◌==◌, ◌&&◌, Bool, false, [], ◌∷◌, ◌++◌, length, if◌then◌else◌}
use Rattle.telnet_wire.specs.Items.{WireItem, Other, sent_bytes}
use Rattle.host_core.specs.Session.{is_agreed}
use Rattle.host_core.specs.State.{Service, Connection}
use Rattle.host_core.specs.declared.acted.Acted.{Acted}
use Rattle.host_core.specs.declared.acted.Acted.TheVariants.{Sent, Nothing}

-- NOP, "no operation" (RFC 854, "TELNET Command Structure")
abbrev pub no_operation : WireItem
no_operation = Other 241

-- the ends agreed on a session: the phase is Bound
abbrev pub is_bound : Service → Bool
is_bound Service.Free = false
is_bound (Service.Open rest conn) = is_agreed conn.talk.state
is_bound (Service.Closed cause) = false

-- NOP may be sent: the connection is bound, and has nothing to send
abbrev pub may_keep_alive : Connection → Bool
may_keep_alive connection = is_bound connection.service && (length connection.out == 0)

-- NOP is appended to its output
abbrev pub with_nop : Connection → Connection
with_nop connection = record connection { out = connection.out ++ sent_bytes (no_operation ∷ []) }

-- the connection after it is kept alive: with NOP, if that may be sent
abbrev pub kept_alive : Connection → Connection
kept_alive connection = if may_keep_alive connection then with_nop connection else connection

abbrev pub kept_alive_answer : Connection → Acted
kept_alive_answer connection = if may_keep_alive connection then Sent else Nothing

-- The requests for an LU that a host rejects (RFC 1647, sections 3 and 7).
use Rattle.std.specs.Prelude.{ℕ, List, Option, Some, None}
use Rattle.tn3270e_msg.specs.Lu.{lu_of}
use Rattle.tn3270e_msg.specs.Message.{Name, Connect}
use Rattle.tn3270e_msg.specs.Talk.{Comes, RequestsType}
use Rattle.tn3270e_msg.specs.declared.reply.OwnedMessage.{OwnedMessage}
use Rattle.tn3270e_msg.specs.declared.reply.OwnedMessage.TheVariants.{TypeReject}
use Rattle.tn3270e_msg.specs.declared.reply.Reason.{Reason}
use Rattle.tn3270e_msg.specs.declared.reply.Reply.{Reply}
use Rattle.tn3270e_msg.specs.declared.reply.Reply.TheVariants.{Sub}
use Rattle.host_core.specs.declared.rejection.Rejection.{Rejection}

-- the LU that CONNECT names; none if no name is given, or if it isn't the name of an LU
abbrev pub lu_named : Option Name → Option (List ℕ)
lu_named (Some (Connect name)) = lu_of name
lu_named _ = None

-- the LU that DEVICE-TYPE REQUEST asks for
abbrev pub lu_asked : Comes → Option (List ℕ)
lu_asked (RequestsType device name) = lu_named name
lu_asked _ = None

-- why DEVICE-TYPE REJECT rejects a request
abbrev pub reason_of : OwnedMessage → Option Reason
reason_of (TypeReject reason) = Some reason
reason_of _ = None

-- why a reply rejects a request, if it does
abbrev pub reason_in : Reply → Option Reason
reason_in (Sub message after) = reason_of message
reason_in _ = None

abbrev pub rejected_for : Option (List ℕ) → Option Reason → Option Rejection
rejected_for lu None = None
rejected_for lu (Some reason) = Some (record { lu = lu; reason = reason })

-- the rejection of a request for this LU, if the reply rejects it
abbrev pub rejection_by : Option (List ℕ) → Reply → Option Rejection
rejection_by lu reply = rejected_for lu (reason_in reply)

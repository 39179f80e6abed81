-- The numbers and names of causes and reasons, and what `{}` prints of causes, reasons and LUs.
use Rattle.std.specs.Prelude.{ℕ, List, Option, None, Some, codes, ◌==◌, if◌then◌else◌}
use Rattle.std.specs.Char.{encode_utf8}
use Rattle.std.specs.Fmt.{decimal}
use Rattle.std.specs.List.{flat_map}
use Rattle.tn3270e_msg.specs.declared.cause.Cause.{Cause}
use Rattle.tn3270e_msg.specs.declared.cause.Cause.TheVariants as cause
use Rattle.tn3270e_msg.specs.declared.reply.Reason.{Reason}

-- a cause's number, in the order in which causes are declared (our profile)
abbrev pub cause_number : Cause → ℕ
cause_number cause.NoTn3270e = 1
cause_number cause.NoResponses = 2
cause_number cause.BadTalk = 3
cause_number cause.TooMany = 4
cause_number cause.Wire = 5
cause_number cause.BadRecord = 6
cause_number cause.BadInbound = 7
cause_number cause.BadResponse = 8
cause_number cause.Negative = 9
cause_number cause.RuleBroken = 10

-- a cause's name (our profile)
abbrev pub cause_name : Cause → List ℕ
cause_name cause.NoTn3270e = codes "NoTn3270e"
cause_name cause.NoResponses = codes "NoResponses"
cause_name cause.BadTalk = codes "BadTalk"
cause_name cause.TooMany = codes "TooMany"
cause_name cause.Wire = codes "Wire"
cause_name cause.BadRecord = codes "BadRecord"
cause_name cause.BadInbound = codes "BadInbound"
cause_name cause.BadResponse = codes "BadResponse"
cause_name cause.Negative = codes "Negative"
cause_name cause.RuleBroken = codes "RuleBroken"

-- the name of a reason in RFC 1647, section 3, if it is one that a host here gives (our profile)
abbrev pub reason_name : Reason → Option (List ℕ)
reason_name reason =
    if reason.0 == 1 then Some (codes "DEVICE-IN-USE")
    else (if reason.0 == 3 then Some (codes "INV-NAME")
    else (if reason.0 == 4 then Some (codes "INV-DEVICE-TYPE")
    else (if reason.0 == 7 then Some (codes "UNSUPPORTED-REQ") else None)))

-- the name if there is one, else the code in decimal
abbrev pub name_or_code : Option (List ℕ) → ℕ → List ℕ
name_or_code (Some name) code = name
name_or_code None code = decimal code

-- a reason's name, or its code in decimal if it has no name here
abbrev pub reason_text : Reason → List ℕ
reason_text reason = name_or_code (reason_name reason) reason.0

-- an LU name as UTF-8; each character is one byte
abbrev pub lu_text : List ℕ → List ℕ
lu_text name = flat_map encode_utf8 name

-- What `{}` prints of the faults (our profile).
use Rattle.std.specs.Prelude.{ℕ, List, codes}
use Rattle.service_wire.specs.declared.line_fault.LineFault.{LineFault}
use Rattle.service_wire.specs.declared.line_fault.LineFault.TheVariants.{TooLong, NotText, Unknown, BadLu, BadText, NoStatus}

-- the text of a fault
abbrev pub fault_text : LineFault → List ℕ
fault_text TooLong = codes "the line is too long"
fault_text NotText = codes "the line is not UTF-8"
fault_text Unknown = codes "the command is none of: reload, drain [TEXT], note LU|* TEXT, sessions, stop"
fault_text BadLu = codes "the recipient is neither the name of an LU nor *"
fault_text BadText = codes "the text has more than 131 characters, or one that no 3270 screen has"
fault_text NoStatus = codes "the answer has no status"

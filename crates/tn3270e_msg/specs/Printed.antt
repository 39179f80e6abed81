-- What `{}` prints of the faults (our profile).
use Rattle.std.specs.Prelude.{ℕ, List, codes}
use Rattle.tn3270e_msg.specs.declared.header.HeadFault.{HeadFault}
use Rattle.tn3270e_msg.specs.declared.header.HeadFault.TheVariants.{Short, BadFlag}
use Rattle.tn3270e_msg.specs.declared.message.SubFault.{SubFault}
use Rattle.tn3270e_msg.specs.declared.message.SubFault.TheVariants.{NotOurs, Malformed}

-- the text of a fault in a header
abbrev pub head_fault_text : HeadFault → List ℕ
head_fault_text Short = codes "record shorter than a header"
head_fault_text BadFlag = codes "response flag out of range"

-- the text of a fault in a subnegotiation
abbrev pub sub_fault_text : SubFault → List ℕ
sub_fault_text NotOurs = codes "subnegotiation of another option"
sub_fault_text Malformed = codes "no message of TN3270E"

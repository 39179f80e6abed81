-- What `{}` prints of a fault (our profile).
use Rattle.std.specs.Prelude.{ℕ, List, codes}
use Rattle.datastream.specs.declared.fault.CommandFault.{CommandFault}
use Rattle.datastream.specs.declared.fault.CommandFault.TheVariants.{BadCommand, BadOrder, BadAddress, Truncated}
use Rattle.datastream.specs.declared.inbound_part.InboundFault.{InboundFault}
use Rattle.datastream.specs.declared.inbound_part.InboundFault.TheVariants as inbound

-- the text of a command's fault
abbrev pub fault_text : CommandFault → List ℕ
fault_text BadCommand = codes "unknown command"
fault_text BadOrder = codes "neither an order nor a character"
fault_text BadAddress = codes "address beyond the screen"
fault_text Truncated = codes "command cut short"

-- the text of a fault in inbound data
abbrev pub inbound_fault_text : InboundFault → List ℕ
inbound_fault_text inbound.Short = codes "the inbound data ends too early"
inbound_fault_text inbound.BadAid = codes "the inbound data begins with no AID"
inbound_fault_text inbound.BadAddress = codes "the inbound data has an address beyond the screen"
inbound_fault_text inbound.BadForm = codes "the inbound data has something out of place"

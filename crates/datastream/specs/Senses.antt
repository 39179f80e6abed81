-- The sense with which a terminal rejects a command (RFC 1647, section 10.4; the choice among them is our profile).
use Rattle.datastream.specs.declared.fault.CommandFault.{CommandFault}
use Rattle.datastream.specs.declared.fault.CommandFault.TheVariants.{BadCommand, BadOrder, BadAddress, Truncated}
use Rattle.datastream.specs.declared.fault.Sense.{Sense}
use Rattle.datastream.specs.declared.fault.Sense.TheVariants.{CommandReject, OperationCheck}

-- COMMAND-REJECT if no command has the code, else OPERATION-CHECK
abbrev pub sense_of : CommandFault → Sense
sense_of BadCommand = CommandReject
sense_of BadOrder = OperationCheck
sense_of BadAddress = OperationCheck
sense_of Truncated = OperationCheck

use Rattle.service_wire.proofs.Cuts.{cuts_dont_matter}
use Rattle.service_wire.proofs.ReadBack.{answer_is_read_back, command_is_read_back}
use Rattle.service_wire.proofs.laws.written_is_read.Goals as goal

pub returns-clause-cuts : goal.returns-clause-cuts
returns-clause-cuts c = cuts_dont_matter

pub returns-clause-command : goal.returns-clause-command
returns-clause-command c = command_is_read_back

pub returns-clause-answer : goal.returns-clause-answer
returns-clause-answer c = answer_is_read_back

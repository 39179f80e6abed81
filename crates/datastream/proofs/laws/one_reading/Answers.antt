use Rattle.datastream.proofs.Commands.{one_command}
use Rattle.datastream.proofs.InboundData.{one_inbound}
use Rattle.datastream.proofs.laws.one_reading.Goals as goal

pub returns-clause-command : goal.returns-clause-command
returns-clause-command c = λ now alternate bytes command other encoded spelt_too. one_command now alternate command other bytes encoded spelt_too

pub returns-clause-inbound : goal.returns-clause-inbound
returns-clause-inbound c = λ bytes inbound other form size sent sent_too. one_inbound inbound other bytes form size sent sent_too

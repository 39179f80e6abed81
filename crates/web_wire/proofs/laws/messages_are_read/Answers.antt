use Rattle.web_wire.proofs.Messages.{messages_are_read}
use Rattle.web_wire.proofs.laws.messages_are_read.Goals as goal

pub returns : goal.returns
returns c = messages_are_read

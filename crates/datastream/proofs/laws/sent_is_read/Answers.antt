use Rattle.datastream.proofs.InboundSent.{sent_is_read}
use Rattle.datastream.proofs.laws.sent_is_read.Goals as goal

pub returns : goal.returns
returns c = sent_is_read

use Rattle.shadow.proofs.Sent.{hears_buffer}
use Rattle.shadow.proofs.laws.what_is_read_is_heard.Goals as goal

pub returns : goal.returns
returns c = hears_buffer

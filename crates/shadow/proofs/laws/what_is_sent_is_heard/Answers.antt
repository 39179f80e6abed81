use Rattle.shadow.proofs.Sent.{hears_modified, hears_all}
use Rattle.shadow.proofs.laws.what_is_sent_is_heard.Goals as goal

pub returns : goal.returns
returns c = record { modified = hears_modified; all = hears_all }

use Rattle.tn3270e_msg.proofs.Letters.{name_is_read_as_itself}
use Rattle.tn3270e_msg.proofs.lu.Lu.as_bytes.Goals as goal

pub returns-clause-read_back : goal.returns-clause-read_back
returns-clause-read_back c = rw (← c.self.view_is) (name_is_read_as_itself _ c.self.invariant.is_lu)

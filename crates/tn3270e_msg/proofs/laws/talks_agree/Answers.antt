use Rattle.tn3270e_msg.proofs.Agreement.{talks_always_agree}
use Rattle.tn3270e_msg.proofs.laws.talks_agree.Goals as goal

pub returns : goal.returns
returns c = talks_always_agree

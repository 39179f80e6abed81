use Rattle.shadow.proofs.ExactHeard.{heard_exact}
use Rattle.shadow.proofs.ExactTaken.{taken_exact}
use Rattle.shadow.proofs.laws.what_is_known_is_exact.Goals as goal

pub returns : goal.returns
returns c = record { heard = heard_exact; taken = taken_exact }

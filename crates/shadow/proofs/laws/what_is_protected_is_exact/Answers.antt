use Rattle.shadow.proofs.ExactHeard.{nothing_exact, heard_protected}
use Rattle.shadow.proofs.ExactTaken.{erased_exact}
use Rattle.shadow.proofs.ExactPainted.{painted_exact}
use Rattle.shadow.proofs.ExactWritten.{written_protected}
use Rattle.shadow.proofs.laws.what_is_protected_is_exact.Goals as goal

pub returns : goal.returns
returns c = record { nothing = nothing_exact; heard = heard_protected; erased = erased_exact; painted = painted_exact; written = written_protected }

use Rattle.shadow.proofs.ExactHeard.{protected_seen, returned_told}
use Rattle.shadow.proofs.laws.what_is_exact_is_so.Goals as goal

pub returns : goal.returns
returns c = record { protected = protected_seen; returned = returned_told }

use Rattle.shadow.proofs.StorableHeard.{heard_stored, told_stored}
use Rattle.shadow.proofs.StorableTaken.{taken_stored}
use Rattle.shadow.proofs.laws.what_is_believed_can_be_stored.Goals as goal

pub returns : goal.returns
returns c = record { heard = heard_stored; taken = taken_stored; told = told_stored }

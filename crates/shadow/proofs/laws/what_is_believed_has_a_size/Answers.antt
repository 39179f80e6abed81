use Rattle.shadow.proofs.LaidOut.{meets_size}
use Rattle.shadow.proofs.Sizes.{heard_size, taken_size}
use Rattle.shadow.proofs.laws.what_is_believed_has_a_size.Goals as goal

pub returns : goal.returns
returns c = record { meets = meets_size; heard = heard_size; taken = taken_size }

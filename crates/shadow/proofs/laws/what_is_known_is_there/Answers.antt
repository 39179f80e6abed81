use Rattle.shadow.proofs.KnownCells.{known_there, attributes_known}
use Rattle.shadow.proofs.laws.what_is_known_is_there.Goals as goal

pub returns : goal.returns
returns c = record { cells = known_there; attributes = attributes_known }

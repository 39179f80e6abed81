use Rattle.tty.proofs.Pieces.{pieces_compose}
use Rattle.tty.proofs.laws.cut_anywhere.Goals as goal

pub returns : goal.returns
returns c = pieces_compose

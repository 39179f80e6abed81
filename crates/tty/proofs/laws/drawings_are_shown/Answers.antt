use Rattle.tty.proofs.AllRead.{drawing_shown}
use Rattle.tty.proofs.laws.drawings_are_shown.Goals as goal

pub returns : goal.returns
returns c = drawing_shown

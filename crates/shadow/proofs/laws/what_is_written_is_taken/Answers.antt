use Rattle.shadow.proofs.LaidOut.{written_taken}
use Rattle.shadow.proofs.laws.what_is_written_is_taken.Goals as goal

pub returns : goal.returns
returns c = written_taken

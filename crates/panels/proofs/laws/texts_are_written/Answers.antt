use Rattle.panels.proofs.TextsWanted.{texts_written}
use Rattle.panels.proofs.laws.texts_are_written.Goals as goal

pub returns : goal.returns
returns c = texts_written

use Rattle.datastream.proofs.Replacing.{no_longer}
use Rattle.datastream.proofs.escapes.WithoutEscapes.new.Goals as goal

pub returns-clause-no_longer : goal.returns-clause-no_longer
returns-clause-no_longer c = no_longer 3 c.args.bytes.now

use Rattle.datastream.proofs.Written.{calls_written}
use Rattle.datastream.proofs.laws.written_is_read.Goals as goal

pub returns : goal.returns
returns c = calls_written

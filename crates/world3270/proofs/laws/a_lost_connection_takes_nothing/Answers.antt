use Rattle.world3270.proofs.Losses.{lost_takes_nothing}
use Rattle.world3270.proofs.laws.a_lost_connection_takes_nothing.Goals as goal

pub returns : goal.returns
returns c = lost_takes_nothing

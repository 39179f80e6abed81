use Rattle.world3270.proofs.Runs.{the_runs}
use Rattle.world3270.proofs.laws.the_runs_end_so.Goals as goal

pub returns : goal.returns
returns c = the_runs

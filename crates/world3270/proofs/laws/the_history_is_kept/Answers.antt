use Rattle.world3270.proofs.History.{hosts_history, terminals_history}
use Rattle.world3270.proofs.laws.the_history_is_kept.Goals as goal

pub returns-clause-host : goal.returns-clause-host
returns-clause-host c = hosts_history

pub returns-clause-terminal : goal.returns-clause-terminal
returns-clause-terminal c = terminals_history

use Rattle.world3270.proofs.OneWorld.{events_are_one, runs_are_one, steps_are_one}
use Rattle.world3270.proofs.laws.one_machine.Goals as goal

pub returns-clause-step : goal.returns-clause-step
returns-clause-step c = steps_are_one c.one_machine.ensures.outcome c.one_machine-2.ensures.outcome

pub returns-clause-events : goal.returns-clause-events
returns-clause-events c = events_are_one c.one_machine.ensures.outcome c.one_machine-2.ensures.outcome

pub returns-clause-runs : goal.returns-clause-runs
returns-clause-runs c = runs_are_one c.one_machine.ensures.outcome c.one_machine-2.ensures.outcome

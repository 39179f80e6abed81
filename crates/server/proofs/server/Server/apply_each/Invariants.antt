use Rattle.server.specs.TimeTurns.{AppliesAt}
use Rattle.server.specs.Visits.{VisitsBelow}
use Rattle.server.proofs.server.Server.apply_each.Given as goal

abbrev pub invariant-loop-conn : goal.invariant-loop-conn
invariant-loop-conn g l = VisitsBelow (AppliesAt g.W.Watcher.noticed g.W.Watcher.showed l.limits) l.conn l.initial.self l.initial.watcher l.acted l.self l.watcher

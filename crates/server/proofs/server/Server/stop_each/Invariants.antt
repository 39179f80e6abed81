use Rattle.server.specs.Control.{StopsAt}
use Rattle.server.specs.Visits.{VisitsBelow}
use Rattle.server.proofs.server.Server.stop_each.Given as goal

abbrev pub invariant-loop-conn : goal.invariant-loop-conn
invariant-loop-conn g l = VisitsBelow (StopsAt g.W.Watcher.noticed g.W.Watcher.showed) l.conn l.initial.self l.initial.watcher l.stopped l.self l.watcher

use Rattle.server.specs.NumberTurns.{ServesAt}
use Rattle.server.specs.Visits.{VisitsBelow}
use Rattle.server.proofs.server.Server.serve_each.Given as goal

abbrev pub invariant-loop-conn : goal.invariant-loop-conn
invariant-loop-conn g l = VisitsBelow (ServesAt g.S.RawRead.read_gave g.S.RawWrite.write_took g.W.Watcher.noticed g.W.Watcher.showed) l.conn l.initial.self l.initial.watcher l.acted l.self l.watcher

use Rattle.server.specs.Control.{EndsTalkingAt, NobodyTalksBelow}
use Rattle.server.specs.Visits.{VisitsBelow}
use Rattle.server.proofs.server.Server.end_talking.Given as goal

abbrev pub invariant-loop-conn : goal.invariant-loop-conn
invariant-loop-conn g l =
    VisitsBelow (EndsTalkingAt g.W.Watcher.noticed g.W.Watcher.showed) l.conn l.initial.self l.initial.watcher l.ended l.self l.watcher
    × NobodyTalksBelow l.conn l.self.hosts

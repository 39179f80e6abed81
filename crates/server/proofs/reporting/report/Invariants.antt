use Rattle.std.proofs.Common.{◌≡◌, length}
use Rattle.host_core.specs.Reports.{events_of}
use Rattle.host_core.specs.State.{reports_at}
use Rattle.server.specs.Hosts.{host_at, with_host}
use Rattle.server.proofs.Reports.{IsReporting}
use Rattle.server.proofs.reporting.report.Given as goal

abbrev pub invariant-loop-event : goal.invariant-loop-event
invariant-loop-event g l =
    IsReporting g.W.Watcher.noticed g.W.Watcher.showed l.conn (host_at l.conn l.initial.hosts) l.initial.info l.initial.watcher (host_at l.conn l.hosts) l.info l.watcher
    × (l.hosts ≡ with_host l.conn (host_at l.conn l.hosts) l.initial.hosts)

abbrev pub decreases-loop-event : goal.decreases-loop-event
decreases-loop-event g l = length (events_of (reports_at l.conn (host_at l.conn l.hosts)))

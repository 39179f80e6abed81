use Rattle.std.proofs.Common.{◌∙◌, ◌<◌, ap, length, sym, subst}
use Rattle.std.proofs.lemmas.Result.{err_from_is_err_and}
use Rattle.host_core.specs.Reports.{events_of}
use Rattle.host_core.specs.State.{Host, reports_at}
use Rattle.server.specs.Hosts.{host_at}
use Rattle.server.proofs.Lookups.{put_same}
use Rattle.server.specs.NumberTurns.{told_of}
use Rattle.server.specs.Watching.{FailsAmong, HearsEach}
use Rattle.server.proofs.Reports.{IsReporting, all_known, all_taken, all_told, begins, fewer, just_taken, later_hosts, none_found, one_failed, one_told}
use Rattle.server.proofs.reporting.report.Goals as goal

pub loop-event-init : goal.loop-event-init
loop-event-init g c = (
  begins g.W.Watcher.noticed g.W.Watcher.showed c.args.conn (host_at c.args.conn c.args.hosts.now) c.args.info.now c.args.watcher.now
      (subst (λ it. c.args.conn < it) (sym (ap (λ (host : Host). length host.connections) (sym c.at.ensures) ∙ c.hosts_are_sound.ensures.sound.connections)) c.requires.number),
  sym (put_same c.args.conn c.args.hosts.now),
)

pub loop-event-preserved : goal.loop-event-preserved
loop-event-preserved g c = (
  subst (λ info. IsReporting g.W.Watcher.noticed g.W.Watcher.showed c.args.conn (host_at c.args.conn c.args.hosts.now) c.args.info.now c.args.watcher.now (host_at c.args.conn c.next_event.new.self) info c.tell.new.watcher)
      (sym c.take_down.ensures)
      (one_told g.W.Watcher.noticed g.W.Watcher.showed c.args.conn (host_at c.args.conn c.args.hosts.now) c.args.info.now c.args.watcher.now (host_at c.args.conn c.loop-event.hosts) (host_at c.args.conn c.next_event.new.self)
      c.loop-event.info c.loop-event.watcher c.loop-event.invariant.0 c.in-Some.ensures.host c.in-Some.ensures.removed c.in-Some.ensures.waits c.in-Some.event c.in-Some.ensures.next
      c.tell.new.watcher (subst (λ (host : Host). HearsEach g.W.Watcher.noticed g.W.Watcher.showed (told_of c.args.info.now.client c.args.conn host c.in-Some.event) c.loop-event.watcher c.tell.new.watcher) c.at-in-Some.ensures c.in_ok-tell.ensures)),
  later_hosts c.args.conn c.args.hosts.now c.loop-event.hosts c.next_event.new.self c.loop-event.invariant.1 c.in-Some.ensures.others,
)

pub loop-event-smaller : goal.loop-event-smaller
loop-event-smaller g c = fewer (events_of (reports_at c.args.conn (host_at c.args.conn c.loop-event.hosts))) _ c.in-Some.event c.in-Some.ensures.next c.in-Some.ensures.removed

pub returns-in_err-tell-clause-told : goal.returns-in_err-tell-clause-told
returns-in_err-tell-clause-told g c =
    let p = err_from_is_err_and c.from_residual.result c.from_residual.ensures.1 in
    rw (p.1, p.2) (one_failed g.W.Watcher.noticed g.W.Watcher.showed c.args.conn (host_at c.args.conn c.args.hosts.now) c.args.info.now c.args.watcher.now (host_at c.args.conn c.loop-event.hosts) (host_at c.args.conn c.next_event.new.self)
    c.loop-event.info c.loop-event.watcher c.loop-event.invariant.0 c.in-Some.ensures.host c.in-Some.ensures.removed c.in-Some.ensures.waits c.in-Some.event c.in-Some.ensures.next
    c.in_err-tell.field-0.0 c.tell.new.watcher (subst (λ (host : Host). FailsAmong g.W.Watcher.noticed g.W.Watcher.showed (told_of c.args.info.now.client c.args.conn host c.in-Some.event) c.loop-event.watcher c.in_err-tell.field-0.0 c.tell.new.watcher) c.at-in-Some.ensures c.in_err-tell.ensures))

pub returns-in_err-tell-clause-host : goal.returns-in_err-tell-clause-host
returns-in_err-tell-clause-host g c =
    just_taken g.W.Watcher.noticed g.W.Watcher.showed c.args.conn (host_at c.args.conn c.args.hosts.now) c.args.info.now c.args.watcher.now (host_at c.args.conn c.loop-event.hosts) (host_at c.args.conn c.next_event.new.self)
    c.loop-event.info c.loop-event.watcher c.loop-event.invariant.0 c.in-Some.ensures.host c.in-Some.ensures.removed c.in-Some.ensures.waits

pub returns-clause-told : goal.returns-clause-told
returns-clause-told g c =
    all_told g.W.Watcher.noticed g.W.Watcher.showed c.args.conn (host_at c.args.conn c.args.hosts.now) c.args.info.now c.args.watcher.now (host_at c.args.conn c.loop-event.hosts) (host_at c.args.conn c.next_event.new.self)
    c.loop-event.info c.loop-event.watcher c.loop-event.invariant.0 c.next_event.ensures.host c.next_event.ensures.removed c.next_event.ensures.waits
    (sym (none_found c.next_event.result c.in_default.not-Some) ∙ c.next_event.ensures.next)

pub returns-clause-host : goal.returns-clause-host
returns-clause-host g c =
    just_taken g.W.Watcher.noticed g.W.Watcher.showed c.args.conn (host_at c.args.conn c.args.hosts.now) c.args.info.now c.args.watcher.now (host_at c.args.conn c.loop-event.hosts) (host_at c.args.conn c.next_event.new.self)
    c.loop-event.info c.loop-event.watcher c.loop-event.invariant.0 c.next_event.ensures.host c.next_event.ensures.removed c.next_event.ensures.waits

pub returns-clause-taken : goal.returns-clause-taken
returns-clause-taken g c =
    all_taken g.W.Watcher.noticed g.W.Watcher.showed c.args.conn (host_at c.args.conn c.args.hosts.now) c.args.info.now c.args.watcher.now (host_at c.args.conn c.loop-event.hosts) (host_at c.args.conn c.next_event.new.self)
    c.loop-event.info c.loop-event.watcher c.loop-event.invariant.0 c.next_event.ensures.host c.next_event.ensures.removed c.next_event.ensures.waits
    (sym (none_found c.next_event.result c.in_default.not-Some) ∙ c.next_event.ensures.next)

pub returns-clause-info : goal.returns-clause-info
returns-clause-info g c =
    all_known g.W.Watcher.noticed g.W.Watcher.showed c.args.conn (host_at c.args.conn c.args.hosts.now) c.args.info.now c.args.watcher.now (host_at c.args.conn c.loop-event.hosts) (host_at c.args.conn c.next_event.new.self)
    c.loop-event.info c.loop-event.watcher c.loop-event.invariant.0 c.next_event.ensures.host c.next_event.ensures.removed c.next_event.ensures.waits
    (sym (none_found c.next_event.result c.in_default.not-Some) ∙ c.next_event.ensures.next)

pub returns-in_err-tell-clause-others : goal.returns-in_err-tell-clause-others
returns-in_err-tell-clause-others g c = later_hosts c.args.conn c.args.hosts.now c.loop-event.hosts c.next_event.new.self c.loop-event.invariant.1 c.in-Some.ensures.others

pub returns-clause-others : goal.returns-clause-others
returns-clause-others g c = later_hosts c.args.conn c.args.hosts.now c.loop-event.hosts c.next_event.new.self c.loop-event.invariant.1 c.next_event.ensures.others

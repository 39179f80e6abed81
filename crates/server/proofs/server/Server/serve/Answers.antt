use Rattle.std.proofs.Common.{◌∙◌, Some, Ok, ap, length, nat_eq, not, refl, slice_set, subst, sym}
use Rattle.std.proofs.lemmas.Result.{err_from_is_err_and}
use Rattle.host_core.specs.Serves.{Serves}
use Rattle.host_core.specs.State.{connection_at, reports_at}
use Rattle.host_core.specs.declared.serving.Served.TheVariants as served
use Rattle.server.specs.Hosts.{host_at, with_host}
use Rattle.jobs.specs.Sockets.{GivesAt, TakesAt}
use Rattle.server.specs.NumberTurns.{server_reported, end_failed, end_in_turn, given_back_if, info_after, report_failed, reported, reports_of, starved}
use Rattle.server.specs.Watching.{FailsAmong, HearsEach}
use Rattle.server.proofs.Reports.{none_found, told_after}
use Rattle.server.proofs.Turns.{server_is, end_events, given_back_is, no_end, ending_is, reported_hosts, unsent_is}
use Rattle.server.proofs.server.Server.serve.Goals as goal

pub returns-in-Memory : goal.returns-in-Memory
returns-in-Memory g c = starved (host_at c.args.conn c.serve-served.new.self) c.serve-served.new.links (subst (λ it. Serves (GivesAt g.S.RawRead.read_gave) (TakesAt g.S.RawWrite.write_took) c.args.conn (host_at c.args.conn c.args.self.now.hosts) it served.Memory (host_at c.args.conn c.serve-served.new.self) c.serve-served.new.links) (unsent_is c.args.conn c.args.self.now c.out-waiting.result.now c.set_waiting.new.self c.set_waiting.ensures (c.out-waiting.ensures ∙ ap (λ host. (connection_at c.args.conn host).out) c.at.ensures)) c.in-Memory.ensures.serves) refl
    (ap (λ it. record c.args.self.now { hosts = it; sockets = c.serve-served.new.links }) c.in-Memory.ensures.others) refl

pub returns-in_err-report : goal.returns-in_err-report
returns-in_err-report g c =
    let p = err_from_is_err_and c.from_residual.result c.from_residual.ensures.1 in
    rw (p.1, p.2) (report_failed c.serve-served.result (host_at c.args.conn c.serve-served.new.self) c.serve-served.new.links (reports_at c.args.conn (host_at c.args.conn c.report.new.hosts)) (subst (λ it. Serves (GivesAt g.S.RawRead.read_gave) (TakesAt g.S.RawWrite.write_took) c.args.conn (host_at c.args.conn c.args.self.now.hosts) it c.serve-served.result (host_at c.args.conn c.serve-served.new.self) c.serve-served.new.links) (unsent_is c.args.conn c.args.self.now c.out-waiting.result.now c.set_waiting.new.self c.set_waiting.ensures (c.out-waiting.ensures ∙ ap (λ host. (connection_at c.args.conn host).out) c.at.ensures)) c.serve-served.ensures.serves) c.in_default.not-Memory
    c.in_err-report.ensures.told (ap (λ it. record c.args.self.now { hosts = it; sockets = c.serve-served.new.links })
    (reported_hosts c.args.conn c.args.self.now.hosts c.serve-served.new.self c.report.new.hosts _ c.serve-served.ensures.others c.report.ensures.others c.report.ensures.host)))

pub returns-in_err-end : goal.returns-in_err-end
returns-in_err-end g c =
    let p = err_from_is_err_and c.from_residual-in_err-end.result c.from_residual-in_err-end.ensures.1 in
    rw (p.1, p.2) (end_failed c.serve-served.result (host_at c.args.conn c.serve-served.new.self) c.serve-served.new.links c.report.new.watcher (subst (λ it. Serves (GivesAt g.S.RawRead.read_gave) (TakesAt g.S.RawWrite.write_took) c.args.conn (host_at c.args.conn c.args.self.now.hosts) it c.serve-served.result (host_at c.args.conn c.serve-served.new.self) c.serve-served.new.links) (unsent_is c.args.conn c.args.self.now c.out-waiting.result.now c.set_waiting.new.self c.set_waiting.ensures (c.out-waiting.ensures ∙ ap (λ host. (connection_at c.args.conn host).out) c.at.ensures)) c.serve-served.ensures.serves) c.in_default.not-Memory
    c.in_ok-report.ensures.told
    (subst (λ it. FailsAmong g.W.Watcher.noticed g.W.Watcher.showed it c.report.new.watcher c.in_err-end.field-0.0 c.end.new.watcher) (end_events c.args.conn c.args.info.now c.args.self.now c.serve-served.result (host_at c.args.conn c.serve-served.new.self) c.serve-served.new.links c.report.new.info (record c.args.self.now { hosts = c.report.new.hosts; sockets = c.serve-served.new.links; infos = c.set.new.self }) c.in-Some.ending c.in_ok-report.ensures.info
    (server_is c.args.self.now c.report.new.hosts (with_host c.args.conn (reported c.args.conn (host_at c.args.conn c.serve-served.new.self)) c.args.self.now.hosts) c.serve-served.new.links c.set.new.self (slice_set c.args.self.now.infos c.args.conn (Some (info_after c.args.conn (host_at c.args.conn c.serve-served.new.self) c.args.info.now))) (reported_hosts c.args.conn c.args.self.now.hosts c.serve-served.new.self c.report.new.hosts _ c.serve-served.ensures.others c.in_ok-report.ensures.others c.in_ok-report.ensures.taken) (c.set.ensures ∙ ap (λ it. slice_set c.args.self.now.infos c.args.conn (Some it)) c.in_ok-report.ensures.info)) (sym (ending_is c.args.conn c.args.info.now c.serve-served.result (host_at c.args.conn c.serve-served.new.self) c.report.new.info c.ending_of-ending.result c.ending_of-ending.ensures c.in_ok-report.ensures.info) ∙ c.in-Some.is)) c.in_err-end.ensures.told)
    (given_back_is c.args.conn c.args.info.now c.args.self.now c.serve-served.result (host_at c.args.conn c.serve-served.new.self) c.serve-served.new.links c.report.new.info (record c.args.self.now { hosts = c.report.new.hosts; sockets = c.serve-served.new.links; infos = c.set.new.self }) c.end.new.self c.in-Some.ending c.in_ok-report.ensures.info
    (server_is c.args.self.now c.report.new.hosts (with_host c.args.conn (reported c.args.conn (host_at c.args.conn c.serve-served.new.self)) c.args.self.now.hosts) c.serve-served.new.links c.set.new.self (slice_set c.args.self.now.infos c.args.conn (Some (info_after c.args.conn (host_at c.args.conn c.serve-served.new.self) c.args.info.now))) (reported_hosts c.args.conn c.args.self.now.hosts c.serve-served.new.self c.report.new.hosts _ c.serve-served.ensures.others c.in_ok-report.ensures.others c.in_ok-report.ensures.taken) (c.set.ensures ∙ ap (λ it. slice_set c.args.self.now.infos c.args.conn (Some it)) c.in_ok-report.ensures.info)) (sym (ending_is c.args.conn c.args.info.now c.serve-served.result (host_at c.args.conn c.serve-served.new.self) c.report.new.info c.ending_of-ending.result c.ending_of-ending.ensures c.in_ok-report.ensures.info) ∙ c.in-Some.is) c.end.ensures.given_back))

pub returns-in_ok-end : goal.returns-in_ok-end
returns-in_ok-end g c = record {
  answer = c.serve-served.result;
  host = (host_at c.args.conn c.serve-served.new.self);
  sockets = c.serve-served.new.links;
  serves = (subst (λ it. Serves (GivesAt g.S.RawRead.read_gave) (TakesAt g.S.RawWrite.write_took) c.args.conn (host_at c.args.conn c.args.self.now.hosts) it c.serve-served.result (host_at c.args.conn c.serve-served.new.self) c.serve-served.new.links) (unsent_is c.args.conn c.args.self.now c.out-waiting.result.now c.set_waiting.new.self c.set_waiting.ensures (c.out-waiting.ensures ∙ ap (λ host. (connection_at c.args.conn host).out) c.at.ensures)) c.serve-served.ensures.serves);
  fed = c.in_default.not-Memory;
  acts = (ap (λ it. not (nat_eq (length it) (length c.out-waiting.result.now))) (c.out.ensures ∙ ap (λ host. (connection_at c.args.conn host).out) c.at-2.ensures) ∙ ap (λ it. not (nat_eq (length (connection_at c.args.conn (host_at c.args.conn c.serve-served.new.self)).out) (length it))) (c.out-waiting.ensures ∙ ap (λ host. (connection_at c.args.conn host).out) c.at.ensures));
  hears = told_after g.W.Watcher.noticed g.W.Watcher.showed (reports_of c.args.info.now.client c.args.conn (host_at c.args.conn c.serve-served.new.self)) (end_in_turn c.args.conn c.args.info.now c.args.self.now c.serve-served.result (host_at c.args.conn c.serve-served.new.self) c.serve-served.new.links) c.args.watcher.now c.report.new.watcher c.end.new.watcher (Ok tt) c.in_ok-report.ensures.told
      (subst (λ it. HearsEach g.W.Watcher.noticed g.W.Watcher.showed it c.report.new.watcher c.end.new.watcher) (end_events c.args.conn c.args.info.now c.args.self.now c.serve-served.result (host_at c.args.conn c.serve-served.new.self) c.serve-served.new.links c.report.new.info (record c.args.self.now { hosts = c.report.new.hosts; sockets = c.serve-served.new.links; infos = c.set.new.self }) c.in-Some.ending c.in_ok-report.ensures.info
      (server_is c.args.self.now c.report.new.hosts (with_host c.args.conn (reported c.args.conn (host_at c.args.conn c.serve-served.new.self)) c.args.self.now.hosts) c.serve-served.new.links c.set.new.self (slice_set c.args.self.now.infos c.args.conn (Some (info_after c.args.conn (host_at c.args.conn c.serve-served.new.self) c.args.info.now))) (reported_hosts c.args.conn c.args.self.now.hosts c.serve-served.new.self c.report.new.hosts _ c.serve-served.ensures.others c.in_ok-report.ensures.others c.in_ok-report.ensures.taken) (c.set.ensures ∙ ap (λ it. slice_set c.args.self.now.infos c.args.conn (Some it)) c.in_ok-report.ensures.info)) (sym (ending_is c.args.conn c.args.info.now c.serve-served.result (host_at c.args.conn c.serve-served.new.self) c.report.new.info c.ending_of-ending.result c.ending_of-ending.ensures c.in_ok-report.ensures.info) ∙ c.in-Some.is)) c.in_ok-end.ensures.told);
  becomes = (given_back_is c.args.conn c.args.info.now c.args.self.now c.serve-served.result (host_at c.args.conn c.serve-served.new.self) c.serve-served.new.links c.report.new.info (record c.args.self.now { hosts = c.report.new.hosts; sockets = c.serve-served.new.links; infos = c.set.new.self }) c.end.new.self c.in-Some.ending c.in_ok-report.ensures.info
      (server_is c.args.self.now c.report.new.hosts (with_host c.args.conn (reported c.args.conn (host_at c.args.conn c.serve-served.new.self)) c.args.self.now.hosts) c.serve-served.new.links c.set.new.self (slice_set c.args.self.now.infos c.args.conn (Some (info_after c.args.conn (host_at c.args.conn c.serve-served.new.self) c.args.info.now))) (reported_hosts c.args.conn c.args.self.now.hosts c.serve-served.new.self c.report.new.hosts _ c.serve-served.ensures.others c.in_ok-report.ensures.others c.in_ok-report.ensures.taken) (c.set.ensures ∙ ap (λ it. slice_set c.args.self.now.infos c.args.conn (Some it)) c.in_ok-report.ensures.info)) (sym (ending_is c.args.conn c.args.info.now c.serve-served.result (host_at c.args.conn c.serve-served.new.self) c.report.new.info c.ending_of-ending.result c.ending_of-ending.ensures c.in_ok-report.ensures.info) ∙ c.in-Some.is) c.end.ensures.given_back);
}

pub returns-in_default-ending : goal.returns-in_default-ending
returns-in_default-ending g c = record {
  answer = c.serve-served.result;
  host = (host_at c.args.conn c.serve-served.new.self);
  sockets = c.serve-served.new.links;
  serves = (subst (λ it. Serves (GivesAt g.S.RawRead.read_gave) (TakesAt g.S.RawWrite.write_took) c.args.conn (host_at c.args.conn c.args.self.now.hosts) it c.serve-served.result (host_at c.args.conn c.serve-served.new.self) c.serve-served.new.links) (unsent_is c.args.conn c.args.self.now c.out-waiting.result.now c.set_waiting.new.self c.set_waiting.ensures (c.out-waiting.ensures ∙ ap (λ host. (connection_at c.args.conn host).out) c.at.ensures)) c.serve-served.ensures.serves);
  fed = c.in_default.not-Memory;
  acts = (ap (λ it. not (nat_eq (length it) (length c.out-waiting.result.now))) (c.out.ensures ∙ ap (λ host. (connection_at c.args.conn host).out) c.at-2.ensures) ∙ ap (λ it. not (nat_eq (length (connection_at c.args.conn (host_at c.args.conn c.serve-served.new.self)).out) (length it))) (c.out-waiting.ensures ∙ ap (λ host. (connection_at c.args.conn host).out) c.at.ensures));
  hears = told_after g.W.Watcher.noticed g.W.Watcher.showed (reports_of c.args.info.now.client c.args.conn (host_at c.args.conn c.serve-served.new.self)) (end_in_turn c.args.conn c.args.info.now c.args.self.now c.serve-served.result (host_at c.args.conn c.serve-served.new.self) c.serve-served.new.links) c.args.watcher.now c.report.new.watcher c.report.new.watcher (Ok tt) c.in_ok-report.ensures.told
      (no_end g.W.Watcher.noticed g.W.Watcher.showed c.args.conn c.args.info.now c.args.self.now c.serve-served.result (host_at c.args.conn c.serve-served.new.self) c.serve-served.new.links c.report.new.watcher (sym (ending_is c.args.conn c.args.info.now c.serve-served.result (host_at c.args.conn c.serve-served.new.self) c.report.new.info c.ending_of-ending.result c.ending_of-ending.ensures c.in_ok-report.ensures.info) ∙ none_found c.ending_of-ending.result c.in_default-ending.not-Some));
  becomes = ((server_is c.args.self.now c.report.new.hosts (with_host c.args.conn (reported c.args.conn (host_at c.args.conn c.serve-served.new.self)) c.args.self.now.hosts) c.serve-served.new.links c.set.new.self (slice_set c.args.self.now.infos c.args.conn (Some (info_after c.args.conn (host_at c.args.conn c.serve-served.new.self) c.args.info.now))) (reported_hosts c.args.conn c.args.self.now.hosts c.serve-served.new.self c.report.new.hosts _ c.serve-served.ensures.others c.in_ok-report.ensures.others c.in_ok-report.ensures.taken) (c.set.ensures ∙ ap (λ it. slice_set c.args.self.now.infos c.args.conn (Some it)) c.in_ok-report.ensures.info)) ∙ ap (λ it. given_back_if it c.args.conn (info_after c.args.conn (host_at c.args.conn c.serve-served.new.self) c.args.info.now) (server_reported c.args.conn c.args.info.now c.args.self.now (host_at c.args.conn c.serve-served.new.self) c.serve-served.new.links)) (sym (sym (ending_is c.args.conn c.args.info.now c.serve-served.result (host_at c.args.conn c.serve-served.new.self) c.report.new.info c.ending_of-ending.result c.ending_of-ending.ensures c.in_ok-report.ensures.info) ∙ none_found c.ending_of-ending.result c.in_default-ending.not-Some)));
}

-- What the host took is reported as of the hosts before it.
use Rattle.std.proofs.Common.{◌≡◌, ◌∙◌, ℕ, Option, Some, None, Result, Ok, Err, ap}
use Rattle.host_core.specs.State.{Host, with_reports}
use Rattle.server.specs.Hosts.{Hosts, host_at, with_host}
use Rattle.server.proofs.Lookups.{put_again}
use Rattle.jobs.specs.declared.fault.Fault.{Fault}
use Rattle.service_events.specs.declared.notice.Notice.{Notice}
use Rattle.server.specs.HostAnswers.{ReportsOf}
use Rattle.server.specs.NumberTurns.{reported}
use Rattle.server.specs.declared.connection_info.ConnectionInfo.{ConnectionInfo}
use Rattle.server.specs.declared.server.Server.{Server}
use Rattle.std.specs.Prelude.{slice_set}
use Rattle.server.specs.NumberTurns.{info_after}

module _ {S W : Type 0} (noticed : W → Notice → Result Unit Fault → W → Type 0) (showed : W → Host → ℕ → Result Unit Fault → W → Type 0) (conn : ℕ)
    (old : Server S) (hosts : Hosts) (takes : hosts ≡ with_host conn (host_at conn hosts) old.hosts) where
  moved : (host : Host) → with_host conn host hosts ≡ with_host conn host old.hosts
  moved host = ap (with_host conn host) takes ∙ put_again conn (host_at conn hosts) host old.hosts

  pub reports_moved : (info : Option ConnectionInfo) (watcher : W) (heard : Result Unit Fault) (new : Server S) (after : W)
      → ReportsOf noticed showed info conn (record old { hosts = hosts }) (host_at conn hosts) watcher heard new after
      → ReportsOf noticed showed info conn old (host_at conn hosts) watcher heard new after
  reports_moved None watcher (Ok done) new after reports =
      (reports.0 ∙ ap (λ (it : Hosts). record old { hosts = it }) (moved (host_at conn hosts)), reports.1)
  reports_moved None watcher (Err why) new after reports = reports
  reports_moved (Some info) watcher (Ok done) new after reports = (
    reports.0,
    reports.1 ∙ ap (λ (it : Hosts). record old { hosts = it; infos = slice_set old.infos conn (Some (info_after conn (host_at conn hosts) info)) }) (moved (reported conn (host_at conn hosts))),
  )
  reports_moved (Some info) watcher (Err why) new after reports =
      (reports.0, (reports.1.0, reports.1.1 ∙ ap (λ (it : Hosts). record old { hosts = it }) (moved (with_reports conn reports.1.0 (host_at conn hosts)))))

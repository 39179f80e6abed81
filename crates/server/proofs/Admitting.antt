-- How connections are admitted, one after another.
use Rattle.std.proofs.Common.{◌≡◌, ◌∙◌, ◌+◌, add-one, ap, ℕ, List, Option, Some, Result, Ok, refl, subst, sym}
use Rattle.applications.specs.declared.session_name.SessionName.{SessionName}
use Rattle.host_core.specs.State.{Host}
use Rattle.server.specs.Hosts.{Hosts}
use Rattle.jobs.specs.declared.fault.Fault.{Fault}
use Rattle.service_events.specs.declared.notice.Notice.{Notice}
use Rattle.jobs.specs.Sockets.{Sockets}
use Rattle.server.specs.Accepting.{AdmitsSome, Door, Receives}
use Rattle.server.specs.declared.accepting.Arrival.{Arrival}
use Rattle.server.specs.declared.connection_info.ConnectionInfo.{ConnectionInfo}
use Rattle.server.specs.declared.server.Server.{Server}

pub begun_is : {S : Type 0} (old : Server S) (hosts hosts_are : Hosts) (sockets sockets_are : Sockets S) (infos infos_are : List (Option ConnectionInfo))
    (next next_is : SessionName) → hosts ≡ hosts_are → sockets ≡ sockets_are → infos ≡ infos_are → next ≡ next_is
    → record old { hosts = hosts; sockets = sockets; infos = infos; next_session = next }
    ≡ record old { hosts = hosts_are; sockets = sockets_are; infos = infos_are; next_session = next_is }
begun_is old hosts hosts_are sockets sockets_are infos infos_are next next_is h s i n =
    ap (λ it. record old { hosts = it; sockets = sockets; infos = infos; next_session = next }) h
    ∙ ap (λ it. record old { hosts = hosts_are; sockets = it; infos = infos; next_session = next }) s
    ∙ ap (λ it. record old { hosts = hosts_are; sockets = sockets_are; infos = it; next_session = next }) i
    ∙ ap (λ it. record old { hosts = hosts_are; sockets = sockets_are; infos = infos_are; next_session = it }) n

module _ {S W L : Type 0} (noticed : W → Notice → Result Unit Fault → W → Type 0) (showed : W → Host → ℕ → Result Unit Fault → W → Type 0)
    (gave : L → Option (Arrival S) → L → Type 0) where
  pub none_admitted : (old : Door L S W) → AdmitsSome noticed showed gave 0 old old
  unfolding AdmitsSome
  none_admitted old = refl

  pub one_admitted : (count : ℕ) (old mid new : Door L S W) (arrival : Arrival S) → AdmitsSome noticed showed gave count old mid
      → gave mid.listener (Some arrival) new.listener → Receives noticed showed arrival mid.server mid.watcher (Ok tt) new.server new.watcher
      → AdmitsSome noticed showed gave (count + 1) old new
  unfolding AdmitsSome
  one_admitted count old mid new arrival some gives admits =
      subst (λ n. AdmitsSome noticed showed gave n old new) (sym (add-one count)) (mid, arrival, some, gives, admits)

-- What a turn of a connection computes, by the calls that it makes.
use Rattle.std.proofs.Common.{◌≡◌, ◌∙◌, ℕ, List, [], ◌∷◌, Option, Some, None, Result, length, ap, refl, subst, sym}
use Rattle.host_core.specs.State.{Host, connection_at}
use Rattle.host_core.specs.declared.serving.Served.{Served}
use Rattle.server.specs.Hosts.{Hosts, host_at, with_host}
use Rattle.server.proofs.Lookups.{put_again}
use Rattle.jobs.specs.declared.fault.Fault.{Fault}
use Rattle.service_events.specs.Notices.{ending_of}
use Rattle.service_events.specs.declared.notice.Ending.{Ending}
use Rattle.service_events.specs.declared.notice.Notice.{Notice}
use Rattle.jobs.specs.Sockets.{Sockets, slot_at, with_slot, with_waiting}
use Rattle.server.specs.NumberTurns.{server_reported, end_in_turn, ended, ending_after, given_back, given_back_if, info_after, with_unsent}
use Rattle.server.specs.Watching.{Event, HearsEach, if_any}
use Rattle.server.specs.declared.connection_info.ConnectionInfo.{ConnectionInfo}
use Rattle.server.specs.declared.server.Server.{Server}

pub ending_is : (conn : ℕ) (info : ConnectionInfo) (answer : Served) (host : Host) (after : ConnectionInfo) (ending : Option Ending) → ending ≡ ending_of after.ending answer
    → after ≡ info_after conn host info → ending ≡ ending_after conn info answer host
ending_is conn info answer host after ending e is = e ∙ ap (λ (it : ConnectionInfo). ending_of it.ending answer) is

pub any_is : {A : Type 0} (event : A → Event) (found : Option A) (one : A) → found ≡ Some one → if_any event found ≡ event one ∷ []
any_is event found one e = ap (if_any event) e

pub none_is : {A : Type 0} (event : A → Event) (found : Option A) → found ≡ None → if_any event found ≡ []
none_is event found e = ap (if_any event) e

-- the hosts once a number was served, and then reported
pub reported_hosts : (conn : ℕ) (old served left : Hosts) (host : Host) → served ≡ with_host conn (host_at conn served) old → left ≡ with_host conn (host_at conn left) served
    → host_at conn left ≡ host → left ≡ with_host conn host old
reported_hosts conn old served left host serves reports is =
    reports ∙ ap (λ it. with_host conn it served) is ∙ ap (with_host conn host) serves ∙ put_again conn (host_at conn served) host old

module _ {S : Type 0} where
  pub server_is : (old : Server S) (hosts hosts_are : Hosts) (sockets : Sockets S) (infos infos_are : List (Option ConnectionInfo)) → hosts ≡ hosts_are
      → infos ≡ infos_are → record old { hosts = hosts; sockets = sockets; infos = infos } ≡ record old { hosts = hosts_are; sockets = sockets; infos = infos_are }
  server_is old hosts hosts_are sockets infos infos_are h i =
      ap (λ it. record old { hosts = it; sockets = sockets; infos = infos }) h ∙ ap (λ it. record old { hosts = hosts_are; sockets = sockets; infos = it }) i

  pub unsent_is : (conn : ℕ) (old : Server S) (out : List ℕ) (sockets : Sockets S)
      → sockets ≡ with_slot conn (with_waiting (length out) (slot_at conn old.sockets)) old.sockets → out ≡ (connection_at conn (host_at conn old.hosts)).out
      → sockets ≡ with_unsent conn old
  unsent_is conn old out sockets e is = e ∙ ap (λ it. with_slot conn (with_waiting (length it) (slot_at conn old.sockets)) old.sockets) is

  -- that the connection is over is told, if it is
  pub end_events : (conn : ℕ) (info : ConnectionInfo) (old : Server S) (answer : Served) (host : Host) (sockets : Sockets S)
      (after : ConnectionInfo) (server : Server S) (ending : Ending) → after ≡ info_after conn host info
      → server ≡ server_reported conn info old host sockets → ending_after conn info answer host ≡ Some ending
      → ended conn after server ending ∷ [] ≡ end_in_turn conn info old answer host sockets
  end_events conn info old answer host sockets after server ending is leaves ends =
      ap (λ it. ended conn it server ending ∷ []) is
      ∙ ap (λ it. ended conn (info_after conn host info) it ending ∷ []) leaves
      ∙ sym (any_is (ended conn (info_after conn host info) (server_reported conn info old host sockets)) (ending_after conn info answer host) ending ends)

  -- the server after the end
  pub given_back_is : (conn : ℕ) (info : ConnectionInfo) (old : Server S) (answer : Served) (host : Host) (sockets : Sockets S)
      (after : ConnectionInfo) (server new : Server S) (ending : Ending) → after ≡ info_after conn host info
      → server ≡ server_reported conn info old host sockets → ending_after conn info answer host ≡ Some ending → new ≡ given_back conn after ending server
      → new ≡ given_back_if (ending_after conn info answer host) conn (info_after conn host info) (server_reported conn info old host sockets)
  given_back_is conn info old answer host sockets after server new ending is leaves ends gives =
      gives
      ∙ ap (λ it. given_back conn it ending server) is
      ∙ ap (λ it. given_back conn (info_after conn host info) ending it) leaves
      ∙ ap (λ it. given_back_if it conn (info_after conn host info) (server_reported conn info old host sockets)) (sym ends)

module _ {S W : Type 0} (noticed : W → Notice → Result Unit Fault → W → Type 0) (showed : W → Host → ℕ → Result Unit Fault → W → Type 0) where
  pub no_end : (conn : ℕ) (info : ConnectionInfo) (old : Server S) (answer : Served) (host : Host) (sockets : Sockets S) (watcher : W)
      → ending_after conn info answer host ≡ None → HearsEach noticed showed (end_in_turn conn info old answer host sockets) watcher watcher
  no_end conn info old answer host sockets watcher goes_on =
      subst (λ events. HearsEach noticed showed events watcher watcher)
      (sym (none_is (ended conn (info_after conn host info) (server_reported conn info old host sockets)) (ending_after conn info answer host) goes_on))
      refl

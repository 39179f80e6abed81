-- The connections that a server accepts (our profile).
use Rattle.std.specs.Prelude.{◌≡◌, ◌≢◌, ◌≤◌, ◌<◌, ◌⊎◌, ℕ, zero, suc, [], ◌∷◌, slice_set, Option, Some, None, Result, Ok, Err}
use Rattle.applications.specs.SessionNames.{session_after}
use Rattle.host_core.specs.State.{Host, most_connections, phase_of}
use Rattle.host_core.specs.declared.phase.Phase.TheVariants as phase
use Rattle.server.specs.Apart.{service_at}
use Rattle.server.specs.Hosts.{Hosts, opened as with_opened}
use Rattle.jobs.specs.declared.fault.Fault.{Fault}
use Rattle.jobs.specs.declared.fault.Fault.TheVariants as fault
use Rattle.service_events.specs.declared.notice.Client.{Client}
use Rattle.service_events.specs.declared.notice.Notice.{Notice}
use Rattle.service_events.specs.declared.notice.Notice.TheVariants as notice
use Rattle.jobs.specs.Sockets.{opened, slot_at, with_slot}
use Rattle.server.specs.ConnectionInfos.{new_info}
use Rattle.server.specs.Watching.{Noticed, Told}
use Rattle.server.specs.declared.accepting.Accepted.{Accepted}
use Rattle.server.specs.declared.accepting.Arrival.{Arrival}
use Rattle.server.specs.declared.accepting.Arrival.TheVariants as arrival
use Rattle.server.specs.declared.server.Server.{Server}

-- the listener, the server and the watcher at one moment of accepting
pub record Door (L S W : Type 0) : Type 0 where
  pub listener : L
  pub server : Server S
  pub watcher : W

abbrev pub door : {L S W : Type 0} → L → Server S → W → Door L S W
door listener server watcher = record { listener = listener; server = server; watcher = watcher }

-- the most connections that one turn accepts
abbrev pub most_accepted : ℕ
most_accepted = 65536

-- holds if no number below this one is free
abbrev pub AreTaken : ℕ → Hosts → Type 0
AreTaken below hosts = (conn : ℕ) → conn < below → phase_of (service_at conn hosts) ≢ phase.Free

-- holds if `conn` is the least free connection number
pub record IsLeastFree (conn : ℕ) (hosts : Hosts) : Type 0 where
  pub is_number : conn < most_connections
  pub is_free : phase_of (service_at conn hosts) ≡ phase.Free
  pub least : AreTaken conn hosts

module _ {S : Type 0} where
  -- the client on connection `conn`, with the name of the next session
  abbrev pub client_of : ℕ → Accepted S → Server S → Client
  client_of conn accepted server = record { conn = conn; session = server.next_session; peer = accepted.peer }

  -- the server once a connection has begun on number `conn`
  abbrev pub begun : ℕ → Accepted S → Server S → Server S
  begun conn accepted server = record server {
    hosts = with_opened conn server.hosts;
    sockets = with_slot conn (opened accepted.socket (slot_at conn server.sockets)) server.sockets;
    infos = slice_set server.infos conn (Some (new_info (client_of conn accepted server) server.now));
    next_session = session_after server.next_session;
  }

module _ {S W : Type 0} (noticed : W → Notice → Result Unit Fault → W → Type 0)
    (showed : W → Host → ℕ → Result Unit Fault → W → Type 0) where
  -- Holds if an accepted connection gets the least free number, and the watcher receives `Connected`. If no number is
  -- free, the socket is dropped, and the watcher receives `TurnedAway`. If memory is refused, only the socket is
  -- dropped.
  pub data Admits (accepted : Accepted S) (old : Server S) (watcher : W) (answer : Result Unit Fault)
      (new : Server S) (after : W) : Type 0 where
    turned_away : AreTaken most_connections old.hosts → new ≡ old
        → Told noticed showed (Noticed (notice.TurnedAway accepted.peer) ∷ []) watcher answer after
        → Admits accepted old watcher answer new after
    starved : (conn : ℕ) → IsLeastFree conn old.hosts → new ≡ old → answer ≡ Err fault.NoMemory → after ≡ watcher
        → Admits accepted old watcher answer new after
    begins : (conn : ℕ) → IsLeastFree conn old.hosts → new ≡ begun conn accepted old
        → Told noticed showed (Noticed (notice.Connected (client_of conn accepted old)) ∷ []) watcher answer after
        → Admits accepted old watcher answer new after

  -- holds if a connection is admitted, or if the watcher receives that the listener refused one, and no more
  abbrev pub Receives : Arrival S → Server S → W → Result Unit Fault → Server S → W → Type 0
  Receives (arrival.Begun accepted) old watcher answer new after = Admits accepted old watcher answer new after
  Receives (arrival.Refused peer why) old watcher answer new after =
      (new ≡ old) × Told noticed showed (Noticed (notice.BadProxyHeader peer why) ∷ []) watcher answer after

  module _ {L : Type 0} (gave : L → Option (Arrival S) → L → Type 0) where
    -- holds if the listener gave `count` connections, and each was received, one after another
    unfoldable pub AdmitsSome : (count : ℕ) → Door L S W → Door L S W → Type 0
    AdmitsSome zero old new = new ≡ old
    AdmitsSome (suc count) old new = (mid : Door L S W) × (arrival : Arrival S) × AdmitsSome count old mid
        × gave mid.listener (Some arrival) new.listener
        × Receives arrival mid.server mid.watcher (Ok tt) new.server new.watcher

    -- Holds if all waiting connections are received, at most `most`. After a failure no other is accepted.
    abbrev pub AdmitsAll : (most : ℕ) → Door L S W → Result Unit Fault → Door L S W → Type 0
    AdmitsAll most old (Ok _) new = (count : ℕ) × (mid : Door L S W) × (count ≤ most) × AdmitsSome count old mid
        × (((count ≡ most) × (new ≡ mid))
        ⊎ (gave mid.listener None new.listener × (new.server ≡ mid.server) × (new.watcher ≡ mid.watcher)))
    AdmitsAll most old (Err why) new = (count : ℕ) × (mid : Door L S W) × (arrival : Arrival S) × (count < most)
        × AdmitsSome count old mid
        × gave mid.listener (Some arrival) new.listener
        × Receives arrival mid.server mid.watcher (Err why) new.server new.watcher

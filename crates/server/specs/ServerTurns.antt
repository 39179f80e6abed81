-- A turn of a server (our profile): waiting connections are accepted, and each connection is served once.
use Rattle.std.specs.Prelude.{◌≡◌, ◌||◌, ℕ, Bool, false, List, Option, None, Result, Ok, Err, replicate}
use Rattle.std.specs.declared.io.Error.{Error}
use Rattle.host_core.specs.State.{Host, most_connections}
use Rattle.server.specs.Hosts.{only}
use Rattle.jobs.specs.declared.fault.Fault.{Fault}
use Rattle.jobs.specs.declared.fault.Fault.TheVariants as fault
use Rattle.service_events.specs.declared.notice.Notice.{Notice}
use Rattle.jobs.specs.Sockets.{new_sockets}
use Rattle.server.specs.Accepting.{AdmitsAll, Door, door, most_accepted}
use Rattle.server.specs.NumberTurns.{ServesAt}
use Rattle.server.specs.Visits.{VisitsEach}
use Rattle.server.specs.declared.accepting.Arrival.{Arrival}
use Rattle.server.specs.declared.server.Server.{Server}

-- the server of a new host, without connections. `boot` is the first part of the names of its sessions
abbrev pub new_server : {S : Type 0} → Host → (boot : ℕ) → Server S
new_server host boot = record {
  hosts = only host;
  sockets = new_sockets;
  infos = replicate most_connections None;
  next_session = record { boot = boot; number = 0 };
  now = 0;
  applied = 0;
}

module _ {S W L : Type 0} (gave : S → ℕ → List ℕ → Result ℕ Error → S → Type 0)
    (took : S → List ℕ → Result ℕ Error → S → Type 0)
    (noticed : W → Notice → Result Unit Fault → W → Type 0) (showed : W → Host → ℕ → Result Unit Fault → W → Type 0)
    (accepts : L → Option (Arrival S) → L → Type 0) where
  -- holds if all waiting connections are accepted, one after another
  abbrev pub Accepts : Door L S W → Result Unit Fault → Door L S W → Type 0
  Accepts old answer new = AdmitsAll noticed showed accepts most_accepted old answer new

  -- holds if each open connection is served once, in the order of the numbers, and no other is
  abbrev pub ServesEach : Server S → W → Result Bool Fault → Server S → W → Type 0
  ServesEach old watcher answer new after = VisitsEach (ServesAt gave took noticed showed) old watcher answer new after

  -- the server with the flag cleared that says whether a byte was read or written in the turn
  abbrev pub not_moved : Server S → Server S
  not_moved server = record server { sockets = record server.sockets { moved = false } }

  -- holds for a turn without a fault; `did`: a byte was read or written, or the host acted
  pub record WholeTurn (old : Door L S W) (did : Bool) (new : Door L S W) : Type 0 where
    pub accepted : Door L S W
    pub served : Server S
    pub acted : Bool
    pub accepts_all : Accepts old (Ok tt) accepted
    pub serves_each : ServesEach accepted.server accepted.watcher (Ok acted) served new.watcher
    pub listener_stays : new.listener ≡ accepted.listener
    pub becomes : new.server ≡ not_moved served
    pub did_is : did ≡ (served.sockets.moved || acted)

  -- holds if a turn ends at its first fault; what was done before that is not undone
  pub data BrokenTurn (old : Door L S W) (why : Fault) (new : Door L S W) : Type 0 where
    accepting : Accepts old (Err why) new → BrokenTurn old why new
    serving : (accepted : Door L S W) → Accepts old (Ok tt) accepted
        → ServesEach accepted.server accepted.watcher (Err why) new.server new.watcher
        → new.listener ≡ accepted.listener → BrokenTurn old why new

  -- holds for a turn, whole or ended by a fault
  abbrev pub TakesTurn : Door L S W → Result Bool Fault → Door L S W → Type 0
  TakesTurn old (Ok did) new = WholeTurn old did new
  TakesTurn old (Err why) new = BrokenTurn old why new

  -- ---- with the system's listener, of which nothing is known except what it hands over

  -- Holds if the server polls until a socket is ready or the time is up, and then takes a turn, after which the listener
  -- is `listener`. A failed poll ends it. What the poll itself does to the listener isn't known (`polled`).
  pub data PollsAndServes (old : Server S) (watcher : W) (answer : Result Bool Fault) (new : Server S)
      (after : W) (listener : L) : Type 0 where
    poll_failed : answer ≡ Err fault.SocketFailed → new ≡ old → after ≡ watcher
        → PollsAndServes old watcher answer new after listener
    polled : (polled : L) → TakesTurn (door polled old watcher) answer (door listener new after)
        → PollsAndServes old watcher answer new after listener

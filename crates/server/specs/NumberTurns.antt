-- A turn of one connection (our profile): it is served, what happened is reported, and it is ended if it is over.
use Rattle.std.specs.Prelude.{◌≡◌, ◌≢◌, ◌==◌, not, ℕ, Bool, false, List, [], ◌∷◌, ◌++◌, length, slice_index_or, slice_set, Option, Some, None, Result, Ok, Err, if◌then◌else◌}
use Rattle.std.specs.declared.io.Error.{Error}
use Rattle.host_core.specs.Reports.{Reports, events_of, none_left}
use Rattle.host_core.specs.Serves.{Serves}
use Rattle.host_core.specs.State.{Host, connection_at, reports_at, with_reports}
use Rattle.host_core.specs.declared.event.HostEvent.{HostEvent}
use Rattle.host_core.specs.declared.event.HostEvent.TheVariants as event
use Rattle.host_core.specs.declared.serving.Served.{Served}
use Rattle.host_core.specs.declared.serving.Served.TheVariants as served
use Rattle.server.specs.Hosts.{closed, host_at, with_host}
use Rattle.jobs.specs.declared.fault.Fault.{Fault}
use Rattle.jobs.specs.declared.fault.Fault.TheVariants as fault
use Rattle.service_events.specs.Notices.{ending_of}
use Rattle.service_events.specs.declared.notice.Client.{Client}
use Rattle.service_events.specs.declared.notice.Ending.{Ending}
use Rattle.service_events.specs.declared.notice.Notice.{Notice}
use Rattle.service_events.specs.declared.notice.Notice.TheVariants as notice
use Rattle.jobs.specs.Sockets.{GivesAt, Sockets, TakesAt, emptied, is_connected, slot_at, with_slot, with_waiting}
use Rattle.server.specs.Watching.{Event, FailsAmong, HearsEach, Noticed, Showed, if_any}
use Rattle.server.specs.ConnectionInfos.{usage_of, with_events}
use Rattle.server.specs.declared.connection_info.ConnectionInfo.{ConnectionInfo}
use Rattle.server.specs.declared.server.Server.{Server}

-- ---- reports

-- the reports once only these events are left: none, or the end
abbrev pub left_by : List HostEvent → (waits : Bool) → Reports
left_by (event.Closed cause ∷ events) waits = record (none_left waits) { closed = Some cause }
left_by _ waits = none_left waits

-- the host with only these events left of a connection; all else is unchanged
abbrev pub with_left : List HostEvent → ℕ → Host → Host
with_left events conn host = with_reports conn (left_by events (reports_at conn host).waits) host

-- the host with nothing left to report of a connection
abbrev pub reported : ℕ → Host → Host
reported = with_left []

-- What the watcher receives for an event on a connection, if it does. `host` is the host that it sees.
abbrev pub told_of : Client → ℕ → Host → HostEvent → List Event
told_of client conn host (event.Rejected rejection) = Noticed (notice.Rejected client rejection) ∷ []
told_of client conn host (event.Bound lu) = Noticed (notice.Bound client lu) ∷ []
told_of client conn host (event.KeyDropped key) = Noticed (notice.KeyDropped client key) ∷ []
told_of client conn host (event.RuleBroken broken) = Noticed (notice.RuleBroken client broken) ∷ []
told_of client conn host event.CharacterReplaced = Noticed (notice.CharacterReplaced client) ∷ []
told_of client conn host (event.ScreenRestored why) = Noticed (notice.ScreenRestored client why) ∷ []
told_of client conn host event.Asked = []
told_of client conn host event.Shown = Showed host conn ∷ []
told_of client conn host (event.Closed cause) = []

-- what the watcher receives for these events, one after another
abbrev pub told_each : Client → ℕ → Host → List HostEvent → List Event
told_each client conn host [] = []
told_each client conn host (one ∷ events) =
    told_of client conn (with_left events conn host) one ++ told_each client conn host events

-- what the watcher receives for a connection: each event that the host kept, in its order
abbrev pub reports_of : Client → ℕ → Host → List Event
reports_of client conn host = told_each client conn host (events_of (reports_at conn host))

-- the connection's record after these events
abbrev pub info_after : ℕ → Host → ConnectionInfo → ConnectionInfo
info_after conn host info = with_events (events_of (reports_at conn host)) info

-- ---- an open connection, and its end

module _ {S : Type 0} where
  -- the record of an open connection: its number has a socket
  abbrev pub open_at : ℕ → Server S → Option ConnectionInfo
  open_at conn server = if is_connected (slot_at conn server.sockets) then slice_index_or server.infos conn None else None

  -- the sockets, with the number of unsent bytes of a connection
  abbrev pub with_unsent : ℕ → Server S → Sockets S
  with_unsent conn server =
      with_slot conn
      (with_waiting (length (connection_at conn (host_at conn server.hosts)).out) (slot_at conn server.sockets))
      server.sockets

  -- The server after a connection's end: its number and its LU are free, its socket is closed, and its record says why.
  -- All else is unchanged.
  abbrev pub given_back : ℕ → ConnectionInfo → Ending → Server S → Server S
  given_back conn info ending server =
      record server {
        hosts = closed conn server.hosts;
        sockets = with_slot conn (emptied (slot_at conn server.sockets)) server.sockets;
        infos = slice_set server.infos conn (Some (record info { ending = Some ending }));
      }

  -- the server after a connection's end, if it ended
  abbrev pub given_back_if : Option Ending → ℕ → ConnectionInfo → Server S → Server S
  given_back_if None conn info server = server
  given_back_if (Some ending) conn info server = given_back conn info ending server

  -- the report that a connection is over, why, and what it used
  abbrev pub ended : ℕ → ConnectionInfo → Server S → Ending → Event
  ended conn info server ending = Noticed (notice.Ended info.client ending
      (usage_of server.now (slot_at conn server.sockets).sent (slot_at conn server.sockets).received info))

-- ---- a turn of one connection

-- why the connection is over after the turn; None if it continues
abbrev pub ending_after : ℕ → ConnectionInfo → Served → (after : Host) → Option Ending
ending_after conn info answer after = ending_of (info_after conn after info).ending answer

module _ {S : Type 0} where
  -- the server once the host has served a connection, and all of it was reported
  abbrev pub server_reported : ℕ → ConnectionInfo → (old : Server S) → Host → Sockets S → Server S
  server_reported conn info old host sockets =
      record old {
        hosts = with_host conn (reported conn host) old.hosts;
        sockets = sockets;
        infos = slice_set old.infos conn (Some (info_after conn host info));
      }

  -- the last report of a turn: the connection's end, if it is over
  abbrev pub end_in_turn : ℕ → ConnectionInfo → (old : Server S) → Served → Host → Sockets S → List Event
  end_in_turn conn info old answer host sockets =
      if_any (ended conn (info_after conn host info) (server_reported conn info old host sockets))
      (ending_after conn info answer host)

module _ {S W : Type 0} (gave : S → ℕ → List ℕ → Result ℕ Error → S → Type 0)
    (took : S → List ℕ → Result ℕ Error → S → Type 0)
    (noticed : W → Notice → Result Unit Fault → W → Type 0)
    (showed : W → Host → ℕ → Result Unit Fault → W → Type 0) where
  -- Holds if the host serves a connection, by one read, one act and one write, with this answer, and these are the host
  -- and the sockets after it.
  abbrev pub IsServed : ℕ → Server S → Served → Host → Sockets S → Type 0
  IsServed conn old answer host sockets = Serves (GivesAt gave) (TakesAt took) conn (host_at conn old.hosts)
      (with_unsent conn old) answer host sockets

  -- Holds if a connection is served once, and the watcher receives each event, once and in order. If the connection is
  -- over, it is ended, and the watcher receives that.
  pub record ServesNumber (conn : ℕ) (info : ConnectionInfo) (old : Server S) (watcher : W) (acted : Bool)
      (new : Server S) (after : W) : Type 0 where
    pub answer : Served
    pub host : Host
    pub sockets : Sockets S
    pub serves : IsServed conn old answer host sockets
    pub fed : answer ≢ served.Memory
    pub acts : acted ≡ not
        (length (connection_at conn host).out == length (connection_at conn (host_at conn old.hosts)).out)
    pub hears : HearsEach noticed showed
        (reports_of info.client conn host ++ end_in_turn conn info old answer host sockets) watcher after
    pub becomes : new ≡ given_back_if (ending_after conn info answer host) conn (info_after conn host info)
        (server_reported conn info old host sockets)

  -- Holds if such a turn fails: either memory was refused while the host served the connection, and the watcher
  -- received nothing; or the watcher failed. What was done before that is not undone.
  pub data BreaksOffAt (conn : ℕ) (info : ConnectionInfo) (old : Server S) (watcher : W) (why : Fault)
      (new : Server S) (after : W) : Type 0 where
    starved : (host : Host) (sockets : Sockets S) → IsServed conn old served.Memory host sockets → why ≡ fault.NoMemory
        → new ≡ record old { hosts = with_host conn host old.hosts; sockets = sockets } → after ≡ watcher
        → BreaksOffAt conn info old watcher why new after
    report_failed : (answer : Served) (host : Host) (sockets : Sockets S) (reports : Reports)
        → IsServed conn old answer host sockets → answer ≢ served.Memory
        → FailsAmong noticed showed (reports_of info.client conn host) watcher why after
        → new ≡ record old { hosts = with_host conn (with_reports conn reports host) old.hosts; sockets = sockets }
        → BreaksOffAt conn info old watcher why new after
    end_failed : (answer : Served) (host : Host) (sockets : Sockets S) (told : W)
        → IsServed conn old answer host sockets → answer ≢ served.Memory
        → HearsEach noticed showed (reports_of info.client conn host) watcher told
        → FailsAmong noticed showed (end_in_turn conn info old answer host sockets) told why after
        → new ≡ given_back_if (ending_after conn info answer host) conn (info_after conn host info)
        (server_reported conn info old host sockets)
        → BreaksOffAt conn info old watcher why new after

  -- holds if an open connection is served; a number without one is left alone
  abbrev pub ServesIfOpen : Option ConnectionInfo → ℕ → Server S → W → Result Bool Fault → Server S → W → Type 0
  ServesIfOpen None conn old watcher answer new after = (answer ≡ Ok false) × (new ≡ old) × (after ≡ watcher)
  ServesIfOpen (Some info) conn old watcher (Ok acted) new after = ServesNumber conn info old watcher acted new after
  ServesIfOpen (Some info) conn old watcher (Err why) new after = BreaksOffAt conn info old watcher why new after

  -- holds for a turn of the connection on this number, if there is one
  abbrev pub ServesAt : ℕ → Server S → W → Result Bool Fault → Server S → W → Type 0
  ServesAt conn old watcher answer new after = ServesIfOpen (open_at conn old) conn old watcher answer new after

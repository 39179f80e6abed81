-- What is due on connections after a turn: the end of a session that the application ends, and the time limits (our
-- profile). Times are milliseconds of the server's time.
use Rattle.std.specs.Prelude.{◌≡◌, ◌&&◌, ⊤, ℕ, Bool, true, false, [], ◌∷◌, slice_set, Option, Some, None, Result, Ok, Err, if◌then◌else◌}
use Rattle.host_core.specs.KeepAlive.{kept_alive as with_nop, may_keep_alive}
use Rattle.host_core.specs.State.{Host, connection_at, pending_of, phase_of, state_at, turn_of, with_connection}
use Rattle.server.specs.Hosts.{host_at, with_host}
use Rattle.jobs.specs.declared.fault.Fault.{Fault}
use Rattle.jobs.specs.declared.service.TimeLimits.{TimeLimits}
use Rattle.service_events.specs.Timing.{are_applied, awaited_on, due, heard, is_operator, is_unanswered, kept_alive}
use Rattle.service_events.specs.declared.limits.Activity.{Activity}
use Rattle.service_events.specs.declared.limits.Awaited.{Awaited}
use Rattle.service_events.specs.declared.limits.Due.{Due}
use Rattle.service_events.specs.declared.limits.Due.TheVariants as due_now
use Rattle.service_events.specs.declared.notice.Ending.{Ending}
use Rattle.service_events.specs.declared.notice.Ending.TheVariants as ending
use Rattle.service_events.specs.declared.notice.Notice.{Notice}
use Rattle.jobs.specs.Sockets.{slot_at}
use Rattle.server.specs.NumberTurns.{ended, given_back, open_at}
use Rattle.server.specs.Visits.{VisitsEach}
use Rattle.server.specs.Watching.{Told}
use Rattle.server.specs.declared.connection_info.ConnectionInfo.{ConnectionInfo}
use Rattle.server.specs.declared.server.Server.{Server}

-- what a connection waits for
abbrev pub awaited_at : ℕ → Host → Awaited
awaited_at conn host = awaited_on (phase_of (state_at conn host)) (turn_of (state_at conn host))
    (pending_of (state_at conn host))

-- the result of a call, without its `did`
abbrev pub done : Result Bool Fault → Result Unit Fault
done (Ok did) = Ok tt
done (Err why) = Err why

-- holds if the call failed or did something
abbrev pub HasDone : Result Bool Fault → Type 0
HasDone (Ok did) = did ≡ true
HasDone (Err why) = ⊤

module _ {S : Type 0} where
  -- the connection's activity, updated with the bytes received and sent until now
  abbrev pub activity_at : ℕ → ConnectionInfo → Server S → Activity
  activity_at conn info server =
      heard (slot_at conn server.sockets).received (slot_at conn server.sockets).sent
      (awaited_at conn (host_at conn server.hosts)) server.now info.activity

  -- whether the application ends the session of a connection that waits for the operator
  abbrev pub is_finished : ℕ → ConnectionInfo → Server S → Bool
  is_finished conn info server = info.ends && is_operator (awaited_at conn (host_at conn server.hosts))

  -- what the time limits require on this connection now
  abbrev pub due_at : TimeLimits → ℕ → ConnectionInfo → Server S → Due
  due_at limits conn info server = due limits (awaited_at conn (host_at conn server.hosts)) (activity_at conn info server)
      server.now

  -- Whether bytes were received since the limits were last applied, and none sent: the peer's TCP waits for an ACK, which
  -- the host's decision will carry if that is awaited.
  abbrev pub is_unanswered_at : ℕ → ConnectionInfo → Server S → Bool
  is_unanswered_at conn info server = is_unanswered info.activity (slot_at conn server.sockets).received
      (slot_at conn server.sockets).sent (awaited_at conn (host_at conn server.hosts))

  abbrev pub with_activity : ℕ → ConnectionInfo → Activity → Server S → Server S
  with_activity conn info activity server =
      record server { infos = slice_set server.infos conn (Some (record info { activity = activity })) }

  -- the server with IAC NOP queued on a bound connection without waiting output
  abbrev pub nop_sent : ℕ → Server S → Server S
  nop_sent conn server = record server {
    hosts = with_host conn
        (with_connection conn (with_nop (connection_at conn (host_at conn server.hosts))) (host_at conn server.hosts))
        server.hosts;
  }

  abbrev pub nop_sent_if : Bool → ℕ → Server S → Server S
  nop_sent_if asked conn server = if asked then nop_sent conn server else server

  -- whether IAC NOP may be sent: the connection is bound, and no output waits there
  abbrev pub sends_nop : ℕ → Server S → Bool
  sends_nop conn server = may_keep_alive (connection_at conn (host_at conn server.hosts))

module _ {S W : Type 0} (noticed : W → Notice → Result Unit Fault → W → Type 0)
    (showed : W → Host → ℕ → Result Unit Fault → W → Type 0) where
  -- holds if a connection is ended for this reason, and the watcher receives that
  abbrev pub IsEnded : Ending → ℕ → ConnectionInfo → Server S → W → Result Bool Fault → Server S → W → Type 0
  IsEnded why conn info old watcher answer new after =
      Told noticed showed (ended conn info old why ∷ []) watcher (done answer) after
      × (new ≡ given_back conn info why old) × HasDone answer

  -- Holds if just what is due on a connection is done: it is ended, and the watcher receives that; or IAC NOP is sent.
  abbrev pub DoesDue : Due → ℕ → ConnectionInfo → Server S → W → Result Bool Fault → Server S → W → Type 0
  DoesDue (due_now.Disconnect overdue) conn info old watcher answer new after =
      IsEnded (ending.Dropped overdue) conn info old watcher answer new after
  DoesDue due_now.KeepAlive conn info old watcher answer new after =
      (answer ≡ Ok (sends_nop conn old)) × (after ≡ watcher)
      × (new ≡ nop_sent conn (with_activity conn info (kept_alive old.now (activity_at conn info old)) old))
  DoesDue due_now.Nothing conn info old watcher answer new after =
      (answer ≡ Ok (is_unanswered_at conn info old && sends_nop conn old)) × (after ≡ watcher)
      × (new ≡ nop_sent_if (is_unanswered_at conn info old) conn
      (with_activity conn info (activity_at conn info old) old))

  module _ (limits : TimeLimits) where
    -- holds if a connection is ended if its session is `finished`, and otherwise the limits are applied to it
    abbrev pub AppliesUnless : (finished : Bool) → ConnectionInfo → ℕ → Server S → W → Result Bool Fault
        → Server S → W → Type 0
    AppliesUnless true info conn old watcher answer new after =
        IsEnded ending.ByApplication conn info old watcher answer new after
    AppliesUnless false info conn old watcher answer new after =
        DoesDue (due_at limits conn info old) conn info old watcher answer new after

    -- holds if an open connection is ended or the limits are applied to it; a number without one is left alone
    abbrev pub AppliesIfOpen : Option ConnectionInfo → ℕ → Server S → W → Result Bool Fault → Server S
        → W → Type 0
    AppliesIfOpen None conn old watcher answer new after = (answer ≡ Ok false) × (new ≡ old) × (after ≡ watcher)
    AppliesIfOpen (Some info) conn old watcher answer new after =
        AppliesUnless (is_finished conn info old) info conn old watcher answer new after

    -- holds if what is due is done on this number, if it has an open connection
    abbrev pub AppliesAt : ℕ → Server S → W → Result Bool Fault → Server S → W → Type 0
    AppliesAt conn old watcher answer new after = AppliesIfOpen (open_at conn old) conn old watcher answer new after

    -- holds if the time is set, and the limits are applied to each number if `applied`
    abbrev pub AppliesIf : (applied : Bool) → (now : ℕ) → Server S → W → Result Bool Fault → Server S
        → W → Type 0
    AppliesIf true now old watcher answer new after =
        VisitsEach AppliesAt (record old { now = now; applied = now }) watcher answer new after
    AppliesIf false now old watcher answer new after = (answer ≡ Ok false) × (new ≡ record old { now = now })
        × (after ≡ watcher)

    -- Holds if the time is set, and the limits are applied to each number if a byte moved in the turn, or if they were
    -- last applied long enough before.
    abbrev pub KeepsTime : (now : ℕ) → (moved : Bool) → Server S → W → Result Bool Fault → Server S → W → Type 0
    KeepsTime now moved old watcher answer new after =
        AppliesIf (are_applied moved old.applied now) now old watcher answer new after

-- What operators command (our profile): notes for sessions, and the end of the service. A note that can't be sent now
-- waits for its session.
use Rattle.std.specs.Prelude.{◌≡◌, ◌≢◌, ◌<◌, ◌||◌, ◌-◌, ◌==◌, not, ℕ, zero, suc, Bool, true, false, List, [], ◌∷◌, bytes_eq, slice_index_or, slice_set, Option, Some, None, Result, Ok, Err, is_some, if◌then◌else◌}
use Rattle.std.specs.Option.{option_and_then, option_map_or}
use Rattle.service_wire.specs.declared.command.Command.{Command}
use Rattle.service_wire.specs.declared.command.Command.TheVariants as command
use Rattle.service_wire.specs.declared.command.Recipient.{Recipient}
use Rattle.service_wire.specs.declared.command.Recipient.TheVariants as recipient
use Rattle.host_core.specs.Does.{Does, noted_by}
use Rattle.host_core.specs.State.{Host, connection_at, most_connections, phase_of, with_connection}
use Rattle.host_core.specs.declared.phase.Phase.{Phase}
use Rattle.host_core.specs.declared.phase.Phase.TheVariants as phase
use Rattle.host_core.specs.declared.acted.Acted.{Acted}
use Rattle.host_core.specs.declared.acted.Acted.TheVariants as acted
use Rattle.server.specs.Apart.{service_at}
use Rattle.server.specs.Hosts.{AreOwned, Hosts, IsFreePlace, closed, host_at, most_earlier, reloaded, with_host}
use Rattle.server.specs.declared.hosts.ReloadFault.{ReloadFault}
use Rattle.server.specs.declared.hosts.ReloadFault.TheVariants as reload_fault
use Rattle.jobs.specs.declared.fault.Fault.{Fault}
use Rattle.service_events.specs.Timing.{is_over}
use Rattle.service_events.specs.declared.notice.Ending.TheVariants as ending
use Rattle.service_events.specs.declared.notice.Notice.{Notice}
use Rattle.jobs.specs.Sockets.{is_connected, slot_at}
use Rattle.server.specs.NumberTurns.{open_at}
use Rattle.server.specs.TimeTurns.{IsEnded}
use Rattle.server.specs.Visits.{VisitsEach}
use Rattle.server.specs.declared.connection_info.ConnectionInfo.{ConnectionInfo}
use Rattle.server.specs.declared.note_queue.Delivery.{Delivery}
use Rattle.server.specs.declared.note_queue.Delivery.TheVariants as delivery
use Rattle.server.specs.declared.note_queue.WaitingNote.{WaitingNote}
use Rattle.server.specs.declared.orders.Orders.{Orders}
use Rattle.server.specs.declared.server.Server.{Server}

-- ---- whom a note is for

-- whether a note is for a session: only for one that is bound to an LU
abbrev pub is_for : Recipient → ConnectionInfo → Bool
is_for recipient.Everyone info = is_some info.lu
is_for (recipient.Only lu) info = option_map_or (λ own. bytes_eq own lu) info.lu false

-- the session's number, if the note is for it
abbrev pub session_if_for : Recipient → ConnectionInfo → Option ℕ
session_if_for to info = if is_for to info then Some info.client.session.number else None

-- a note that waits for its session
abbrev pub waiting : (session : ℕ) → (text : List ℕ) → WaitingNote
waiting session text = record { session = session; text = text }

-- the waiting notes with one for this session on number `conn`, in place of an earlier one
abbrev pub with_waiting : Option ℕ → ℕ → (text : List ℕ) → List (Option WaitingNote) → List (Option WaitingNote)
with_waiting None conn text notes = notes
with_waiting (Some session) conn text notes = slice_set notes conn (Some (waiting session text))

-- what is left of a note for the host's answer
abbrev pub delivery_of : Acted → Delivery
delivery_of acted.Sent = delivery.Sent
delivery_of acted.Nothing = delivery.Later
delivery_of acted.Memory = delivery.Later

-- whether a note was sent
abbrev pub is_sent : Delivery → Bool
is_sent delivery.Sent = true
is_sent _ = false

-- the waiting notes after a try: a note that is to be sent later waits on
abbrev pub after_try : Delivery → ℕ → List (Option WaitingNote) → List (Option WaitingNote)
after_try delivery.Later conn notes = notes
after_try _ conn notes = slice_set notes conn None

-- whether no new session is taken
abbrev pub takes_nobody : Orders → Bool
takes_nobody orders = is_some orders.drained

module _ {S : Type 0} where
  -- the session on an open connection, if a note is for it
  abbrev pub recipient_at : Recipient → Server S → ℕ → Option ℕ
  recipient_at to server conn = option_and_then (session_if_for to) (open_at conn server)

  -- the waiting notes with one for each recipient below a number
  unfoldable pub queued_below : Recipient → (text : List ℕ) → Server S → ℕ → List (Option WaitingNote)
      → List (Option WaitingNote)
  queued_below to text server zero notes = notes
  queued_below to text server (suc conn) notes =
      with_waiting (recipient_at to server conn) conn text (queued_below to text server conn notes)

  -- whether there is a recipient below a number
  unfoldable pub has_recipient_below : Recipient → Server S → ℕ → Bool
  has_recipient_below to server zero = false
  has_recipient_below to server (suc conn) = has_recipient_below to server conn || is_some (recipient_at to server conn)

  -- ---- sending

  -- Holds if a note is sent on a number's connection, or nothing is done: it isn't the operator's turn, a command waits
  -- for its answer, the ends haven't agreed, or memory is refused.
  pub record SendsNote (conn : ℕ) (text : List ℕ) (old : Server S) (answer : Acted) (new : Server S)
      : Type 0 where
    pub does : Does (noted_by text (service_at conn old.hosts)) (connection_at conn (host_at conn old.hosts)) answer
        (connection_at conn (host_at conn new.hosts))
    pub host : host_at conn new.hosts
        ≡ with_connection conn (connection_at conn (host_at conn new.hosts)) (host_at conn old.hosts)
    pub others : new ≡ record old { hosts = with_host conn (host_at conn new.hosts) old.hosts }

  -- whether the session with this number is on an open connection
  abbrev pub has_session : ℕ → (session : ℕ) → Server S → Bool
  has_session conn session server =
      option_map_or (λ info. info.client.session.number == session) (open_at conn server) false

  -- holds if a waiting note is sent if its session is still there and the host can send it
  abbrev pub TriesIf : (is_there : Bool) → ℕ → WaitingNote → Server S → Delivery → Server S → Type 0
  TriesIf false conn note old answer new = (answer ≡ delivery.Left) × (new ≡ old)
  TriesIf true conn note old answer new =
      (did : Acted) × SendsNote conn note.text old did new × (answer ≡ delivery_of did)

  abbrev pub Tries : ℕ → WaitingNote → Server S → Delivery → Server S → Type 0
  Tries conn note old answer new = TriesIf (has_session conn note.session old) conn note old answer new

  -- Holds if a number's waiting note, if there is one, is tried, and waits no longer if it was sent or its session is
  -- over.
  abbrev pub DeliversIf : Option WaitingNote → ℕ → Server S → List (Option WaitingNote) → (did : Bool)
      → Server S → List (Option WaitingNote) → Type 0
  DeliversIf None conn old notes did new left = (did ≡ false) × (new ≡ old) × (left ≡ notes)
  DeliversIf (Some note) conn old notes did new left = (answer : Delivery) × Tries conn note old answer new
      × (did ≡ is_sent answer) × (left ≡ after_try answer conn notes)

  abbrev pub DeliversAt : ℕ → Server S → List (Option WaitingNote) → (did : Bool) → Server S
      → List (Option WaitingNote) → Type 0
  DeliversAt conn old notes did new left = DeliversIf (slice_index_or notes conn None) conn old notes did new left

  -- holds if the waiting notes of the numbers below this one are tried, each once and in order; `did`: one was sent
  unfoldable pub DeliversBelow : ℕ → Server S → List (Option WaitingNote) → (did : Bool) → Server S
      → List (Option WaitingNote) → Type 0
  DeliversBelow zero old notes did new left = (did ≡ false) × (new ≡ old) × (left ≡ notes)
  DeliversBelow (suc conn) old notes did new left = (before one : Bool) × (mid : Server S)
      × (rest : List (Option WaitingNote)) × DeliversBelow conn old notes before mid rest
      × DeliversAt conn mid rest one new left
      × (did ≡ (before || one))

  -- ---- the end of the service

  -- whether a number below this one has an open connection
  unfoldable pub is_open_below : ℕ → Server S → Bool
  is_open_below zero server = false
  is_open_below (suc conn) server = is_open_below conn server || is_connected (slot_at conn server.sockets)

  -- Whether a service that is drained since a time is over: no connection is open, or the time for draining, in
  -- seconds, is over; 0 is no limit.
  abbrev pub is_drained : (limit : ℕ) → Server S → (since : ℕ) → Bool
  is_drained limit server since = not (is_open_below most_connections server) || is_over limit (server.now - since)

  -- whether operators ended the service
  abbrev pub is_ended : (limit : ℕ) → Orders → Server S → Bool
  is_ended limit orders server = orders.stopped || option_map_or (is_drained limit server) orders.drained false

-- ---- commands

-- whether there is a text: the empty one isn't shown
abbrev pub has_text : List ℕ → Bool
has_text [] = false
has_text (code ∷ codes) = true

-- the orders with a note for each recipient
abbrev pub with_note : {S : Type 0} → Recipient → (text : List ℕ) → Server S → Orders → Orders
with_note to text server orders =
    record orders { notes = queued_below to text server most_connections orders.notes }

-- the orders to drain since now, unless that was ordered before
abbrev pub drained_since : (now : ℕ) → Option ℕ → Option ℕ
drained_since now None = Some now
drained_since now (Some since) = Some since

abbrev pub with_drain : (now : ℕ) → Orders → Orders
with_drain now orders = record orders { drained = drained_since now orders.drained }

abbrev pub with_note_if : {S : Type 0} → Bool → (text : List ℕ) → Server S → Orders → Orders
with_note_if true text server orders = with_note recipient.Everyone text server orders
with_note_if false text server orders = orders

-- the orders after a command
abbrev pub ordered : {S : Type 0} → Command → Server S → Orders → Orders
ordered command.Reload server orders = orders
ordered (command.Drain text) server orders =
    with_drain server.now (with_note_if (has_text text) text server orders)
ordered (command.Note to text) server orders = with_note to text server orders
ordered command.Sessions server orders = orders
ordered command.Stop server orders = record orders { stopped = true }

-- Whether the service does what a command orders: all but a note without a recipient; `reload` is no order.
abbrev pub is_done : {S : Type 0} → Command → Server S → Bool
is_done command.Reload server = false
is_done (command.Note to text) server = has_recipient_below to server most_connections
is_done _ server = true

-- ---- reading the panels again

-- whether the ends of a connection in this phase negotiate
abbrev pub is_talking : Phase → Bool
is_talking phase.Talking = true
is_talking _ = false

-- holds if no connection below this number negotiates
abbrev pub NobodyTalksBelow : ℕ → Hosts → Type 0
NobodyTalksBelow below hosts = (conn : ℕ) → conn < below → phase_of (service_at conn hosts) ≢ phase.Talking

module _ {S W : Type 0} (noticed : W → Notice → Result Unit Fault → W → Type 0)
    (showed : W → Host → ℕ → Result Unit Fault → W → Type 0) where
  -- holds if a connection that negotiates is ended, and the watcher receives that
  abbrev pub EndsTalkingIf : (talks : Bool) → Option ConnectionInfo → ℕ → Server S → W → Result Bool Fault
      → Server S → W → Type 0
  EndsTalkingIf false info conn old watcher answer new after = (answer ≡ Ok false) × (new ≡ old) × (after ≡ watcher)
  EndsTalkingIf true (Some info) conn old watcher answer new after =
      IsEnded noticed showed ending.Reloaded conn info old watcher answer new after
  EndsTalkingIf true None conn old watcher answer new after =
      (answer ≡ Ok true) × (new ≡ record old { hosts = closed conn old.hosts }) × (after ≡ watcher)

  abbrev pub EndsTalkingAt : ℕ → Server S → W → Result Bool Fault → Server S → W → Type 0
  EndsTalkingAt conn old watcher answer new after =
      EndsTalkingIf (is_talking (phase_of (service_at conn old.hosts))) (open_at conn old) conn old watcher answer
      new after

  -- Holds if new sessions are served by another host, and each other session stays in its host. First each connection
  -- that negotiates is ended: its host could still grant it an LU that the new host grants, too. If sessions of too
  -- many earlier hosts go on, nothing changes. If memory is refused, no host changes but for what has ended.
  pub data Reloads (host : Host) (old : Server S) (watcher : W) (answer : Result (Result Unit ReloadFault) Fault)
      (new : Server S) (after : W) : Type 0 where
    full : AreOwned most_earlier old.hosts.owners → answer ≡ Ok (Err reload_fault.TooMany) → new ≡ old
        → after ≡ watcher → Reloads host old watcher answer new after
    failed : (why : Fault) → VisitsEach EndsTalkingAt old watcher (Err why) new after → answer ≡ Err why
        → Reloads host old watcher answer new after
    refused : (ended : Bool) (why : ReloadFault) → VisitsEach EndsTalkingAt old watcher (Ok ended) new after
        → (why ≡ reload_fault.TooMany → AreOwned most_earlier new.hosts.owners) → answer ≡ Ok (Err why)
        → Reloads host old watcher answer new after
    reloads : (ended : Bool) (place : ℕ) (mid : Server S)
        → VisitsEach EndsTalkingAt old watcher (Ok ended) mid after
        → IsFreePlace place mid.hosts.owners → new ≡ record mid { hosts = reloaded place host mid.hosts }
        → answer ≡ Ok (Ok tt) → Reloads host old watcher answer new after

-- ---- ending sessions

module _ {S W : Type 0} (noticed : W → Notice → Result Unit Fault → W → Type 0)
    (showed : W → Host → ℕ → Result Unit Fault → W → Type 0) where
  -- holds if an open connection is ended since the service stops, and the watcher receives that
  abbrev pub StopsIfOpen : Option ConnectionInfo → ℕ → Server S → W → Result Bool Fault → Server S → W → Type 0
  StopsIfOpen None conn old watcher answer new after = (answer ≡ Ok false) × (new ≡ old) × (after ≡ watcher)
  StopsIfOpen (Some info) conn old watcher answer new after =
      IsEnded noticed showed ending.Stopped conn info old watcher answer new after

  abbrev pub StopsAt : ℕ → Server S → W → Result Bool Fault → Server S → W → Type 0
  StopsAt conn old watcher answer new after = StopsIfOpen (open_at conn old) conn old watcher answer new after

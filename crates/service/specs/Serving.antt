-- The turns of `serve` with a control socket (our profile).
use Rattle.std.specs.Prelude.{ℕ, Bool, true, false, List, Option, Some, None, Result}
use Rattle.std.specs.declared.io.Error.{Error}
use Rattle.host_core.specs.State.{Host}
use Rattle.jobs.specs.declared.fault.Fault.{Fault}
use Rattle.service_events.specs.declared.notice.Notice.{Notice}
use Rattle.server.specs.Control.{is_ended, takes_nobody}
use Rattle.server.specs.ServerTurns.{PollsAndServes}
use Rattle.server.specs.declared.accepting.Arrival.{Arrival}
use Rattle.server.specs.declared.server.Server.{Server}
use Rattle.server.specs.declared.accepting.NoListener.{NoListener}
use Rattle.service.specs.declared.serving.Control.{Control}

-- whether no new session is taken
abbrev pub is_closed : Option Control → Bool
is_closed None = false
is_closed (Some control) = takes_nobody control.orders

-- whether operators ended the service
abbrev pub is_over : {S : Type 0} → Option Control → Server S → Bool
is_over None server = false
is_over (Some control) server = is_ended control.drain control.orders server

-- the listener of a closed service
abbrev pub nobody : NoListener
nobody = record {}

module _ {S W L C : Type 0} (gave : S → ℕ → List ℕ → Result ℕ Error → S → Type 0)
    (took : S → List ℕ → Result ℕ Error → S → Type 0)
    (noticed : W → Notice → Result Unit Fault → W → Type 0) (showed : W → Host → ℕ → Result Unit Fault → W → Type 0)
    (accepts : L → Option (Arrival S) → L → Type 0) (refuses : C → Option (Arrival S) → C → Type 0) where
  -- Holds for a turn, in which connections are accepted by the listener, unless the service is closed: then by one that
  -- has none.
  abbrev pub PollsAndServesBy : (closed : Bool) → (nobody : C) → Server S → W → Result Bool Fault → Server S → W → L
      → Type 0
  PollsAndServesBy true nobody old watcher answer new after listener =
      PollsAndServes gave took noticed showed refuses old watcher answer new after nobody
  PollsAndServesBy false nobody old watcher answer new after listener =
      PollsAndServes gave took noticed showed accepts old watcher answer new after listener

-- A poll that fails.
use Rattle.std.proofs.Common.{ℕ, Bool, true, false, List, Option, Result, Err, refl}
use Rattle.std.specs.declared.io.Error.{Error}
use Rattle.host_core.specs.State.{Host}
use Rattle.jobs.specs.declared.fault.Fault.{Fault}
use Rattle.jobs.specs.declared.fault.Fault.TheVariants as fault
use Rattle.service_events.specs.declared.notice.Notice.{Notice}
use Rattle.server.specs.ServerTurns.{poll_failed}
use Rattle.server.specs.declared.accepting.Arrival.{Arrival}
use Rattle.server.specs.declared.server.Server.{Server}
use Rattle.service.specs.Serving.{PollsAndServesBy}

module _ {S W L C : Type 0} (gave : S → ℕ → List ℕ → Result ℕ Error → S → Type 0) (took : S → List ℕ → Result ℕ Error → S → Type 0)
    (noticed : W → Notice → Result Unit Fault → W → Type 0) (showed : W → Host → ℕ → Result Unit Fault → W → Type 0)
    (accepts : L → Option (Arrival S) → L → Type 0) (refuses : C → Option (Arrival S) → C → Type 0) where
  -- nothing has changed then, whether the service is closed or not
  pub not_polled : (closed : Bool) (nobody : C) (server : Server S) (watcher : W) (listener : L)
      → PollsAndServesBy gave took noticed showed accepts refuses closed nobody server watcher (Err fault.SocketFailed) server watcher listener
  not_polled true nobody server watcher listener = poll_failed refl refl refl
  not_polled false nobody server watcher listener = poll_failed refl refl refl

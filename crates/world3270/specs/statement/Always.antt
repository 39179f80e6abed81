-- What holds of a world after any list of events: the headline, and that no terminal rejects a command (our profile).
use Rattle.std.specs.Prelude.{◌≡◌, ◌≤◌, ℕ, Bool, true, false, List, [], length}
use Rattle.codes3270.specs.declared.size.Model.{Model}
use Rattle.std.specs.List.{list_any}
use Rattle.lu_pool.specs.Pool.{IsPool}
use Rattle.lu_pool.specs.declared.entry.Entry.{Entry}
use Rattle.host_core.specs.Application.{Application, IsApplication}
use Rattle.host_core.specs.Messages.{ToHost, Verdict}
use Rattle.host_core.specs.declared.turn.Turn.TheVariants as whose
use Rattle.host_core.specs.declared.turn_reason.TurnReason.TheVariants as turn_reasons
use Rattle.host_core.specs.declared.terminals.Terminals.{Terminals}
use Rattle.world3270.specs.model.Steps.{run}
use Rattle.world3270.specs.statement.Headline.{Headline}
use Rattle.world3270.specs.statement.Observation.{seen}
use Rattle.world3270.specs.model.World.{World, Event, AreEvents, new_world}

-- `Holds` is true of an application and a world after any list of events. The host has any sound application and pool
-- of LUs, and may or may not rely on the terminals' wait; there are up to 16 terminals, of any models, whose keyboards
-- stay locked while they wait.
abbrev pub AlwaysOf : (Application → World → Type 0) → Type 0
AlwaysOf Holds = (app : Application) (serves : Terminals) (pool : List Entry) (models : List Model)
    (events : List Event)
    → IsApplication app → IsPool pool → length models ≤ 16 → AreEvents events
    → Holds app (run app events (new_world app serves pool models))

-- `Holds` is true of a world after any list of events, whatever the application.
abbrev pub Always : (World → Type 0) → Type 0
Always Holds = AlwaysOf (λ app world. Holds world)

-- The headline holds of a world over messages.
abbrev pub HeadlineHolds : World → Type 0
HeadlineHolds world = Headline (seen world)

-- ---- no command is rejected

-- whether it is the verdict of a negative response
abbrev pub is_negative : Verdict → Bool
is_negative Verdict.Negative = true
is_negative Verdict.Positive = false

-- whether the message is a negative response: the terminal rejects a command
abbrev pub is_refusal : ToHost → Bool
is_refusal (ToHost.Response number verdict) = is_negative verdict
is_refusal (ToHost.Data parts) = false
is_refusal (ToHost.TalksUp saying) = false

-- Holds if no terminal has ever sent a negative response, none is under way, none is the reason why a host has the
-- turn, no host has found data that it couldn't believe, and so restored a screen, and neither end has ever closed a
-- connection for a cause (`Cause`).
pub record NoCommandIsRejected (world : World) : Type 0 where
  pub none_said : list_any is_negative world.verdicts ≡ false
  pub none_refused : (number : ℕ) → list_any is_refusal (world.link number).up ≡ false
  pub none_heard : (number : ℕ) → (world.link number).host.turn ≡ whose.Host
      → (world.link number).host.turn_reason ≡ turn_reasons.Refusal → ⊥
  pub none_restored : (number : ℕ) → (world.link number).host.restored ≡ 0
  pub none_closed : world.causes ≡ []

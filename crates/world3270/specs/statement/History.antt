-- The history of a world is complete: it has each cause for which an end has closed a connection, and the verdict of
-- each response that a terminal has sent (our profile).
use Rattle.std.specs.Prelude.{◌≡◌, ℕ, List, [], ◌∷◌, ◌++◌, Some, None}
use Rattle.lu_pool.specs.Asking.{answer_to}
use Rattle.tn3270e_msg.specs.declared.cause.Cause.{Cause}
use Rattle.host_core.specs.Messages.{ToTerminal, ToHost, Verdict}
use Rattle.host_core.specs.Takes.{HostStep, took as host_took}
use Rattle.world3270.specs.model.Steps.{came_up, came_down}
use Rattle.world3270.specs.model.Terminal.{TermStep, took as term_took}
use Rattle.world3270.specs.model.World.{World}

-- the host's step when it takes this message on connection `number`
abbrev pub host_step : ℕ → ToHost → World → HostStep
host_step number message world = host_took (answer_to world.pool) (world.link number).host message

-- the step of the terminal on connection `number` when it takes this message
abbrev pub term_step : ℕ → ToTerminal → World → TermStep
term_step number message world = term_took (world.link number).term message

-- the verdicts of the responses among these messages, in their order
abbrev pub verdicts_of : List ToHost → List Verdict
verdicts_of [] = []
verdicts_of (ToHost.Response number verdict ∷ more) = verdict ∷ verdicts_of more
verdicts_of (ToHost.Data parts ∷ more) = verdicts_of more
verdicts_of (ToHost.TalksUp saying ∷ more) = verdicts_of more

-- When a message is delivered to the host: if the host closes the connection for a cause, that cause is added to the
-- history, else none is; no verdict is added.
pub record HostsHistory (number : ℕ) (message : ToHost) (rest : List ToHost) (world : World) : Type 0 where
  pub closed : (cause : Cause) → (host_step number message world).closes ≡ Some cause
      → (came_up number (message ∷ rest) world).causes ≡ world.causes ++ cause ∷ []
  pub unclosed : (host_step number message world).closes ≡ None
      → (came_up number (message ∷ rest) world).causes ≡ world.causes
  pub quiet : (came_up number (message ∷ rest) world).verdicts ≡ world.verdicts

-- When a message is delivered to a terminal: if the terminal closes the connection for a cause, that cause is added to
-- the history, else none is; and the verdict of each response that it sends is added.
pub record TerminalsHistory (number terminal : ℕ) (message : ToTerminal) (rest : List ToTerminal)
    (world : World) : Type 0 where
  pub closed : (cause : Cause) → (term_step number message world).closes ≡ Some cause
      → (came_down number terminal (message ∷ rest) world).causes ≡ world.causes ++ cause ∷ []
  pub unclosed : (term_step number message world).closes ≡ None
      → (came_down number terminal (message ∷ rest) world).causes ≡ world.causes
  pub said : (came_down number terminal (message ∷ rest) world).verdicts ≡ world.verdicts
      ++ verdicts_of (term_step number message world).sends

-- `HostsHistory` holds of each message that is delivered to the host.
abbrev pub HostsHistoryIsKept : Type 0
HostsHistoryIsKept = (number : ℕ) (message : ToHost) (rest : List ToHost) (world : World)
    → HostsHistory number message rest world

-- `TerminalsHistory` holds of each message that is delivered to a terminal.
abbrev pub TerminalsHistoryIsKept : Type 0
TerminalsHistoryIsKept =
    (number terminal : ℕ) (message : ToTerminal) (rest : List ToTerminal) (world : World)
    → TerminalsHistory number terminal message rest world

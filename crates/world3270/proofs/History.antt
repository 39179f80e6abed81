-- Nothing is left out of the history.
use Rattle.std.proofs.Common.{◌≡◌, ℕ, List, [], ◌∷◌, ◌++◌, Option, Some, None, refl, ap, ◌∙◌}
use Rattle.std.specs.Prelude.{filter_map}
use Rattle.tn3270e_msg.specs.declared.cause.Cause.{Cause}
use Rattle.lu_pool.specs.Holders.{granted_if}
use Rattle.host_core.specs.Messages.{ToTerminal, ToHost, Verdict}
use Rattle.host_core.specs.Takes.{freed_if}
use Rattle.world3270.specs.model.Steps.{closed_if, verdict_in, said, place_after}
use Rattle.world3270.specs.statement.History.{host_step, term_step, verdicts_of, HostsHistoryIsKept, TerminalsHistoryIsKept}
use Rattle.world3270.specs.model.Link.{host_stepped, term_stepped}
use Rattle.world3270.specs.model.World.{World, with_at}

verdicts_stay : (closes : Option Cause) (world : World) → (closed_if closes world).verdicts ≡ world.verdicts
verdicts_stay None world = refl
verdicts_stay (Some cause) world = refl

-- the verdicts in messages are those of the responses
verdicts_are : (messages : List ToHost) → filter_map verdict_in messages ≡ verdicts_of messages
verdicts_are [] = refl
verdicts_are (ToHost.Response number verdict ∷ more) = ap (λ (rest : List Verdict). verdict ∷ rest) (verdicts_are more)
verdicts_are (ToHost.Data parts ∷ more) = verdicts_are more
verdicts_are (ToHost.TalksUp saying ∷ more) = verdicts_are more

-- the world as a message leaves it but for the history
abbrev after_up : ℕ → ToHost → List ToHost → World → World
after_up number message rest world =
    let step = host_step number message world in
    record world {
      pool = freed_if number step.closes (granted_if number step.grants world.pool);
      link = with_at number (host_stepped step rest (world.link number)) world.link;
    }

abbrev after_down : ℕ → ℕ → ToTerminal → List ToTerminal → World → World
after_down number terminal message rest world =
    let step = term_step number message world in
    said step.sends (record world {
      link = with_at number (term_stepped step rest (world.link number)) world.link;
      place = with_at terminal (place_after step.closes number step.end.display) world.place;
    })

pub hosts_history : HostsHistoryIsKept
hosts_history number message rest world =
    let now = after_up number message rest world in
    record {
      closed = λ cause e. ap (λ (closes : Option Cause). (closed_if closes now).causes) e;
      unclosed = λ e. ap (λ (closes : Option Cause). (closed_if closes now).causes) e;
      quiet = verdicts_stay (host_step number message world).closes now;
    }

pub terminals_history : TerminalsHistoryIsKept
terminals_history number terminal message rest world =
    let now = after_down number terminal message rest world in
    let step = term_step number message world in
    record {
      closed = λ cause e. ap (λ (closes : Option Cause). (closed_if closes now).causes) e;
      unclosed = λ e. ap (λ (closes : Option Cause). (closed_if closes now).causes) e;
      said = verdicts_stay step.closes now ∙ ap (λ (verdicts : List Verdict). world.verdicts ++ verdicts) (verdicts_are step.sends);
    }

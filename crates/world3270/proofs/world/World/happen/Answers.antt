use Rattle.std.proofs.Common.{subst}
use Rattle.world3270.specs.model.ByteWorld.{ByteWorld}
use Rattle.world3270.specs.refinement.Refines.{StepOverMessages}
use Rattle.world3270.specs.statement.ShownSince.{PanelsStay}
use Rattle.world3270.proofs.Follows.{step_reaches}
use Rattle.world3270.proofs.world.World.happen.Goals as goal

pub invariant_of-self : goal.invariant_of-self
invariant_of-self c =
    step_reaches c.bytes_follow_messages.ensures.steps c.args.event.now c.self.inside.network c.happen.result c.happen.new.self
    c.events_are_real.ensures c.happen.ensures c.self.invariant

pub returns-clause-messages : goal.returns-clause-messages
returns-clause-messages c =
    subst (λ (w : ByteWorld). StepOverMessages c.args.event.now w c.happen.result c.happen.new.self) c.self.view_is
    (record {
      represents = c.self.invariant;
      goes_on = λ begin events is reached.
          c.bytes_follow_messages.ensures.steps begin events c.args.event.now c.self.inside.network c.happen.result c.happen.new.self is reached
          c.events_are_real.ensures c.happen.ensures;
    })

pub returns-clause-panels : goal.returns-clause-panels
returns-clause-panels c =
    subst (λ (w : ByteWorld). PanelsStay c.args.event.now w c.happen.new.self) c.self.view_is
    (c.what_is_shown_stays.ensures.steps c.args.event.now c.self.inside.network c.happen.result c.happen.new.self c.self.invariant
    c.events_are_real.ensures c.happen.ensures)

use Rattle.std.proofs.Common.{◌≤◌, length, refl, sym, subst, ◌∙◌, arith}
use Rattle.world3270.specs.model.ByteSteps.{Steps}
use Rattle.world3270.specs.refinement.Refines.{StepOverMessages}
use Rattle.world3270.specs.declared.event.Event.{Event}
use Rattle.world3270.specs.declared.event.Ran.{Ran}
use Rattle.world3270.proofs.EventRuns.{one_more}
use Rattle.world3270.proofs.Follows.{all_ran, gone_more, none_gone, part_ran}
use Rattle.world3270.proofs.world.World.run.Goals as goal

pub loop-whole-init : goal.loop-whole-init
loop-whole-init c = (refl, none_gone c.args.self.now c.args.self.now refl)

pub loop-whole-preserved : goal.loop-whole-preserved
loop-whole-preserved c =
    let steps = subst (λ (e : Event). Steps e c.loop-whole.self c.happen.result c.happen.new.self) c.index-events-whole.is c.happen.ensures.steps in
    let over = subst (λ (e : Event). StepOverMessages e c.loop-whole.self c.happen.result c.happen.new.self) c.index-events-whole.is c.happen.ensures.messages in
    let goes = sym c.refused_at.ensures ∙ c.in-None.is in (
      one_more c.args.self.now c.args.events.now c.loop-whole.whole c.index-events-whole.result c.loop-whole.self c.happen.result c.happen.new.self
          c.loop-whole-test.true c.loop-whole.invariant.0 steps goes,
      gone_more c.args.events.now c.loop-whole.whole c.index-events-whole.result c.args.self.now c.loop-whole.self c.happen.new.self c.happen.result
          c.loop-whole-test.true c.loop-whole.invariant.1 steps over goes,
    )

pub returns-in-Some-clause-messages : goal.returns-in-Some-clause-messages
returns-in-Some-clause-messages c =
    let steps = subst (λ (e : Event). Steps e c.loop-whole.self c.happen.result c.happen.new.self) c.index-events-whole.is c.happen.ensures.steps in
    let over = subst (λ (e : Event). StepOverMessages e c.loop-whole.self c.happen.result c.happen.new.self) c.index-events-whole.is c.happen.ensures.messages in
    let ran : Ran = record { whole = c.loop-whole.whole; part = c.in-Some.part } in
    part_ran c.args.events.now c.loop-whole.whole c.index-events-whole.result ran c.args.self.now c.loop-whole.self c.happen.new.self c.happen.result
    c.loop-whole-test.true refl c.loop-whole.invariant.1 steps over (sym c.refused_at.ensures ∙ c.in-Some.is) c.represents_messages.ensures

pub returns-clause-messages : goal.returns-clause-messages
returns-clause-messages c =
    let past : length c.args.events.now ≤ c.loop-whole.whole = omega (arith, c.loop-whole-test.false) in
    let ran : Ran = record { whole = length c.args.events.now; part = 0 } in
    all_ran c.args.events.now c.loop-whole.whole ran c.args.self.now c.loop-whole.self past refl refl c.loop-whole.invariant.1 c.represents_messages.ensures

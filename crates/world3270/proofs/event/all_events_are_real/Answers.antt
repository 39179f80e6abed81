use Rattle.std.proofs.Common.{subst, sym}
use Rattle.std.proofs.lemmas.List.{drop_all, drop_more}
use Rattle.world3270.specs.refinement.Refines.{AreValidEvents, IsValidEvent}
use Rattle.world3270.proofs.event.all_events_are_real.Goals as goal

pub loop-event-init : goal.loop-event-init
loop-event-init c = λ real. real

pub loop-event-preserved : goal.loop-event-preserved
loop-event-preserved c = λ behind.
    c.loop-event.invariant
    (subst AreValidEvents (sym (drop_more c.args.events.now c.loop-event.event-index c.event-item.result c.loop-event-test.true))
    (subst IsValidEvent c.event-item.is c.events_are_real.ensures, behind))

pub returns : goal.returns
returns c = c.loop-event.invariant (subst AreValidEvents (sym (drop_all c.loop-event.event-index c.args.events.now c.loop-event-test.false)) tt)

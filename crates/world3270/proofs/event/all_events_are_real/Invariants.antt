use Rattle.std.proofs.Common.{drop}
use Rattle.world3270.specs.refinement.Refines.{AreValidEvents}
use Rattle.world3270.proofs.event.all_events_are_real.Given as goal

abbrev pub invariant-loop-event : goal.invariant-loop-event
invariant-loop-event l = AreValidEvents (drop l.event-index l.events) → AreValidEvents l.events

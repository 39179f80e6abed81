use Rattle.std.proofs.Common.{arith, subst, Option}
use Rattle.tn3270e_msg.specs.declared.cause.Cause.{Cause}
use Rattle.term_core.specs.Over.{IsLeft}
use Rattle.term_core.proofs.Steps.{some_more}
use Rattle.term_core.proofs.feeding.feed_attached.Goals as goal

pub returns-in-Some-clause-takes : goal.returns-in-Some-clause-takes
returns-in-Some-clause-takes c =
    some_more _ c.args.bytes.now c.loop-taken.taken c.take_some-count.result.0 c.loop-taken.decoder c.take_some-count.new.decoder c.loop-taken.talk c.take_some-count.new.talk c.loop-taken.station c.take_some-count.new.station
    c.loop-taken.out c.reserve.new.self c.take_some-count.new.out c.take_some-count.result.1 _ c.in-Some.is c.reserve.ensures.items c.loop-taken.invariant.taken c.take_some-count.ensures.taken

pub loop-taken-preserved : goal.loop-taken-preserved
loop-taken-preserved c = record {
  running = subst (λ (closes : Option Cause). IsLeft closes c.take_some-count.new.decoder) c.in_default.is c.take_some-count.ensures.left;
  few = omega arith;
  taken = some_more _ c.args.bytes.now c.loop-taken.taken c.take_some-count.result.0 c.loop-taken.decoder c.take_some-count.new.decoder c.loop-taken.talk c.take_some-count.new.talk c.loop-taken.station c.take_some-count.new.station
      c.loop-taken.out c.reserve.new.self c.take_some-count.new.out c.take_some-count.result.1 _ c.in_default.is c.reserve.ensures.items c.loop-taken.invariant.taken c.take_some-count.ensures.taken;
  capacity = omega (arith, c.loop-taken.invariant.capacity, c.reserve.ensures.capacity, c.take_some-count.ensures.capacity);
}

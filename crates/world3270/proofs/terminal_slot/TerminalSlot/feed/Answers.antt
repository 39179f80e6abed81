use Rattle.std.proofs.Common.{◌∙◌, arith}
use Rattle.world3270.proofs.Slots.{one_more}
use Rattle.world3270.proofs.terminal_slot.TerminalSlot.feed.Goals as goal

pub returns-in-Closed-clause-fed : goal.returns-in-Closed-clause-fed
returns-in-Closed-clause-fed c = record {
  few = omega (arith, c.loop-taken-test.true);
  takes = one_more c.args.self.now.tracked c.args.bytes.now c.loop-taken.taken _ c.loop-taken.self.tracked c.feed_byte.new.self.tracked (omega (arith, c.loop-taken-test.true))
      c.loop-taken.invariant.0 c.in-Closed.ensures.took.0;
  stops = c.in-Closed.ensures.took.1;
}

pub loop-taken-preserved : goal.loop-taken-preserved
loop-taken-preserved c = (
  one_more c.args.self.now.tracked c.args.bytes.now c.loop-taken.taken _ c.loop-taken.self.tracked c.feed_byte.new.self.tracked (omega (arith, c.loop-taken-test.true))
      c.loop-taken.invariant.0 c.in-Going.ensures.took.0,
  c.in-Going.ensures.took.1,
  c.feed_byte.ensures.at ∙ c.loop-taken.invariant.2,
)

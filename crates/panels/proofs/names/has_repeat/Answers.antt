use Rattle.std.proofs.Common.{◌∙◌, sym, true, false}
use Rattle.panels.proofs.Naming.{twice_from}
use Rattle.panels.proofs.names.has_repeat.Goals as goal

pub returns-then-is_among : goal.returns-then-is_among
returns-then-is_among c = sym (c.loop-at.invariant ∙ twice_from c.args.names.now c.loop-at.at _ true c.loop-at-test.true c.if-is_among.ensures)

pub loop-at-preserved : goal.loop-at-preserved
loop-at-preserved c = c.loop-at.invariant ∙ twice_from c.args.names.now c.loop-at.at _ false c.loop-at-test.true c.if-is_among.ensures

use Rattle.std.proofs.Common.{sym, ◌∙◌}
use Rattle.web_wire.proofs.HeadLemmas.{passed_over, starts_named}
use Rattle.web_wire.proofs.head.from_named.Goals as goal

pub returns-then-is_named-clause-first : goal.returns-then-is_named-clause-first
returns-then-is_named-clause-first c =
    starts_named c.args.buf.now c.args.fields.now c.loop-place.place _ c.args.name.now c.loop-place-test.true (sym c.if-is_named.ensures)

pub loop-place-preserved : goal.loop-place-preserved
loop-place-preserved c =
    passed_over c.args.buf.now c.args.fields.now c.loop-place.place _ c.args.name.now c.loop-place-test.true (sym c.if-is_named.ensures) ∙ c.loop-place.invariant

use Rattle.std.proofs.Common.{sym, ◌∙◌}
use Rattle.host_core.specs.Learning.{is_missing_now}
use Rattle.host_core.proofs.Learned.{first_behind, first_here, missing_now}
use Rattle.host_core.proofs.learning.first_missing.Goals as goal

pub loop-field-init : goal.loop-field-init
loop-field-init c = missing_now c.args.shadow.now c.args.values.now c.args.fields.now c.requires.numbers

pub returns-then-is_missing_now : goal.returns-then-is_missing_now
returns-then-is_missing_now c =
    sym (first_here (is_missing_now c.args.shadow.now c.args.values.now) c.args.fields.now c.loop-field.field-index c.field-item.result c.loop-field-test.true c.field-item.is
    (sym c.is_missing_now.ensures ∙ c.if-is_missing_now.true))
    ∙ c.loop-field.invariant

pub loop-field-preserved : goal.loop-field-preserved
loop-field-preserved c =
    first_behind (is_missing_now c.args.shadow.now c.args.values.now) c.args.fields.now c.loop-field.field-index c.field-item.result c.loop-field-test.true c.field-item.is
    (sym c.is_missing_now.ensures ∙ c.if-is_missing_now.false)
    ∙ c.loop-field.invariant

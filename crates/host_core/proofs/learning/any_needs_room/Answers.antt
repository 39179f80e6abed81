use Rattle.std.proofs.Common.{sym, ◌∙◌}
use Rattle.host_core.specs.Learning.{needs_room}
use Rattle.host_core.proofs.Learned.{any_behind, any_here}
use Rattle.host_core.proofs.learning.any_needs_room.Goals as goal

pub returns-then-needs_room : goal.returns-then-needs_room
returns-then-needs_room c =
    sym (any_here (needs_room c.args.shadow.now c.args.values.now) c.args.fields.now c.loop-field.field-index c.field-item.result c.loop-field-test.true c.field-item.is
    (sym c.needs_room.ensures ∙ c.if-needs_room.true))
    ∙ c.loop-field.invariant

pub loop-field-preserved : goal.loop-field-preserved
loop-field-preserved c =
    any_behind (needs_room c.args.shadow.now c.args.values.now) c.args.fields.now c.loop-field.field-index c.field-item.result c.loop-field-test.true c.field-item.is
    (sym c.needs_room.ensures ∙ c.if-needs_room.false)
    ∙ c.loop-field.invariant

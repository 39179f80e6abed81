use Rattle.std.proofs.Common.{◌≡◌, ◌++◌, map, take, drop}
use Rattle.panels.specs.Marked.{marked_field}
use Rattle.panels.proofs.panel.Panel.mark_fields.Given as goal

abbrev pub invariant-loop-field : goal.invariant-loop-field
invariant-loop-field l = l.field-items ≡ map marked_field (take l.field-index l.initial.field-items) ++ drop l.field-index l.initial.field-items

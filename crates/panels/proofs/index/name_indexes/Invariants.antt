use Rattle.std.proofs.Common.{◌+◌}
use Rattle.panels.specs.declared.fault.Location.TheVariants.{Panel, Field}
use Rattle.panels.specs.Faults.{copied_name_at, name_at}
use Rattle.panels.specs.Index.{IsIndexTo}
use Rattle.panels.proofs.index.name_indexes.Given as goal

abbrev pub invariant-loop-panel : goal.invariant-loop-panel
invariant-loop-panel l = IsIndexTo name_at l.panels (Panel l.panel) l.of_panels × IsIndexTo name_at l.panels (Field l.panel 0) l.of_fields
    × IsIndexTo copied_name_at l.panels (Field l.panel 0) l.of_copies

abbrev pub invariant-loop-field : goal.invariant-loop-field
invariant-loop-field l = IsIndexTo name_at l.panels (Panel (l.panel + 1)) l.of_panels × IsIndexTo name_at l.panels (Field l.panel l.field) l.of_fields
    × IsIndexTo copied_name_at l.panels (Field l.panel l.field) l.of_copies

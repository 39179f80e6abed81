use Rattle.std.proofs.Common.{◌≡◌, ◌++◌, map, take, drop}
use Rattle.panels.specs.Marked.{marked_panel}
use Rattle.panels.proofs.panel_set.PanelSet.mark_fields.Given as goal

abbrev pub invariant-loop-panel : goal.invariant-loop-panel
invariant-loop-panel l = l.panel-items ≡ map marked_panel (take l.panel-index l.initial.panel-items) ++ drop l.panel-index l.initial.panel-items

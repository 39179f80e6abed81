use Rattle.std.proofs.Common.{◌≡◌, drop}
use Rattle.panels.specs.Names.{field_in, field_named}
use Rattle.panels.specs.Screen.{first_some}
use Rattle.panels.proofs.panel_set.PanelSet.field_named.Given as goal

abbrev pub invariant-loop-panel : goal.invariant-loop-panel
invariant-loop-panel l = first_some (field_in l.name) (drop l.panel-index l.self.panels) ≡ field_named l.name l.self

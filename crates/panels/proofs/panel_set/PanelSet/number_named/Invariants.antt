use Rattle.std.proofs.Common.{◌≡◌, drop}
use Rattle.panels.specs.Names.{number_in, number_named}
use Rattle.panels.specs.Screen.{first_some}
use Rattle.panels.proofs.panel_set.PanelSet.number_named.Given as goal

abbrev pub invariant-loop-panel : goal.invariant-loop-panel
invariant-loop-panel l = first_some (number_in l.name) (drop l.panel-index l.self.panels) ≡ number_named l.name l.self

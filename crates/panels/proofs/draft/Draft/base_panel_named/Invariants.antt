use Rattle.std.proofs.Common.{ℕ, ◌<◌}
use Rattle.panels.specs.Faults.{IsBasePanelNamed}
use Rattle.panels.proofs.draft.Draft.base_panel_named.Given as goal

abbrev pub invariant-loop-index : goal.invariant-loop-index
invariant-loop-index l = (j : ℕ) → j < l.index → ¬ IsBasePanelNamed l.self.panels l.name j

use Rattle.std.proofs.Common.{◌≡◌}
use Rattle.panels.specs.Defines.{fields_before}
use Rattle.panels.proofs.draft.Draft.fields_before.Given as goal

abbrev pub invariant-loop-panel : goal.invariant-loop-panel
invariant-loop-panel l = l.count ≡ fields_before l.panel-index l.self.panels

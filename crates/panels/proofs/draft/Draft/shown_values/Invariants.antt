use Rattle.std.proofs.Common.{◌+◌}
use Rattle.panels.specs.Defines.{IsShownOf, first_value}
use Rattle.panels.specs.Draft.{draft_size, values_of}
use Rattle.panels.proofs.Building.{AreBuilt}
use Rattle.panels.proofs.draft.Draft.shown_values.Given as goal

abbrev pub invariant-loop-place : goal.invariant-loop-place
invariant-loop-place l = AreBuilt (λ i. IsShownOf (draft_size l.panel) (first_value l.index l.self.panels l.panel + i)) (values_of l.panel) l.place l.texts.items

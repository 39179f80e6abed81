use Rattle.std.proofs.Common.{◌+◌}
use Rattle.panels.specs.Defines.{IsFieldOf, fields_before}
use Rattle.panels.specs.Draft.{draft_size, fields_of}
use Rattle.panels.proofs.Building.{AreBuilt}
use Rattle.panels.proofs.draft.Draft.fields.Given as goal

abbrev pub invariant-loop-place : goal.invariant-loop-place
invariant-loop-place l = AreBuilt (λ i. IsFieldOf (draft_size l.panel) (fields_before l.index l.self.panels + i)) (fields_of l.panel) l.place l.fields.items

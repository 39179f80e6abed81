use Rattle.panels.specs.Defines.{IsTextOf}
use Rattle.panels.specs.Draft.{draft_size}
use Rattle.panels.proofs.Building.{AreBuilt}
use Rattle.panels.proofs.draft.Draft.texts.Given as goal

abbrev pub invariant-loop-text : goal.invariant-loop-text
invariant-loop-text l = AreBuilt (λ i. IsTextOf (draft_size l.panel) l.self.panels) l.panel.texts l.text-index l.texts.items

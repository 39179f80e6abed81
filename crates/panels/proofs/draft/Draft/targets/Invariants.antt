use Rattle.panels.specs.Keys.{key_names}
use Rattle.panels.specs.Defines.{IsTargetBy, text_at_key}
use Rattle.panels.proofs.Building.{AreBuilt}
use Rattle.panels.proofs.Linking.{AreKeyNames}
use Rattle.panels.proofs.draft.Draft.targets.Given as goal

abbrev pub invariant-loop-key : goal.invariant-loop-key
invariant-loop-key l =
    AreKeyNames l.key-items × AreBuilt (λ k name. IsTargetBy l.self.panels (text_at_key name l.panel.keys)) key_names l.key-index l.targets.items

use Rattle.std.proofs.Common.{◌≡◌, [], length, arith}
use Rattle.panels.specs.Defines.{IsTargetBy, text_at_key}
use Rattle.panels.specs.Keys.{key_names}
use Rattle.panels.proofs.Building.{built_more}
use Rattle.panels.proofs.Linking.{key_at, key_count, targets_are}
use Rattle.panels.proofs.draft.Draft.targets.Goals as goal

pub loop-key-preserved : goal.loop-key-preserved
loop-key-preserved c = (
  c.loop-key.invariant.0,
  rw c.in_ok-push.ensures.items
      (built_more (λ k name. IsTargetBy c.args.self.now.panels (text_at_key name c.args.panel.now.keys)) key_names c.loop-key.key-index c.loop-key.targets.items _ _
      (key_at _ c.loop-key.invariant.0 c.loop-key.key-index (record { ref_ptr = (0, 0); now = [] }) c.loop-key-test.true) c.target.ensures c.loop-key.invariant.1),
)

pub returns : goal.returns
returns c =
    let whole : c.loop-key.key-index ≡ length key_names = omega (arith, key_count _ c.loop-key.invariant.0) in
    targets_are c.args.self.now.panels c.args.panel.now key_names c.loop-key.key-index c.loop-key.targets.items whole c.loop-key.invariant.1

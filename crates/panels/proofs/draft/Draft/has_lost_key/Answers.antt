use Rattle.std.proofs.Common.{refl, rules, arith}
use Rattle.std.proofs.lemmas.Bool.{false≢true}
use Rattle.panels.specs.Faults.{NamesPanel}
use Rattle.panels.proofs.Naming.{map_found, map_none, none_named}
use Rattle.panels.proofs.draft.Draft.has_lost_key.Goals as goal

pub returns : goal.returns
returns c =
    rw (← c.panel.view_is, ← c.deref-key-items.ensures.value) (
      λ is. absurd (false≢true is),
      λ (key, has, none).
          absurd (map_none (λ name. NamesPanel name c.args.self.now.panels) (λ key. (key.0.now, key.1.now)) c.deref-key-items.result.now
          (λ j below x at_j. c.loop-key.invariant j (omega (arith, below, c.loop-key-test.false)) x at_j) key has none),
    )

pub returns-then-is_none : goal.returns-then-is_none
returns-then-is_none c =
    rw (← c.panel.view_is, ← c.deref-key-items.ensures.value) (
      λ is. (_, map_found (λ key. (key.0.now, key.1.now)) c.deref-key-items.result.now c.loop-key.key-index _ c.loop-key-test.true, none_named _ _ c.panel_named.result c.panel_named.ensures (search rules)),
      λ found. refl,
    )

use Rattle.std.proofs.Common.{◌≡◌, ◌++◌, map, drop}
use Rattle.std.specs.Prelude.{bytes_eq}
use Rattle.std.specs.List.{list_any}
use Rattle.panels.proofs.Linking.{AreKeyNames}
use Rattle.panels.proofs.build.asked_keys.Given as goal

abbrev pub invariant-loop-key : goal.invariant-loop-key
invariant-loop-key l =
    AreKeyNames l.key-items
    × (map (λ key. list_any (bytes_eq key.now) l.panel.asks) l.key-items ≡ l.asked.items ++ map (λ key. list_any (bytes_eq key.now) l.panel.asks) (drop l.key-index l.key-items))

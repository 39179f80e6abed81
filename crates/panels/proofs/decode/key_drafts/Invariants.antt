use Rattle.std.proofs.Common.{◌≡◌, ◌++◌, map}
use Rattle.toml.specs.View.{members_view, table_view}
use Rattle.panels.specs.Tree.{texts_by_key}
use Rattle.panels.proofs.decode.key_drafts.Given as goal

abbrev pub invariant-loop-key : goal.invariant-loop-key
invariant-loop-key l = texts_by_key (table_view l.keys) ≡ map (λ key. (key.0.now, key.1.now)) l.found.items ++ texts_by_key (members_view l.key-iterator)

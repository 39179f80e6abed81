use Rattle.std.proofs.Common.{◌≡◌, ◌++◌, map, drop}
use Rattle.toml.specs.View.{items_view, table_view}
use Rattle.panels.specs.Tree.{items_under, texts_in}
use Rattle.panels.proofs.decode.texts_at.Given as goal

abbrev pub invariant-loop-value : goal.invariant-loop-value
invariant-loop-value l = texts_in (items_under l.key (table_view l.table)) ≡ map (λ text. text.now) l.texts.items ++ texts_in (items_view (drop l.value-index l.value-items))

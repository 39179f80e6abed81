use Rattle.std.proofs.Common.{◌≡◌, ◌++◌, map, drop}
use Rattle.toml.specs.View.{table_view}
use Rattle.panels.specs.Draft.{items_from}
use Rattle.panels.specs.Rules.{items_in}
use Rattle.panels.proofs.decode.item_drafts.Given as goal

abbrev pub invariant-loop-index : goal.invariant-loop-index
invariant-loop-index l =
    items_from (items_in l.array) 0 (map (λ table. table_view table.now) l.tables.items)
    ≡ l.items.items ++ items_from (items_in l.array) l.index (map (λ table. table_view table.now) (drop l.index l.tables.items))

use Rattle.std.proofs.Common.{◌≡◌, ◌++◌, map, drop}
use Rattle.toml.specs.View.{items_view, table_view}
use Rattle.panels.specs.Tree.{items_under, tables_in}
use Rattle.panels.proofs.decode.tables_at.Given as goal

abbrev pub invariant-loop-value : goal.invariant-loop-value
invariant-loop-value l = tables_in (items_under l.array (table_view l.panel)) ≡ map (λ table. table_view table.now) l.tables.items ++ tables_in (items_view (drop l.value-index l.value-items))

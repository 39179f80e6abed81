use Rattle.std.proofs.Common.{◌≡◌, ◌++◌, codes, map, drop}
use Rattle.toml.specs.View.{items_view, table_view}
use Rattle.panels.specs.Draft.{panel_of}
use Rattle.panels.specs.Tree.{items_under, tables_in}
use Rattle.panels.proofs.decode.panel_drafts.Given as goal

abbrev pub invariant-loop-value : goal.invariant-loop-value
invariant-loop-value l = map panel_of (tables_in (items_under (codes "panel") (table_view l.top))) ≡ l.panels.items ++ map panel_of (tables_in (items_view (drop l.value-index l.value-items)))

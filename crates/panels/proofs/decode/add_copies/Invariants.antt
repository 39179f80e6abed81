use Rattle.std.proofs.Common.{◌≡◌, ◌++◌, ◌-◌, map, Some}
use Rattle.std.specs.List.{range_with_len}
use Rattle.toml.specs.View.{table_view}
use Rattle.panels.specs.Draft.{copies_by}
use Rattle.panels.specs.Rules.{item_in}
use Rattle.panels.proofs.decode.add_copies.Given as goal

abbrev pub invariant-loop-copy : goal.invariant-loop-copy
invariant-loop-copy l =
    l.initial.items.items ++ map (item_in l.array l.index (table_view l.table)) (copies_by (Some l.count))
    ≡ l.items.items ++ map (item_in l.array l.index (table_view l.table)) (map Some (range_with_len l.copy (l.count - l.copy)))

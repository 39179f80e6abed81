use Rattle.std.proofs.Common.{◌<◌, ◌++◌, ◌∙◌, length, ap, arith}
use Rattle.toml.specs.View.{table_view}
use Rattle.panels.specs.Rules.{items_in}
use Rattle.panels.proofs.Copies.{tables_more}
use Rattle.panels.proofs.decode.item_drafts.Goals as goal

pub loop-index-preserved : goal.loop-index-preserved
loop-index-preserved c =
    let below : c.loop-index.index < length c.in_ok-tables.tables.items = omega (arith, c.loop-index-test.true, c.len-index-end.ensures) in
    tables_more (items_in c.args.array.now) (λ table. table_view table.now) c.in_ok-tables.tables.items _ c.loop-index.items.items c.add_items.new.items.items c.loop-index.index c.index.result.now below
    (c.in_ok-add_items.ensures ∙ ap (λ table. c.loop-index.items.items ++ items_in c.args.array.now c.loop-index.index (table_view table.now)) c.index.ensures) c.loop-index.invariant

use Rattle.toml.specs.View.{table_view}
use Rattle.panels.specs.Rules.{item_in}
use Rattle.panels.proofs.Copies.{copies_more}
use Rattle.panels.proofs.decode.add_copies.Goals as goal

pub loop-copy-preserved : goal.loop-copy-preserved
loop-copy-preserved c =
    copies_more (item_in c.args.array.now c.args.index (table_view c.args.table.now)) _ c.loop-copy.items.items c.push.new.self.items c.in_ok-item_draft.field-0 c.args.count c.loop-copy.copy
    c.loop-copy-test.true c.in_ok-item_draft.ensures c.in_ok-push.ensures.items c.loop-copy.invariant

use Rattle.std.proofs.Common.{◌∙◌, ap}
use Rattle.tty.specs.Painting.{painted_at}
use Rattle.tty.proofs.Columns.{added_more}
use Rattle.tty.proofs.picture.put_screen.Goals as goal

pub loop-index-preserved : goal.loop-index-preserved
loop-index-preserved c =
    added_more (painted_at c.args.screen.now.screen.cells) c.loop-index.index c.painted_at.result c.args.cells.now.items c.loop-index.cells.items c.push.new.self.items
    (c.painted_at.ensures ∙ ap (painted_at c.args.screen.now.screen.cells) c.address.ensures.value) c.loop-index.invariant c.in_ok-push.ensures.items

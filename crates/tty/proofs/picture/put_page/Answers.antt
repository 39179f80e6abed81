use Rattle.std.specs.Prelude.{string_bytes}
use Rattle.std.proofs.Common.{map}
use Rattle.tty.proofs.Columns.{line_added}
use Rattle.tty.proofs.picture.put_page.Goals as goal

pub loop-row-preserved : goal.loop-row-preserved
loop-row-preserved c =
    line_added c.args.columns c.loop-row.row (map (λ line. string_bytes line) c.args.lines.now) _ c.args.cells.now.items c.loop-row.cells.items c.put_text.new.cells.items
    c.line_at.ensures c.loop-row.invariant c.in_ok-put_text.ensures

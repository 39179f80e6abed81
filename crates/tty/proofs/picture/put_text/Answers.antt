use Rattle.std.proofs.Common.{ℕ, ◌∙◌, ap}
use Rattle.tty.specs.Pictures.{plain}
use Rattle.tty.specs.StatusRow.{letter_at}
use Rattle.tty.proofs.Columns.{added_more}
use Rattle.tty.proofs.picture.put_text.Goals as goal

pub loop-column-preserved : goal.loop-column-preserved
loop-column-preserved c =
    added_more (λ (column : ℕ). plain (letter_at c.args.text.now column)) c.loop-column.column c.plain.result c.args.cells.now.items c.loop-column.cells.items c.push.new.self.items
    (c.plain.ensures ∙ ap plain c.letter_at.ensures) c.loop-column.invariant c.in_ok-push.ensures.items

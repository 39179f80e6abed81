use Rattle.std.proofs.Common.{◌≡◌, ◌++◌, ◌∙◌, ℕ, ◌*◌, List, length, ap}
use Rattle.std.specs.List.{list_all}
use Rattle.tty.specs.declared.picture.PictureCell.{PictureCell}
use Rattle.tty.specs.Pictures.{has_graphic}
use Rattle.tty.specs.Painting.{notice_of}
use Rattle.tty.specs.StatusRow.{in_columns}
use Rattle.tty.proofs.Columns.{columns_counted, notice_made}
use Rattle.tty.proofs.Graphics.{text_graphic}
use Rattle.tty.proofs.picture.Picture.notice.Goals as goal

pub invariant_of-result : goal.invariant_of-result
invariant_of-result c =
    let rows = c.notice_side-rows.result in
    let columns = c.notice_side-columns.result in
    let text = c.as_bytes.result.now in
    let cells : c.put_text.new.cells.items ≡ in_columns (rows * columns) text =
    c.in_ok-put_text.ensures ∙ ap (λ (items : List PictureCell). items ++ in_columns (rows * columns) text) c.new-cells.ensures.items in
    record {
      cells = ap length cells ∙ columns_counted (rows * columns) text;
      row = c.notice_side-rows.ensures.some;
      column = c.notice_side-columns.ensures.some;
      few_rows = c.notice_side-rows.ensures.few;
      few_columns = c.notice_side-columns.ensures.few;
      graphic = ap (list_all has_graphic) cells ∙ text_graphic (rows * columns) text;
    }

pub returns : goal.returns
returns c =
    let rows = c.notice_side-rows.result in
    let columns = c.notice_side-columns.result in
    let text = c.as_bytes.result.now in
    notice_made c.args.tty_rows c.args.tty_columns text rows columns c.put_text.new.cells.items c.notice_side-rows.ensures.value c.notice_side-columns.ensures.value
    (c.in_ok-put_text.ensures ∙ ap (λ (items : List PictureCell). items ++ in_columns (rows * columns) text) c.new-cells.ensures.items)
    ∙ ap (λ (it : List ℕ). notice_of c.args.tty_rows c.args.tty_columns it) c.as_bytes.ensures.value

use Rattle.std.specs.Prelude.{string_bytes}
use Rattle.std.proofs.Common.{◌≡◌, ◌++◌, ◌∙◌, List, length, map, ap, arith}
use Rattle.std.specs.List.{list_all}
use Rattle.tty.specs.declared.picture.PictureCell.{PictureCell}
use Rattle.tty.specs.Painting.{page_cells}
use Rattle.tty.specs.Pictures.{has_graphic}
use Rattle.tty.proofs.Columns.{page_counted, page_made}
use Rattle.tty.proofs.Graphics.{page_graphic}
use Rattle.tty.proofs.picture.Picture.page.Goals as goal

pub invariant_of-result : goal.invariant_of-result
invariant_of-result c =
    let rows = c.screen_rows-rows.result in
    let columns = c.columns_of-columns.result in
    let lines = map (λ line. string_bytes line) c.args.lines.now in
    let cells : c.put_page.new.cells.items ≡ page_cells rows columns lines =
    c.in_ok-put_page.ensures ∙ ap (λ (items : List PictureCell). items ++ page_cells rows columns lines) c.new-cells.ensures.items in
    let some = c.screen_rows-rows.ensures.some in
    let few = c.screen_rows-rows.ensures.few in
    let wide = c.columns_of-columns.ensures.wide in
    record {
      cells = ap length cells ∙ page_counted rows columns lines;
      row = some;
      column = omega (arith, wide);
      few_rows = omega (arith, few);
      few_columns = c.columns_of-columns.ensures.few;
      graphic = ap (list_all has_graphic) cells ∙ page_graphic rows columns lines;
    }

pub returns : goal.returns
returns c =
    let rows = c.screen_rows-rows.result in
    let columns = c.columns_of-columns.result in
    let lines = map (λ line. string_bytes line) c.args.lines.now in
    page_made c.args.screen.now lines rows columns c.put_page.new.cells.items c.screen_rows-rows.ensures.value c.columns_of-columns.ensures.value
    (c.in_ok-put_page.ensures ∙ ap (λ (items : List PictureCell). items ++ page_cells rows columns lines) c.new-cells.ensures.items)

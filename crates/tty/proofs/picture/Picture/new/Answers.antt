use Rattle.std.proofs.Common.{◌≡◌, ℕ, ◌+◌, ◌*◌, ◌++◌, ◌<◌, ◌≤◌, List, length, ◌∙◌, ap, sym, arith}
use Rattle.tty.specs.declared.picture.PictureCell.{PictureCell}
use Rattle.tty.specs.Painting.{screen_cells, status_rows, with_status}
use Rattle.tty.specs.StatusRow.{status_cells}
use Rattle.std.specs.List.{list_all}
use Rattle.tty.specs.Pictures.{has_graphic}
use Rattle.tty.proofs.Columns.{picture_counted, picture_made}
use Rattle.tty.proofs.Graphics.{picture_graphic}
use Rattle.tty.proofs.picture.Picture.new.Goals as goal

pub invariant_of-result : goal.invariant_of-result
invariant_of-result c =
    let sized = c.args.screen.now in
    let place = c.args.status.now.place in
    let columns : ℕ = c.columns_of-columns.result in
    let width : columns ≡ sized.size.columns = c.columns_of-columns.ensures.value in
    let wide : 72 ≤ columns = c.columns_of-columns.ensures.wide in
    let row_below : c.cursor_of-cursor.result.row < sized.size.rows = c.cursor_of-cursor.ensures.row in
    let column_below : c.cursor_of-cursor.result.column < sized.size.columns = c.cursor_of-cursor.ensures.column in
    let rows : c.rows_of.result ≡ sized.size.rows + status_rows place = c.rows_of.ensures.value in
    let many : length sized.screen.cells ≡ sized.size.rows * columns = c.columns_of-columns.ensures.cells ∙ ap (λ (count : ℕ). sized.size.rows * count) (sym width) in
    let status : List PictureCell = status_cells columns c.args.keyboard c.args.status.now.connected c.args.status.now.trouble c.args.status.now.lu.now c.args.status.now.held c.args.status.now.seconds c.cursor_of-cursor.result in
    let cells : c.put_status_at_place.new.cells.items ≡ with_status place columns (screen_cells sized.screen.cells) status =
    c.in_ok-put_status_at_place.ensures ∙ ap (λ (items : List PictureCell). with_status place columns items status) (c.in_ok-put_screen.ensures ∙ ap (λ (items : List PictureCell). items ++ screen_cells sized.screen.cells) c.new-cells.ensures.items) in
    record {
      cells =
          ap length cells
          ∙ picture_counted place sized.size.rows columns sized.screen.cells c.args.keyboard c.args.status.now.connected c.args.status.now.trouble c.args.status.now.lu.now c.args.status.now.held c.args.status.now.seconds c.cursor_of-cursor.result wide (omega (arith, row_below)) many
          ∙ ap (λ (count : ℕ). count * columns) (sym rows);
      row = omega (arith, row_below, rows);
      column = omega (arith, column_below, width);
      few_rows = c.rows_of.ensures.few;
      few_columns = c.columns_of-columns.ensures.few;
      graphic =
          ap (list_all has_graphic) cells
          ∙ picture_graphic place columns sized.screen.cells c.args.keyboard c.args.status.now.connected c.args.status.now.trouble c.args.status.now.lu.now c.args.status.now.held c.args.status.now.seconds c.cursor_of-cursor.result;
    }

pub returns : goal.returns
returns c =
    let sized = c.args.screen.now in
    let place = c.args.status.now.place in
    let connected = c.args.status.now.connected in
    let status : List PictureCell = status_cells c.columns_of-columns.result c.args.keyboard connected c.args.status.now.trouble c.args.status.now.lu.now c.args.status.now.held c.args.status.now.seconds c.cursor_of-cursor.result in
    picture_made place sized c.args.keyboard connected c.args.status.now.trouble c.args.status.now.lu.now c.args.status.now.held c.args.status.now.seconds c.rows_of.result c.columns_of-columns.result
    c.put_status_at_place.new.cells.items c.cursor_of-cursor.result c.rows_of.ensures.value c.columns_of-columns.ensures.value c.cursor_of-cursor.ensures.value
    (c.in_ok-put_status_at_place.ensures ∙ ap (λ (items : List PictureCell). with_status place c.columns_of-columns.result items status)
    (c.in_ok-put_screen.ensures ∙ ap (λ (items : List PictureCell). items ++ screen_cells sized.screen.cells) c.new-cells.ensures.items))

use Rattle.std.proofs.Common.{◌≡◌, ◌+◌, ◌*◌, ◌<◌, ◌≤◌, ◌++◌, List, ℕ, length, take, drop, arith, sym, ◌∙◌, ap, subst, string_bytes}
use Rattle.std.proofs.lemmas.List.{append-nil}
use Rattle.std.proofs.lemmas.List.FromFn.{length-map-range_with_len}
use Rattle.codes3270.specs.Size.{ScreenSize, cells_in}
use Rattle.codes3270.specs.declared.attribute.Cell.{Cell}
use Rattle.presentation.specs.Glyph.{glyph_at, all_glyphs}
use Rattle.presentation.specs.Sizes.{SizedScreen}
use Rattle.term_core.specs.ScreenText.{glyphs, line_of}
use Rattle.term_core.proofs.Rows.{no_lines, listed_more, part_of_walk, enough_left, gone_more, row_within}
use Rattle.term_core.proofs.screen_text.put_lines.Goals as goal

pub loop-init : goal.loop-init
loop-init c =
    let sized : SizedScreen = c.args.screen.now in
    let none : 0 * sized.size.columns ≡ 0 = omega arith in
    record {
      written = sym (ap (λ (some : List ℕ). string_bytes c.args.text.now ++ some) (no_lines sized.size.columns sized.screen.cells) ∙ append-nil (string_bytes c.args.text.now));
      left = c.glyphs-glyphs.ensures ∙ sym (ap (λ (count : ℕ). drop count (all_glyphs sized.screen.cells)) none);
    }

pub put_line-requires : goal.put_line-requires
put_line-requires c =
    let shape : ScreenSize = c.args.screen.now.size in
    let columns : ℕ = shape.columns in
    let cells : List Cell = c.args.screen.now.screen.cells in
    let width : c.cols.result ≡ columns = c.cols.ensures.value ∙ ap (λ (s : ScreenSize). s.columns) c.size-size.ensures.size in
    let height : c.rows-end.result ≡ shape.rows = c.rows-end.ensures ∙ ap (λ (s : ScreenSize). s.rows) c.size-size.ensures.size in
    let many : length (all_glyphs cells) ≡ cells_in shape = length-map-range_with_len (glyph_at cells) 0 (length cells) ∙ c.size-size.ensures.cells in
    let lower : c.loop.counter < shape.rows = omega (arith, c.loop-test.true, height) in
    let within : c.loop.counter * columns + columns ≤ length (all_glyphs cells) =
    subst (λ (count : ℕ). c.loop.counter * columns + columns ≤ count) (sym many) (row_within shape.rows columns c.loop.counter lower) in
    rw width
    (subst (λ (left : List ℕ). columns ≤ length left) (sym c.loop.invariant.left)
    (enough_left (all_glyphs cells) (c.loop.counter * columns) columns within))

pub loop-preserved : goal.loop-preserved
loop-preserved c =
    let shape : ScreenSize = c.args.screen.now.size in
    let columns : ℕ = shape.columns in
    let cells : List Cell = c.args.screen.now.screen.cells in
    let at : ℕ = c.loop.counter * columns in
    let text : List ℕ = string_bytes c.loop.text in
    let width : c.cols.result ≡ columns = c.cols.ensures.value ∙ ap (λ (s : ScreenSize). s.columns) c.size-size.ensures.size in
    let height : c.rows-end.result ≡ shape.rows = c.rows-end.ensures ∙ ap (λ (s : ScreenSize). s.rows) c.size-size.ensures.size in
    let lower : c.loop.counter < shape.rows = omega (arith, c.loop-test.true, height) in
    let within : at + columns ≤ length cells = rw c.size-size.ensures.cells (row_within shape.rows columns c.loop.counter lower) in
    let row : take c.cols.result c.loop.glyphs ≡ glyphs cells at columns =
    rw width (ap (take columns) c.loop.invariant.left ∙ part_of_walk cells at columns within) in
    record {
      written =
          listed_more (string_bytes c.args.text.now) text (string_bytes c.put_line.new.text) columns cells c.loop.counter c.loop.invariant.written
          (c.in_ok-put_line.ensures.text ∙ ap (λ (glyphs_of_row : List ℕ). text ++ line_of glyphs_of_row) row);
      left =
          c.in_ok-put_line.ensures.left ∙ ap (drop c.cols.result) c.loop.invariant.left
          ∙ ap (λ (n : ℕ). drop n (drop at (all_glyphs cells))) width
          ∙ gone_more (all_glyphs cells) at columns ((c.loop.counter + 1) * columns) (omega arith);
    }

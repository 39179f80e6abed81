use Rattle.std.proofs.Common.{◌≡◌, ◌-◌, ◌%◌, ◌<◌, ◌≤◌, ℕ, List, true, min, length, take, arith, sym, ◌∙◌, length-take-le}
use Rattle.std.proofs.Math.Nat.{mod-lt}
use Rattle.std.proofs.lemmas.List.{take_min}
use Rattle.presentation.specs.Sizes.{SizedScreen}
use Rattle.datastream.specs.Screen.{Screen}
use Rattle.keyboard.specs.Places.{is_free_at}
use Rattle.keyboard.specs.Edits.{laid, text_from, deleted, within_row}
use Rattle.keyboard.proofs.Texts.{text_some, free_is_char, length-deleted, rewritten_is, changed_is, shown}
use Rattle.keyboard.proofs.edits.delete.Goals as goal

pub returns-clause-edit : goal.returns-clause-edit
returns-clause-edit c =
    let sized : SizedScreen = c.args.screen.now in
    let screen : Screen = sized.screen in
    let columns : ℕ = sized.size.columns in
    let width : c.columns_of-columns.result ≡ columns = c.columns_of-columns.ensures.value in
    let text : List ℕ = text_from screen.cells screen.cursor in
    let at : c.cursor-at.result ≡ screen.cursor = c.cursor-at.ensures.value in
    let free : is_free_at screen.cells screen.cursor ≡ true = rw at at (sym c.is_free.ensures ∙ c.if-not-is_free.false) in
    let there : c.text_length.result ≡ length text = rw at at c.text_length.ensures.value in
    let column : c.get.result ≡ screen.cursor = c.get.ensures.value ∙ at in
    let column_below : screen.cursor % columns < columns = mod-lt screen.cursor (rw width at c.columns_of-columns.ensures.some) in
    let count : c.min-count.result ≡ min (columns - screen.cursor % columns) (length text) =
    c.min-count.ensures ∙ rw (there, column, width) (omega arith) in
    let part : take c.min-count.result text ≡ within_row columns screen.cursor text = rw count (take_min (columns - screen.cursor % columns) text) in
    let below : screen.cursor < length screen.cells = rw c.cursor-at.ensures.size (rw at at c.cursor-at.ensures.in_range) in
    let begun : 0 < length text = text_some screen.cells screen.cursor below (free_is_char screen.cells screen.cursor free) in
    let some : 0 < c.min-count.result = omega (arith, count) in
    let few : c.min-count.result ≤ length text = omega (arith, count) in
    let whole : length (take c.min-count.result text) ≡ c.min-count.result = length-take-le c.min-count.result text few in
    let long : length (deleted (within_row columns screen.cursor text)) ≡ c.min-count.result =
    rw (← part) (length-deleted (take c.min-count.result text) (omega arith) ∙ whole) in
    let written : c.pull.new.screen ≡ record sized { screen = record screen { cells = laid screen.cursor (length (deleted (within_row columns screen.cursor text))) (deleted (within_row columns screen.cursor text)) screen.cells } } =
    rw long (rw (at, part) at c.pull.ensures) in
    changed_is (deleted (within_row columns screen.cursor text)) screen c.mark_modified.new.screen.screen free
    (shown (rewritten_is (deleted (within_row columns screen.cursor text)) sized c.pull.new.screen c.mark_modified.new.screen written c.mark_modified.ensures))

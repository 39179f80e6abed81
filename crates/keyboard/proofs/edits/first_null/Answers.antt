use Rattle.codes3270.specs.Size.{cells_in}
use Rattle.std.proofs.Common.{◌≡◌, ◌+◌, ◌%◌, ◌<◌, ◌==◌, true, false, length, get_or, arith, sym, ◌∙◌, inl, inr, ap}
use Rattle.std.proofs.lemmas.Bool.{cases_lt, eq-eqb, ne_eqb}
use Rattle.codes3270.specs.declared.attribute.Cell.TheVariants.{Char}
use Rattle.keyboard.specs.Edits.{text_from}
use Rattle.keyboard.proofs.Texts.{text_is_char, text_cell, null_at, null_none}
use Rattle.keyboard.proofs.edits.first_null.Goals as goal

pub character_at-requires-clause-character : goal.character_at-requires-clause-character
character_at-requires-clause-character c =
    let cells = c.args.screen.now.screen.cells in
    let size : length cells ≡ cells_in c.size-size.result = c.size-size.ensures.cells ∙ ap cells_in (sym c.size-size.ensures.size) in
    let below : c.args.at < length cells = rw c.size-size.ensures.cells c.requires in
    let there : c.forward.result ≡ (c.args.at + c.loop-step.step) % length cells = rw size c.forward.ensures.value in
    rw there (text_is_char cells c.args.at c.loop-step.step below (omega arith))

pub returns-then-character_at-eq0 : goal.returns-then-character_at-eq0
returns-then-character_at-eq0 c =
    let cells = c.args.screen.now.screen.cells in
    let size : length cells ≡ cells_in c.size-size.result = c.size-size.ensures.cells ∙ ap cells_in (sym c.size-size.ensures.size) in
    let text = text_from cells c.args.at in
    let below : c.args.at < length cells = rw c.size-size.ensures.cells c.requires in
    let there : c.forward.result ≡ (c.args.at + c.loop-step.step) % length cells = rw size c.forward.ensures.value in
    let inside : c.loop-step.step < length text = omega arith in
    let cell : Char (get_or text c.loop-step.step 0) ≡ Char c.character_at.result =
    sym (text_cell cells c.args.at c.loop-step.step below inside) ∙ rw there at c.character_at.ensures.value in
    let read : get_or text c.loop-step.step 0 ≡ c.character_at.result = cc in
    let test : (get_or text c.loop-step.step 0 == 0) ≡ true = eq-eqb (get_or text c.loop-step.step 0) 0 (read ∙ c.if-character_at-eq0.true) in
    (null_at text c.loop-step.step inside c.loop-step.invariant test, inside, omega arith)

pub loop-step-preserved : goal.loop-step-preserved
loop-step-preserved c =
    let cells = c.args.screen.now.screen.cells in
    let size : length cells ≡ cells_in c.size-size.result = c.size-size.ensures.cells ∙ ap cells_in (sym c.size-size.ensures.size) in
    let text = text_from cells c.args.at in
    let below : c.args.at < length cells = rw c.size-size.ensures.cells c.requires in
    let there : c.forward.result ≡ (c.args.at + c.loop-step.step) % length cells = rw size c.forward.ensures.value in
    let inside : c.loop-step.step < length text = omega arith in
    let cell : Char (get_or text c.loop-step.step 0) ≡ Char c.character_at.result =
    sym (text_cell cells c.args.at c.loop-step.step below inside) ∙ rw there at c.character_at.ensures.value in
    let read : get_or text c.loop-step.step 0 ≡ c.character_at.result = cc in
    let test : (get_or text c.loop-step.step 0 == 0) ≡ false = ne_eqb (get_or text c.loop-step.step 0) 0 (λ e. c.if-character_at-eq0.false (sym read ∙ e)) in
    λ nearer lower. elim (cases_lt nearer c.loop-step.step) [
      | inl before ↦ c.loop-step.invariant nearer before
      | inr here ↦ let same : nearer ≡ c.loop-step.step = omega arith in rw same test
    ]

pub returns : goal.returns
returns c = null_none (text_from c.args.screen.now.screen.cells c.args.at) (λ nearer lower. c.loop-step.invariant nearer (omega arith))

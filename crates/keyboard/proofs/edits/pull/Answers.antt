use Rattle.codes3270.specs.Size.{cells_in}
use Rattle.std.proofs.Common.{◌≡◌, ◌+◌, ◌-◌, ◌%◌, ◌<◌, ℕ, length, get_or, take, arith, ap, sym, ◌∙◌, suc, length-take-le}
use Rattle.std.proofs.lemmas.List.{get_or-take}
use Rattle.codes3270.specs.declared.attribute.Cell.TheVariants.{Char}
use Rattle.keyboard.specs.Edits.{laid, text_from, deleted}
use Rattle.keyboard.proofs.Texts.{laid_none, laid_more, laid_is_char, laid_cell, deleted_at, deleted_last}
use Rattle.keyboard.proofs.edits.pull.Goals as goal

pub loop-step-init : goal.loop-step-init
loop-step-init c = rw (laid_none c.args.at (deleted (take c.args.count (text_from c.args.screen.now.screen.cells c.args.at))) c.args.screen.now.screen.cells)

pub character_at-byte-requires-clause-character : goal.character_at-byte-requires-clause-character
character_at-byte-requires-clause-character c =
    let cells = c.args.screen.now.screen.cells in
    let size : length cells ≡ cells_in c.size-size.result = c.size-size.ensures.cells ∙ ap cells_in (sym c.size-size.ensures.size) in
    let text = deleted (take c.args.count (text_from cells c.args.at)) in
    let below : c.args.at < length cells = rw c.size-size.ensures.cells c.requires.address in
    let there : c.forward.result ≡ (c.args.at + c.loop-step.step) % length cells = rw size c.forward.ensures.value in
    rw (c.loop-step.invariant, there) (laid_is_char c.args.at (c.loop-step.step - 1) c.loop-step.step text cells below (omega arith) (omega arith))

pub set_char-requires-clause-free : goal.set_char-requires-clause-free
set_char-requires-clause-free c =
    let cells = c.args.screen.now.screen.cells in
    let size : length cells ≡ cells_in c.size-size.result = c.size-size.ensures.cells ∙ ap cells_in (sym c.size-size.ensures.size) in
    let text = deleted (take c.args.count (text_from cells c.args.at)) in
    let below : c.args.at < length cells = rw c.size-size.ensures.cells c.requires.address in
    let there : c.forward-in-loop-step.result ≡ (c.args.at + (c.loop-step.step - 1)) % length cells = rw size c.forward-in-loop-step.ensures.value in
    rw (c.loop-step.invariant, there) (laid_is_char c.args.at (c.loop-step.step - 1) (c.loop-step.step - 1) text cells below (omega arith) (omega arith))

pub loop-step-preserved : goal.loop-step-preserved
loop-step-preserved c =
    let cells = c.args.screen.now.screen.cells in
    let size : length cells ≡ cells_in c.size-size.result = c.size-size.ensures.cells ∙ ap cells_in (sym c.size-size.ensures.size) in
    let step = c.loop-step.step in
    let all = text_from cells c.args.at in
    let part = take c.args.count all in
    let text = deleted part in
    let below : c.args.at < length cells = rw c.size-size.ensures.cells c.requires.address in
    let ahead : c.forward.result ≡ (c.args.at + step) % length cells = rw size c.forward.ensures.value in
    let there : c.forward-in-loop-step.result ≡ (c.args.at + (step - 1)) % length cells = rw size c.forward-in-loop-step.ensures.value in
    let cell : Char (get_or all step 0) ≡ Char c.character_at-byte.result =
    sym (laid_cell c.args.at (step - 1) step text cells below (omega arith) (omega arith)) ∙ rw (c.loop-step.invariant, ahead) at c.character_at-byte.ensures.value in
    let next : suc (step - 1) ≡ step = omega arith in
    let letter : get_or text (step - 1) 0 ≡ get_or all step 0 =
    deleted_at part (step - 1) (omega (arith, length-take-le c.args.count all (omega arith))) ∙ rw next (get_or-take c.args.count all step 0 (omega arith)) in
    let read : c.character_at-byte.result ≡ get_or text (step - 1) 0 = cc in
    let onward : step + 1 - 1 ≡ step - 1 + 1 = omega arith in
    rw (onward, ← laid_more c.args.at (step - 1) text cells below (omega arith))
    (rw (c.loop-step.invariant, there, read) at c.set_char.ensures)

pub set_char-requires-2-clause-free : goal.set_char-requires-2-clause-free
set_char-requires-2-clause-free c =
    let cells = c.args.screen.now.screen.cells in
    let size : length cells ≡ cells_in c.size-size.result = c.size-size.ensures.cells ∙ ap cells_in (sym c.size-size.ensures.size) in
    let text = deleted (take c.args.count (text_from cells c.args.at)) in
    let below : c.args.at < length cells = rw c.size-size.ensures.cells c.requires.address in
    let there : c.forward-2.result ≡ (c.args.at + (c.args.count - 1)) % length cells = rw size c.forward-2.ensures.value in
    rw (c.loop-step.invariant, there) (laid_is_char c.args.at (c.loop-step.step - 1) (c.args.count - 1) text cells below (omega arith) (omega arith))

pub returns : goal.returns
returns c =
    let cells = c.args.screen.now.screen.cells in
    let size : length cells ≡ cells_in c.size-size.result = c.size-size.ensures.cells ∙ ap cells_in (sym c.size-size.ensures.size) in
    let count = c.args.count in
    let all = text_from cells c.args.at in
    let part = take count all in
    let text = deleted part in
    let below : c.args.at < length cells = rw c.size-size.ensures.cells c.requires.address in
    let last : c.loop-step.step ≡ count = omega arith in
    let there : c.forward-2.result ≡ (c.args.at + (count - 1)) % length cells = rw size c.forward-2.ensures.value in
    let null : get_or text (count - 1) 0 ≡ 0 = deleted_last part (count - 1) (omega (arith, length-take-le count all (omega arith))) in
    let onward : count ≡ count - 1 + 1 = omega arith in
    let done : laid c.args.at count text cells ≡ laid c.args.at (count - 1 + 1) text cells = ap (λ (n : ℕ). laid c.args.at n text cells) onward in
    rw (done, ← laid_more c.args.at (count - 1) text cells below (omega arith), null)
    (rw (c.loop-step.invariant, last, there) at c.set_char-2.ensures)

use Rattle.codes3270.specs.Size.{cells_in}
use Rattle.std.proofs.Common.{◌≡◌, ◌+◌, ◌%◌, ◌<◌, ℕ, List, length, get_or, replicate, arith, ap, sym, ◌∙◌}
use Rattle.std.proofs.lemmas.List.{get_or-replicate}
use Rattle.keyboard.proofs.Texts.{laid_none, laid_more, laid_is_char}
use Rattle.keyboard.proofs.edits.put_nulls.Goals as goal

pub loop-step-init : goal.loop-step-init
loop-step-init c = rw (laid_none c.args.at (replicate c.args.count 0) c.args.screen.now.screen.cells)

pub set_char-requires-clause-free : goal.set_char-requires-clause-free
set_char-requires-clause-free c =
    let cells = c.args.screen.now.screen.cells in
    let size : length cells ≡ cells_in c.size-size.result = c.size-size.ensures.cells ∙ ap cells_in (sym c.size-size.ensures.size) in
    let below : c.args.at < length cells = rw c.size-size.ensures.cells c.requires.address in
    let there : c.forward.result ≡ (c.args.at + c.loop-step.step) % length cells = rw size c.forward.ensures.value in
    rw (c.loop-step.invariant, there) (laid_is_char c.args.at c.loop-step.step c.loop-step.step (replicate c.args.count 0) cells below (omega arith) (omega arith))

pub loop-step-preserved : goal.loop-step-preserved
loop-step-preserved c =
    let cells = c.args.screen.now.screen.cells in
    let size : length cells ≡ cells_in c.size-size.result = c.size-size.ensures.cells ∙ ap cells_in (sym c.size-size.ensures.size) in
    let nulls : List ℕ = replicate c.args.count 0 in
    let below : c.args.at < length cells = rw c.size-size.ensures.cells c.requires.address in
    let there : c.forward.result ≡ (c.args.at + c.loop-step.step) % length cells = rw size c.forward.ensures.value in
    let null : get_or nulls c.loop-step.step 0 ≡ 0 = get_or-replicate c.args.count c.loop-step.step 0 0 (omega arith) in
    let few : c.loop-step.step < length cells = omega arith in
    rw (← laid_more c.args.at c.loop-step.step nulls cells below few, null) (rw (c.loop-step.invariant, there) at c.set_char.ensures)

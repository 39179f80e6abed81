use Rattle.codes3270.specs.Size.{cells_in}
use Rattle.std.proofs.Common.{◌≡◌, ◌+◌, ◌%◌, ◌<◌, ◌∷◌, length, get_or, arith, sym, ◌∙◌, add-one, refl, ap}
use Rattle.codes3270.specs.declared.attribute.Cell.TheVariants.{Char}
use Rattle.keyboard.specs.Edits.{text_from}
use Rattle.keyboard.proofs.Texts.{laid_none, laid_more, laid_is_char, laid_cell}
use Rattle.keyboard.proofs.edits.push.Goals as goal

pub loop-step-init : goal.loop-step-init
loop-step-init c =
    record {
      screen = rw (laid_none c.args.at (c.args.byte ∷ text_from c.args.screen.now.screen.cells c.args.at) c.args.screen.now.screen.cells);
      carried = refl;
      storable = c.requires.storable;
    }

pub character_at-next-requires-clause-character : goal.character_at-next-requires-clause-character
character_at-next-requires-clause-character c =
    let cells = c.args.screen.now.screen.cells in
    let size : length cells ≡ cells_in c.size-size.result = c.size-size.ensures.cells ∙ ap cells_in (sym c.size-size.ensures.size) in
    let text = c.args.byte ∷ text_from cells c.args.at in
    let below : c.args.at < length cells = rw c.size-size.ensures.cells c.requires.address in
    let there : c.forward-place.result ≡ (c.args.at + c.loop-step.step) % length cells = rw size c.forward-place.ensures.value in
    rw (c.loop-step.invariant.screen, there) (laid_is_char c.args.at c.loop-step.step c.loop-step.step text cells below (omega arith) (omega arith))

pub loop-step-preserved : goal.loop-step-preserved
loop-step-preserved c =
    let cells = c.args.screen.now.screen.cells in
    let size : length cells ≡ cells_in c.size-size.result = c.size-size.ensures.cells ∙ ap cells_in (sym c.size-size.ensures.size) in
    let text = c.args.byte ∷ text_from cells c.args.at in
    let below : c.args.at < length cells = rw c.size-size.ensures.cells c.requires.address in
    let there : c.forward-place.result ≡ (c.args.at + c.loop-step.step) % length cells = rw size c.forward-place.ensures.value in
    let cell : Char (get_or (text_from cells c.args.at) c.loop-step.step 0) ≡ Char c.character_at-next.result =
    sym (laid_cell c.args.at c.loop-step.step c.loop-step.step text cells below (omega arith) (omega arith)) ∙ rw (c.loop-step.invariant.screen, there) at c.character_at-next.ensures.value in
    record {
      screen =
          rw (← laid_more c.args.at c.loop-step.step text cells below (omega arith))
          (rw (c.loop-step.invariant.screen, there, c.loop-step.invariant.carried) at c.set_char.ensures);
      carried = rw add-one (cc);
      storable = c.character_at-next.ensures.storable;
    }

pub returns-2 : goal.returns-2
returns-2 c =
    let cells = c.args.screen.now.screen.cells in
    let size : length cells ≡ cells_in c.size-size.result = c.size-size.ensures.cells ∙ ap cells_in (sym c.size-size.ensures.size) in
    let text = c.args.byte ∷ text_from cells c.args.at in
    let below : c.args.at < length cells = rw c.size-size.ensures.cells c.requires.address in
    let there : c.forward-place.result ≡ (c.args.at + c.loop-step.step) % length cells = rw size c.forward-place.ensures.value in
    let last : c.args.count ≡ c.loop-step.step = omega arith in
    rw (last, ← laid_more c.args.at c.loop-step.step text cells below (omega arith))
    (rw (c.loop-step.invariant.screen, there, c.loop-step.invariant.carried) at c.set_char.ensures)

pub set_char-requires-clause-storable : goal.set_char-requires-clause-storable
set_char-requires-clause-storable c = c.loop-step.invariant.storable

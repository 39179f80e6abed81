use Rattle.codes3270.specs.Size.{cells_in}
use Rattle.std.proofs.Common.{◌≡◌, ◌+◌, ◌%◌, ◌<◌, false, length, arith, sym, ◌∙◌, ap}
use Rattle.datastream.specs.Screen.{is_char_at}
use Rattle.keyboard.proofs.Texts.{text_length_is, length-reach}
use Rattle.keyboard.proofs.edits.text_length.Goals as goal

pub returns-then-not-is_character_at : goal.returns-then-not-is_character_at
returns-then-not-is_character_at c =
    let cells = c.args.screen.now.screen.cells in
    let size : length cells ≡ cells_in c.size-size.result = c.size-size.ensures.cells ∙ ap cells_in (sym c.size-size.ensures.size) in
    let below : c.args.at < length cells = rw c.size-size.ensures.cells c.requires in
    let there : c.forward.result ≡ (c.args.at + c.loop-step.step) % length cells = rw size c.forward.ensures.value in
    let test : is_char_at cells ((c.args.at + c.loop-step.step) % length cells) ≡ false =
    rw (← there) (sym c.is_character_at.ensures ∙ c.if-not-is_character_at.true) in
    record {
      value = sym (text_length_is cells c.args.at c.loop-step.step below (omega arith) c.loop-step.invariant (λ lower. test));
      bound = omega (arith, c.size-size.ensures.cells, c.reach_length-limit.ensures, length-reach cells c.args.at below);
    }

pub returns : goal.returns
returns c =
    let cells = c.args.screen.now.screen.cells in
    let size : length cells ≡ cells_in c.size-size.result = c.size-size.ensures.cells ∙ ap cells_in (sym c.size-size.ensures.size) in
    let below : c.args.at < length cells = rw c.size-size.ensures.cells c.requires in
    record {
      value =
          sym (text_length_is cells c.args.at c.reach_length-limit.result below (omega arith)
          (λ nearer lower. c.loop-step.invariant nearer (omega arith)) (λ lower. absurd (omega arith)));
      bound = omega (arith, c.size-size.ensures.cells, c.reach_length-limit.ensures, length-reach cells c.args.at below);
    }

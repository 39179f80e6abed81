use Rattle.std.proofs.Common.{sym, ap, ◌∙◌, arith, ℕ, List, chars, length-take, length-set}
use Rattle.std.proofs.lemmas.List.{take_more_set}
use Rattle.std.proofs.lemmas.Str.{IsUtf8-past_char, chars_past_char}
use Rattle.std.proofs.StrCases.{chars_of_empty}
use Rattle.std.specs.Str.Iter.{chars_rest}
use Rattle.service_wire.specs.Texts.{coded}
use Rattle.service_wire.proofs.Texts.{codes_behind, is_too_long, is_no_note, so_much_more, is_whole}
use Rattle.service_wire.proofs.note_text.NoteText.read.Goals as goal

pub returns-then-count-eq-LONGEST : goal.returns-then-count-eq-LONGEST
returns-then-count-eq-LONGEST c =
    let so = c.loop-character.invariant in
    let next = chars_past_char _ _ c.in-Some.character so.utf8 c.in-Some.ensures.steps.0 in
    let long = length-take c.loop-character.count c.loop-character.codes in
    is_too_long _ _ _ so.so_far _ _ next (omega (arith, long, so.size, c.if-count-eq-LONGEST.true))

pub returns-in_err-codes : goal.returns-in_err-codes
returns-in_err-codes c =
    let so = c.loop-character.invariant in
    let next = chars_past_char _ _ c.in-Some.character so.utf8 c.in-Some.ensures.steps.0 in
    c.from_residual.ensures ∙ is_no_note _ _ _ so.so_far _ _ next (sym c.in_err-codes.ensures.code)

pub loop-character-preserved : goal.loop-character-preserved
loop-character-preserved c =
    let so = c.loop-character.invariant in
    let next = chars_past_char _ _ c.in-Some.character so.utf8 c.in-Some.ensures.steps.0 in
    record {
      can_next = tt;
      is_finite = tt;
      utf8 = IsUtf8-past_char _ _ c.in-Some.character so.utf8 c.in-Some.ensures.steps.0;
      size = length-set c.loop-character.codes c.loop-character.count c.in_ok-codes.field-0 ∙ so.size;
      fits = grind (arith, so.fits, c.if-count-eq-LONGEST.false);
      so_far = so_much_more _ _ _ so.so_far _ _ next c.in_ok-codes.field-0 (sym c.in_ok-codes.ensures.code)
          ∙ ap (λ (front : List ℕ). codes_behind front (coded (chars (chars_rest c.next.new.self))))
          (sym (take_more_set c.loop-character.codes c.loop-character.count c.in_ok-codes.field-0 (grind (arith, so.size, so.fits, c.if-count-eq-LONGEST.false))));
    }

pub returns : goal.returns
returns c =
    let so = c.loop-character.invariant in
    c.text_of_codes.ensures ∙ sym (is_whole _ _ _ so.so_far (chars_of_empty _ c.in-None.ensures.steps.0.0))

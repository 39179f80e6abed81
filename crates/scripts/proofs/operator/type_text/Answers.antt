use Rattle.std.proofs.Common.{◌∙◌, ap, chars, string_bytes}
use Rattle.std.proofs.lemmas.List.{nil_from_length}
use Rattle.std.proofs.lemmas.Result.{on_ok_weaker}
use Rattle.std.proofs.lemmas.Str.{IsUtf8-past_char, chars-nil, chars_past_char}
use Rattle.std.specs.Str.Iter.{chars_rest}
use Rattle.scripts.proofs.TextTyped.{all_said, all_typed, said_more, saying_ends, typed_more, typing_ends}
use Rattle.scripts.proofs.operator.type_text.Goals as goal

pub returns-in-Some-2-clause-typed : goal.returns-in-Some-2-clause-typed
returns-in-Some-2-clause-typed c =
    let before = c.loop-letter.invariant in
    let left = chars_rest c.loop-letter.letter-iterator in
    let next = chars_rest c.next.new.self in
    on_ok_weaker c.put_refusal.result
    (λ said. typing_ends (chars left) (chars next) c.in-Some.letter (chars_past_char left next c.in-Some.letter before.utf8 c.in-Some.ensures.steps.0)
    c.loop-letter.terminal.terminal c.press_once.new.terminal.terminal c.in_ok-why.ensures.pressed c.in_ok-why.field-0 c.in_ok-why.ensures.refusal _ before.typed
    c.in-Some-2.why c.in-Some-2.is)
    c.put_refusal.ensures

pub returns-in-Some-2-clause-said : goal.returns-in-Some-2-clause-said
returns-in-Some-2-clause-said c =
    let before = c.loop-letter.invariant in
    let left = chars_rest c.loop-letter.letter-iterator in
    let next = chars_rest c.next.new.self in
    on_ok_weaker c.put_refusal.result
    (λ said. said ∙ saying_ends (chars left) (chars next) c.in-Some.letter (chars_past_char left next c.in-Some.letter before.utf8 c.in-Some.ensures.steps.0)
    c.loop-letter.terminal.terminal c.press_once.new.terminal.terminal c.in_ok-why.ensures.pressed c.in_ok-why.field-0 c.in_ok-why.ensures.refusal
    (string_bytes c.loop-letter.text) _ before.said c.in-Some-2.why c.in-Some-2.is)
    c.put_refusal.ensures

pub loop-letter-preserved : goal.loop-letter-preserved
loop-letter-preserved c =
    let before = c.loop-letter.invariant in
    let left = chars_rest c.loop-letter.letter-iterator in
    let next = chars_rest c.next.new.self in
    let is = chars_past_char left next c.in-Some.letter before.utf8 c.in-Some.ensures.steps.0 in
    record {
      utf8 = IsUtf8-past_char left next c.in-Some.letter before.utf8 c.in-Some.ensures.steps.0;
      typed = typed_more (chars left) (chars next) c.in-Some.letter is c.loop-letter.terminal.terminal c.press_once.new.terminal.terminal c.in_ok-why.ensures.pressed
          c.in_ok-why.field-0 c.in_ok-why.ensures.refusal _ before.typed c.in_default.is;
      said = said_more (chars left) (chars next) c.in-Some.letter is c.loop-letter.terminal.terminal c.press_once.new.terminal.terminal c.in_ok-why.ensures.pressed
          c.in_ok-why.field-0 c.in_ok-why.ensures.refusal (string_bytes c.loop-letter.text) _ before.said c.in_default.is;
    }

pub returns-clause-typed : goal.returns-clause-typed
returns-clause-typed c =
    let left = chars_rest c.loop-letter.letter-iterator in
    all_typed (chars left) c.loop-letter.terminal.terminal _ c.loop-letter.invariant.typed (ap chars (nil_from_length left c.in-None.ensures.steps.0.0) ∙ chars-nil)

pub returns-clause-said : goal.returns-clause-said
returns-clause-said c =
    let left = chars_rest c.loop-letter.letter-iterator in
    all_said (chars left) c.loop-letter.terminal.terminal (string_bytes c.loop-letter.text) _ c.loop-letter.invariant.said
    (ap chars (nil_from_length left c.in-None.ensures.steps.0.0) ∙ chars-nil)

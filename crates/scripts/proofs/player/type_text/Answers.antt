use Rattle.std.proofs.Common.{◌∙◌, ap, chars, string_bytes, sym}
use Rattle.std.proofs.lemmas.List.{nil_from_length}
use Rattle.std.proofs.lemmas.Str.{IsUtf8-past_char, chars-nil, chars_past_char}
use Rattle.std.specs.Str.Iter.{chars_rest}
use Rattle.scripts.proofs.Typing.{all_typed, typed_more, typing_ends}
use Rattle.scripts.proofs.player.type_text.Goals as goal

pub returns-then-is_refused : goal.returns-then-is_refused
returns-then-is_refused c =
    let before = c.loop-letter.invariant in
    let left = chars_rest c.loop-letter.letter-iterator in
    let next = chars_rest c.next.new.self in
    typing_ends c.args.terminal (chars c.args.typed.now) (chars left) c.args.world.now c.loop-letter.world (string_bytes c.args.text.now) (string_bytes c.loop-letter.text)
    before.so_far c.in-Some.letter (chars next) (chars_past_char left next c.in-Some.letter before.utf8 c.in-Some.ensures.steps.0)
    c.in_ok-answer.answer c.happen.new.world c.in_ok-answer.ensures.steps c.in_ok-answer.ensures.whole (string_bytes c.happen.new.text) c.in_ok-answer.ensures.said
    (sym c.is_refused.ensures ∙ c.if-is_refused.true)

pub loop-letter-preserved : goal.loop-letter-preserved
loop-letter-preserved c =
    let before = c.loop-letter.invariant in
    let left = chars_rest c.loop-letter.letter-iterator in
    let next = chars_rest c.next.new.self in
    record {
      utf8 = IsUtf8-past_char left next c.in-Some.letter before.utf8 c.in-Some.ensures.steps.0;
      so_far = typed_more c.args.terminal (chars c.args.typed.now) (chars left) c.args.world.now c.loop-letter.world (string_bytes c.args.text.now)
          (string_bytes c.loop-letter.text) before.so_far c.in-Some.letter (chars next)
          (chars_past_char left next c.in-Some.letter before.utf8 c.in-Some.ensures.steps.0) c.in_ok-answer.answer c.happen.new.world c.in_ok-answer.ensures.steps
          c.in_ok-answer.ensures.whole (string_bytes c.happen.new.text) c.in_ok-answer.ensures.said (sym c.is_refused.ensures ∙ c.if-is_refused.false);
    }

pub returns : goal.returns
returns c =
    let left = chars_rest c.loop-letter.letter-iterator in
    all_typed c.args.terminal (chars c.args.typed.now) (chars left) c.args.world.now c.loop-letter.world (string_bytes c.args.text.now) (string_bytes c.loop-letter.text)
    c.loop-letter.invariant.so_far (ap chars (nil_from_length left c.in-None.ensures.steps.0.0) ∙ chars-nil)

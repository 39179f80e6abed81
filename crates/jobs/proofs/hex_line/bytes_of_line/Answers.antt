use Rattle.std.proofs.Common.{◌∙◌}
use Rattle.jobs.proofs.Pieces.{words_left, words_left_some}
use Rattle.jobs.proofs.HexWords.{begins, is_no_word, word_more}
use Rattle.jobs.proofs.hex_line.bytes_of_line.Goals as goal

pub loop-word-init : goal.loop-word-init
loop-word-init c =
    let made = c.split-word-items.ensures in
    rw c.into_iter-word-iterator.ensures.into_iter_gives
    (record { can_next = tt; is_finite = tt; pattern = made.pattern; so_far = begins c.args.line.now c.new-bytes.result.items c.split-word-items.result c.new-bytes.ensures.items made.text made.has_more })

pub returns-in_default : goal.returns-in_default
returns-in_default c =
    let before = c.loop-word.invariant in
    let is = words_left_some c.loop-word.word-iterator c.next.new.self c.in-Some.word before.pattern c.in-Some.ensures.steps in
    is_no_word c.args.line.now c.in-Some.word.now (words_left c.loop-word.word-iterator) (words_left c.next.new.self) is c.loop-word.bytes.items before.so_far
    (rw c.in_default.is at c.in_ok-pairs.ensures)

pub loop-word-preserved : goal.loop-word-preserved
loop-word-preserved c =
    let before = c.loop-word.invariant in
    let is = words_left_some c.loop-word.word-iterator c.next.new.self c.in-Some.word before.pattern c.in-Some.ensures.steps in
    record {
      can_next = tt;
      is_finite = tt;
      pattern = c.in-Some.ensures.steps.1.0 ∙ before.pattern;
      so_far = word_more c.args.line.now c.in-Some.word.now (words_left c.loop-word.word-iterator) (words_left c.next.new.self) is c.loop-word.bytes.items before.so_far
          c.in-Some-2.pairs.items c.extend_from_slice.new.self.items (rw c.in-Some-2.is at c.in_ok-pairs.ensures) (rw c.as_slice.ensures.value at c.in_ok-extend_from_slice.ensures.items);
    }

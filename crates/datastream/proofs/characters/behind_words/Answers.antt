use Rattle.std.proofs.Common.{arith, refl, subst, sym}
use Rattle.datastream.specs.InboundReading.{PassesText}
use Rattle.datastream.proofs.CharacterRuns.{passes_on}
use Rattle.datastream.proofs.characters.behind_words.Goals as goal

pub loop-count-init : goal.loop-count-init
loop-count-init c = record {
  so_far = (0, omega arith, λ place less. absurd (omega arith), refl);
  bound = c.count_in_word-count.ensures.bound;
  text = c.count_in_word-count.ensures.text;
}

pub loop-count-preserved : goal.loop-count-preserved
loop-count-preserved c =
    let so_far = c.loop-count.invariant in
    let eight = c.loop-count-test.true in
    record {
      so_far =
          subst (PassesText c.args.text.now) (sym c.bytes_from-rest.ensures)
          (passes_on c.args.text.now c.loop-count.rest.now 8 so_far.so_far (omega (arith, eight, so_far.bound)) (λ place less. so_far.text place (omega (arith, eight, less))));
      bound = c.count_in_word-count-in-loop-count.ensures.bound;
      text = c.count_in_word-count-in-loop-count.ensures.text;
    }

pub returns : goal.returns
returns c =
    let so_far = c.loop-count.invariant in
    subst (PassesText c.args.text.now) (sym c.bytes_from.ensures) (passes_on c.args.text.now c.loop-count.rest.now c.loop-count.count so_far.so_far so_far.bound so_far.text)

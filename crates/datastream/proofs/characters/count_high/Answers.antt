use Rattle.std.proofs.Common.{◌<◌, ◌^◌, ℕ, subst}
use Rattle.datastream.proofs.CharacterRuns.{high_in_word, high_count, all_high}
use Rattle.datastream.proofs.characters.count_high.Goals as goal

pub returns-then-low-eq0-clause-high : goal.returns-then-low-eq0-clause-high
returns-then-low-eq0-clause-high c = λ bytes is place less.
    high_in_word bytes place is.small is.eight (subst (λ (n : ℕ). n < 2 ^ 64) is.number c.ranges.word.fits)
    (subst (λ (n : ℕ). place < high_count n) is.number (all_high c.args.word c.if-low-eq0.true place less))

pub returns-else-low-eq0-clause-high : goal.returns-else-low-eq0-clause-high
returns-else-low-eq0-clause-high c = λ bytes is place less.
    high_in_word bytes place is.small is.eight (subst (λ (n : ℕ). n < 2 ^ 64) is.number c.ranges.word.fits)
    (subst (λ (n : ℕ). place < high_count n) is.number less)

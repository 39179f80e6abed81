use Rattle.std.proofs.Common.{◌≡◌, ◌∙◌, ◌+◌, ◌-◌, ◌*◌, ◌/◌, ℕ, Bool, List, ap, sym, arith, inl, inr, get_or, set, if◌then◌else◌}
use Rattle.std.specs.Prelude.{min, max}
use Rattle.std.specs.Int.{bit_at}
use Rattle.std.proofs.lemmas.Bool.{cases_eq}
use Rattle.datastream.specs.CellBits.{bit_of, has_bit, is_within}
use Rattle.datastream.proofs.Words.{put_word, other_word, not_within}
use Rattle.datastream.proofs.cell_store.cell_bits.CellBits.put_in_word.Goals as goal

pub returns : goal.returns
returns c =
    let words = c.self.inside.words in
    let from = c.args.from in
    let to = c.args.to in
    let bit = c.args.bit in
    let i = from / 64 in
    let word = c.with_bits-word.result in
    let old : ℕ = get_or words i 0 in
    let low : from - i * 64 ≡ max from (i * 64) - i * 64 = omega arith in
    let high : to - i * 64 ≡ min to (i * 64 + 64) - i * 64 = omega (arith, c.requires.one) in
    λ other.
    let is : has_bit (set words i word) other ≡ (if is_within from to other then bit else has_bit words other) = elim (cases_eq (other / 64) i) [
      | inl here ↦ put_word words i word from to other bit (omega (arith, c.self.invariant, c.requires.order, c.requires.few)) (omega (arith, c.requires.order)) here (λ k few. c.with_bits-word.ensures k few
          ∙ ap (λ (n : ℕ). if is_within n (to - i * 64) k then bit_of bit else bit_at old k) low
          ∙ ap (λ (n : ℕ). if is_within (max from (i * 64) - i * 64) n k then bit_of bit else bit_at old k) high)
      | inr apart ↦ other_word words i word other apart
          ∙ sym (ap (λ (t : Bool). if t then bit else has_bit words other) (not_within from to other (λ after before. apart (omega (arith, c.requires.one)))))
    ] in
    is ∙ ap (λ (ws : List ℕ). if is_within from to other then bit else has_bit ws other) c.self.view_is

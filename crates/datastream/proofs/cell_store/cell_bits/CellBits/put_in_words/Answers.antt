use Rattle.std.proofs.Common.{◌∙◌, ◌*◌, ap, sym, arith, Bool, inl, inr, if◌then◌else◌}
use Rattle.std.proofs.lemmas.Bool.{cases_lt}
use Rattle.std.proofs.lemmas.List.{length-set}
use Rattle.datastream.specs.CellBits.{has_bit, is_within}
use Rattle.datastream.proofs.Words.{put_word, other_word, not_within}
use Rattle.datastream.proofs.cell_store.cell_bits.CellBits.put_in_words.Goals as goal

pub loop-index-preserved : goal.loop-index-preserved
loop-index-preserved c =
    let words = c.loop-index.self-inside.words in
    let i = c.loop-index.index in
    let word = c.with_bits-word.result in
    let from = c.args.from in
    let to = c.args.to in
    let bit = c.args.bit in
    let size = c.loop-index.invariant.size in
    record {
      size = length-set words i word ∙ size;
      done = λ other low. elim (cases_lt other (i * 64)) [
        | inl less ↦ other_word words i word other (λ e. omega arith) ∙ c.loop-index.invariant.done other less
        | inr more ↦ put_word words i word from to other bit (omega arith) c.requires.order (omega arith) (rw (c.max.ensures, c.min.ensures) at c.with_bits-word.ensures)
            ∙ ap (λ (b : Bool). if is_within from to other then bit else b) (c.loop-index.invariant.rest other more)
      ];
      rest = λ other later. other_word words i word other (λ e. omega arith) ∙ c.loop-index.invariant.rest other (omega arith);
    }

pub returns : goal.returns
returns c = λ other. elim (cases_lt other (c.loop-index.index * 64)) [
  | inl less ↦ c.loop-index.invariant.done other less
  | inr more ↦ c.loop-index.invariant.rest other more
      ∙ sym (ap (λ (t : Bool). if t then c.args.bit else has_bit c.args.self.now other) (not_within c.args.from c.args.to other (λ after before. omega arith)))
]

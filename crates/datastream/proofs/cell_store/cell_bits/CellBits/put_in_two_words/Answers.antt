use Rattle.std.proofs.Common.{◌∙◌, ◌+◌, ◌*◌, ◌/◌, ℕ, Bool, ap, arith, if◌then◌else◌}
use Rattle.datastream.specs.CellBits.{has_bit, is_within}
use Rattle.datastream.proofs.Words.{within_two}
use Rattle.datastream.proofs.cell_store.cell_bits.CellBits.put_in_two_words.Goals as goal

pub returns : goal.returns
returns c = λ other.
    let middle : ℕ = (c.args.from / 64 + 1) * 64 in
    c.put_in_word-2.ensures other
    ∙ ap (λ (b : Bool). if is_within middle c.args.to other then c.args.bit else b) (c.put_in_word.ensures other)
    ∙ within_two c.args.from middle c.args.to other c.args.bit (has_bit c.args.self.now other) (omega arith) (omega (arith, c.requires.order))

use Rattle.std.proofs.Common.{◌/◌, ◌%◌, ℕ, get_or, arith}
use Rattle.datastream.proofs.Words.{word_up_to}
use Rattle.datastream.proofs.cell_store.cell_bits.CellBits.last_to.Goals as goal

pub loop-word-init : goal.loop-word-init
loop-word-init c =
    let index : ℕ = c.args.cell / 64 in
    let word : ℕ = get_or c.self.inside.words index 0 in
    let parts = word_up_to word c.some_ones_below.result (c.args.cell % 64) c.some_ones_below.ensures in
    record {
      index = omega arith;
      later = λ other behind before. absurd (omega (arith, behind, before));
      here = λ place low before. parts.0 place low (omega (arith, before));
      above = λ place low behind. parts.1 place low (omega (arith, behind));
    }

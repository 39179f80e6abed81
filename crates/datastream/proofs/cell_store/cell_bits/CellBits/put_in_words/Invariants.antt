use Rattle.std.proofs.Common.{◌≡◌, ◌<◌, ◌≤◌, ◌*◌, ℕ, length, if◌then◌else◌}
use Rattle.datastream.specs.CellBits.{word_count, has_bit, is_within}
use Rattle.datastream.proofs.cell_store.cell_bits.CellBits.put_in_words.Given as goal

abbrev pub invariant-loop-index : goal.invariant-loop-index
invariant-loop-index l = record {
  size : length l.self-inside.words ≡ word_count;
  done : (other : ℕ) → other < l.index * 64 → has_bit l.self-inside.words other ≡ (if is_within l.from l.to other then l.bit else has_bit l.fn.self other);
  rest : (other : ℕ) → l.index * 64 ≤ other → has_bit l.self-inside.words other ≡ has_bit l.fn.self other;
}

use Rattle.std.proofs.Common.{◌≡◌, ◌<◌, ◌≤◌, ◌/◌, ◌+◌, ◌*◌, ℕ, false, get_or}
use Rattle.std.specs.Int.{bit_at}
use Rattle.datastream.specs.CellBits.{has_bit}
use Rattle.datastream.proofs.cell_store.cell_bits.CellBits.last_to.Given as goal

abbrev pub invariant-loop-word : goal.invariant-loop-word
invariant-loop-word l = record {
  index : l.index ≤ l.fn.cell / 64;
  later : (other : ℕ) → 64 * l.index + 64 ≤ other → other ≤ l.fn.cell → has_bit l.self-inside.words other ≡ false;
  here : (place : ℕ) → place < 64 → 64 * l.index + place ≤ l.fn.cell → bit_at l.word place ≡ bit_at (get_or l.self-inside.words l.index 0) place;
  above : (place : ℕ) → place < 64 → l.fn.cell < 64 * l.index + place → bit_at l.word place ≡ 0;
}

abbrev pub decreases-loop-word : goal.decreases-loop-word
decreases-loop-word l = l.index

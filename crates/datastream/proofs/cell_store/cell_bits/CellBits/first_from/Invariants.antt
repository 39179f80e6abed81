use Rattle.std.proofs.Common.{◌≡◌, ◌<◌, ◌≤◌, ◌/◌, ℕ, false}
use Rattle.datastream.specs.CellBits.{has_bit}
use Rattle.datastream.proofs.cell_store.cell_bits.CellBits.first_from.Given as goal

abbrev pub invariant-loop-index : goal.invariant-loop-index
invariant-loop-index l = record {
  later : l.fn.from ≤ l.at;
  here : l.at / 64 ≡ l.index;
  clear : (cell : ℕ) → l.fn.from ≤ cell → cell < l.at → has_bit l.self-inside.words cell ≡ false;
}

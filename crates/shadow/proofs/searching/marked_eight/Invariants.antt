use Rattle.std.proofs.Common.{◌≡◌, ◌<◌, ◌≤◌, ◌+◌, ◌*◌, ℕ, length, get_or}
use Rattle.std.specs.Int.{bit_at}
use Rattle.shadow.proofs.searching.marked_eight.Given as goal

abbrev pub invariant-loop-place : goal.invariant-loop-place
invariant-loop-place l = record {
  here : (place : ℕ) → l.first ≤ place → place < l.place → 64 * l.word + place < length l.one → bit_at l.marks place ≡ 0 → get_or l.one (64 * l.word + place) 0 ≡ get_or l.other (64 * l.word + place) 0;
  others : (place : ℕ) → bit_at l.marks place ≡ 0 → bit_at l.bits place ≡ 0;
}

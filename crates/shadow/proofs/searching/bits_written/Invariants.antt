use Rattle.std.proofs.Common.{◌≡◌, ◌<◌, ◌+◌, ◌*◌, ℕ, length, get_or}
use Rattle.std.specs.Int.{bit_at}
use Rattle.shadow.proofs.searching.bits_written.Given as goal

abbrev pub invariant-loop-place : goal.invariant-loop-place
invariant-loop-place l = (place : ℕ) → place < l.place → 64 * l.word + place < length l.bytes → bit_at l.bits place ≡ 0 → get_or l.bytes (64 * l.word + place) 0 ≡ 0

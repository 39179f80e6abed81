use Rattle.std.proofs.Common.{◌≡◌, ◌<◌, ◌+◌, ◌*◌, ℕ, length, get_or}
use Rattle.std.specs.Int.{bit_at}
use Rattle.shadow.proofs.searching.bits_differing.Given as goal

abbrev pub invariant-loop-group : goal.invariant-loop-group
invariant-loop-group l = (place : ℕ) → place < 8 * l.group → 64 * l.word + place < length l.one → bit_at l.bits place ≡ 0 → get_or l.one (64 * l.word + place) 0 ≡ get_or l.other (64 * l.word + place) 0

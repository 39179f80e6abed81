use Rattle.std.proofs.Common.{◌≡◌, ◌≤◌, ◌<◌, ℕ, length, get_or}
use Rattle.shadow.specs.Since.{never, stored_since}
use Rattle.shadow.proofs.apply_write.mark_stored.Given as goal

abbrev pub invariant-loop-at : goal.invariant-loop-at
invariant-loop-at l = record {
  inside : (at : ℕ) → l.from ≤ at → at < l.at → get_or l.pasts at never ≡ stored_since (get_or l.fn.pasts at never);
  apart : (at : ℕ) → (l.from ≤ at → at < l.at → ⊥) → get_or l.pasts at never ≡ get_or l.fn.pasts at never;
  size : length l.pasts ≡ length l.fn.pasts;
}

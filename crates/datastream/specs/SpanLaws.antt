-- Spans of addresses as steps from their first one, wrapping round at the end (GA23-0059-07 on Repeat to Address and on
-- Erase Unprotected to Address).
use Rattle.std.specs.Prelude.{◌≡◌, ◌↔◌, ◌+◌, ◌%◌, ◌<◌, ◌≤◌, ℕ, true}
use Rattle.datastream.specs.Span.{distance, is_within}

-- An address is in a span exactly if fewer than `count` steps from the first address lead to it.
abbrev pub SpansAreSteps : Type 0
SpansAreSteps = (size from count at : ℕ) → from < size → at < size → count ≤ size
    → (is_within size from count at ≡ true) ↔ ((step : ℕ) × (step < count) × (at ≡ (from + step) % size))

-- `distance` steps lead from `from` to `stop`, and no smaller number except 0 does.
abbrev pub DistancesLead : Type 0
DistancesLead = (size from stop : ℕ) → from < size → stop < size
    → (0 < distance size from stop) × (distance size from stop ≤ size)
    × ((from + distance size from stop) % size ≡ stop)
    × ((fewer : ℕ) → 0 < fewer → fewer < distance size from stop → (from + fewer) % size ≡ stop → ⊥)

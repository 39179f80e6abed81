-- The lines of a log that aren't written yet (our profile).
use Rattle.std.specs.Prelude.{ℕ, Bool, true, false, [], ◌∷◌, ◌+◌, ◌-◌, ◌^◌, ◌++◌, min, nat_le, if◌then◌else◌, List, drop, length, take}

-- the bytes that wait, and how many lines had no room
pub record Waiting : Type 0 where
  pub bytes : List ℕ
  pub dropped : ℕ

-- the most bytes that wait
abbrev pub most_waiting : ℕ
most_waiting = 65536

-- the most bytes that are written at once
abbrev pub chunk_size : ℕ
chunk_size = 4096

-- with a line more: it waits behind the others if it has room, else it is counted, up to 2^64 - 1
abbrev pub with_line : (line : List ℕ) → Waiting → Waiting
with_line line old =
    if nat_le (length line) (most_waiting - length old.bytes) then record old { bytes = old.bytes ++ line }
    else record old { dropped = min (old.dropped + 1) (2 ^ 64 - 1) }

-- whether nothing waits
abbrev pub has_none : List ℕ → Bool
has_none [] = true
has_none (first ∷ others) = false

-- how many bytes are written next
abbrev pub next_count : Waiting → ℕ
next_count old = min (length old.bytes) chunk_size

-- the bytes that are written next, and what waits without them
abbrev pub next_chunk : Waiting → List ℕ
next_chunk old = take (next_count old) old.bytes

abbrev pub without_chunk : Waiting → Waiting
without_chunk old = record old { bytes = drop (next_count old) old.bytes }

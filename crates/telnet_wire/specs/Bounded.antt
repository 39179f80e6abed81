-- A buffer of bytes that never holds more than its limit (our profile). Only private contracts cite it.
use Rattle.std.specs.Prelude.{ℕ, List, [], ◌∷◌, ◌++◌}

-- Its limit, and the bytes that it holds.
pub record Bounded : Type 0 where
  pub limit : ℕ
  pub bytes : List ℕ

-- An empty buffer with this limit.
abbrev pub empty : ℕ → Bounded
empty limit = record { limit = limit; bytes = [] }

-- The buffer with a byte appended.
abbrev pub with_byte : Bounded → ℕ → Bounded
with_byte buffer byte = record { limit = buffer.limit; bytes = buffer.bytes ++ byte ∷ [] }

-- The buffer with bytes appended.
abbrev pub with_bytes : Bounded → List ℕ → Bounded
with_bytes buffer bytes = record { limit = buffer.limit; bytes = buffer.bytes ++ bytes }

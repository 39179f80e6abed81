-- For private functions: bytes as a number (our profile).
use Rattle.std.specs.Prelude.{◌≡◌, ◌<◌, ℕ, ◌+◌, ◌*◌, List, [], ◌∷◌, length, slice_index_or}

-- the number that these bytes encode, the first byte being the lowest
abbrev pub word : List ℕ → ℕ
word [] = 0
word (byte ∷ bytes) = word bytes * 256 + byte

-- holds if these are eight bytes and `n` is the number that they encode
pub record IsWordOf (bytes : List ℕ) (n : ℕ) : Type 0 where
  pub small : (place : ℕ) → place < length bytes → slice_index_or bytes place 0 < 256
  pub eight : length bytes ≡ 8
  pub number : n ≡ word bytes

-- Calls that append to a vector of bytes, and fail if memory runs out (our profile).
use Rattle.std.specs.Prelude.{◌≡◌, ◌+◌, ◌<◌, ◌≤◌, ℕ, List, ◌++◌, length, take, Vec, vec_len, vec_capacity, Result, OnOk, OnErr}

module _ {A E : Type 0} (old new : Vec ℕ A) (result : Result (Unit {0}) E) (bytes : List ℕ) where
  -- The call appends the bytes, or fails and changes nothing. It fails only if the bytes exceed the
  -- vector's capacity. The capacity never shrinks.
  pub record Appends : Type 0 where
    pub ok : OnOk result (new.items ≡ old.items ++ bytes)
    pub err : OnErr result (new.items ≡ old.items)
    pub room : OnErr result (vec_capacity old < vec_len old + length bytes)
    pub capacity : vec_capacity old ≤ vec_capacity new

  -- The call appends the bytes, or fails and may leave some of them after the old ones. It fails only if the
  -- bytes exceed the vector's capacity. The capacity never shrinks.
  pub record AppendsSome : Type 0 where
    pub ok : OnOk result (new.items ≡ old.items ++ bytes)
    pub kept : take (vec_len old) new.items ≡ old.items
    pub longer : vec_len old ≤ vec_len new
    pub room : OnErr result (vec_capacity old < vec_len old + length bytes)
    pub capacity : vec_capacity old ≤ vec_capacity new

-- How a call that appends bytes changes a vector (our profile).
use Rattle.std.specs.Prelude.{◌≡◌, ℕ, ◌+◌, ◌≤◌, List, ◌++◌, take, length, Result, OnOk, OnErr, IsOk, Vec, vec_len}
use Rattle.std.specs.List.{flat_map}
use Rattle.std.specs.Borrow.{Bor}
use Rattle.std.specs.Vec.{vec_capacity}
use Rattle.std.specs.declared.alloc.Global.{Global}

-- The bytes of the parts, one after another.
abbrev pub joined : List (Bor (List ℕ)) → List ℕ
joined parts = flat_map (λ part. part.now) parts

module _ {E : Type 0} (old : Vec ℕ Global) (bytes : List ℕ) (result : Result (Unit {0}) E) (new : Vec ℕ Global) where
  -- Holds if the call appended the bytes, or failed and changed nothing. It fails only if there was no room for
  -- them. The capacity never shrinks.
  pub record Appends : Type 0 where
    pub appended : OnOk result (new.items ≡ old.items ++ bytes)
    pub unchanged : OnErr result (new.items ≡ old.items)
    pub room : vec_len old + length bytes ≤ vec_capacity old → IsOk result
    pub capacity : vec_capacity old ≤ vec_capacity new

  -- Holds if the call appended the bytes, or failed and may have left some of them after the old ones. It fails
  -- only if there was no room for them. The capacity never shrinks.
  pub record Tries : Type 0 where
    pub appended : OnOk result (new.items ≡ old.items ++ bytes)
    pub kept : take (vec_len old) new.items ≡ old.items
    pub longer : vec_len old ≤ vec_len new
    pub room : vec_len old + length bytes ≤ vec_capacity old → IsOk result
    pub capacity : vec_capacity old ≤ vec_capacity new

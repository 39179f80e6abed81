-- Who holds which LU of a pool, as connections ask for LUs and give them back (our profile).
use Rattle.std.specs.Prelude.{ℕ, List, map, find, Option, Some, None, option_and_then, if◌then◌else◌}
use Rattle.std.specs.Str.{bytes_eq}
use Rattle.lu_pool.specs.declared.entry.Entry.{Entry}
use Rattle.lu_pool.specs.Pool.{entry, is_held_by}

-- the connection that holds an LU, if one does
abbrev pub holder : List Entry → List ℕ → Option ℕ
holder pool lu = option_and_then (λ (at : Entry). at.holder) (find (λ at. bytes_eq at.lu lu) pool)

-- the pool after a connection was granted an LU
abbrev pub granted_to : ℕ → List ℕ → List Entry → List Entry
granted_to conn lu pool = map (λ at. if bytes_eq at.lu lu then entry at.lu (Some conn) else at) pool

-- the pool after a connection was granted an LU, if it was
abbrev pub granted_if : ℕ → Option (List ℕ) → List Entry → List Entry
granted_if conn None pool = pool
granted_if conn (Some lu) pool = granted_to conn lu pool

-- the pool after a connection gave back what it held
abbrev pub given_back : ℕ → List Entry → List Entry
given_back conn pool = map (λ at. if is_held_by conn at.holder then entry at.lu None else at) pool

-- the pool with all LUs free
abbrev pub all_free : List Entry → List Entry
all_free pool = map (λ at. entry at.lu None) pool

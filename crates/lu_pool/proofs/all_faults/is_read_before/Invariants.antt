use Rattle.std.proofs.Common.{◌≡◌, ◌<◌, ℕ, Some}
use Rattle.std.specs.Prelude.{slice_get}
use Rattle.lu_pool.proofs.all_faults.is_read_before.Given as goal

abbrev pub invariant-loop-earlier : goal.invariant-loop-earlier
invariant-loop-earlier l = (before : ℕ) → before < l.earlier → slice_get l.lus before ≡ Some (Some l.lu) → ⊥

use Rattle.std.proofs.Common.{◌≡◌, ◌++◌, take, drop}
use Rattle.lu_pool.specs.Holders.{all_free}
use Rattle.lu_pool.proofs.places.free_each.Given as goal

abbrev pub invariant-loop-entry : goal.invariant-loop-entry
invariant-loop-entry l = l.entries ≡ all_free (take l.entry-index l.initial.entries) ++ drop l.entry-index l.initial.entries

use Rattle.std.proofs.Common.{◌≡◌, ◌++◌, map, drop}
use Rattle.tn3270e_msg.specs.Lu.{lu_of}
use Rattle.lu_pool.proofs.all_faults.lus_of.Given as goal

abbrev pub invariant-loop-name : goal.invariant-loop-name
invariant-loop-name l = map lu_of (map (λ name. name.now) l.names) ≡ l.lus.items ++ map lu_of (map (λ name. name.now) (drop l.name-index l.names))

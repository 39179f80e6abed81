use Rattle.lu_pool.specs.Faults.{AreFaultsBefore}
use Rattle.lu_pool.proofs.all_faults.faults_of.Given as goal

abbrev pub invariant-loop-place : goal.invariant-loop-place
invariant-loop-place l = AreFaultsBefore l.place l.lus l.faults.items

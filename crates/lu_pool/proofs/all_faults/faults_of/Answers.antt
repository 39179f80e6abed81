use Rattle.std.proofs.Common.{arith}
use Rattle.lu_pool.proofs.FaultLists.{all_found}
use Rattle.lu_pool.proofs.all_faults.faults_of.Goals as goal

pub returns : goal.returns
returns c =
    all_found c.loop-place.place c.args.lus.now c.loop-place.faults.items c.loop-place.invariant (omega (arith, c.loop-place-test.false)) (c.is_count.ensures.0 c.if-not-is_count.false)

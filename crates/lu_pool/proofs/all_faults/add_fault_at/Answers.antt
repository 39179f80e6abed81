use Rattle.std.proofs.Common.{◌+◌, sym, subst}
use Rattle.std.proofs.lemmas.Option.{same_Some}
use Rattle.lu_pool.specs.Faults.{AreFaultsBefore}
use Rattle.lu_pool.proofs.FaultLists.{fault_here}
use Rattle.lu_pool.proofs.all_faults.add_fault_at.Goals as goal

pub returns-in_ok-push : goal.returns-in_ok-push
returns-in_ok-push c =
    subst (AreFaultsBefore (c.args.place + 1) c.args.lus.now) (sym c.in_ok-push.ensures.items)
    (fault_here c.args.place c.args.lus.now c.args.faults.now.items c.requires.before c.in-Some.fault c.in-Some.ensures.fault
    (λ bad. same_Some _ _ (c.in-Some.ensures.bad_name bad)) (λ again. same_Some _ _ (c.in-Some.ensures.twice again)))

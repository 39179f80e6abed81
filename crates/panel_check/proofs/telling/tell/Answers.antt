use Rattle.std.proofs.Common.{◌≤◌, length, sym, subst}
use Rattle.std.proofs.lemmas.Result.{on_ok_weaker}
use Rattle.panel_check.specs.Report.{HasCause}
use Rattle.panel_check.proofs.telling.tell.Goals as goal

pub returns-then-is_reported-clause-told : goal.returns-then-is_reported-clause-told
returns-then-is_reported-clause-told c = λ faulty is.
    subst (λ cause. HasCause cause c.args.findings.now.items) c.in_table-reported.ensures
    (subst (HasCause c.in_table-reported.result) c.deref.ensures.value (c.is_reported.ensures c.if-is_reported.true))

pub returns-clause-told : goal.returns-clause-told
returns-clause-told c = on_ok_weaker c.add_all.result (λ told. λ faulty is.
    subst (λ cause. HasCause cause c.add_all.new.findings.items) c.in_table-reported.ensures
    (told (subst (λ found. 1 ≤ length found) (sym c.deref-2.ensures.value) (c.in_ok-found.ensures faulty)))) c.add_all.ensures.told

use Rattle.std.proofs.Common.{◌≡◌, ◌∙◌, Some, None, ap, subst, sym}
use Rattle.std.specs.Prelude.{slice_get}
use Rattle.panels.specs.Faults.{place_of}
use Rattle.panels.specs.Turns.{IsFirstFault}
use Rattle.panels.proofs.Turning.{accepted, first_of_pass, refused}
use Rattle.panels.proofs.read.check.Goals as goal

pub returns-in-Some-clause-first : goal.returns-in-Some-clause-first
returns-in-Some-clause-first c =
    let at : slice_get c.in-Ok.found.items 0 ≡ Some c.in-Some.first = subst (λ found. slice_get found 0 ≡ Some c.in-Some.first) c.as_slice.ensures.value (sym c.first_of.ensures ∙ c.in-Some.is) in
    subst (λ place. IsFirstFault c.in-Some.first.fault place c.args.draft.now) (sym (c.place.ensures ∙ ap place_of c.table-table.ensures)) (refused c.args.draft.now c.in-Ok.found.items c.in-Some.first c.in-Ok.ensures at)

pub returns-in-Some-clause-fault : goal.returns-in-Some-clause-fault
returns-in-Some-clause-fault c =
    let at : slice_get c.in-Ok.found.items 0 ≡ Some c.in-Some.first = subst (λ found. slice_get found 0 ≡ Some c.in-Some.first) c.as_slice.ensures.value (sym c.first_of.ensures ∙ c.in-Some.is) in
    first_of_pass c.in-Some.first.fault c.place.result c.args.draft.now
    (subst (λ place. IsFirstFault c.in-Some.first.fault place c.args.draft.now) (sym (c.place.ensures ∙ ap place_of c.table-table.ensures)) (refused c.args.draft.now c.in-Ok.found.items c.in-Some.first c.in-Ok.ensures at))

pub returns-clause-clean : goal.returns-clause-clean
returns-clause-clean c =
    let none : slice_get c.in-Ok.found.items 0 ≡ None = subst (λ found. slice_get found 0 ≡ None) c.as_slice.ensures.value (sym c.first_of.ensures ∙ c.in-None.is) in
    accepted c.args.draft.now c.in-Ok.found.items c.in-Ok.ensures none

use Rattle.std.proofs.Common.{◌≡◌, map, rules}
use Rattle.panel_check.proofs.Reporting.{all_listed, are_causes}
use Rattle.panel_check.proofs.telling.causes_in.Goals as goal

pub returns : goal.returns
returns c =
    let named : map (λ (name : _). name.now) c.deref.result.now ≡ c.args.draft.now.lus = search rules in
    let tables = c.deref-at-items.result.now in
    let lus = c.deref-fault-items.result.now in
    let all = all_listed tables lus c.loop-at.causes.items c.loop-fault.causes.items c.extend_from_slice.new.self.items c.loop-at.at-index c.loop-fault.fault-index c.loop-at.invariant c.loop-at-test.false c.loop-fault.invariant c.loop-fault-test.false c.in_ok-extend_from_slice.ensures.items in
    are_causes c.args.draft.now c.in_ok-faults.field-0.items tables c.in_ok-faults-2.field-0.items lus _ _ c.in_ok-faults.ensures c.in_ok-faults-2.ensures named c.deref-at-items.ensures.value c.deref-fault-items.ensures.value all

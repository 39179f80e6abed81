use Rattle.std.proofs.Common.{◌≡◌, ◌++◌, map, drop}
use Rattle.panel_check.specs.Listed.{cause_of}
use Rattle.panel_check.specs.declared.report.Cause.TheVariants as cause
use Rattle.panel_check.proofs.telling.causes_in.Given as goal

abbrev pub invariant-loop-at : goal.invariant-loop-at
invariant-loop-at l = map cause_of l.at-items ≡ l.causes.items ++ map cause_of (drop l.at-index l.at-items)

abbrev pub invariant-loop-fault : goal.invariant-loop-fault
invariant-loop-fault l =
    l.initial.causes.items ++ map cause.Lus l.fault-items ≡ l.causes.items ++ map cause.Lus (drop l.fault-index l.fault-items)

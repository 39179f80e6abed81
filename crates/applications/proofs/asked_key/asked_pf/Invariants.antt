use Rattle.std.proofs.Common.{◌≡◌, ◌-◌, map}
use Rattle.std.specs.List.{range_with_len}
use Rattle.codes3270.specs.declared.attention.Aid.TheVariants.{Pf}
use Rattle.applications.specs.AskedKeys.{asked_among}
use Rattle.applications.proofs.asked_key.asked_pf.Given as goal

abbrev pub invariant-loop-number : goal.invariant-loop-number
invariant-loop-number l = asked_among l.panel (map Pf (range_with_len 1 24)) ≡ asked_among l.panel (map Pf (range_with_len l.number (25 - l.number)))

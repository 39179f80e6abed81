use Rattle.std.proofs.Common.{◌≡◌, ◌-◌, map}
use Rattle.std.specs.List.{range_with_len}
use Rattle.codes3270.specs.declared.attention.Aid.TheVariants.{Pa}
use Rattle.applications.specs.AskedKeys.{asked_among}
use Rattle.applications.proofs.asked_key.asked_pa.Given as goal

abbrev pub invariant-loop-number : goal.invariant-loop-number
invariant-loop-number l = asked_among l.panel (map Pa (range_with_len 1 3)) ≡ asked_among l.panel (map Pa (range_with_len l.number (4 - l.number)))

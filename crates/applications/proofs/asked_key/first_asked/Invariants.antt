use Rattle.std.proofs.Common.{◌≡◌, drop}
use Rattle.applications.specs.AskedKeys.{first_asked}
use Rattle.applications.proofs.asked_key.first_asked.Given as goal

abbrev pub invariant-loop-index : goal.invariant-loop-index
invariant-loop-index l = first_asked (drop l.index l.panels.panels) ≡ first_asked l.panels.panels

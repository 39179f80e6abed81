use Rattle.std.proofs.Common.{◌≡◌, drop}
use Rattle.panels.specs.Values.{without_values}
use Rattle.host_core.proofs.asking.remove_values.Given as goal

abbrev pub invariant-loop-value : goal.invariant-loop-value
invariant-loop-value l = without_values (drop l.value-index l.shown) l.values ≡ without_values l.shown l.fn.values

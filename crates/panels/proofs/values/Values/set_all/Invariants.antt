use Rattle.std.proofs.Common.{◌≡◌}
use Rattle.panels.specs.Values.{with_values}
use Rattle.panels.proofs.values.Values.set_all.Given as goal

abbrev pub invariant-loop-field : goal.invariant-loop-field
invariant-loop-field l = with_values l.self l.field-iterator ≡ with_values l.fn.self l.fn.others

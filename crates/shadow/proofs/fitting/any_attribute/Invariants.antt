use Rattle.std.proofs.Common.{◌≡◌}
use Rattle.std.specs.List.{list_any}
use Rattle.shadow.specs.Fits.{is_attribute}
use Rattle.shadow.proofs.fitting.any_attribute.Given as goal

abbrev pub invariant-loop-want : goal.invariant-loop-want
invariant-loop-want l = list_any is_attribute l.fn.cells ≡ list_any is_attribute l.want-iterator

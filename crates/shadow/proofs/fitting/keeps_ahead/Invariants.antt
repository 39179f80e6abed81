use Rattle.std.proofs.Common.{◌≡◌}
use Rattle.shadow.specs.Painted.{keeps_ahead}
use Rattle.shadow.proofs.fitting.keeps_ahead.Given as goal

abbrev pub invariant-loop-want : goal.invariant-loop-want
invariant-loop-want l = keeps_ahead l.fn.ahead ≡ keeps_ahead l.want-iterator

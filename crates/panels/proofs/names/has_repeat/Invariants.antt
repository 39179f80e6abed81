use Rattle.std.proofs.Common.{◌≡◌, map, drop}
use Rattle.panels.specs.Faults.{asks_twice}
use Rattle.panels.proofs.names.has_repeat.Given as goal

abbrev pub invariant-loop-at : goal.invariant-loop-at
invariant-loop-at l = asks_twice (map (λ name. name.now) l.names) ≡ asks_twice (map (λ name. name.now) (drop l.at l.names))

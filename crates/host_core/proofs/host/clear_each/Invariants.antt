use Rattle.std.proofs.Common.{◌≡◌, ◌++◌, drop, replicate}
use Rattle.host_core.specs.State.{unused}
use Rattle.host_core.proofs.host.clear_each.Given as goal

abbrev pub invariant-loop-index : goal.invariant-loop-index
invariant-loop-index l = l.connections.items ≡ replicate l.index unused ++ drop l.index l.initial.connections.items

use Rattle.std.proofs.Common.{◌≡◌, replicate}
use Rattle.host_core.specs.State.{unused}
use Rattle.host_core.proofs.host.unused_connections.Given as goal

abbrev pub invariant-loop : goal.invariant-loop
invariant-loop l = l.connections.items ≡ replicate l.counter unused

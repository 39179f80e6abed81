use Rattle.std.proofs.Common.{◌≡◌, None, replicate}
use Rattle.server.proofs.connection_info.none_for_each.Given as goal

abbrev pub invariant-loop : goal.invariant-loop
invariant-loop g l = l.values.items ≡ replicate l.counter None

use Rattle.std.proofs.Common.{◌≡◌, None, replicate}
use Rattle.server.proofs.hosts.no_owners.Given as goal

abbrev pub invariant-loop : goal.invariant-loop
invariant-loop l = l.owners.items ≡ replicate l.counter None

use Rattle.server.specs.Hosts.{AreOwned}
use Rattle.server.proofs.hosts.free_place.Given as goal

abbrev pub invariant-loop-place : goal.invariant-loop-place
invariant-loop-place l = AreOwned l.place l.owners

use Rattle.std.specs.Prelude.{◌≡◌}
use Rattle.server.specs.Hosts.{reserved_below}
use Rattle.server.proofs.Reloads.{Reserved}
use Rattle.server.proofs.hosts.Hosts.reserve_each.Given as goal

abbrev pub invariant-loop-conn : goal.invariant-loop-conn
invariant-loop-conn l = (l.host ≡ reserved_below l.self l.initial.host l.conn) × Reserved l.self l.conn l.host.pool

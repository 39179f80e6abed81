use Rattle.std.specs.Prelude.{◌≡◌}
use Rattle.server.specs.Hosts.{handed_below}
use Rattle.server.proofs.hosts.hand_over.Given as goal

abbrev pub invariant-loop-conn : goal.invariant-loop-conn
invariant-loop-conn l = l.owners.items ≡ handed_below l.place l.current l.initial.owners.items l.conn

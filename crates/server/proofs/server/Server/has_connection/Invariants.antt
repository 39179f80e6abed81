use Rattle.std.proofs.Common.{◌≡◌}
use Rattle.server.specs.Control.{is_open_below}
use Rattle.server.proofs.server.Server.has_connection.Given as goal

abbrev pub invariant-loop-conn : goal.invariant-loop-conn
invariant-loop-conn g l = l.is_any ≡ is_open_below l.conn l.self

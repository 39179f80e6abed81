use Rattle.std.proofs.Common.{◌≤◌}
use Rattle.service.proofs.control_socket.sessions_of.Given as goal

abbrev pub invariant-loop-conn : goal.invariant-loop-conn
invariant-loop-conn l = l.count ≤ l.conn

use Rattle.server.specs.Accepting.{AreTaken}
use Rattle.server.proofs.server.free_number.Given as goal

abbrev pub invariant-loop-conn : goal.invariant-loop-conn
invariant-loop-conn l = AreTaken l.conn l.hosts

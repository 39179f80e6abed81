use Rattle.server.specs.Control.{DeliversBelow}
use Rattle.server.proofs.note_queue.NoteQueue.deliver_each.Given as goal

abbrev pub invariant-loop-conn : goal.invariant-loop-conn
invariant-loop-conn g l = DeliversBelow l.conn l.initial.server l.initial.self l.sent l.server l.self

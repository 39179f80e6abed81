use Rattle.std.proofs.Common.{◌≡◌}
use Rattle.server.specs.Control.{has_recipient_below, queued_below}
use Rattle.server.proofs.note_queue.NoteQueue.add.Given as goal

abbrev pub invariant-loop-conn : goal.invariant-loop-conn
invariant-loop-conn g l = (l.self ≡ queued_below l.to l.text l.server l.conn l.initial.self) × (l.found ≡ has_recipient_below l.to l.server l.conn)

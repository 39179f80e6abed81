use Rattle.server.proofs.Control.{none_delivered, one_delivered}
use Rattle.server.proofs.note_queue.NoteQueue.deliver_each.Goals as goal

pub loop-conn-init : goal.loop-conn-init
loop-conn-init g c = none_delivered c.args.server.now c.args.self.now

pub loop-conn-preserved : goal.loop-conn-preserved
loop-conn-preserved g c =
    one_delivered c.loop-conn.conn c.args.server.now c.loop-conn.server c.deliver-sent.new.server c.args.self.now c.loop-conn.self c.deliver-sent.new.self
    c.loop-conn.sent c.deliver-sent.result c.loop-conn.invariant c.deliver-sent.ensures

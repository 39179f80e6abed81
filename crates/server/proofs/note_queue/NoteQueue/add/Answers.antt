use Rattle.std.proofs.Common.{◌||◌, ◌∙◌, ap, is_some}
use Rattle.server.specs.Control.{with_waiting}
use Rattle.server.proofs.Control.{none_queued, one_found, one_queued}
use Rattle.server.proofs.note_queue.NoteQueue.add.Goals as goal

pub loop-conn-init : goal.loop-conn-init
loop-conn-init g c = none_queued c.args.to.now c.args.text.now c.args.server.now c.args.self.now

pub loop-conn-preserved : goal.loop-conn-preserved
loop-conn-preserved g c = (
  c.set.ensures ∙ ap (λ s. with_waiting s c.loop-conn.conn c.args.text.now c.loop-conn.self) c.recipient_at-session.ensures
      ∙ one_queued c.args.to.now c.args.text.now c.args.server.now c.loop-conn.conn c.args.self.now c.loop-conn.self c.loop-conn.invariant.0,
  ap (λ b. c.loop-conn.found || b) (c.is_some-found.ensures ∙ ap is_some c.recipient_at-session.ensures)
      ∙ one_found c.args.to.now c.args.text.now c.args.server.now c.loop-conn.conn c.loop-conn.found c.loop-conn.invariant.1,
)

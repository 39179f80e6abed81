use Rattle.host_core.proofs.RecordsTaken.{write_kept}
use Rattle.host_core.proofs.session.Session.take_paint_verdict.Goals as goal

pub write_in-requires : goal.write_in-requires
write_in-requires c = rw c.deref.ensures.value (write_kept c.self.inside.size c.self.inside.pending c.self.inside.sent.items c.self.invariant.0 (rw (← c.self.view_is) at c.requires))

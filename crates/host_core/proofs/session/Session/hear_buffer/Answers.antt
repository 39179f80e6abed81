use Rattle.std.proofs.Common.{◌≡◌, sym, ◌∙◌, ap, subst}
use Rattle.host_core.specs.Representation.{step_of}
use Rattle.host_core.specs.Session.{Session}
use Rattle.host_core.specs.Takes.{believed, hears, once_read}
use Rattle.host_core.proofs.RecordsTaken.{buffer_believed}
use Rattle.host_core.proofs.session.Session.hear_buffer.Goals as goal

pub returns-in-GoesOn-clause-came : goal.returns-in-GoesOn-clause-came
returns-in-GoesOn-clause-came c =
    buffer_believed c.args.inbound.now c.once_read-turn_reason.result c.args.self.now _ c.believe-after.result
    (sym c.is_read_believed.ensures ∙ c.if-not-is_read_believed.false)
    (c.once_read-turn_reason.ensures ∙ ap (λ (s : Session). once_read s.turn_reason) c.self.view_is)
    (subst (λ (mid : Session). step_of mid c.believe-after.result ≡ believed c.once_read-turn_reason.result c.args.self.now.pending c.args.inbound.now.cursor c.args.self.now (hears c.args.inbound.now c.args.self.now)) (sym c.self-2.view_is) c.believe-after.ensures.came)
    c.in-GoesOn.is

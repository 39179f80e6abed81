use Rattle.std.proofs.Common.{subst, refl}
use Rattle.host_core.specs.Application.{application_of}
use Rattle.host_core.specs.Questions.{answered_by}
use Rattle.host_core.specs.State.{state_at, session_at}
use Rattle.world3270.specs.model.ByteWorld.{ByteWorld, with_host}
use Rattle.world3270.specs.model.ByteSteps.{Steps}
use Rattle.world3270.specs.declared.event.Event.TheVariants as event
use Rattle.world3270.proofs.Steps.{host_answered}
use Rattle.world3270.proofs.network.Network.answer.Goals as goal

pub returns-then-conn-lt-MOST_CONNECTIONS : goal.returns-then-conn-lt-MOST_CONNECTIONS
returns-then-conn-lt-MOST_CONNECTIONS c =
    let old : ByteWorld = record { host = c.self.inside.host; links = c.self.inside.links.items; slots = c.self.inside.slots.items } in
    subst (λ (w : ByteWorld). Steps (event.Answer c.args.conn c.args.ticket c.args.answer.now) w c.acted_as.result (with_host c.answer.new.self old)) c.self.view_is
    (host_answered (event.Answer c.args.conn c.args.ticket c.args.answer.now) (application_of old.host.panels) c.args.answer.now (answered_by (application_of old.host.panels) (session_at c.args.conn old.host) c.args.ticket c.args.answer.now (state_at c.args.conn old.host)) c.args.conn old c.answer.result
    c.acted_as.result c.answer.new.self c.if-conn-lt-MOST_CONNECTIONS.true c.answer.ensures.answered c.answer.ensures.others c.acted_as.ensures refl (λ it. it))

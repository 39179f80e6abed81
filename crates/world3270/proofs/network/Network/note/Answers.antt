use Rattle.std.proofs.Common.{subst, refl}
use Rattle.host_core.specs.Does.{Does, noted_by}
use Rattle.host_core.specs.State.{state_at, connection_at}
use Rattle.world3270.specs.model.ByteWorld.{ByteWorld, with_host}
use Rattle.world3270.specs.model.ByteSteps.{Steps}
use Rattle.world3270.specs.declared.event.Event.TheVariants as event
use Rattle.world3270.proofs.Steps.{host_acted}
use Rattle.world3270.proofs.network.Network.note.Goals as goal

pub returns-then-conn-lt-MOST_CONNECTIONS : goal.returns-then-conn-lt-MOST_CONNECTIONS
returns-then-conn-lt-MOST_CONNECTIONS c =
    let old : ByteWorld = record { host = c.self.inside.host; links = c.self.inside.links.items; slots = c.self.inside.slots.items } in
    subst (λ (w : ByteWorld). Steps (event.Note c.args.conn c.args.text.now) w c.acted_as.result (with_host c.note.new.self old)) c.self.view_is
    (host_acted (event.Note c.args.conn c.args.text.now) (noted_by c.args.text.now (state_at c.args.conn old.host)) c.args.conn old c.note.result
    c.acted_as.result c.note.new.self c.if-conn-lt-MOST_CONNECTIONS.true
    (subst (λ bytes. Does (noted_by bytes (state_at c.args.conn old.host)) (connection_at c.args.conn old.host) c.note.result (connection_at c.args.conn c.note.new.self)) c.text.ensures.text c.note.ensures.noted)
    c.note.ensures.others c.acted_as.ensures refl (λ it. it))

use Rattle.std.proofs.Common.{subst, refl}
use Rattle.host_core.specs.Application.{application_of}
use Rattle.host_core.specs.Does.{acted_by}
use Rattle.host_core.specs.State.{state_at}
use Rattle.world3270.specs.model.ByteWorld.{ByteWorld, with_host}
use Rattle.world3270.specs.model.ByteSteps.{Steps}
use Rattle.world3270.specs.declared.event.Event.TheVariants as event
use Rattle.world3270.proofs.Steps.{host_acted}
use Rattle.world3270.proofs.network.Network.act.Goals as goal

pub returns-then-conn-lt-MOST_CONNECTIONS : goal.returns-then-conn-lt-MOST_CONNECTIONS
returns-then-conn-lt-MOST_CONNECTIONS c =
    let old : ByteWorld = record { host = c.self.inside.host; links = c.self.inside.links.items; slots = c.self.inside.slots.items } in
    subst (λ (w : ByteWorld). Steps (event.Act c.args.conn) w c.acted_as.result (with_host c.act.new.self old)) c.self.view_is
    (host_acted (event.Act c.args.conn) (acted_by (application_of old.host.panels) (state_at c.args.conn old.host)) c.args.conn old c.act.result
    c.acted_as.result c.act.new.self c.if-conn-lt-MOST_CONNECTIONS.true c.act.ensures.acted c.act.ensures.others c.acted_as.ensures refl (λ it. it))

use Rattle.std.proofs.Common.{subst}
use Rattle.world3270.specs.model.ByteWorld.{ByteWorld, with_host}
use Rattle.world3270.specs.model.ByteSteps.{Steps}
use Rattle.world3270.specs.declared.event.Event.TheVariants as event
use Rattle.world3270.proofs.Steps.{host_kept_alive}
use Rattle.world3270.proofs.network.Network.keep_alive.Goals as goal

pub returns-then-conn-lt-MOST_CONNECTIONS : goal.returns-then-conn-lt-MOST_CONNECTIONS
returns-then-conn-lt-MOST_CONNECTIONS c =
    let old : ByteWorld = record { host = c.self.inside.host; links = c.self.inside.links.items; slots = c.self.inside.slots.items } in
    subst (λ (w : ByteWorld). Steps (event.KeepAlive c.args.conn) w c.acted_as.result (with_host c.keep_alive.new.self old)) c.self.view_is
    (host_kept_alive c.args.conn old c.keep_alive.result c.acted_as.result c.keep_alive.new.self c.if-conn-lt-MOST_CONNECTIONS.true c.keep_alive.ensures.answer
    c.keep_alive.ensures.kept_alive c.acted_as.ensures)

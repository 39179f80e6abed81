use Rattle.std.proofs.Common.{subst, sym}
use Rattle.server.specs.Accepting.{Receives}
use Rattle.server.proofs.server.Server.receive.Goals as goal

pub returns-in-Begun : goal.returns-in-Begun
returns-in-Begun g c = subst
    (λ arrival. Receives g.W.Watcher.noticed g.W.Watcher.showed arrival c.args.self.now c.args.watcher.now c.admit.result c.admit.new.self c.admit.new.watcher)
    (sym c.in-Begun.is) c.admit.ensures

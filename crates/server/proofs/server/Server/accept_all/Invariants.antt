use Rattle.server.specs.Accepting.{AdmitsSome, door}
use Rattle.server.proofs.server.Server.accept_all.Given as goal

abbrev pub invariant-loop : goal.invariant-loop
invariant-loop g l =
    AdmitsSome g.W.Watcher.noticed g.W.Watcher.showed g.L.Listener.gave l.counter (door l.initial.listener l.initial.self l.initial.watcher)
    (door l.listener l.self l.watcher)

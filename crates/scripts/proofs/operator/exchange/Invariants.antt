use Rattle.scripts.proofs.Waits.{Waiting}
use Rattle.scripts.proofs.operator.exchange.Given as goal

abbrev pub invariant-loop : goal.invariant-loop
invariant-loop g l =
    Waiting g.D.Source.gave l.counter l.fn.terminal.terminal l.terminal.terminal l.fn.down l.down (g.U.Sink.seen l.fn.up) (g.U.Sink.seen l.up)

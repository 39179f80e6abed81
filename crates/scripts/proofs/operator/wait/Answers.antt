use Rattle.std.proofs.Common.{subst}
use Rattle.scripts.specs.Waits.{HasExchanged}
use Rattle.scripts.proofs.Waits.{has_ended}
use Rattle.scripts.proofs.operator.wait.Goals as goal

pub returns-in-ReadsUsedUp : goal.returns-in-ReadsUsedUp
returns-in-ReadsUsedUp g c =
    subst
    (λ end. HasExchanged g.D.Source.gave end c.args.terminal.now.terminal c.exchange.new.terminal.terminal c.args.down.now c.exchange.new.down
    (g.U.Sink.seen c.args.up.now) (g.U.Sink.seen c.exchange.new.up))
    c.in-ReadsUsedUp.is c.in_ok-exchange.ensures c.send_all.result c.send_all.new.terminal.terminal (g.U.Sink.seen c.send_all.new.up) c.send_all.ensures

pub returns-in_default : goal.returns-in_default
returns-in_default g c =
    has_ended g.D.Source.gave c.in_ok-exchange.field-0 c.args.terminal.now.terminal c.exchange.new.terminal.terminal c.args.down.now c.exchange.new.down
    (g.U.Sink.seen c.args.up.now) (g.U.Sink.seen c.exchange.new.up) c.in_default.not-ReadsUsedUp c.in_ok-exchange.ensures

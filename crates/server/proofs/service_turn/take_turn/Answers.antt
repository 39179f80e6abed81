use Rattle.server.specs.ServiceTurns.{consulting, keeping_time, obeying}
use Rattle.server.proofs.ServiceTurns.{breaks_off}
use Rattle.server.proofs.service_turn.take_turn.Goals as goal

pub returns-in_err-timed-clause-broken : goal.returns-in_err-timed-clause-broken
returns-in_err-timed-clause-broken g c =
    breaks_off g.S.TurnParts.served g.S.TurnParts.timed g.S.TurnParts.consulted g.S.TurnParts.obeyed g.S.TurnParts.told c.from_residual-in_err-timed.result c.in_err-timed.field-0.0
    c.args.service.now c.keep_time.new.self c.args.busy c.from_residual-in_err-timed.ensures.1
    (keeping_time c.in_ok-moved.moved c.serve_all.new.self c.in_ok-moved.ensures c.in_err-timed.ensures)

pub returns-in_err-decided-clause-broken : goal.returns-in_err-decided-clause-broken
returns-in_err-decided-clause-broken g c =
    breaks_off g.S.TurnParts.served g.S.TurnParts.timed g.S.TurnParts.consulted g.S.TurnParts.obeyed g.S.TurnParts.told c.from_residual-in_err-decided.result c.in_err-decided.field-0.0
    c.args.service.now c.consult.new.self c.args.busy c.from_residual-in_err-decided.ensures.1
    (consulting c.in_ok-moved.moved c.in_ok-timed.timed c.serve_all.new.self c.keep_time.new.self c.in_ok-moved.ensures c.in_ok-timed.ensures c.in_err-decided.ensures)

pub returns-in_err-obeyed-clause-broken : goal.returns-in_err-obeyed-clause-broken
returns-in_err-obeyed-clause-broken g c =
    breaks_off g.S.TurnParts.served g.S.TurnParts.timed g.S.TurnParts.consulted g.S.TurnParts.obeyed g.S.TurnParts.told c.from_residual-in_err-obeyed.result c.in_err-obeyed.field-0.0
    c.args.service.now c.obey.new.self c.args.busy c.from_residual-in_err-obeyed.ensures.1
    (obeying c.in_ok-moved.moved c.in_ok-timed.timed c.in_ok-decided.decided c.serve_all.new.self c.keep_time.new.self c.consult.new.self
    c.in_ok-moved.ensures c.in_ok-timed.ensures c.in_ok-decided.ensures c.in_err-obeyed.ensures)

use Rattle.std.proofs.Common.{◌≡◌, arith, refl, rules, subst}
use Rattle.server.specs.ServiceTurns.{TakesTurns, broke_off, ended, turns_over}
use Rattle.server.proofs.ServiceTurns.{turn_more}
use Rattle.server.proofs.service_turn.take_turns.Goals as goal

pub returns-in-Err : goal.returns-in-Err
returns-in-Err g c =
    broke_off c.loop.counter c.loop.busy c.loop.service c.in-Err.fault c.loop-test.true c.loop.invariant (search rules) c.in-Err.ensures.broken refl

pub returns-then-is_over : goal.returns-then-is_over
returns-then-is_over g c = ended c.loop.counter c.loop.busy c.loop.service c.loop-test.true c.loop.invariant (search rules) c.finish.ensures

pub loop-preserved : goal.loop-preserved
loop-preserved g c =
    turn_more g.S.TurnParts.served g.S.TurnParts.timed g.S.TurnParts.consulted g.S.TurnParts.obeyed g.S.TurnParts.told g.S.TurnParts.is_over
    c.loop.counter c.args.service.now c.loop.service c.take_turn.new.service
    c.loop.busy c.in-Ok.busy c.loop.invariant (search rules) c.in-Ok.ensures.whole

pub returns : goal.returns
returns g c =
    let all : c.loop.counter ≡ c.args.turns = omega arith in
    turns_over c.loop.busy
    (subst (λ count. TakesTurns g.S.TurnParts.served g.S.TurnParts.timed g.S.TurnParts.consulted g.S.TurnParts.obeyed g.S.TurnParts.told g.S.TurnParts.is_over count c.args.service.now c.loop.busy c.loop.service)
    all c.loop.invariant)
    refl

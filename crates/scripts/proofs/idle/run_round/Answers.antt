use Rattle.std.proofs.Common.{◌&&◌, refl}
use Rattle.scripts.proofs.Rounds.{no_exchange, exchanged_more, if_stopped, stopped_after}
use Rattle.scripts.proofs.idle.run_round.Goals as goal

pub loop-number-init : goal.loop-number-init
loop-number-init c = no_exchange c.args.world.now

pub loop-number-preserved : goal.loop-number-preserved
loop-number-preserved c =
    exchanged_more c.loop-number.number c.args.world.now c.loop-number.world c.exchange.new.world c.loop-number.quiet c.in_ok-quiet.field-0
    (c.loop-number.quiet && c.in_ok-quiet.field-0) c.loop-number.invariant c.in_ok-quiet.ensures.runs refl

pub returns-in_err-quiet-clause-stopped : goal.returns-in_err-quiet-clause-stopped
returns-in_err-quiet-clause-stopped c =
    if_stopped c.from_residual.result c.args.world.now c.exchange.new.world
    (stopped_after c.loop-number.invariant.happenings c.args.world.now c.loop-number.world c.exchange.new.world c.loop-number.invariant.take_place
    c.in_err-quiet.ensures.stopped)

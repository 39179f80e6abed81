use Rattle.scripts.proofs.Rounds.{if_stopped, no_rounds, round_made, rounds_end, rounds_made, stopped_after}
use Rattle.scripts.proofs.idle.run_until_idle.Goals as goal

pub loop-init : goal.loop-init
loop-init c = no_rounds c.args.world.now

pub returns-then-branch-clause-rounds : goal.returns-then-branch-clause-rounds
returns-then-branch-clause-rounds c =
    rounds_end c.loop.counter c.args.world.now c.loop.world c.run_round.new.world c.in_ok-run_round.field-0 c.loop.invariant c.in_ok-run_round.ensures.runs
    c.loop-test.true c.if-branch.true

pub loop-preserved : goal.loop-preserved
loop-preserved c =
    round_made c.loop.counter c.args.world.now c.loop.world c.run_round.new.world c.in_ok-run_round.field-0 c.loop.invariant c.in_ok-run_round.ensures.runs
    c.if-branch.false

pub returns-clause-rounds : goal.returns-clause-rounds
returns-clause-rounds c = rounds_made c.loop.counter c.args.world.now c.loop.world c.loop.auto.counter-end c.loop-test.false c.loop.invariant

pub returns-in_err-run_round-clause-stopped : goal.returns-in_err-run_round-clause-stopped
returns-in_err-run_round-clause-stopped c =
    if_stopped c.from_residual.result c.args.world.now c.run_round.new.world
    (stopped_after c.loop.invariant.happenings c.args.world.now c.loop.world c.run_round.new.world c.loop.invariant.take_place
    c.in_err-run_round.ensures.stopped)

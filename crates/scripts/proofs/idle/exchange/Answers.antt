use Rattle.world3270.specs.declared.event.Event.TheVariants as event
use Rattle.scripts.specs.Happenings.{all_bytes}
use Rattle.scripts.proofs.Rounds.{exchanged, if_stopped, stopped_after_one}
use Rattle.scripts.proofs.idle.exchange.Goals as goal

pub returns-in_err-act-clause-stopped : goal.returns-in_err-act-clause-stopped
returns-in_err-act-clause-stopped c =
    if_stopped c.from_residual-in_err-act.result c.args.world.now c.step_whole-2.new.world
    (stopped_after_one (event.Up c.args.number all_bytes) c.in_ok-up.up c.args.world.now c.step_whole.new.world c.step_whole-2.new.world
    c.in_ok-up.ensures.steps c.in_ok-up.ensures.whole c.in_err-act.ensures.stopped)

pub returns-in_err-down-clause-stopped : goal.returns-in_err-down-clause-stopped
returns-in_err-down-clause-stopped c =
    if_stopped c.from_residual-in_err-down.result c.args.world.now c.step_whole-3.new.world
    (stopped_after_one (event.Up c.args.number all_bytes) c.in_ok-up.up c.args.world.now c.step_whole.new.world c.step_whole-3.new.world
    c.in_ok-up.ensures.steps c.in_ok-up.ensures.whole
    (stopped_after_one (event.Act c.args.number) c.in_ok-act.act c.step_whole.new.world c.step_whole-2.new.world c.step_whole-3.new.world
    c.in_ok-act.ensures.steps c.in_ok-act.ensures.whole c.in_err-down.ensures.stopped))

pub returns-clause-runs : goal.returns-clause-runs
returns-clause-runs c =
    exchanged c.args.number c.args.world.now c.step_whole.new.world c.step_whole-2.new.world c.step_whole-3.new.world c.in_ok-up.up c.in_ok-act.act c.in_ok-down.down
    c.is_skipped.result c.is_skipped-2.result c.is_skipped-3.result c.in_ok-up.ensures.steps c.in_ok-up.ensures.whole c.in_ok-act.ensures.steps
    c.in_ok-act.ensures.whole c.in_ok-down.ensures.steps c.in_ok-down.ensures.whole c.is_skipped.ensures c.is_skipped-2.ensures c.is_skipped-3.ensures

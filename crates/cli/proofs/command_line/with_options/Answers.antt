use Rattle.cli.proofs.ClapJobs.{argument_more, no_argument_more}
use Rattle.cli.proofs.command_line.with_options.Goals as goal

pub loop-option-preserved : goal.loop-option-preserved
loop-option-preserved c = λ new adds.
    c.loop-option.invariant new
    (argument_more _ c.args.options.now c.loop-option.option-index _ c.loop-option-test.true c.argument.result c.loop-option.job c.in_ok-job.job new
    c.argument.ensures c.in_ok-job.ensures adds)

pub returns : goal.returns
returns c =
    c.loop-option.invariant c.loop-option.job (no_argument_more _ c.args.options.now c.loop-option.option-index c.loop-option-test.false c.loop-option.job)

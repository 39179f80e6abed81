use Rattle.cli.proofs.ClapJobs.{job_more, no_job_more}
use Rattle.cli.proofs.command_line.with_jobs.Goals as goal

pub loop-topic-preserved : goal.loop-topic-preserved
loop-topic-preserved c = λ new adds.
    c.loop-topic.invariant new
    (job_more _ c.args.jobs.now c.loop-topic.topic-index _ c.loop-topic-test.true c.loop-topic.command c.in_ok-command.command new
    c.in_ok-command.ensures adds)

pub returns : goal.returns
returns c =
    c.loop-topic.invariant c.loop-topic.command (no_job_more _ c.args.jobs.now c.loop-topic.topic-index c.loop-topic-test.false c.loop-topic.command)

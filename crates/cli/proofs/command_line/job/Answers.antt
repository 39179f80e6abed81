use Rattle.std.proofs.lemmas.Result.{IfOk-weaker}
use Rattle.cli.proofs.ClapJobs.{job_made}
use Rattle.cli.proofs.command_line.job.Goals as goal

pub returns : goal.returns
returns c =
    IfOk-weaker c.with_options.result _ _
    (λ new adds. job_made c.args.topic _ _ c.new-bare.result new c.name_of.ensures c.options_of.ensures
    (record { is = c.new-bare.ensures.app; local = c.new-bare.ensures.local }) adds)
    c.with_options.ensures

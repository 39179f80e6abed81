use Rattle.std.proofs.lemmas.Result.{IfOk-weaker}
use Rattle.cli.proofs.command_line.with_job.Goals as goal

pub returns : goal.returns
returns c = IfOk-weaker c.subcommand.result _ _ (λ new adds. (c.in_ok-job.field-0, c.in_ok-job.ensures, adds)) c.subcommand.ensures

use Rattle.std.proofs.Common.{[], map, true}
use Rattle.std.proofs.lemmas.Result.{IfOk-weaker}
use Rattle.clap.specs.Simple.{App}
use Rattle.cli.specs.Topics.{jobs}
use Rattle.cli.specs.Words.{job_shape, program}
use Rattle.cli.proofs.ClapJobs.{all_gained}
use Rattle.cli.proofs.command_line.program.Goals as goal

abbrev bare : App
bare = record program { top = record program.top { is_leaf = true }; subs = [] }

pub returns : goal.returns
returns c =
    IfOk-weaker c.with_jobs.result _ _ (λ new adds. all_gained bare (map job_shape jobs) c.in_ok-bare.field-0 new c.in_ok-bare.ensures adds)
    c.with_jobs.ensures

use Rattle.std.proofs.Common.{◌∙◌, ap, inl, inr, map, string_bytes, Some, None}
use Rattle.clap.specs.Values.{kind_of}
use Rattle.cli.specs.Words.{job_by_kind}
use Rattle.cli.proofs.ClapJobs.{asked, asked_job, job_is}
use Rattle.cli.proofs.command_line.words.Goals as goal

pub returns-in-Some-clause-job : goal.returns-in-Some-clause-job
returns-in-Some-clause-job c =
    job_is (map string_bytes c.args.words.now) c.in-Ok.matches c.in-Ok.ensures.matches (Some c.in-Some.job) c.in-Some.ensures

pub returns-in-Ok-clause-fault : goal.returns-in-Ok-clause-fault
returns-in-Ok-clause-fault c =
    inr (job_is (map string_bytes c.args.words.now) c.in-Ok.matches c.in-Ok.ensures.matches None c.in-None.ensures)

pub returns-in-Some-job_by_kind-clause-job : goal.returns-in-Some-job_by_kind-clause-job
returns-in-Some-job_by_kind-clause-job c =
    let words = map string_bytes c.args.words.now in
    asked_job words (kind_of c.in-Err.error) c.in-Err.ensures.kind c.in-Some-job_by_kind.job
    (c.in-Some-job_by_kind.ensures ∙ ap (job_by_kind words) c.kind.ensures)

pub returns-clause-fault : goal.returns-clause-fault
returns-clause-fault c =
    let words = map string_bytes c.args.words.now in
    elim (asked words (kind_of c.in-Err.error) c.in-Err.ensures.kind None (c.in-None-job_by_kind.ensures ∙ ap (job_by_kind words) c.kind.ensures)) [
      | inl memory ↦ inl (c.not_taken.ensures memory)
      | inr none ↦ inr none
    ]

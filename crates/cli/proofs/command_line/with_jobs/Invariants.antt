use Rattle.std.proofs.Common.{drop, map}
use Rattle.clap.specs.declared.builder.command.Command.{Command}
use Rattle.cli.specs.ClapCommands.{AddsJobs}
use Rattle.cli.specs.Words.{job_shape}
use Rattle.cli.proofs.command_line.with_jobs.Given as goal

abbrev pub invariant-loop-topic : goal.invariant-loop-topic
invariant-loop-topic l = (new : Command) → AddsJobs (map job_shape (drop l.topic-index l.jobs)) l.command new → AddsJobs (map job_shape l.jobs) l.initial.command new

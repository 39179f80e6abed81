use Rattle.std.proofs.Common.{drop, map}
use Rattle.clap.specs.declared.builder.command.Command.{Command}
use Rattle.cli.specs.ClapCommands.{AddsArguments}
use Rattle.cli.specs.Topics.{row_of}
use Rattle.cli.specs.Words.{option_rule}
use Rattle.cli.proofs.command_line.with_options.Given as goal

abbrev pub invariant-loop-option : goal.invariant-loop-option
invariant-loop-option l = (new : Command) → AddsArguments (map (λ option. option_rule (row_of option)) (drop l.option-index l.options)) l.job new
    → AddsArguments (map (λ option. option_rule (row_of option)) l.options) l.initial.job new

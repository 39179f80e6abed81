use Rattle.std.proofs.Common.{◌≡◌, ◌∙◌, ap, rules, false, true}
use Rattle.std.proofs.lemmas.Result.{IfOk-weaker}
use Rattle.clap.specs.Simple.{App, app_of_fields}
use Rattle.clap.specs.declared.builder.command.Command.{Command}
use Rattle.clap.specs.declared.builder.command.Command.TheViews.{out-Command}
use Rattle.clap.specs.declared.builder.command.Command.TheOpen.{Command-F}
use Rattle.cli.proofs.command_line.bare.Goals as goal

pub returns : goal.returns
returns c =
    let local : (out-Command c.version-own_help.result).has_globals ≡ false = search rules in
    IfOk-weaker c.bin_name.result _ _
    (λ new named. record {
      is = ap app_of_fields named.0
          ∙ (ap app_of_fields c.version-own_help.ensures
          ∙ ap (λ (a : App). record a { top = record a.top { has_version = true } }) (ap app_of_fields c.disable_help_subcommand.ensures
          ∙ ap (λ (a : App). record a { top = record a.top { disable_help_subcommand = true } }) (ap app_of_fields c.no_binary_name-command.ensures
          ∙ ap (λ (a : App). record a { top = record a.top { no_binary_name = true } }) c.new.ensures.app)));
      local = ap (λ (f : Command-F Command). f.has_globals) named.0 ∙ local;
    })
    c.bin_name.ensures

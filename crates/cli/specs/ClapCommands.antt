-- The command line (specs/Words) as values of the crate clap.
use Rattle.std.specs.Prelude.{◌≡◌, ◌⊎◌, ℕ, List, [], ◌∷◌, true, false}
use Rattle.clap.specs.Built.{AddsArg, AddsSubcommand}
use Rattle.clap.specs.Faults.{fault_of}
use Rattle.clap.specs.Kinds.{IsAmong}
use Rattle.clap.specs.Walk.{Rule, rule_of}
use Rattle.clap.specs.Simple.{App, Shape, app_of, subcommand_of, subcommand_rows_of}
use Rattle.clap.specs.declared.builder.arg.Arg.{Arg}
use Rattle.clap.specs.declared.builder.command.Command.{Command}
use Rattle.clap.specs.declared.builder.command.Command.TheViews.{out-Command}
use Rattle.clap.specs.declared.error.kind.ErrorKind.{ErrorKind}
use Rattle.clap.specs.declared.error.kind.ErrorKind.TheVariants.{OutOfMemory}
use Rattle.clap.specs.declared.parser.matches.ArgMatches.{ArgMatches}
use Rattle.cli.specs.Words.{program, is_taken}

pub record IsArgument (rule : Rule) (argument : Arg) : Type 0 where
  pub is : rule_of argument ≡ rule
  pub local : argument.global ≡ false

pub record IsCommand (app : App) (command : Command) : Type 0 where
  pub is : app_of command ≡ app
  pub local : (out-Command command).has_globals ≡ false

abbrev pub IsJob : Shape → Command → Type 0
IsJob size command = IsCommand (record { top = size; subs = [] }) command

-- holds if arguments with these rules are added to a job, one after another
abbrev pub AddsArguments : List Rule → Command → Command → Type 0
AddsArguments [] old new = old ≡ new
AddsArguments (rule ∷ rules) old new = (argument : Arg) × (mid : Command) × IsArgument rule argument
    × AddsArg old argument mid × AddsArguments rules mid new

-- holds if a job of this shape is added to a command
abbrev pub AddsJob : Shape → Command → Command → Type 0
AddsJob size old new = (job : Command) × IsJob size job × AddsSubcommand old job new

-- holds if jobs of these shapes are added to a command, one after another
abbrev pub AddsJobs : List Shape → Command → Command → Type 0
AddsJobs [] old new = old ≡ new
AddsJobs (size ∷ shapes) old new = (mid : Command) × AddsJob size old mid × AddsJobs shapes mid new

-- holds if clap accepts the words, and parses them as these matches
pub record IsMatch (words : List (List ℕ)) (matches : ArgMatches) : Type 0 where
  pub taken : is_taken words ≡ true
  pub rows : subcommand_rows_of matches ≡ subcommand_of program words

-- holds if parsing the words may fail with this kind of error
abbrev pub MayFail : List (List ℕ) → ErrorKind → Type 0
MayFail words kind = (kind ≡ OutOfMemory) ⊎ IsAmong kind (fault_of program words)

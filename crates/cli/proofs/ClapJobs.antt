-- Commands of clap that gain a job, and what a parse by the whole command line says.
use Rattle.std.proofs.Common.{◌≡◌, ◌∙◌, ◌⊎◌, refl, sym, ap, ap₂, subst, ℕ, ◌||◌, List, [], ◌∷◌, ◌++◌, true, Bool, inl, inr, Option, Some, append-nil, append_assoc, None, Result, Ok, Err, ◌+◌, ◌<◌, ◌≤◌, length, map, drop, get_or}
use Rattle.std.specs.Prelude.{IfOk, IfErr}
use Rattle.std.proofs.lemmas.List.{drop_more, drop_all}
use Rattle.clap.specs.Built.{AddsArg, AddsSubcommand}
use Rattle.clap.specs.Simple.{App, Shape, HasMatchesOf, new_shape, app_of, with_rule, with_subcommand, is_simple, subcommand_of, subcommand_rows_of}
use Rattle.clap.specs.Faults.{fault_of, is_simple_and_free}
use Rattle.clap.specs.Kinds.{FailsBy, HasKind}
use Rattle.clap.specs.Values.{kind_of}
use Rattle.clap.specs.Walk.{Rule, is_empty}
use Rattle.clap.specs.declared.builder.arg.Arg.{Arg}
use Rattle.clap.specs.declared.builder.command.Command.{Command}
use Rattle.clap.specs.declared.error.Error.{Error}
use Rattle.clap.specs.declared.error.kind.ErrorKind.{ErrorKind}
use Rattle.clap.specs.declared.error.kind.ErrorKind.TheVariants as kind
use Rattle.clap.specs.declared.parser.matches.ArgMatches.{ArgMatches}
use Rattle.clap.proofs.OnLiterals.{clap_on_literals}
use Rattle.cli.specs.Topics.{name_of, options_of, row_of}
use Rattle.cli.specs.Words.{IsJobOf, program, job_by_kind, job_shape, job_taken, option_rule}
use Rattle.cli.specs.ClapCommands.{AddsJob, AddsJobs, AddsArguments, IsCommand, IsJob, IsArgument, IsMatch, MayFail}
use Rattle.jobs.specs.declared.job.Job.{Job}
use Rattle.jobs.specs.declared.job.HelpTopic.{HelpTopic}
use Rattle.cli.specs.declared.job_table.JobOption.{JobOption}

-- ---- commands

pub gains : (app : App) (shape : Shape) (old job new : Command) → IsCommand app old → IsJob shape job → AddsSubcommand old job new
    → IsCommand (with_subcommand app shape) new
gains app shape old job new old_is job_is adds = record {
  is = adds.shape job_is.local ∙ ap₂ with_subcommand old_is.is (ap (λ (a : App). a.top) job_is.is);
  local = adds.globals ∙ ap₂ (λ (a b : Bool). a || b) old_is.local job_is.local;
}

pub takes : (shape : Shape) (rule : Rule) (old new : Command) (option : Arg) → IsJob shape old → IsArgument rule option → AddsArg old option new
    → IsJob (record shape { rules = shape.rules ++ rule ∷ [] }) new
takes shape rule old new option old_is option_is adds = record {
  is = adds.shape option_is.local ∙ ap₂ with_rule old_is.is option_is.is;
  local = adds.globals ∙ ap₂ (λ (a b : Bool). a || b) old_is.local option_is.local;
}

pub all_taken : (shape : Shape) (rules : List Rule) (old new : Command) → IsJob shape old → AddsArguments rules old new
    → IsJob (record shape { rules = shape.rules ++ rules }) new
all_taken shape [] old new old_is adds = rw (append-nil shape.rules) (subst (IsJob shape) adds old_is)
all_taken shape (rule ∷ rules) old new old_is adds =
    rw (sym (append_assoc shape.rules (rule ∷ []) rules))
    (all_taken (record shape { rules = shape.rules ++ rule ∷ [] }) rules adds.1 new (takes shape rule old adds.1 adds.0 old_is adds.2 adds.3) adds.4)

rules_of_rows : (options : List JobOption) → map (λ option. option_rule (row_of option)) options ≡ map option_rule (map row_of options)
rules_of_rows [] = refl
rules_of_rows (option ∷ options) = ap (λ (rules : List Rule). option_rule (row_of option) ∷ rules) (rules_of_rows options)

-- a job of this name with these options
pub job_made : (topic : HelpTopic) (name : List ℕ) (options : List JobOption) (old new : Command)
    → name ≡ name_of topic → map row_of options ≡ options_of topic
    → IsJob (new_shape name) old → AddsArguments (map (λ option. option_rule (row_of option)) options) old new
    → IsJob (job_shape topic) new
job_made topic name options old new name_is options_are old_is adds_options =
    subst (λ (shape : Shape). IsJob shape new)
    (ap₂ (λ (name : List ℕ) (rules : List Rule). record (new_shape name) { rules = rules }) name_is
    (rules_of_rows options ∙ ap (map option_rule) options_are))
    (all_taken (new_shape name) (map (λ option. option_rule (row_of option)) options) old new old_is adds_options)

-- a command that gains jobs of these shapes
abbrev pub with_jobs : App → List Shape → App
with_jobs app [] = app
with_jobs app (shape ∷ shapes) = with_jobs (with_subcommand app shape) shapes

pub all_gained : (app : App) (shapes : List Shape) (old new : Command) → IsCommand app old → AddsJobs shapes old new → IsCommand (with_jobs app shapes) new
all_gained app [] old new old_is adds = subst (IsCommand app) adds old_is
all_gained app (shape ∷ shapes) old new old_is adds =
    let job = adds.1 in
    all_gained (with_subcommand app shape) shapes adds.0 new (gains app shape old job.0 adds.0 old_is job.1 job.2) adds.2

-- ---- lists of words, from a place on

module _ {X : Type 0} (rule_given : X → Rule) (given : List X) (place : ℕ) where
  pub argument_more : (other : X) → place < length given → (option : Arg) (old mid new : Command) → IsArgument (rule_given (get_or given place other)) option
      → AddsArg old option mid → AddsArguments (map rule_given (drop (place + 1) given)) mid new → AddsArguments (map rule_given (drop place given)) old new
  argument_more other below option old mid new is adds others = rw (drop_more given place other below) (option, mid, is, adds, others)

  pub no_argument_more : length given ≤ place → (job : Command) → AddsArguments (map rule_given (drop place given)) job job
  no_argument_more above job = rw (drop_all place given above) refl

module _ {X : Type 0} (shape_given : X → Shape) (given : List X) (place : ℕ) where
  pub job_more : (other : X) → place < length given → (old mid new : Command) → AddsJob (shape_given (get_or given place other)) old mid
      → AddsJobs (map shape_given (drop (place + 1) given)) mid new → AddsJobs (map shape_given (drop place given)) old new
  job_more other below old mid new adds others = rw (drop_more given place other below) (mid, adds, others)

  pub no_job_more : length given ≤ place → (command : Command) → AddsJobs (map shape_given (drop place given)) command command
  no_job_more above command = rw (drop_all place given above) refl

-- ---- parses

is_simple_program : is_simple program ≡ true
unfolding clap_on_literals
is_simple_program = refl

is_free_program : is_simple_and_free program ≡ true
unfolding clap_on_literals
is_free_program = refl

module _ (command : Command) (words : List (List ℕ)) (is : app_of command ≡ program) where
  is_match : (matches : ArgMatches) → HasMatchesOf (app_of command) words matches
      → (is_simple_and_free (app_of command) ≡ true → fault_of (app_of command) words ≡ []) → IsMatch words matches
  is_match matches found sound = record {
    taken = ap is_empty (sym (ap (λ (a : App). fault_of a words) is) ∙ sound (ap is_simple_and_free is ∙ is_free_program));
    rows = (found (ap is_simple is ∙ is_simple_program)).1 ∙ ap (λ (a : App). subcommand_of a words) is;
  }

  may_fail : (error : Error) → (is_simple_and_free (app_of command) ≡ true → HasKind (fault_of (app_of command) words) error)
      → MayFail words (kind_of error)
  may_fail error why = subst (λ (a : App). HasKind (fault_of a words) error) is (why (ap is_simple_and_free is ∙ is_free_program))

  pub parsed : (result : Result ArgMatches Error) → IfOk result (HasMatchesOf (app_of command) words)
      → (is_simple_and_free (app_of command) ≡ true → FailsBy (fault_of (app_of command) words) result)
      → IfOk result (IsMatch words) × IfErr result (λ error. MayFail words (kind_of error))
  parsed (Ok matches) found sound = (is_match matches found sound, tt)
  parsed (Err error) found sound = (tt, may_fail error sound)

-- ---- jobs

pub job_is : (words : List (List ℕ)) (matches : ArgMatches) → IsMatch words matches → (job : Option Job)
    → job ≡ job_taken words (subcommand_rows_of matches) → IsJobOf words job
job_is words matches match job is = inl (record { taken = match.taken; job = sym (is ∙ ap (job_taken words) match.rows) })

-- unless memory was refused, what a kind of error asks for is the words' job
pub asked : (words : List (List ℕ)) (why : ErrorKind) → MayFail words why → (answer : Option Job) → answer ≡ job_by_kind words why
    → (why ≡ kind.OutOfMemory) ⊎ IsJobOf words answer
asked words why may answer is = elim may [
  | inl memory ↦ inl memory
  | inr among ↦ inr (inr (record { kind = why; among = among; job = sym is }))
]

-- a kind of error that asks for a job isn't that of refused memory
pub asked_job : (words : List (List ℕ)) (why : ErrorKind) → MayFail words why → (job : Job) → Some job ≡ job_by_kind words why → IsJobOf words (Some job)
asked_job words why may job is = elim (asked words why may (Some job) is) [
  | inl memory ↦ absurd (let no : Some job ≡ None = is ∙ ap (job_by_kind words) memory in cc)
  | inr is_job ↦ is_job
]

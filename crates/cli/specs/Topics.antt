-- The jobs: their names, options and operands (our profile).
use Rattle.std.specs.Prelude.{ℕ, Bool, true, false, List, [], ◌∷◌, Option, Some, None, codes, bytes_eq, if◌then◌else◌}
use Rattle.jobs.specs.declared.job.HelpTopic.{HelpTopic}
use Rattle.jobs.specs.declared.job.HelpTopic.TheVariants as topic
use Rattle.cli.specs.declared.job_table.JobOption.{JobOption}
use Rattle.cli.specs.declared.job_table.ValueKind.{ValueKind}
use Rattle.cli.specs.declared.job_table.ValueKind.TheVariants as kind

-- ---- names

-- the name of a topic's job; empty for the whole program
abbrev pub name_of : HelpTopic → List ℕ
name_of topic.Program = []
name_of topic.Script = codes "script"
name_of topic.Show = codes "show"
name_of topic.Selfrun = codes "selfrun"
name_of topic.Check = codes "check"
name_of topic.Host = codes "host"
name_of topic.Serve = codes "serve"
name_of topic.Tell = codes "tell"
name_of topic.Term = codes "term"
name_of topic.Operate = codes "operate"
name_of topic.Web = codes "web"
name_of topic.Help = codes "help"
name_of topic.Version = codes "version"

-- the jobs of the program
abbrev pub jobs : List HelpTopic
jobs = topic.Script ∷ topic.Selfrun ∷ topic.Show ∷ topic.Check ∷ topic.Host ∷ topic.Serve ∷ topic.Tell
    ∷ topic.Term ∷ topic.Operate ∷ topic.Web ∷ topic.Help ∷ topic.Version ∷ []

-- the job with this name
abbrev pub topic_named : List ℕ → Option HelpTopic
topic_named name =
    if bytes_eq name (codes "script") then Some topic.Script else
    if bytes_eq name (codes "show") then Some topic.Show else
    if bytes_eq name (codes "selfrun") then Some topic.Selfrun else
    if bytes_eq name (codes "check") then Some topic.Check else
    if bytes_eq name (codes "host") then Some topic.Host else
    if bytes_eq name (codes "serve") then Some topic.Serve else
    if bytes_eq name (codes "tell") then Some topic.Tell else
    if bytes_eq name (codes "term") then Some topic.Term else
    if bytes_eq name (codes "operate") then Some topic.Operate else
    if bytes_eq name (codes "web") then Some topic.Web else
    if bytes_eq name (codes "help") then Some topic.Help else
    if bytes_eq name (codes "version") then Some topic.Version else
    None

-- ---- options

-- whether an option takes a value; a flag doesn't
abbrev pub takes_value : ValueKind → Bool
takes_value kind.Flag = false
takes_value _ = true

-- whether it is an operand, a word without an option's name
abbrev pub is_operand : ValueKind → Bool
is_operand kind.Operand = true
is_operand _ = false

-- an option or operand: its name, the kind of its value, and whether it must be given
pub record OptionRow : Type 0 where
  pub name : List ℕ
  pub kind : ValueKind
  pub required : Bool

abbrev pub row_of : JobOption → OptionRow
row_of option = record { name = option.name.now; kind = option.kind; required = option.required }

abbrev pub needed : List ℕ → ValueKind → OptionRow
needed name kind = record { name = name; kind = kind; required = true }

abbrev pub optional : List ℕ → ValueKind → OptionRow
optional name kind = record { name = name; kind = kind; required = false }

-- the options of a job, and behind them its operands
abbrev pub options_of : HelpTopic → List OptionRow
options_of topic.Script = optional (codes "any-terminal") kind.Flag ∷ []
options_of topic.Show = optional (codes "model") kind.Model ∷ []
options_of topic.Selfrun = optional (codes "turns") kind.Turns ∷ []
options_of topic.Host = needed (codes "port") kind.Port ∷ optional (codes "turns") kind.Turns ∷ []
options_of topic.Serve =
    needed (codes "port") kind.ServicePort ∷ optional (codes "listen") kind.Address
    ∷ optional (codes "panels") kind.File
    ∷ optional (codes "negotiate") kind.Seconds ∷ optional (codes "keepalive") kind.Seconds
    ∷ optional (codes "idle") kind.Seconds
    ∷ optional (codes "application") kind.Url ∷ optional (codes "application-timeout") kind.ReplyTime
    ∷ optional (codes "metrics") kind.ServicePort ∷ optional (codes "control") kind.File
    ∷ optional (codes "drain") kind.Seconds ∷ optional (codes "proxy-protocol") kind.Flag
    ∷ optional (codes "own-terminals") kind.Flag ∷ optional (codes "verify") kind.Flag
    ∷ optional (codes "quiet") kind.Flag ∷ []
options_of topic.Term = needed (codes "port") kind.Port ∷ optional (codes "lu") kind.LuName
    ∷ optional (codes "model") kind.Model ∷ []
options_of topic.Operate =
    needed (codes "port") kind.ServicePort ∷ optional (codes "host") kind.Address ∷ optional (codes "lu") kind.LuName
    ∷ optional (codes "model") kind.Model ∷ optional (codes "colors") kind.Colors
    ∷ optional (codes "keymap") kind.File ∷ optional (codes "escape") kind.Millis
    ∷ optional (codes "quiet-keys") kind.Flag ∷ optional (codes "save") kind.File
    ∷ optional (codes "raw") kind.TtySize ∷ []
options_of topic.Web =
    needed (codes "port") kind.ServicePort ∷ needed (codes "connect") kind.Host
    ∷ optional (codes "listen") kind.Address ∷ optional (codes "origin") kind.Url
    ∷ optional (codes "sessions") kind.Sessions ∷ optional (codes "keep") kind.Seconds
    ∷ optional (codes "per-address") kind.PerAddress ∷ optional (codes "keymap") kind.File ∷ []
options_of topic.Check = optional (codes "file") kind.Operand ∷ []
options_of topic.Tell = needed (codes "socket") kind.Operand ∷ needed (codes "command") kind.Operand
    ∷ optional (codes "first") kind.Operand ∷ optional (codes "second") kind.Operand ∷ []
options_of topic.Help = optional (codes "job") kind.Operand ∷ []
options_of _ = []

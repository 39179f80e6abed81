-- The job of the program's arguments (our profile). The first argument names the job. Its options follow in any order,
-- each at most once. How arguments spell a subcommand and its options is defined in the crate clap's specs/Walk and
-- specs/Faults; the subcommands and options are defined in Topics. clap itself adds `--help` and `-h` at any place, and
-- `--version` in place of a job.
use Rattle.std.specs.Prelude.{◌≡◌, ◌⊎◌, ℕ, Bool, true, false, List, [], ◌∷◌, map, Option, Some, None, codes, bytes_eq, option_map, unwrap_or, if◌then◌else◌}
use Rattle.std.specs.Option.{option_and_then, option_map_or}
use Rattle.std.specs.declared.net.ip_addr.IpAddr.{IpAddr}
use Rattle.clap.specs.Kinds.{IsAmong}
use Rattle.clap.specs.Walk.{Row, Rule, first_of, is_empty}
use Rattle.clap.specs.Simple.{App, Shape, new_rule, new_shape, subcommand_of}
use Rattle.clap.specs.Faults.{fault_of}
use Rattle.clap.specs.declared.builder.action.ArgAction.TheVariants.{SetTrue}
use Rattle.clap.specs.declared.error.kind.ErrorKind.{ErrorKind}
use Rattle.clap.specs.declared.error.kind.ErrorKind.TheVariants as kind
use Rattle.codes3270.specs.declared.size.Model.{Model}
use Rattle.host_core.specs.declared.terminals.Terminals.{Terminals}
use Rattle.host_core.specs.declared.terminals.Terminals.TheVariants.{Any, Verified, Waiting}
use Rattle.tn3270e_msg.specs.Lu.{lu_of}
use Rattle.tty.specs.Looks.{colors_named}
use Rattle.tty.specs.declared.colors.Colors.{Colors}
use Rattle.jobs.specs.OptionValues.{address_count_of, address_of, endpoint_of, escape_time_of, is_same_port, model_of, port_of, reply_time_of, seconds_of, service_port_of, session_count_of, this_machine, tty_size_of, turns_of, usual_address_count, usual_drain, usual_escape, usual_idle, usual_keep, usual_keepalive, usual_colors, usual_model, usual_negotiate, usual_reply_time, usual_sessions, usual_turns}
use Rattle.cli.specs.Topics.{OptionRow, is_operand, jobs, name_of, options_of, takes_value, topic_named}
use Rattle.jobs.specs.declared.job.Job.{Job}
use Rattle.jobs.specs.declared.job.Job.TheVariants as job
use Rattle.jobs.specs.declared.job.CommandWords.{CommandWords}
use Rattle.jobs.specs.declared.job.OperateOptions.{OperateOptions}
use Rattle.jobs.specs.declared.job.WebOptions.{WebOptions}
use Rattle.jobs.specs.declared.job.HelpTopic.{HelpTopic}
use Rattle.jobs.specs.declared.job.HelpTopic.TheVariants as topic
use Rattle.jobs.specs.declared.service.ApplicationChoice.{ApplicationChoice}
use Rattle.jobs.specs.declared.service.ControlChoice.{ControlChoice}
use Rattle.jobs.specs.declared.service.Service.{Service}
use Rattle.jobs.specs.declared.service.TimeLimits.{TimeLimits}
use Rattle.jobs.specs.declared.tty_size.TtySize.{TtySize}
use Rattle.cli.specs.declared.refusal.WordFault.{WordFault}
use Rattle.cli.specs.declared.refusal.WordFault.TheVariants.{Memory}

-- ---- the command line

-- the rule of an option, given as `--port 5000` or `--port=5000`; a flag has no value, and an operand is a value alone
abbrev pub option_rule : OptionRow → Rule
option_rule option = record (new_rule option.name) {
  long = if is_operand option.kind then None else Some option.name;
  required = option.required;
  action = if takes_value option.kind then None else Some SetTrue;
}

-- a job's shape: its name, options and operands
abbrev pub job_shape : HelpTopic → Shape
job_shape topic = record (new_shape (name_of topic)) {
  rules = map option_rule (options_of topic);
}

-- the program; clap's own subcommand `help` isn't used
abbrev pub program : App
program = record {
  top = record (new_shape (codes "panel3270")) {
    no_binary_name = true;
    is_leaf = false;
    disable_help_subcommand = true;
    has_version = true;
  };
  subs = map job_shape jobs;
}

-- ---- the values given

abbrev pub given_port : List Row → Option ℕ
given_port options = option_and_then port_of (first_of (codes "port") options)

abbrev pub given_turns : List Row → Option ℕ
given_turns options = option_map_or turns_of (first_of (codes "turns") options) (Some usual_turns)

-- the value of `--lu`, if it is given; None if the word isn't an LU name
abbrev pub given_lu : List Row → Option (Option (List ℕ))
given_lu options = option_map_or (λ word. option_map Some (lu_of word)) (first_of (codes "lu") options) (Some None)

abbrev pub given_model : List Row → Option Model
given_model options = option_map_or model_of (first_of (codes "model") options) (Some usual_model)

abbrev pub given_escape : List Row → Option ℕ
given_escape options = option_map_or escape_time_of (first_of (codes "escape") options) (Some usual_escape)

abbrev pub given_colors : List Row → Option Colors
given_colors options = option_map_or colors_named (first_of (codes "colors") options) (Some usual_colors)

abbrev pub given_service_port : List Row → Option ℕ
given_service_port options = option_and_then service_port_of (first_of (codes "port") options)

-- the value of an option that is an address; that of this machine if it isn't given
abbrev pub given_address : (name : List ℕ) → List Row → Option IpAddr
given_address name options = option_map_or address_of (first_of name options) (Some this_machine)

-- the value of an option in seconds; `usual` if it isn't given
abbrev pub given_seconds : (name : List ℕ) → (usual : ℕ) → List Row → Option ℕ
given_seconds name usual options = option_map_or seconds_of (first_of name options) (Some usual)

-- the value of `--raw`, if it is given; None if the word isn't a tty size
abbrev pub given_tty : List Row → Option (Option TtySize)
given_tty options = option_map_or (λ word. option_map Some (tty_size_of word))
    (first_of (codes "raw") options) (Some None)

-- the value of `--metrics`, if it is given; None if the word isn't a port number
abbrev pub given_metrics : List Row → Option (Option ℕ)
given_metrics options = option_map_or (λ word. option_map Some (service_port_of word))
    (first_of (codes "metrics") options) (Some None)

-- whether a flag is given: clap gives it the value `true`
abbrev pub is_given : (flag : List ℕ) → List Row → Bool
is_given flag options = option_map_or (λ word. bytes_eq word (codes "true")) (first_of flag options) false

-- the terminals that connect, given whether all are ours, which wait, and whether the host verifies them; None if both
-- are given
abbrev pub terminals_by : (own verify : Bool) → Option Terminals
terminals_by own true = if own then None else Some Verified
terminals_by own false = Some (if own then Waiting else Any)

abbrev pub given_terminals : List Row → Option Terminals
given_terminals options = terminals_by (is_given (codes "own-terminals") options) (is_given (codes "verify") options)

-- the terminals that the host of a script serves: the script's own wait, but the host need not rely on that
abbrev pub given_script_terminals : List Row → Terminals
given_script_terminals options = if is_given (codes "any-terminal") options then Any else Waiting

abbrev pub given_limits : List Row → Option TimeLimits
given_limits options =
    option_and_then (λ negotiate. option_and_then
    (λ keepalive. option_map (λ idle. record { negotiate = negotiate; keepalive = keepalive; idle = idle })
    (given_seconds (codes "idle") usual_idle options))
    (given_seconds (codes "keepalive") usual_keepalive options))
    (given_seconds (codes "negotiate") usual_negotiate options)

abbrev pub given_service : List Row → Option Service
given_service options =
    option_and_then (λ port. option_and_then
    (λ listen. option_and_then (λ limits. option_and_then (λ metrics. option_map (λ terminals. record {
      listen = listen;
      port = port;
      limits = limits;
      terminals = terminals;
      proxy_protocol = is_given (codes "proxy-protocol") options;
      quiet = is_given (codes "quiet") options;
      metrics = metrics;
    }) (given_terminals options)) (given_metrics options)) (given_limits options))
    (given_address (codes "listen") options))
    (given_service_port options)

-- the service; None if a value is invalid, or if the metrics port is the port for terminals
abbrev pub sound_service : List Row → Option Service
sound_service options = option_and_then
    (λ service. if is_same_port service.port service.metrics then None else Some service) (given_service options)

abbrev pub given_live_options : List Row → Option OperateOptions
given_live_options options =
    option_and_then (λ host. option_and_then
    (λ port. option_and_then (λ lu. option_and_then (λ model. option_and_then (λ tty. option_and_then (λ colors. option_map (λ escape. record {
      host = host;
      port = port;
      lu = lu;
      model = model;
      tty = tty;
      colors = colors;
      keymap = first_of (codes "keymap") options;
      escape = escape;
      quiet_keys = is_given (codes "quiet-keys") options;
      save = first_of (codes "save") options;
    }) (given_escape options)) (given_colors options)) (given_tty options)) (given_model options)) (given_lu options)) (given_service_port options))
    (given_address (codes "host") options)

abbrev pub given_sessions : List Row → Option ℕ
given_sessions options = option_map_or session_count_of (first_of (codes "sessions") options) (Some usual_sessions)

abbrev pub given_per_address : List Row → Option ℕ
given_per_address options =
    option_map_or address_count_of (first_of (codes "per-address") options) (Some usual_address_count)

abbrev pub given_web : List Row → Option WebOptions
given_web options =
    option_and_then (λ listen. option_and_then
    (λ port. option_and_then (λ host. option_and_then (λ sessions. option_and_then (λ keep. option_map (λ per_address. record {
      listen = listen;
      port = port;
      host = host;
      origin = first_of (codes "origin") options;
      sessions = sessions;
      keep = keep;
      per_address = per_address;
      keymap = first_of (codes "keymap") options;
    }) (given_per_address options)) (given_seconds (codes "keep") usual_keep options)) (given_sessions options))
    (option_and_then endpoint_of (first_of (codes "connect") options)))
    (given_service_port options))
    (given_address (codes "listen") options)

abbrev pub given_reply_time : List Row → Option ℕ
given_reply_time options = option_map_or reply_time_of (first_of (codes "application-timeout") options)
    (Some usual_reply_time)

-- the application that decides, and the time for its reply
abbrev pub given_application : List Row → Option ApplicationChoice
given_application options =
    option_map (λ reply_time. record { url = first_of (codes "application") options; reply_time = reply_time })
    (given_reply_time options)

-- how the service is controlled
abbrev pub given_control : List Row → Option ControlChoice
given_control options = option_map (λ drain. record { socket = first_of (codes "control") options; drain = drain })
    (given_seconds (codes "drain") usual_drain options)

-- the words of the command that `tell` sends
abbrev pub given_command : List Row → Option CommandWords
given_command options = option_map (λ name. record {
  name = name;
  first = first_of (codes "first") options;
  second = first_of (codes "second") options;
}) (first_of (codes "command") options)

-- the topic after `help`: the whole program if no job is named
abbrev pub given_topic : List Row → Option HelpTopic
given_topic options = option_map_or topic_named (first_of (codes "job") options) (Some topic.Program)

-- ---- jobs

-- the job of a topic with these options
abbrev pub job_of : HelpTopic → List Row → Option Job
job_of topic.Program options = None
job_of topic.Script options = Some (job.Script (given_script_terminals options))
job_of topic.Show options = option_map (λ model. job.Show model) (given_model options)
job_of topic.Selfrun options = option_map (λ turns. job.Selfrun turns) (given_turns options)
job_of topic.Check options = Some (job.Check (first_of (codes "file") options))
job_of topic.Host options = option_and_then (λ port. option_map (λ turns. job.Host port turns) (given_turns options))
    (given_port options)
job_of topic.Serve options =
    option_and_then (λ service. option_and_then (λ application. option_map
    (λ control. job.Serve service (first_of (codes "panels") options) application control) (given_control options))
    (given_application options)) (sound_service options)
job_of topic.Tell options = option_and_then (λ socket. option_map (λ command. job.Tell socket command)
    (given_command options)) (first_of (codes "socket") options)
job_of topic.Term options =
    option_and_then (λ port. option_and_then (λ lu. option_map (λ model. job.Term port lu model) (given_model options))
    (given_lu options)) (given_port options)
job_of topic.Operate options = option_map (λ live. job.Operate live) (given_live_options options)
job_of topic.Web options = option_map (λ web. job.Web web) (given_web options)
job_of topic.Help options = option_map (λ topic. job.Help topic) (given_topic options)
job_of topic.Version options = Some job.Version

abbrev pub job_named : List ℕ → List Row → Option Job
job_named name options = option_and_then (λ topic. job_of topic options) (topic_named name)

-- the job of a parse; `script` if there are no arguments
abbrev pub job_by : Option (List ℕ × List Row) → Option Job
job_by None = Some (job.Script Waiting)
job_by (Some named) = job_named named.0 named.1

-- Whether the last word is the `--` that ends the options. `dashes`: the word before these is `--`.
abbrev pub ends_by_dashes : (dashes : Bool) → List (List ℕ) → Bool
ends_by_dashes dashes [] = dashes
ends_by_dashes dashes (word ∷ words) = ends_by_dashes (bytes_eq word (codes "--")) words

-- the job of words that clap accepts
abbrev pub job_taken : List (List ℕ) → Option (List ℕ × List Row) → Option Job
job_taken words named = if ends_by_dashes false words then None else job_by named

-- the topic of `--help`: the job whose option it is
abbrev pub topic_of : List (List ℕ) → HelpTopic
topic_of [] = topic.Program
topic_of (word ∷ words) = unwrap_or (topic_named word) topic.Program

-- whether clap accepts the arguments
abbrev pub is_taken : List (List ℕ) → Bool
is_taken words = is_empty (fault_of program words)

-- what arguments that clap doesn't accept ask for, by the kind of its error: help, the version, or no job
abbrev pub job_by_kind : List (List ℕ) → ErrorKind → Option Job
job_by_kind words kind.DisplayHelp = Some (job.Help (topic_of words))
job_by_kind words kind.DisplayVersion = Some job.Version
job_by_kind words _ = None

-- holds if clap accepts the arguments, and this is their job, if any
pub record IsTakenFor (words : List (List ℕ)) (answer : Option Job) : Type 0 where
  pub taken : is_taken words ≡ true
  pub job : job_taken words (subcommand_of program words) ≡ answer

-- Holds if clap doesn't accept the arguments, and this is what a kind of its error asks for. There is one kind, except
-- for a word that may be an unknown job or an unknown option, which asks for nothing in either case.
pub record IsAskedFor (words : List (List ℕ)) (answer : Option Job) : Type 0 where
  pub kind : ErrorKind
  pub among : IsAmong kind (fault_of program words)
  pub job : job_by_kind words kind ≡ answer

-- holds if this is the job of the arguments; None if they are refused
abbrev pub IsJobOf : List (List ℕ) → Option Job → Type 0
IsJobOf words answer = IsTakenFor words answer ⊎ IsAskedFor words answer

-- holds if the arguments give no job for this reason: memory was refused, or they are refused
abbrev pub HasNoJob : List (List ℕ) → WordFault → Type 0
HasNoJob words fault = (fault ≡ Memory) ⊎ IsJobOf words None

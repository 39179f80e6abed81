-- What the lines of a script do to a world, and what they print (our profile). specs/ScriptLines defines their
-- commands.
use Rattle.std.specs.Prelude.{◌≡◌, ◌+◌, ℕ, Bool, true, false, is_some, nat_lt, length, List, [], ◌∷◌, ◌++◌, Option, None, Some, chars, if◌then◌else◌}
use Rattle.codes3270.specs.declared.size.Model.{Model}
use Rattle.codes3270.specs.declared.size.Model.TheVariants.{M2, M3, M4, M5}
use Rattle.host_core.specs.declared.question.Answer.{Answer}
use Rattle.panels.specs.Panel.{Panels}
use Rattle.term_core.specs.ScreenText.{screen_text}
use Rattle.term_core.specs.State.{Terminal, phase_of}
use Rattle.world3270.specs.model.ByteRuns.{AllHappen}
use Rattle.world3270.specs.model.ByteWorld.{ByteWorld, slot_at}
use Rattle.world3270.specs.declared.event.Event.{Event}
use Rattle.world3270.specs.declared.event.Event.TheVariants as event
use Rattle.applications.specs.AnswerLines.{answer_in}
use Rattle.scripts.specs.Happenings.{AreRounds, AreTyped, Happening, TakePlace, answers_text, events_of, most_rounds}
use Rattle.jobs.specs.HexLines.{lines_of}
use Rattle.scripts.specs.Operating.{phase_line}
use Rattle.applications.specs.QuestionLines.{question_on, question_text, ticket_on}
use Rattle.scripts.specs.ScriptLines.{script_command, typed_text}
use Rattle.scripts.specs.declared.script_line.ScriptCommand.{ScriptCommand}
use Rattle.scripts.specs.declared.script_line.ScriptCommand.TheVariants as command

-- the models of the terminals of a script, by terminal number
abbrev pub terminal_models : List Model
terminal_models = M2 ∷ M3 ∷ M4 ∷ M5 ∷ []

-- the number of these terminals
abbrev pub terminal_count : ℕ
terminal_count = length terminal_models

-- ---- the command of a line

-- whether the terminal of a `show` or `status` has a number below `terminals`; true for other commands
abbrev pub is_in_range : ℕ → ScriptCommand → Bool
is_in_range terminals (command.Show terminal) = nat_lt terminal terminals
is_in_range terminals (command.Status terminal) = nat_lt terminal terminals
is_in_range terminals _ = true

abbrev pub if_in_range : ℕ → Option ScriptCommand → Option ScriptCommand
if_in_range terminals None = None
if_in_range terminals (Some command) = if is_in_range terminals command then Some command else None

-- the command of a line in a world of this number of terminals; the operand of an `answer` isn't checked yet
abbrev pub command_in_range : ℕ → List ℕ → Option ScriptCommand
command_in_range terminals line = if_in_range terminals (script_command line)

-- whether the operand of an `answer` is valid; true for other commands
abbrev pub is_understood : Panels → ScriptCommand → List ℕ → Bool
is_understood panels (command.Answer conn) line = is_some (answer_in panels (typed_text line))
is_understood panels _ line = true

abbrev pub if_understood : Panels → Option ScriptCommand → List ℕ → Option ScriptCommand
if_understood panels None line = None
if_understood panels (Some command) line = if is_understood panels command line then Some command else None

-- the command of a line in a world of these panels and this number of terminals; None if the line is invalid
abbrev pub playable_command : Panels → ℕ → List ℕ → Option ScriptCommand
playable_command panels terminals line = if_understood panels (command_in_range terminals line) line

-- ---- what a line does

-- the event that answers the open question of a connection
abbrev pub answer_events : ℕ → ByteWorld → Option Answer → List Event
answer_events conn world None = []
answer_events conn world (Some answer) = event.Answer conn (ticket_on conn world.host) answer ∷ []

-- holds for the events of a command in a world, with their answers
abbrev pub AreHappeningsOf : ScriptCommand → List ℕ → ByteWorld → List Happening → Type 0
AreHappeningsOf command.Nothing line old happenings = happenings ≡ []
AreHappeningsOf (command.Happen event) line old happenings = events_of happenings ≡ event ∷ []
AreHappeningsOf (command.TypeText terminal) line old happenings = AreTyped terminal (chars (typed_text line)) happenings
AreHappeningsOf (command.Answer conn) line old happenings =
    events_of happenings ≡ answer_events conn old (answer_in old.host.panels (typed_text line))
AreHappeningsOf command.Settle line old happenings = AreRounds most_rounds happenings
AreHappeningsOf (command.Show terminal) line old happenings = happenings ≡ []
AreHappeningsOf (command.Status terminal) line old happenings = happenings ≡ []
AreHappeningsOf (command.Question conn) line old happenings = happenings ≡ []

abbrev pub terminal_of : ℕ → ByteWorld → Terminal
terminal_of terminal world = (slot_at terminal world).tracked.terminal

-- the output of these events, and of the world after them
abbrev pub said_of : ScriptCommand → List Happening → ByteWorld → List ℕ
said_of command.Nothing happenings world = []
said_of (command.Happen event) happenings world = answers_text happenings
said_of (command.TypeText terminal) happenings world = answers_text happenings
said_of (command.Answer conn) happenings world = answers_text happenings
said_of command.Settle happenings world = []
said_of (command.Show terminal) happenings world = screen_text (terminal_of terminal world).station
said_of (command.Status terminal) happenings world = phase_line (phase_of (terminal_of terminal world).link)
said_of (command.Question conn) happenings world = question_text world.host.panels (question_on conn world.host)

-- holds if a command is executed, with these events and this output
pub record PlaysLine (command : ScriptCommand) (line : List ℕ) (old : ByteWorld) (happenings : List Happening)
    (said : List ℕ) (new : ByteWorld) : Type 0 where
  pub are_happenings : AreHappeningsOf command line old happenings
  pub take_place : TakePlace happenings old new
  pub said_is : said ≡ said_of command happenings new

-- holds if a line is executed, and its output is appended to the text
pub record PrintsLine (command : ScriptCommand) (line : List ℕ) (old new : ByteWorld)
    (before behind : List ℕ) : Type 0 where
  pub happenings : List Happening
  pub said : List ℕ
  pub plays : PlaysLine command line old happenings said new
  pub printed : behind ≡ before ++ said

-- holds if the line is executed, or if it is invalid and nothing happens
abbrev pub PrintsIf : Bool → ScriptCommand → List ℕ → (old new : ByteWorld) (before behind : List ℕ) → Type 0
PrintsIf true command line old new before behind =
    (is_understood old.host.panels command line ≡ true) × PrintsLine command line old new before behind
PrintsIf false command line old new before behind =
    (is_understood old.host.panels command line ≡ false) × (new ≡ old) × (behind ≡ before)

-- holds if an `answer` is executed, or if its operand is invalid and nothing happens
abbrev pub GivesAnswer : Bool → ℕ → List ℕ → (old new : ByteWorld) (before behind : List ℕ) → Type 0
GivesAnswer true conn said old new before behind =
    (is_some (answer_in old.host.panels said) ≡ true)
    × ((happenings : List Happening) × (events_of happenings ≡ answer_events conn old (answer_in old.host.panels said))
    × TakePlace happenings old new
    × (behind ≡ before ++ answers_text happenings))
GivesAnswer false conn said old new before behind =
    (is_some (answer_in old.host.panels said) ≡ false) × (new ≡ old) × (behind ≡ before)

-- ---- what lines do

-- Holds if a line is invalid and the script ends with its number, or if it is executed, and the other lines after it.
abbrev pub PlaysNext : Option ScriptCommand → ℕ → List ℕ → (ByteWorld → List Happening → List ℕ → Type 0)
    → ByteWorld → List Happening → List ℕ → Option ℕ → ByteWorld → Type 0
PlaysNext None number line Others old happenings printed stopped new = (happenings ≡ []) × (printed ≡ [])
    × (stopped ≡ Some number) × (new ≡ old)
PlaysNext (Some command) number line Others old happenings printed stopped new =
    (mid : ByteWorld) × (front back : List Happening) × (said behind : List ℕ)
    × PlaysLine command line old front said mid × Others mid back behind
    × (happenings ≡ front ++ back) × (printed ≡ said ++ behind)

-- Holds if these lines do and print this. `number`: of the first line; `stopped`: of the invalid line, if any.
abbrev pub Plays : ℕ → List (List ℕ) → ByteWorld → List Happening → List ℕ → Option ℕ → ByteWorld → Type 0
Plays number [] old happenings printed stopped new = (happenings ≡ []) × (printed ≡ []) × (stopped ≡ None) × (new ≡ old)
Plays number (line ∷ lines) old happenings printed stopped new =
    PlaysNext (playable_command old.host.panels (length old.slots) line) number line
    (λ mid back behind. Plays (number + 1) lines mid back behind stopped new)
    old happenings printed stopped new

-- Holds if a script is played up to its first invalid line, if any. All its events are one run of events.
pub record IsPlayed (script : List ℕ) (old : ByteWorld) (printed : List ℕ) (stopped : Option ℕ)
    (new : ByteWorld) : Type 0 where
  pub happenings : List Happening
  pub plays : Plays 1 (lines_of script) old happenings printed stopped new
  pub run : AllHappen (events_of happenings) old new

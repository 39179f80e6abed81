-- What follows for lines (our profile).
use Rattle.std.specs.Prelude.{◌≡◌, ℕ, List, ◌++◌, Ok}
use Rattle.service_wire.specs.Answers.{IsAnswer, answer_line}
use Rattle.service_wire.specs.Commands.{IsCommand, command_in, line_of}
use Rattle.service_wire.specs.Lines.{Received, received}
use Rattle.service_wire.specs.declared.answer.Status.{Status}
use Rattle.service_wire.specs.declared.command.Command.{Command}

-- how bytes are cut into pieces doesn't matter
abbrev pub CutsDontMatter : Type 0
CutsDontMatter = (before : Received) (front back : List ℕ)
    → received (received before front) back ≡ received before (front ++ back)

-- a command's line is read as this command
abbrev pub CommandIsReadBack : Type 0
CommandIsReadBack = (command : Command) → IsCommand command → command_in (line_of command) ≡ Ok command

-- an answer's line is read as this answer
abbrev pub AnswerIsReadBack : Type 0
AnswerIsReadBack = (status : Status) (text : List ℕ) → IsAnswer (answer_line status text) status text

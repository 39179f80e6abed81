-- The commands of a terminal's script as text (our profile): those of a script (ScriptLines) without the number, since
-- there is only one terminal; and one that waits for the host.
use Rattle.std.specs.Prelude.{ℕ, List, [], ◌∷◌, Option, Some, None, if◌then◌else◌, bytes_eq, codes}
use Rattle.std.specs.Option.{option_map}
use Rattle.keyboard.specs.KeyNames.{key_named}
use Rattle.jobs.specs.HexLines.{words_of}
use Rattle.jobs.specs.LineParts.{behind}
use Rattle.scripts.specs.declared.term_line.TerminalCommand.{TerminalCommand}
use Rattle.scripts.specs.declared.term_line.TerminalCommand.TheVariants.{Nothing, TypeText, Press, Wait, Show, Status}

-- the command of a verb without an operand
abbrev pub command_of_verb : List ℕ → Option TerminalCommand
command_of_verb verb =
    if bytes_eq verb (codes "") then Some Nothing else
    if bytes_eq verb (codes "wait") then Some Wait else
    if bytes_eq verb (codes "show") then Some Show else
    if bytes_eq verb (codes "status") then Some Status else
    None

-- the command of a verb and the text after the first blank
abbrev pub command_of_text : List ℕ → List ℕ → Option TerminalCommand
command_of_text verb text =
    if bytes_eq verb (codes "type") then Some TypeText else
    if bytes_eq verb (codes "key") then option_map Press (key_named text) else
    None

-- The command of a line with these words; None if there is no such command. `text` is the text after the first blank.
abbrev pub command_of_words : List (List ℕ) → (text : List ℕ) → Option TerminalCommand
command_of_words [] text = None
command_of_words (verb ∷ []) text = command_of_verb verb
command_of_words (verb ∷ next ∷ more) text = command_of_text verb text

-- the command of a line; None if the line is invalid
unfoldable pub terminal_command : List ℕ → Option TerminalCommand
terminal_command line = command_of_words (words_of line) (behind line)

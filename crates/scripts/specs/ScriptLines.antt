-- The commands of a script as text (our profile). A line is words separated by one blank each: a verb, then the number
-- of a terminal or a connection, then the verb's operand.
use Rattle.std.specs.Prelude.{ℕ, List, [], ◌∷◌, Option, Some, None, if◌then◌else◌, bytes_eq, codes, chars}
use Rattle.std.specs.Option.{option_and_then, option_map}
use Rattle.codes3270.specs.CodePage.{code_of}
use Rattle.keyboard.specs.KeyNames.{key_named}
use Rattle.tn3270e_msg.specs.Lu.{lu_of}
use Rattle.world3270.specs.model.NoteTexts.{note_text}
use Rattle.world3270.specs.declared.event.Event.TheVariants.{Key, Up, Down, Act, Note, Lose, HostSees, TermSees, Connect, RestartTerm, RestartHost}
use Rattle.jobs.specs.HexLines.{words_of}
use Rattle.jobs.specs.LineParts.{behind, number_of}
use Rattle.scripts.specs.declared.script_line.ScriptCommand.{ScriptCommand}
use Rattle.scripts.specs.declared.script_line.ScriptCommand.TheVariants.{Nothing, Happen, TypeText, Answer, Settle, Show, Status, Question}

-- ---- parts of a line

-- the text after the second blank
abbrev pub typed_text : List ℕ → List ℕ
typed_text line = behind (behind line)

-- a code before other codes; None unless both are given
abbrev pub code_before : Option ℕ → Option (List ℕ) → Option (List ℕ)
code_before None codes = None
code_before (Some code) None = None
code_before (Some code) (Some codes) = Some (code ∷ codes)

-- the characters' codes in code page 037; None unless each has one
abbrev pub coded : List ℕ → Option (List ℕ)
coded [] = Some []
coded (char ∷ text) = code_before (code_of char) (coded text)

-- the note with this text; None if a note can't contain it
unfoldable pub note_of : List ℕ → Option (List ℕ)
note_of text = option_and_then note_text (coded (chars text))

-- ---- the verbs

-- the command of a verb without operands
abbrev pub command_of_verb : List ℕ → Option ScriptCommand
command_of_verb verb =
    if bytes_eq verb (codes "") then Some Nothing else
    if bytes_eq verb (codes "settle") then Some Settle else
    if bytes_eq verb (codes "restarthost") then Some (Happen RestartHost) else
    None

-- the command of a verb and a number
abbrev pub command_of_number : List ℕ → ℕ → Option ScriptCommand
command_of_number verb number =
    if bytes_eq verb (codes "connect") then Some (Happen (Connect number None)) else
    if bytes_eq verb (codes "act") then Some (Happen (Act number)) else
    if bytes_eq verb (codes "lose") then Some (Happen (Lose number)) else
    if bytes_eq verb (codes "hostsees") then Some (Happen (HostSees number)) else
    if bytes_eq verb (codes "termsees") then Some (Happen (TermSees number)) else
    if bytes_eq verb (codes "restartterm") then Some (Happen (RestartTerm number)) else
    if bytes_eq verb (codes "show") then Some (Show number) else
    if bytes_eq verb (codes "status") then Some (Status number) else
    if bytes_eq verb (codes "question") then Some (Question number) else
    None

-- the command of a verb, a number, and the text after the second blank
abbrev pub command_of_text : List ℕ → ℕ → List ℕ → Option ScriptCommand
command_of_text verb number text =
    if bytes_eq verb (codes "connect") then option_map (λ lu. Happen (Connect number (Some lu))) (lu_of text) else
    if bytes_eq verb (codes "type") then Some (TypeText number) else
    if bytes_eq verb (codes "key") then option_map (λ key. Happen (Key number key)) (key_named text) else
    if bytes_eq verb (codes "up") then option_map (λ count. Happen (Up number count)) (number_of text) else
    if bytes_eq verb (codes "down") then option_map (λ count. Happen (Down number count)) (number_of text) else
    if bytes_eq verb (codes "note") then option_map (λ note. Happen (Note number note)) (note_of text) else
    if bytes_eq verb (codes "answer") then Some (Answer number) else
    None

-- ---- lines

-- The command of a line with these words; None if there is no such command. `text` is the text after the second blank.
abbrev pub command_of_words : List (List ℕ) → (text : List ℕ) → Option ScriptCommand
command_of_words [] text = None
command_of_words (verb ∷ []) text = command_of_verb verb
command_of_words (verb ∷ number ∷ []) text = option_and_then (command_of_number verb) (number_of number)
command_of_words (verb ∷ number ∷ next ∷ more) text = option_and_then (λ number. command_of_text verb number text)
    (number_of number)

-- the command of a line; None if the line is invalid
unfoldable pub script_command : List ℕ → Option ScriptCommand
script_command line = command_of_words (words_of line) (typed_text line)

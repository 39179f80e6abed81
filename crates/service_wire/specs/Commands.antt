-- Which line is which command (our profile). Words are separated by one blank each, and a text is the rest of the line.
use Rattle.std.specs.Prelude.{◌≡◌, ℕ, List, [], ◌∷◌, ◌++◌, Option, None, Some, option_map, Result, Ok, Err, ⊤, bytes_eq, codes, true, if◌then◌else◌}
use Rattle.tn3270e_msg.specs.Lu.{is_lu, lu_of}
use Rattle.tn3270e_msg.specs.Words.{lu_text}
use Rattle.service_wire.specs.Lines.{first_word, operand_of}
use Rattle.service_wire.specs.Texts.{is_text, text_of, text_from}
use Rattle.service_wire.specs.declared.command.Command.{Command}
use Rattle.service_wire.specs.declared.command.Command.TheVariants.{Reload, Drain, Note, Sessions, Stop}
use Rattle.service_wire.specs.declared.command.Recipient.{Recipient}
use Rattle.service_wire.specs.declared.command.Recipient.TheVariants.{Everyone, Only}
use Rattle.service_wire.specs.declared.line_fault.LineFault.{LineFault}
use Rattle.service_wire.specs.declared.line_fault.LineFault.TheVariants.{Unknown, BadLu, BadText}

-- ---- reading

-- the recipient that a word names: `*`, or an LU in upper or lower case
abbrev pub recipient_of : List ℕ → Option Recipient
recipient_of word = if bytes_eq word (codes "*") then Some Everyone else option_map Only (lu_of word)

-- the text that is given, the empty one if none is
abbrev pub given_text : Option (List ℕ) → Option (List ℕ)
given_text None = Some []
given_text (Some text) = text_of text

abbrev pub note_of : Option Recipient → Option (List ℕ) → Result Command LineFault
note_of None text = Err BadLu
note_of (Some to) None = Err BadText
note_of (Some to) (Some text) = Ok (Note to text)

abbrev pub drain_of : Option (List ℕ) → Result Command LineFault
drain_of None = Err BadText
drain_of (Some text) = Ok (Drain text)

-- the command of one word
abbrev pub command_of_word : List ℕ → Result Command LineFault
command_of_word word =
    if bytes_eq word (codes "reload") then Ok Reload else
    if bytes_eq word (codes "sessions") then Ok Sessions else
    if bytes_eq word (codes "stop") then Ok Stop else
    if bytes_eq word (codes "drain") then Ok (Drain []) else
    Err Unknown

-- the command of a word and what follows it
abbrev pub command_with : (word operand : List ℕ) → Result Command LineFault
command_with word operand =
    if bytes_eq word (codes "drain") then drain_of (text_of operand) else
    if bytes_eq word (codes "note")
    then note_of (recipient_of (first_word operand)) (given_text (operand_of operand)) else
    Err Unknown

-- the command of a line in which this operand follows the first word, if there is one
abbrev pub command_of : (line : List ℕ) → (operand : Option (List ℕ)) → Result Command LineFault
command_of line None = command_of_word line
command_of line (Some operand) = command_with (first_word line) operand

-- the command of a line without LF
abbrev pub command_in : List ℕ → Result Command LineFault
command_in line = command_of line (operand_of line)

-- ---- writing

-- a recipient's word
abbrev pub recipient_text : Recipient → List ℕ
recipient_text Everyone = codes "*"
recipient_text (Only lu) = lu_text lu

-- a blank and a text; nothing for the empty text
abbrev pub with_blank : List ℕ → List ℕ
with_blank [] = []
with_blank (code ∷ codes) = 0x20 ∷ text_from (code ∷ codes)

-- a command's line without LF
abbrev pub line_of : Command → List ℕ
line_of Reload = codes "reload"
line_of (Drain text) = codes "drain" ++ with_blank text
line_of (Note to text) = codes "note " ++ (recipient_text to ++ with_blank text)
line_of Sessions = codes "sessions"
line_of Stop = codes "stop"

-- holds if the command's LU name and text are such
abbrev pub IsCommand : Command → Type 0
IsCommand (Drain text) = is_text text ≡ true
IsCommand (Note Everyone text) = is_text text ≡ true
IsCommand (Note (Only lu) text) = (is_lu lu ≡ true) × (is_text text ≡ true)
IsCommand _ = ⊤

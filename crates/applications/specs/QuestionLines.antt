-- The open question of a connection, and how a script prints it (our profile).
use Rattle.std.specs.Prelude.{ℕ, ◌+◌, ◌/◌, ◌%◌, nat_lt, List, [], ◌++◌, Option, Some, None, if◌then◌else◌, codes, slice_get, unwrap_or}
use Rattle.std.specs.Char.{encode_utf8}
use Rattle.std.specs.Fmt.{decimal}
use Rattle.std.specs.List.{flat_map}
use Rattle.std.specs.Option.{option_map_or}
use Rattle.codes3270.specs.Size.{ScreenSize}
use Rattle.host_core.specs.Application.{application_of}
use Rattle.host_core.specs.Questions.{fields_asked, question_of}
use Rattle.host_core.specs.State.{Host, most_connections, state_at, session_at}
use Rattle.host_core.specs.declared.question.Question.{Question}
use Rattle.host_core.specs.declared.question.Ticket.{Ticket}
use Rattle.panels.specs.Panel.{PanelParts, Panels, size_of}
use Rattle.panels.specs.Screen.{Values}
use Rattle.panels.specs.Values.{value_of}
use Rattle.panels.specs.declared.panel.Field.{Field}
use Rattle.tn3270e_msg.specs.Words.{lu_text}
use Rattle.applications.specs.Applications.{key_name, shown_character}

-- ---- the open question

-- the open question of a connection; None if none is open or there is no such connection
abbrev pub question_on : ℕ → Host → Option Question
question_on conn host =
    if nat_lt conn most_connections
    then question_of (application_of host.panels) (session_at conn host) (state_at conn host) else None

-- the ticket for a script's answer: that of the open question. If none is open, it is arbitrary, since the host takes
-- no answer
abbrev pub ticket_on : ℕ → Host → Ticket
ticket_on conn host = option_map_or (λ question. question.ticket) (question_on conn host)
    (record { session = 0; turn = 0 })

-- ---- how it is printed

-- the Unicode text for bytes of code page 037
abbrev pub unicode_of : List ℕ → List ℕ
unicode_of bytes = flat_map (λ byte. encode_utf8 (shown_character byte)) bytes

-- the row and the column of a buffer address, both 1-based
abbrev pub row_of : ℕ → ScreenSize → ℕ
row_of address size = address / size.columns + 1

abbrev pub column_of : ℕ → ScreenSize → ℕ
column_of address size = address % size.columns + 1

-- the LU, the panel's name, the key, and the cursor's row and column
abbrev pub heading : PanelParts → Question → List ℕ
heading panel question =
    codes "question " ++ (lu_text question.lu ++ (codes " " ++ (panel.name ++ (codes " " ++ (key_name question.aid
    ++ (codes " " ++ (decimal (row_of question.cursor (size_of panel)) ++ (codes " "
    ++ (decimal (column_of question.cursor (size_of panel)) ++ codes "\n")))))))))

-- a field's name, and its text between quotes
abbrev pub field_line : Values → Field → List ℕ
field_line values field =
    field.name ++ (codes "=\"" ++ (unicode_of (unwrap_or (value_of values field.number) []) ++ codes "\"\n"))

abbrev pub panel_text : PanelParts → Question → List ℕ
panel_text panel question =
    heading panel question ++ flat_map (field_line question.values) (fields_asked question.aid panel.fields)

-- a line for the question, and one for each field that it has, in the panel's order
abbrev pub question_text : Panels → Option Question → List ℕ
question_text panels None = codes "no question\n"
question_text panels (Some question) = option_map_or (λ panel. panel_text panel question)
    (slice_get panels.panels question.panel) []

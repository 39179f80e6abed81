-- Questions and answers (our profile): the application decides on the keys that a panel asks about, and at connect, if
-- the first panel asks it, on what is shown first.
use Rattle.std.specs.Prelude.{◌≢◌, ◌==◌, ◌&&◌, not, ℕ, Bool, true, false, List, [], Option, Some, None, is_some, option_map, if◌then◌else◌}
use Rattle.std.specs.List.{list_any}
use Rattle.std.specs.Option.{option_map_or, option_or}
use Rattle.codes3270.specs.declared.attention.Aid.{Aid}
use Rattle.codes3270.specs.declared.attention.Aid.TheVariants.{NoAid, Enter, Clear, Pf, Pa}
use Rattle.panels.specs.declared.message.Message.TheVariants.{Told}
use Rattle.panels.specs.declared.panel.Field.{Field}
use Rattle.panels.specs.declared.panel.Value.{Value}
use Rattle.panels.specs.Screen.{Values}
use Rattle.panels.specs.Values.{value_of, with_values, without_fields, without_values}
use Rattle.host_core.specs.Acts.{Act, Decision, Sent, decision_in, done, first_panel, learned}
use Rattle.host_core.specs.Application.{Application}
use Rattle.host_core.specs.State.{Service}
use Rattle.host_core.specs.Session.{Session, agreed_lu, model_in}
use Rattle.host_core.specs.declared.question.Answer.{Answer}
use Rattle.host_core.specs.declared.question.Question.{Question}
use Rattle.host_core.specs.declared.question.Ticket.{Ticket}
use Rattle.host_core.specs.declared.turn_reason.TurnReason.{TurnReason}
use Rattle.host_core.specs.declared.turn_reason.TurnReason.TheVariants as turn_reasons

-- ---- questions

-- the decision is to ask the application
abbrev pub is_ask : Decision → Bool
is_ask (Decision.Do act) = false
is_ask Decision.Asks = true

-- a question is open: it is the host's turn, and the application decides
abbrev pub is_asking : Application → Session → Bool
is_asking app conn = option_map_or is_ask (decision_in app conn) false

-- the key that gave the host the turn; NoAid if none did, as at connect
abbrev pub key_of : TurnReason → Aid
key_of turn_reasons.Agreement = NoAid
key_of (turn_reasons.Key aid buffered) = aid
key_of turn_reasons.Refusal = NoAid
key_of turn_reasons.Restoration = NoAid

-- No panel is on the screen when the application decides on this key: with no AID, at connect, none was shown yet, and
-- Clear has erased it.
abbrev pub is_screen_empty : Aid → Bool
is_screen_empty NoAid = true
is_screen_empty Enter = false
is_screen_empty Clear = true
is_screen_empty (Pf key) = false
is_screen_empty (Pa key) = false

-- the fields that a question has, of those of its panel
abbrev pub fields_asked : Aid → List Field → List Field
fields_asked aid fields = if is_screen_empty aid then [] else fields

-- the panel of a question: the one that was shown last; at connect the first one
abbrev pub panel_asked : Application → Session → TurnReason → ℕ
panel_asked app conn turn_reasons.Agreement = first_panel app conn
panel_asked app conn (turn_reasons.Key aid buffered) = conn.panel
panel_asked app conn turn_reasons.Refusal = conn.panel
panel_asked app conn turn_reasons.Restoration = conn.panel

-- the cursor of a question: the terminal's when it last sent data; 0 while no panel is on the screen, since Clear puts
-- it there (GA23-0059-07 on keyboard operation)
abbrev pub cursor_asked : Session → ℕ
cursor_asked conn = if is_screen_empty (key_of conn.turn_reason) then 0 else conn.cursor

-- the texts of a question: those of its fields that are known
abbrev pub texts_asked : Application → Session → Values
texts_asked app conn =
    if is_screen_empty (key_of conn.turn_reason) then [] else learned conn.shadow (app.fields conn.panel) []

-- the ticket of a question: the session, and the sequence number of the record that will answer the operator
abbrev pub ticket_of : ℕ → Session → Ticket
ticket_of session conn = record { session = session; turn = conn.next_seq }

-- the question: the LU, panel, key and cursor, and the known texts of the panel's fields, without nulls
abbrev pub question_on : Application → ℕ → Session → List ℕ → Question
question_on app session conn lu = record {
  ticket = ticket_of session conn;
  lu = lu;
  panel = panel_asked app conn conn.turn_reason;
  aid = key_of conn.turn_reason;
  cursor = cursor_asked conn;
  values = texts_asked app conn;
}

-- the question that is open on a connection, if one is
abbrev pub question_in : Application → ℕ → Session → Option Question
question_in app session conn = if is_asking app conn
    then option_map (question_on app session conn) (agreed_lu conn.talk.state) else None

-- the question that is open on a connection number, if one is
abbrev pub question_of : Application → ℕ → Service → Option Question
question_of app session Service.Free = None
question_of app session (Service.Open rest conn) = question_in app session conn
question_of app session (Service.Closed cause) = None

-- holds if a question is open and some field of its panel has a text: only then is memory needed
abbrev pub HasTexts : Option Question → Type 0
HasTexts None = ⊥
HasTexts (Some question) = question.values ≢ []

-- ---- answers

-- some of these fields has a value
abbrev pub has_value_of : List Field → Values → Bool
has_value_of fields values = list_any (λ field. is_some (value_of values field.number)) fields

-- The panel that an answer shows whole: the one that it names; if it names none and no panel is on the screen, the
-- question's.
abbrev pub panel_for : Application → Session → Answer → Option ℕ
panel_for app conn answer =
    option_or answer.panel
    (if is_screen_empty (key_of conn.turn_reason) then Some (panel_asked app conn conn.turn_reason) else None)

-- the fields of the panel that is shown whole, if one is
abbrev pub named_fields : Application → Session → Option ℕ → List Field
named_fields app conn None = []
named_fields app conn (Some panel) = app.fields (app.shown (model_in conn) panel)

-- its values
abbrev pub named_values : Application → Session → Option ℕ → List Value
named_values app conn None = []
named_values app conn (Some panel) = app.values (app.shown (model_in conn) panel)

-- the values after an answer: known texts are kept; a panel that is shown whole has only the answer's values
abbrev pub values_for : Application → Session → Answer → Option ℕ → Values
values_for app conn answer panel =
    with_values
    (without_values (named_values app conn panel)
    (without_fields (named_fields app conn panel) (learned conn.shadow (app.fields conn.panel) conn.values)))
    answer.values

-- The act for an answer that shows this panel whole. If it shows none so, the panel that is on the screen keeps what
-- the operator left in its fields, unless the answer has a value of one.
abbrev pub act_by : Application → Session → Answer → Option ℕ → Act
act_by app conn answer None =
    Act.Show conn.panel (Told answer.message answer.cursor) (not (has_value_of (app.fields conn.panel) answer.values))
    (values_for app conn answer None)
act_by app conn answer (Some panel) = Act.Show panel (Told answer.message answer.cursor) false
    (values_for app conn answer (Some panel))

-- the panel that an answer names exists, if it names one
abbrev pub has_its_panel : Application → Answer → Bool
has_its_panel app answer = option_map_or app.has_panel answer.panel true

-- what an answer sends: it is taken while a question is open, if its panel exists
abbrev pub answered_on : Application → Session → Answer → Option Sent
answered_on app conn answer = if is_asking app conn && has_its_panel app answer
    then Some (done app conn (act_by app conn answer (panel_for app conn answer))) else None

-- the tickets are equal
abbrev pub is_ticket : Ticket → Ticket → Bool
is_ticket one other = (one.session == other.session) && (one.turn == other.turn)

-- what an answer with this ticket sends: it is taken only if the ticket is the open question's
abbrev pub answered_in : Application → ℕ → Ticket → Answer → Session → Option Sent
answered_in app session ticket answer conn = if is_ticket ticket (ticket_of session conn)
    then answered_on app conn answer else None

-- what an answer sends on a connection number, if it is taken
abbrev pub answered_by : Application → ℕ → Ticket → Answer → Service → Option Sent
answered_by app session ticket answer Service.Free = None
answered_by app session ticket answer (Service.Open rest conn) = answered_in app session ticket answer conn
answered_by app session ticket answer (Service.Closed cause) = None

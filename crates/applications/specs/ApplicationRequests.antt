-- The requests to an application (our profile). For a question: each part of the question, by its name or in Unicode,
-- and who asks. For the end of a session: its names and why it ended.
use Rattle.std.specs.Prelude.{ℕ, List, [], map, option_map, slice_get, Option, Some, None, unwrap_or, ◌≡◌}
use Rattle.std.specs.Net.Text.{socket_text}
use Rattle.application_http.specs.Replies.{field_text}
use Rattle.application_http.specs.declared.notification.Ended.{Ended}
use Rattle.application_http.specs.declared.request.Request.{Request}
use Rattle.application_http.specs.declared.request.Terminal.{Terminal}
use Rattle.codes3270.specs.Size.{alternate_of}
use Rattle.codes3270.specs.declared.size.Model.{Model}
use Rattle.codes3270.specs.declared.size.Model.TheVariants.{M2, M3, M4, M5}
use Rattle.host_core.specs.Questions.{fields_asked}
use Rattle.host_core.specs.declared.question.Question.{Question}
use Rattle.panels.specs.Panel.{PanelParts, Panels, size_of}
use Rattle.panels.specs.Screen.{Values}
use Rattle.panels.specs.Values.{value_of}
use Rattle.panels.specs.declared.panel.Field.{Field}
use Rattle.tn3270e_msg.specs.Words.{lu_text}
use Rattle.applications.specs.Applications.{Text, key_name}
use Rattle.applications.specs.QuestionLines.{column_of, row_of, unicode_of}
use Rattle.applications.specs.SessionNames.{session_text}
use Rattle.applications.specs.declared.application_request.Query.{Query}
use Rattle.applications.specs.declared.ended_session.EndedSession.{EndedSession}
use Rattle.applications.specs.declared.session_name.SessionName.{SessionName}

-- a field's name, and its text in Unicode; a field without a value has an empty text
abbrev pub text_asked : Values → Field → Text
text_asked values field = (field.name, unicode_of (unwrap_or (value_of values field.number) []))

-- the names and texts of a panel's fields, in the panel's order
abbrev pub texts_asked : Values → List Field → List Text
texts_asked values fields = map (text_asked values) fields

-- the session name for a question, if the host's start drew `boot`
abbrev pub session_asking : (boot : ℕ) → Question → SessionName
session_asking boot question = record { boot = boot; number = question.ticket.session }

-- the number of a model of the 3278
abbrev pub model_number : Model → ℕ
model_number M2 = 2
model_number M3 = 3
model_number M4 = 4
model_number M5 = 5

-- the model's number and its alternate size
abbrev pub terminal_of : Model → Terminal
terminal_of model =
    record { model = model_number model; rows = (alternate_of model).rows; cols = (alternate_of model).columns }

-- holds if the request asks this question on this panel
pub record AsksQuestion (boot : ℕ) (panel : PanelParts) (question : Question) (request : Request) : Type 0 where
  pub session : request.session.now ≡ session_text (session_asking boot question)
  pub turn : request.turn ≡ question.ticket.turn
  pub lu : request.lu.now ≡ lu_text question.lu
  pub panel_name : request.panel.now ≡ panel.name
  pub key : request.key.now ≡ key_name question.aid
  pub row : request.row ≡ row_of question.cursor (size_of panel)
  pub col : request.col ≡ column_of question.cursor (size_of panel)
  pub fields : map field_text request.fields.now ≡ texts_asked question.values (fields_asked question.aid panel.fields)

-- holds if the request says whose question it is: which terminal it is, and the address of its client
pub record SaysWhoAsks (query : Query) (request : Request) : Type 0 where
  pub terminal : request.terminal ≡ terminal_of query.model
  pub client : option_map (λ it. it.now) request.client ≡ option_map socket_text query.client

-- Holds if these bytes are the request for the question on this panel. `written` writes a request for its application.
pub record IsRequestOn (written : Request → List ℕ) (boot : ℕ) (panel : PanelParts) (query : Query)
    (bytes : List ℕ) : Type 0 where
  pub request : Request
  pub asks : AsksQuestion boot panel query.question request
  pub says_who : SaysWhoAsks query request
  pub bytes_are : bytes ≡ written request

-- holds if the bytes are the request on the question's own panel; None only if there is no such panel
abbrev pub IsRequestFor : (written : Request → List ℕ) → (boot : ℕ) → Panels → Query → Option (List ℕ) → Type 0
IsRequestFor written boot panels query None = slice_get panels.panels query.question.panel ≡ None
IsRequestFor written boot panels query (Some bytes) =
    (panel : PanelParts) × (slice_get panels.panels query.question.panel ≡ Some panel)
    × IsRequestOn written boot panel query bytes

-- Holds if these bytes are the notification of a session's end. `written` writes a notification for its application.
pub record IsNotificationOf (written : Ended → List ℕ) (ended : EndedSession) (bytes : List ℕ) : Type 0 where
  pub notification : Ended
  pub session : notification.session.now ≡ session_text ended.session
  pub lu : notification.lu.now ≡ lu_text ended.lu
  pub reason : notification.reason.now ≡ ended.reason.now
  pub bytes_are : bytes ≡ written notification

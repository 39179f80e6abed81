-- What the application is asked is what the operator sees (our profile).
use Rattle.std.specs.Prelude.{◌≡◌, ◌≢◌, ◌⊎◌, ◌+◌, ℕ, Bool, true, false, List, [], length, Option, Some, None, slice_get, if◌then◌else◌}
use Rattle.codes3270.specs.declared.attention.Aid.{Aid}
use Rattle.codes3270.specs.declared.attention.Aid.TheVariants.{NoAid, Enter, Clear, Pf, Pa}
use Rattle.codes3270.specs.declared.attribute.Cell.TheVariants.{Char}
use Rattle.datastream.specs.Fields.{Field, IsUnformatted, fields}
use Rattle.datastream.specs.Inbound.{without_nulls}
use Rattle.datastream.specs.Screen.{Screen}
use Rattle.datastream.specs.declared.wanted.Want.TheVariants as want
use Rattle.telnet_wire.specs.Reading.{Rest}
use Rattle.panels.specs.KeptFields.{IsFieldOn}
use Rattle.panels.specs.Panel.{HaveNumbersApart}
use Rattle.panels.specs.Screen.{Values}
use Rattle.panels.specs.Values.{value_of}
use Rattle.panels.specs.declared.message.Message.{Message}
use Rattle.panels.specs.declared.next.Next.TheVariants.{Ask}
use Rattle.panels.specs.declared.panel.Field.{Field as PanelField}
use Rattle.host_core.specs.Acts.{first_panel, is_blank}
use Rattle.host_core.specs.Application.{Application, application_of, message_place}
use Rattle.host_core.specs.Questions.{is_screen_empty, question_in, question_of}
use Rattle.host_core.specs.Session.{Session}
use Rattle.host_core.specs.State.{Service, state_at, session_at}
use Rattle.host_core.specs.declared.question.Question.{Question}
use Rattle.world3270.specs.statement.AsLeft.{ProtectedIsAsLeft}
use Rattle.world3270.specs.model.ByteWorld.{ByteWorld, slot_at}
use Rattle.world3270.specs.model.Link.{Link}
use Rattle.world3270.specs.refinement.Refines.{IsReached}
use Rattle.world3270.specs.statement.Observation.{TerminalSeen, seen_link}
use Rattle.world3270.specs.statement.ByteObservation.{seen_connection}
use Rattle.world3270.specs.statement.Shown.{IsPanelShown}
use Rattle.world3270.specs.statement.ShownFields.{WantsItsFields}
use Rattle.world3270.specs.model.World.{World}

-- ---- a text of a question is on the screen

-- Holds if the screen has a field whose attribute is right before the first cell of the panel's field, and whose text,
-- nulls removed, is this one.
pub record IsFieldText (field : PanelField) (text : List ℕ) (screen : Screen) : Type 0 where
  pub index : ℕ
  pub on_screen : Field
  pub listed : slice_get (fields screen.cells) index ≡ Some on_screen
  pub place : on_screen.place + 1 ≡ field.extent.first
  pub text_is : without_nulls on_screen.text ≡ text

-- Holds if the panel has a field with this number, and this is that field's text on the screen.
pub record IsPanelText (panel : List PanelField) (number : ℕ) (text : List ℕ) (screen : Screen) : Type 0 where
  pub index : ℕ
  pub field : PanelField
  pub listed : slice_get panel index ≡ Some field
  pub number_is : field.number ≡ number
  pub stands : IsFieldText field text screen

-- ---- a question

-- Holds if the terminal is bound to the LU. At connect, with no AID, the message that binds it may still be under way;
-- then it is bound to none.
abbrev pub IsBoundFor : Aid → (bound : Option (List ℕ)) → (lu : List ℕ) → Type 0
IsBoundFor NoAid bound lu = (bound ≡ None) ⊎ (bound ≡ Some lu)
IsBoundFor Enter bound lu = bound ≡ Some lu
IsBoundFor Clear bound lu = bound ≡ Some lu
IsBoundFor (Pf key) bound lu = bound ≡ Some lu
IsBoundFor (Pa key) bound lu = bound ≡ Some lu

-- Holds if the question has the AID of the key that the operator pressed, or none if he pressed none, the LU that the
-- terminal is bound to, the cursor address, and for no field another text than the screen shows. `panel`: the named
-- panel's fields.
pub record IsSeen (panel : List PanelField) (question : Question) (terminal : TerminalSeen) : Type 0 where
  pub key : question.aid ≡ terminal.screen.aid
  pub lu : IsBoundFor question.aid terminal.bound question.lu
  pub cursor : question.cursor ≡ terminal.screen.cursor
  pub texts : (number : ℕ) (text : List ℕ) → value_of question.values number ≡ Some text
      → IsPanelText panel number text terminal.screen

-- Holds if the panel's field is on the screen, at its address and with its length, and this is its text, nulls removed.
pub record IsFieldShown (field : PanelField) (text : List ℕ) (screen : Screen) : Type 0 where
  pub stands : IsFieldText field text screen
  pub length_is : length stands.on_screen.text ≡ field.extent.length

-- Holds if the question has a text for the field, and the field is on the screen with that text.
pub record IsFieldAsked (field : PanelField) (question : Question) (screen : Screen) : Type 0 where
  pub text : List ℕ
  pub given : value_of question.values field.number ≡ Some text
  pub shown : IsFieldShown field text screen

-- Holds if neither the question nor the screen has a field; or else, if the question has each field of the panel, with
-- its text on the screen.
abbrev pub AreFieldsAskedIf : (empty : Bool) → List PanelField → Question → Screen → Type 0
AreFieldsAskedIf true panel question screen = (question.values ≡ []) × IsUnformatted screen.cells
AreFieldsAskedIf false panel question screen = (index : ℕ) (field : PanelField) → slice_get panel index ≡ Some field
    → IsFieldAsked field question screen

-- Holds if the question has each field of the panel, with its text on the screen. At connect and after Clear it has no
-- field, and neither has the screen.
abbrev pub AreFieldsAsked : List PanelField → Question → Screen → Type 0
AreFieldsAsked panel question screen = AreFieldsAskedIf (is_screen_empty question.aid) panel question screen

-- ---- the panel of a question

-- Holds if the question names the connection's panel, and the screen that the host's last restoring write left shows
-- this panel, with the connection's values and message (`Shown`). `waits`: the terminal waits for the host.
pub record IsAboutItsPanel (app : Application) (waits : Bool) (host : Session) (question : Question)
    (terminal : TerminalSeen) : Type 0 where
  pub same : question.panel ≡ host.panel
  pub shown : IsPanelShown app waits host terminal.before_restored terminal.last_restored

-- Holds if no panel is on the screen, at connect or after Clear; or if the question names the panel that it shows.
abbrev pub IsPanelAsked : Application → (waits : Bool) → Session → Question → TerminalSeen → Type 0
IsPanelAsked app waits host question terminal = is_screen_empty question.aid ≡ false
    → IsAboutItsPanel app waits host question terminal

-- A question doesn't name a panel if all screens of that panel have a character in some cell, and the screen that was
-- left doesn't have it there. So panels with the same fields, or without fields, aren't confused.
abbrev pub OtherPanelsAreNotAsked : Type 0
OtherPanelsAreNotAsked = (app : Application) (waits : Bool) (host : Session) (question : Question)
    (terminal : TerminalSeen) (cell char : ℕ)
    → ((values : Values) (message : Message) (keep : Bool)
    → slice_get (app.screen question.panel values message keep).cells cell ≡ Some (want.Char char))
    → slice_get terminal.last_restored.cells cell ≢ Some (Char char)
    → is_screen_empty question.aid ≡ false → IsPanelAsked app waits host question terminal → ⊥

-- ---- the key of a question

-- Holds if the field is filled in: its text on the screen has a character that is neither a null nor a blank.
pub record IsFilledIn (field : PanelField) (screen : Screen) : Type 0 where
  pub text : List ℕ
  pub shown : IsFieldShown field text screen
  pub filled : is_blank text ≡ false

-- Holds if each of these fields that is required is filled in.
abbrev pub AreFilledIn : List PanelField → Screen → Type 0
AreFilledIn panel screen = (index : ℕ) (field : PanelField) → slice_get panel index ≡ Some field
    → field.required ≡ true → IsFilledIn field screen

-- the panel whose keys count: the one that was shown last; at connect, with no AID, the first one, in the form for the
-- terminal's model
abbrev pub panel_with_keys : Application → Session → Aid → ℕ
panel_with_keys app conn NoAid = first_panel app conn
panel_with_keys app conn Enter = conn.panel
panel_with_keys app conn Clear = conn.panel
panel_with_keys app conn (Pf key) = conn.panel
panel_with_keys app conn (Pa key) = conn.panel

-- Holds if the application decides on the key whose AID the screen has, and after Enter no required field is left blank.
pub record IsAskedAbout (app : Application) (from : ℕ) (screen : Screen) : Type 0 where
  pub asks : app.next from screen.aid ≡ Ask
  pub filled : screen.aid ≡ Enter → AreFilledIn (app.fields from) screen

-- Holds if the question names the panel whose keys count, and the application decides on the key there.
pub record IsKeyAsked (app : Application) (host : Session) (question : Question) (screen : Screen) : Type 0 where
  pub panel : question.panel ≡ panel_with_keys app host screen.aid
  pub about : IsAskedAbout app question.panel screen

-- ---- the screen is the one that was left

-- Holds if Clear was pressed last, or the protected part of the terminal's screen is as the host's last restoring write
-- left it, but for the row of messages, which begins at address `row`.
abbrev pub IsScreenAsLeft : (row : ℕ) → TerminalSeen → Type 0
IsScreenAsLeft row terminal = (terminal.screen.aid ≡ Clear → ⊥)
    → ProtectedIsAsLeft row terminal.last_restored.cells terminal.screen.cells

-- ---- of a world over messages

-- Holds if each screen that the application asks for has each field of its panel, and a panel's fields differ in
-- number.
pub record ShowsItsFields (app : Application) : Type 0 where
  pub on_screen : (panel : ℕ) (values : Values) (message : Message) (keep : Bool) (index : ℕ) (field : PanelField)
      → slice_get (app.fields panel) index ≡ Some field
      → IsFieldOn (app.screen panel values message keep) field.extent
  pub numbers : (panel : ℕ) → HaveNumbersApart (app.fields panel)

-- the open question on a connection, if the host is attached; `session` is any number (only a host over bytes counts)
abbrev pub asked_by : Application → ℕ → Link → Option Question
asked_by app session link = if link.host_here then question_in app session link.host else None

-- Holds if on each connection with both ends attached, lost or not, an open question has what the terminal shows.
abbrev pub AskedIsSeen : Application → World → Type 0
AskedIsSeen app world = (number session : ℕ) (question : Question) (terminal : TerminalSeen)
    → asked_by app session (world.link number) ≡ Some question
    → (seen_link (world.link number)).terminal ≡ Some terminal
    → IsSeen (app.fields question.panel) question terminal

-- Holds if such a question has the text of each field of its panel as that screen shows it, provided that each screen
-- that the application asks for has its panel's fields.
abbrev pub FieldsAreSeen : Application → World → Type 0
FieldsAreSeen app world = ShowsItsFields app → (number session : ℕ) (question : Question) (terminal : TerminalSeen)
    → asked_by app session (world.link number) ≡ Some question
    → (seen_link (world.link number)).terminal ≡ Some terminal
    → AreFieldsAsked (app.fields question.panel) question terminal.screen

-- Holds if such a question names the panel that the screen shows, provided that each screen that the application asks
-- for has its panel's fields.
abbrev pub PanelsAreAsked : Application → World → Type 0
PanelsAreAsked app world = WantsItsFields app → (number session : ℕ) (question : Question) (terminal : TerminalSeen)
    → asked_by app session (world.link number) ≡ Some question
    → (seen_link (world.link number)).terminal ≡ Some terminal
    → IsPanelAsked app true (world.link number).host question terminal

-- Holds if such a question names a panel on which the application decides on the key, provided that each screen that
-- the application asks for has its panel's fields.
abbrev pub KeysAreAsked : Application → World → Type 0
KeysAreAsked app world = ShowsItsFields app → WantsItsFields app
    → (number session : ℕ) (question : Question) (terminal : TerminalSeen)
    → asked_by app session (world.link number) ≡ Some question
    → (seen_link (world.link number)).terminal ≡ Some terminal
    → IsKeyAsked app (world.link number).host question terminal.screen

-- Holds if the protected part of each attached terminal's screen is as it was left, on a lost connection too.
abbrev pub ScreensAreAsLeft : World → Type 0
ScreensAreAsLeft world = (number : ℕ) (terminal : TerminalSeen)
    → (seen_link (world.link number)).terminal ≡ Some terminal
    → IsScreenAsLeft (message_place (world.link number).term.display.size) terminal

-- ---- of a world over bytes

-- the address at which the row of messages, the last row, begins on a terminal's screen
abbrev pub row_at : ℕ → ByteWorld → ℕ
row_at terminal world = message_place (slot_at terminal world).tracked.terminal.station.screen.size

-- the question that is open on connection `number`, as `Host::question` returns it
abbrev pub asked_at : ℕ → ByteWorld → Option Question
asked_at number world = question_of (application_of world.host.panels) (session_at number world.host)
    (state_at number world.host)

-- Holds if a question of this connection has the key, the LU, the cursor and each field of its panel as the terminal
-- shows them; if it names the panel that the screen shows, and the application decides on the key there; and if, unless
-- Clear was pressed, the protected part of the screen is as it was left.
pub record IsPanelSeen (app : Application) (service : Service) (row : ℕ) (question : Question)
    (terminal : TerminalSeen) : Type 0 where
  pub rest : Rest
  pub host : Session
  pub is_open : service ≡ Service.Open rest host
  pub panel : IsPanelAsked app true host question terminal
  pub key : IsKeyAsked app host question terminal.screen
  pub seen : IsSeen (app.fields question.panel) question terminal
  pub fields : AreFieldsAsked (app.fields question.panel) question terminal.screen
  pub protected : IsScreenAsLeft row terminal

-- Holds if each open question has what its terminal shows; and the protected part of each attached terminal's screen
-- is as it was left, whether or not a question is open.
pub record WhatIsAskedIsSeen (world : ByteWorld) : Type 0 where
  pub questions : (number : ℕ) (question : Question) (terminal : TerminalSeen)
      → asked_at number world ≡ Some question → (seen_connection number world).terminal ≡ Some terminal
      → IsPanelSeen (application_of world.host.panels) (state_at number world.host) (row_at terminal.number world)
      question terminal
  pub screens : (number : ℕ) (terminal : TerminalSeen) → (seen_connection number world).terminal ≡ Some terminal
      → IsScreenAsLeft (row_at terminal.number world) terminal

-- `WhatIsAskedIsSeen` holds of each world whose bytes represent a world over messages.
abbrev pub AskedIsSeenOverBytes : Type 0
AskedIsSeenOverBytes = (bytes : ByteWorld) → IsReached bytes → WhatIsAskedIsSeen bytes

-- The words of an application's requests, the effect of its replies, and the messages for its failures (our profile).
use Rattle.std.specs.Prelude.{ℕ, zero, suc, ◌-◌, ◌<◌, Bool, true, false, nat_le, nat_lt, List, [], ◌∷◌, ◌++◌, length, map, slice_get, take, codes, chars, string_bytes, Option, Some, None, is_some, option_map, unwrap_or, if◌then◌else◌, ◌≡◌, ◌⊎◌, ⊤}
use Rattle.std.specs.BTreeMap.{insert_entry}
use Rattle.std.specs.Ordering.{nat_cmp}
use Rattle.std.specs.Fmt.{decimal}
use Rattle.std.specs.Option.{option_and_then, option_map_or}
use Rattle.std.specs.List.{filter_map}
use Rattle.codes3270.specs.CodePage.{character_of}
use Rattle.applications.specs.PlainTexts.{lacks_code, plain_text}
use Rattle.codes3270.specs.declared.attention.Aid.{Aid}
use Rattle.codes3270.specs.declared.attention.Aid.TheVariants as aid
use Rattle.applications.specs.declared.application_fault.ApplicationFault.{ApplicationFault}
use Rattle.applications.specs.declared.application_fault.ApplicationFault.TheVariants as why
use Rattle.applications.specs.declared.application_fault.FailureMessage.{FailureMessage}
use Rattle.applications.specs.declared.application_fault.FailureMessage.TheVariants as failure
use Rattle.applications.specs.declared.application_reply.AnswerFault.{AnswerFault}
use Rattle.applications.specs.declared.application_reply.AnswerFault.TheVariants as flaw
use Rattle.application_http.specs.Replies.{field_text, name_of_copy}
use Rattle.application_http.specs.declared.reply.Reply.{Reply}
use Rattle.application_http.specs.declared.request.FieldText.{FieldText}
use Rattle.host_core.specs.declared.question.Answer.{Answer}
use Rattle.application_http.specs.declared.fault.ReplyFault.TheVariants as reply
use Rattle.panels.specs.Characters.{codes_of}
use Rattle.panels.specs.MessageText.{message_of}
use Rattle.panels.specs.Names.{field_in, number_named, panel_named}
use Rattle.panels.specs.Panel.{Panels}
use Rattle.panels.specs.Screen.{Values}
use Rattle.panels.specs.Values.{value_of}

-- ---- requests

-- the character for a byte that has none (Unicode, REPLACEMENT CHARACTER)
abbrev pub no_character : ℕ
no_character = 65533

-- the character for a byte of code page 037
abbrev pub shown_character : ℕ → ℕ
shown_character byte = unwrap_or (character_of byte) no_character

-- the name of a key in panel texts; with no AID that of the question before a first panel is shown
abbrev pub key_name : Aid → List ℕ
key_name aid.NoAid = codes "connect"
key_name aid.Enter = codes "enter"
key_name aid.Clear = codes "clear"
key_name (aid.Pf number) = codes "pf" ++ decimal number
key_name (aid.Pa number) = codes "pa" ++ decimal number

-- ---- the texts of a reply

-- the number of cells of the largest screen
abbrev pub most_characters : ℕ
most_characters = 3564

-- the value that a text gives a field: at most as much as the largest screen can show
abbrev pub value_by : List ℕ → List ℕ
value_by text = take most_characters (codes_of (chars text))

-- ---- the effect of a reply

-- a field's name and its text
abbrev pub Text : Type 0
Text = List ℕ × List ℕ

-- the values after a field, or what is shown as a value, was set to its text, in plain characters
abbrev pub with_text : Panels → Text → Values → Values
with_text panels text values =
    option_map_or (λ number. insert_entry nat_cmp values number (value_by (plain_text text.1)))
    (number_named text.0 panels) values

-- the values after each field was set to its text, one after the other
abbrev pub with_texts : Panels → List FieldText → Values → Values
with_texts panels [] values = values
with_texts panels (text ∷ texts) values = with_texts panels texts (with_text panels (field_text text) values)

-- whether a panel has the field or value
abbrev pub is_known_text : Panels → Text → Bool
is_known_text panels text = is_some (number_named text.0 panels)

-- holds if setting a field to a text takes memory: the field has no value yet, or the text isn't empty
abbrev pub TakesMemory : Option (List ℕ) → List ℕ → Type 0
TakesMemory None text = ⊤
TakesMemory (Some value) text = 0 < length text

-- holds if setting the field or value with a name, which has a number, takes memory; if no panel has it, storing the
-- name does unless it is empty
abbrev pub TextTakesMemory : Values → Text → Option ℕ → Type 0
TextTakesMemory values text None = 0 < length text.0
TextTakesMemory values text (Some number) = TakesMemory (value_of values number) text.1

-- holds if a text isn't set for this reason, given these values: no panel has the name, or memory was refused
abbrev pub IsTextFault : Panels → Values → Text → AnswerFault → Type 0
IsTextFault panels values text flaw.Memory = TextTakesMemory values text (number_named text.0 panels)
IsTextFault panels values text (flaw.UnknownField name) = (string_bytes name ≡ text.0)
    × (number_named text.0 panels ≡ None)
IsTextFault panels values text _ = ⊥

-- the most rows of a repeated field or value: that of a panel text
unfoldable pub most_copies : ℕ
most_copies = 42

-- the values after a copy, which its place names, was emptied; the same if there is no such copy
abbrev pub with_copy_emptied : Panels → List ℕ → (place : ℕ) → Values → Values
with_copy_emptied panels stem place values =
    option_map_or (λ number. insert_entry nat_cmp values number [])
    (number_named (name_of_copy stem place) panels) values

-- the values after the first `count` copies were emptied
abbrev pub with_copies_emptied : Panels → List ℕ → (count : ℕ) → Values → Values
with_copies_emptied panels stem zero values = values
with_copies_emptied panels stem (suc count) values =
    with_copy_emptied panels stem (suc count) (with_copies_emptied panels stem count values)

-- the values after all copies were emptied for which there are arrays, with these names
abbrev pub with_arrays : Panels → List (List ℕ) → Values → Values
with_arrays panels [] values = values
with_arrays panels (stem ∷ stems) values =
    with_arrays panels stems (with_copies_emptied panels stem most_copies values)

-- the values that a reply sets: an array sets all copies, so those that it has no text for are empty
abbrev pub values_of_reply : Panels → Reply → Values
values_of_reply panels reply =
    with_texts panels reply.fields.items (with_arrays panels (map string_bytes reply.arrays.items) [])

-- whether some panel has a repeated field or value with the name
abbrev pub is_known_array : Panels → List ℕ → Bool
is_known_array panels stem = is_some (number_named (name_of_copy stem 1) panels)

abbrev pub AreKnownArrays : Panels → List (List ℕ) → Type 0
AreKnownArrays panels [] = ⊤
AreKnownArrays panels (stem ∷ stems) = (is_known_array panels stem ≡ true) × AreKnownArrays panels stems

-- holds if an array isn't set for this reason: no panel has copies with this name, and either a field or value without
-- copies has it, or none does; or memory was refused
abbrev pub IsArrayFault : Panels → List ℕ → AnswerFault → Type 0
IsArrayFault panels stem flaw.Memory = ⊤
IsArrayFault panels stem (flaw.FieldNotArray name) = (string_bytes name ≡ stem) × (is_known_array panels stem ≡ false)
    × (is_some (number_named stem panels) ≡ true)
IsArrayFault panels stem (flaw.UnknownField name) = (string_bytes name ≡ stem) × (is_known_array panels stem ≡ false)
    × (number_named stem panels ≡ None)
IsArrayFault panels stem _ = ⊥

-- holds if this is the fault of the first array that can't be set
abbrev pub IsFirstArrayFault : Panels → List (List ℕ) → AnswerFault → Type 0
IsFirstArrayFault panels [] fault = ⊥
IsFirstArrayFault panels (stem ∷ stems) fault =
    IsArrayFault panels stem fault ⊎ ((is_known_array panels stem ≡ true) × IsFirstArrayFault panels stems fault)

-- holds if some panel has each field or value
abbrev pub AreKnownTexts : Panels → List FieldText → Type 0
AreKnownTexts panels [] = ⊤
AreKnownTexts panels (text ∷ texts) = (is_known_text panels (field_text text) ≡ true) × AreKnownTexts panels texts

-- holds if this is the fault of the first text that can't be set; `values`: those after the texts before it were set
abbrev pub IsFirstTextFault : Panels → Values → List FieldText → AnswerFault → Type 0
IsFirstTextFault panels values [] fault = ⊥
IsFirstTextFault panels values (text ∷ texts) fault =
    IsTextFault panels values (field_text text) fault
    ⊎ ((is_known_text panels (field_text text) ≡ true)
    × IsFirstTextFault panels (with_text panels (field_text text) values) texts fault)

-- holds if this is the fault of the first array, or else of the first text, of a reply that can't be set
abbrev pub IsFirstValueFault : Panels → Reply → AnswerFault → Type 0
IsFirstValueFault panels reply fault =
    IsFirstArrayFault panels (map string_bytes reply.arrays.items) fault
    ⊎ (AreKnownArrays panels (map string_bytes reply.arrays.items)
    × IsFirstTextFault panels (with_arrays panels (map string_bytes reply.arrays.items) []) reply.fields.items fault)

-- holds if a name is given, and nothing has it
abbrev pub IsUnknown : (of : List ℕ → Option ℕ) → Option (List ℕ) → Type 0
IsUnknown of None = ⊥
IsUnknown of (Some name) = of name ≡ None

-- holds if no name is given, or something has it
abbrev pub IsKnown : (of : List ℕ → Option ℕ) → Option (List ℕ) → Type 0
IsKnown of None = ⊤
IsKnown of (Some name) = is_some (of name) ≡ true

-- the number of the panel with this name
abbrev pub panel_number : Panels → List ℕ → Option ℕ
panel_number panels name = panel_named name panels

-- the number of the panel's field with this name
abbrev pub number_on : Panels → (panel : ℕ) → List ℕ → Option ℕ
number_on panels panel name =
    option_map (λ field. field.number) (option_and_then (field_in name) (slice_get panels.panels panel))

-- the panel that a reply names, or otherwise the one on the screen; the cursor's field must be one of its fields
abbrev pub panel_of_reply : Panels → (shown : ℕ) → Reply → ℕ
panel_of_reply panels shown reply =
    unwrap_or (option_and_then (panel_number panels) (option_map string_bytes reply.panel)) shown

-- the text of a reply's message; empty if it has none
abbrev pub message_in : Reply → List ℕ
message_in reply = unwrap_or (option_map string_bytes reply.message) []

-- a character as one byte; None if it is not one of U+0000 to U+00FF
abbrev pub as_byte : ℕ → Option ℕ
as_byte character = if nat_lt character 256 then Some character else None

-- the message's characters as bytes, without those beyond U+00FF, which code page 037 doesn't have
abbrev pub message_bytes : List ℕ → List ℕ
message_bytes text = filter_map as_byte (chars text)

-- Holds if the panel that a reply names exists, and has the cursor's field. `shown` is the panel on the screen.
pub record HasItsNames (panels : Panels) (shown : ℕ) (reply : Reply) : Type 0 where
  pub panel : IsKnown (panel_number panels) (option_map string_bytes reply.panel)
  pub cursor : IsKnown (number_on panels (panel_of_reply panels shown reply)) (option_map string_bytes reply.cursor)

-- holds if this is the host's answer for a reply; its texts are shown in plain characters
pub record IsAnswerFor (panels : Panels) (shown : ℕ) (reply : Reply) (answer : Answer) : Type 0 where
  pub names : HasItsNames panels shown reply
  pub panel : answer.panel ≡ option_and_then (panel_number panels) (option_map string_bytes reply.panel)
  pub cursor : answer.cursor
      ≡ option_and_then (number_on panels (panel_of_reply panels shown reply)) (option_map string_bytes reply.cursor)
  pub message : answer.message.characters ≡ message_of (message_bytes (plain_text (message_in reply)))
  pub arrays : AreKnownArrays panels (map string_bytes reply.arrays.items)
  pub known : AreKnownTexts panels reply.fields.items
  pub values : answer.values ≡ values_of_reply panels reply

-- Holds if the host can't carry out the reply for this reason: the first fault of its panel, its cursor's field, its
-- message, its arrays and its fields, in this order. A message can only fail because memory is refused, and not if it
-- is empty.
abbrev pub IsAnswerFault : Panels → (shown : ℕ) → Reply → AnswerFault → Type 0
IsAnswerFault panels shown reply flaw.Memory =
    HasItsNames panels shown reply
    × ((0 < length (message_in reply)) ⊎ IsFirstValueFault panels reply flaw.Memory)
IsAnswerFault panels shown reply flaw.UnknownPanel =
    IsUnknown (panel_number panels) (option_map string_bytes reply.panel)
IsAnswerFault panels shown reply flaw.UnknownCursor =
    IsKnown (panel_number panels) (option_map string_bytes reply.panel)
    × IsUnknown (number_on panels (panel_of_reply panels shown reply)) (option_map string_bytes reply.cursor)
IsAnswerFault panels shown reply fault = HasItsNames panels shown reply × IsFirstValueFault panels reply fault

-- the name of the first field whose text has a character that is replaced
abbrev pub first_field_replaced : List FieldText → Option (List ℕ)
first_field_replaced [] = None
first_field_replaced (field ∷ fields) = if lacks_code (string_bytes field.text) then Some (string_bytes field.name)
    else first_field_replaced fields

-- the first key of a reply whose text has such a character: `message`, or the name of a field
abbrev pub first_replaced : Reply → Option (List ℕ)
first_replaced reply = if lacks_code (message_in reply) then Some (codes "message")
    else first_field_replaced reply.fields.items

-- ---- time

-- whether a reply is late: it has taken all of its time, in milliseconds
abbrev pub is_reply_late : (began now most : ℕ) → Bool
is_reply_late began now most = nat_le most (now - began)

-- ---- the message for a failure

-- the answer that shows the current panel again, with a message
abbrev pub telling : List ℕ → Answer
telling text = record { panel = None; values = []; message = record { characters = message_of text }; cursor = None }

-- the text of a message for a failure
abbrev pub failure_text : FailureMessage → List ℕ
failure_text failure.NotAvailable = codes "APPLICATION NOT AVAILABLE"
failure_text failure.Error = codes "APPLICATION ERROR"

-- A reply that breaks off means that the application can't be reached; every other fault is a wrong reply. There is no
-- message if the operator left.
abbrev pub message_for : ApplicationFault → Option FailureMessage
message_for (why.Absent absence) = Some failure.NotAvailable
message_for (why.Reply reply.Memory) = Some failure.NotAvailable
message_for (why.Reply reply.CutShort) = Some failure.NotAvailable
message_for (why.Reply fault) = Some failure.Error
message_for (why.Answer flaw.Memory) = Some failure.NotAvailable
message_for (why.Answer fault) = Some failure.Error
message_for why.Left = None

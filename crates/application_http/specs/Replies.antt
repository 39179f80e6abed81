-- The meaning of an application's reply: a JSON object (RFC 8259) whose keys are all optional (keys: our profile).
use Rattle.std.specs.Prelude.{ℕ, ◌+◌, ◌<◌, Bool, true, ◌&&◌, ◌||◌, List, [], ◌∷◌, ◌++◌, codes, decimal, map, length, bytes_eq, string_bytes, false, Option, Some, None, option_map, option_and_then, is_some, unwrap_or, if◌then◌else◌, ◌≡◌, ◌⊎◌, IsUtf8}
use Rattle.serde_json.specs.Data.{Data, string, array, object, Items, no_items, item, Members, no_members, member}
use Rattle.serde_json.specs.Find.{get, as_bool, as_str, as_object}
use Rattle.serde_json.specs.Read.{read}
use Rattle.application_http.specs.declared.request.FieldText.{FieldText}
use Rattle.application_http.specs.declared.fault.KeyFault.{KeyFault}
use Rattle.application_http.specs.declared.fault.KeyFault.TheVariants.{UnknownKey, NotText, NotBoolean, NotObject, FieldNotText}
use Rattle.application_http.specs.declared.fault.ReplyFault.{ReplyFault}
use Rattle.application_http.specs.declared.fault.ReplyFault.TheVariants as fault
use Rattle.application_http.specs.declared.reply.Reply.{Reply}

-- ---- the meaning

-- the panel to show, the names of repeated fields that have arrays, the texts of fields, each copy of a repeated one by
-- its own name, the message, the field in which to put the cursor, and whether the session ends then
pub record Answer : Type 0 where
  pub panel : Option (List ℕ)
  pub arrays : List (List ℕ)
  pub fields : List (List ℕ × List ℕ)
  pub message : Option (List ℕ)
  pub cursor : Option (List ℕ)
  pub end : Bool

-- the text at a key
abbrev pub text_at : List ℕ → Data → Option (List ℕ)
text_at key d = option_and_then as_str (get key d)

-- the boolean at a key; false if there is none
abbrev pub flag_at : List ℕ → Data → Bool
flag_at key d = unwrap_or (option_and_then as_bool (get key d)) false

-- the name of a copy of a repeated field: `amount.2` is the second of `amount`
abbrev pub name_of_copy : List ℕ → ℕ → List ℕ
name_of_copy stem number = stem ++ (codes "." ++ decimal number)

-- the names of copies, from a number on, and their texts
abbrev pub copies_in : List ℕ → ℕ → Items → List (List ℕ × List ℕ)
copies_in stem number no_items = []
copies_in stem number (item (string text) more) = (name_of_copy stem number, text) ∷ copies_in stem (number + 1) more
copies_in stem number (item _ more) = copies_in stem (number + 1) more

-- the names and texts of an object
abbrev pub texts_in : Members → List (List ℕ × List ℕ)
texts_in no_members = []
texts_in (member name (string text) more) = (name, text) ∷ texts_in more
texts_in (member name (array texts) more) = copies_in name 1 texts ++ texts_in more
texts_in (member name _ more) = texts_in more

-- the names of an object's arrays
abbrev pub arrays_in : Members → List (List ℕ)
arrays_in no_members = []
arrays_in (member name (array texts) more) = name ∷ arrays_in more
arrays_in (member name _ more) = arrays_in more

-- the object at a key; without members if there is none
abbrev pub object_at : List ℕ → Data → Members
object_at key d = unwrap_or (option_and_then as_object (get key d)) no_members

-- the answer that an object represents
abbrev pub answer_of : Data → Answer
answer_of d = record {
  panel = text_at (codes "panel") d;
  arrays = arrays_in (object_at (codes "fields") d);
  fields = texts_in (object_at (codes "fields") d);
  message = text_at (codes "message") d;
  cursor = text_at (codes "cursor") d;
  end = flag_at (codes "end") d;
}

-- ---- what is wrong with it

abbrev pub KeyFlaw : Type 0
KeyFlaw = KeyFault × List ℕ

abbrev pub are_texts : Items → Bool
are_texts no_items = true
are_texts (item value more) = is_some (as_str value) && are_texts more

-- whether a value is a text, or an array of texts
abbrev pub is_field_value : Data → Bool
is_field_value (array values) = are_texts values
is_field_value value = is_some (as_str value)

-- the first member of an object whose value isn't a text, nor an array of texts
abbrev pub first_non_text : Members → Option KeyFlaw
first_non_text no_members = None
first_non_text (member name value more) = if is_field_value value then first_non_text more
    else Some (FieldNotText, name)

abbrev pub fields_flaw : (key : List ℕ) → Data → Option KeyFlaw
fields_flaw key (object members) = first_non_text members
fields_flaw key _ = Some (NotObject, key)

abbrev pub names_text : List ℕ → Bool
names_text key = bytes_eq key (codes "panel") || bytes_eq key (codes "message") || bytes_eq key (codes "cursor")

-- what is wrong with one key and its value
abbrev pub key_flaw : (key : List ℕ) → Data → Option KeyFlaw
key_flaw key value =
    if names_text key then (if is_some (as_str value) then None else Some (NotText, key))
    else (if bytes_eq key (codes "fields") then fields_flaw key value
    else (if bytes_eq key (codes "end") then (if is_some (as_bool value) then None else Some (NotBoolean, key))
    else Some (UnknownKey, key)))

-- the first of two flaws, if there are any
abbrev pub earlier : Option KeyFlaw → Option KeyFlaw → Option KeyFlaw
earlier (Some flaw) later = Some flaw
earlier None later = later

-- the first flaw, in the order of the keys' bytes
abbrev pub first_flaw : Members → Option KeyFlaw
first_flaw no_members = None
first_flaw (member key value more) = earlier (key_flaw key value) (first_flaw more)

-- ---- values, and bytes

-- holds if the value is an object without a flaw, and means this
abbrev pub SaysIn : Data → Answer → Type 0
SaysIn d answer = (members : Members) × (d ≡ object members) × (first_flaw members ≡ None) × (answer ≡ answer_of d)

-- holds for a text that isn't empty
abbrev pub IsText : Option (List ℕ) → Type 0
IsText None = ⊥
IsText (Some text) = 0 < length text

-- holds if an object has an array, or a text
abbrev pub HasTexts : Members → Type 0
HasTexts members = (0 < length (arrays_in members)) ⊎ (0 < length (texts_in members))

-- holds if a name or a text must be stored: that of the first flaw, or one of the answer
abbrev pub IsStored : Option KeyFlaw → Answer → Type 0
IsStored (Some flaw) answer = 0 < length flaw.1
IsStored None answer = IsText answer.panel
    ⊎ ((0 < length answer.arrays) ⊎ ((0 < length answer.fields) ⊎ (IsText answer.message ⊎ IsText answer.cursor)))

-- holds if the value is invalid for this reason: no object, an object with this first flaw, or refused memory
abbrev pub IsBadValue : Data → ReplyFault → Type 0
IsBadValue d fault.Memory = (members : Members) × (d ≡ object members) × IsStored (first_flaw members) (answer_of d)
IsBadValue d fault.NotJson = (members : Members) → ¬ (d ≡ object members)
IsBadValue d (fault.Key what key) = (members : Members) × (d ≡ object members)
    × (first_flaw members ≡ Some (what, string_bytes key))
IsBadValue d _ = ⊥

-- holds if the content is JSON in UTF-8, and its value means this
abbrev pub Says : (content : List ℕ) → Answer → Type 0
Says content answer = (d : Data) × IsUtf8 content × (read content ≡ Some d) × SaysIn d answer

-- holds if the content is invalid for this reason: no JSON in UTF-8, an invalid value, or refused memory, which can't
-- happen if it is empty
abbrev pub IsBadContent : List ℕ → ReplyFault → Type 0
IsBadContent content why = ((why ≡ fault.Memory) × (0 < length content))
    ⊎ (((why ≡ fault.NotJson) × (IsUtf8 content → read content ≡ None))
    ⊎ ((d : Data) × (read content ≡ Some d) × IsBadValue d why))

-- ---- the value that holds it

abbrev pub field_text : FieldText → List ℕ × List ℕ
field_text field = (string_bytes field.name, string_bytes field.text)

abbrev pub answer_in : Reply → Answer
answer_in reply = record {
  panel = option_map string_bytes reply.panel;
  arrays = map string_bytes reply.arrays.items;
  fields = map field_text reply.fields.items;
  message = option_map string_bytes reply.message;
  cursor = option_map string_bytes reply.cursor;
  end = reply.end;
}

-- What a host learns of fields (our profile); only private contracts and proofs need it.
use Rattle.std.specs.Prelude.{ℕ, ◌-◌, ◌&&◌, Bool, true, false, nat_lt, List, [], All, length, Option, Some, None, unwrap_or}
use Rattle.std.specs.Option.{option_map_or, option_or}
use Rattle.shadow.specs.Belief.{Shadow, HasCell}
use Rattle.panels.specs.Screen.{Values}
use Rattle.panels.specs.Values.{value_of}
use Rattle.panels.specs.declared.panel.Field.{Field}
use Rattle.host_core.specs.Acts.{is_blank, text_known}

-- holds if the believed screen has the cell of this field's attribute
abbrev pub HasField : Shadow → Field → Type 0
HasField shadow field = HasCell (field.extent.first - 1) shadow

abbrev pub HaveFields : Shadow → List Field → Type 0
HaveFields shadow fields = All (HasField shadow) fields

-- the text is longer than the value, or there is no value
abbrev pub is_longer : Option (List ℕ) → List ℕ → Bool
is_longer None text = true
is_longer (Some value) text = nat_lt (length value) (length text)

-- the text of the field is known and longer than the field's value
abbrev pub needs_room : Shadow → Values → Field → Bool
needs_room shadow values field = option_map_or (is_longer (value_of values field.number))
    (text_known shadow field) false

-- the field's known text, or else its value
abbrev pub value_now : Shadow → Values → Field → Option (List ℕ)
value_now shadow values field = option_or (text_known shadow field) (value_of values field.number)

-- the field is required and isn't filled in, by its known text, or else by its value
abbrev pub is_missing_now : Shadow → Values → Field → Bool
is_missing_now shadow values field = field.required && is_blank (unwrap_or (value_now shadow values field) [])

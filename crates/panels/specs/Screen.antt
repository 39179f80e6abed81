-- The screen that a panel asks for (our profile).
use Rattle.std.specs.Prelude.{◌≡◌, codes, ℕ, ◌+◌, ◌-◌, ◌<◌, ◌==◌, nat_lt, Bool, true, false, not, ◌&&◌, ◌||◌, List, [], ◌∷◌, ◌++◌, map, Option, Some, None, option_and_then, option_map, unwrap_or, find, slice_get, slice_index_or, if◌then◌else◌}
use Rattle.std.specs.List.{range_with_len}
use Rattle.std.specs.Option.{option_or, option_map_or}
use Rattle.std.specs.Int.{is_in_range}
use Rattle.codes3270.specs.Size.{cells_in}
use Rattle.codes3270.specs.CodePage.{code_of}
use Rattle.codes3270.specs.declared.attribute.Attr.{Attr}
use Rattle.codes3270.specs.declared.attribute.Display.TheVariants.{Normal, Bright, Hidden}
use Rattle.datastream.specs.Wanted.{WantedScreen}
use Rattle.datastream.specs.declared.wanted.Want.{Want}
use Rattle.datastream.specs.declared.wanted.Want.TheVariants as want
use Rattle.panels.specs.declared.panel.Content.{Content}
use Rattle.panels.specs.declared.panel.Content.TheVariants.{Literal, Show}
use Rattle.panels.specs.declared.extent.Extent.{Extent}
use Rattle.panels.specs.declared.panel.TextItem.{TextItem}
use Rattle.panels.specs.declared.panel.Field.{Field}
use Rattle.panels.specs.declared.message.Message.{Message}
use Rattle.panels.specs.declared.message.Message.TheVariants.{Fresh, Plain, KeyNotActive, Required, Told}
use Rattle.panels.specs.Size.{message_start}
use Rattle.panels.specs.Panel.{PanelParts, size_of}
use Rattle.panels.specs.Values.{value_of}

-- what fields and values have, by their numbers
abbrev pub Values : Type 0
Values = List (ℕ × List ℕ)

-- the distance of a cell from an item's attribute, if the item has the cell
abbrev pub distance_in : Extent → ℕ → Option ℕ
distance_in extent cell = if is_in_range extent.first (extent.first + extent.length) (cell + 1)
    then Some (cell + 1 - extent.first) else None

-- the cell of an item at a distance from its attribute: the attribute, then the content, then nulls
abbrev pub item_cell : Attr → List ℕ → ℕ → Want
item_cell attr content distance = if distance == 0 then want.Attr attr
    else want.Char (slice_index_or content (distance - 1) 0)

-- protected and numeric: the cursor skips it (GA23-0059-07 on field attributes)
abbrev pub autoskip_attr : Bool → Attr
autoskip_attr bright =
    record { protected = true; numeric = true; display = (if bright then Bright else Normal); mdt = false }

-- the characters of a text: its own, or what a field or value has, none if it has nothing
abbrev pub shown : Values → Content → List ℕ
shown values (Literal text) = text
shown values (Show number) = unwrap_or (value_of values number) []

abbrev pub text_cell : Values → ℕ → TextItem → Option Want
text_cell values cell text = option_map (item_cell (autoskip_attr text.bright) (shown values text.content))
    (distance_in text.extent cell)

abbrev pub is_fresh : Message → Bool
is_fresh Fresh = true
is_fresh _ = false

-- the characters that a field is written with: its value, or its fill if it has none or the panel is fresh
abbrev pub field_content : Values → Message → Field → List ℕ
field_content values message field = if is_fresh message then field.fill
    else unwrap_or (value_of values field.number) field.fill

abbrev pub is_empty : List ℕ → Bool
is_empty [] = true
is_empty (byte ∷ bytes) = false

-- whether a field has a value that isn't empty
abbrev pub is_filled : Values → Field → Bool
is_filled values field = not (is_empty (unwrap_or (value_of values field.number) []))

-- a field's attribute: MDT is on if the field is marked, or if it is written with a value that isn't empty
abbrev pub field_attr : Values → Message → Bool → Field → Attr
field_attr values message keep field = record {
  protected = false;
  numeric = field.numeric;
  display = (if field.hidden then Hidden else Normal);
  mdt = field.marked || (not keep && (not (is_fresh message) && is_filled values field));
}

-- the cell of a kept field at a distance from its attribute: only the attribute is written
abbrev pub kept_cell : Attr → ℕ → Want
kept_cell attr distance = if distance == 0 then want.Attr attr else want.Keep

abbrev pub field_cell : Values → Message → Bool → ℕ → Field → Option Want
field_cell values message keep cell field =
    option_map
    (if keep then kept_cell (field_attr values message keep field)
    else item_cell (field_attr values message keep field) (field_content values message field))
    (distance_in field.extent cell)

-- the cell after a field: an attribute that the cursor skips, at which the field ends
abbrev pub stopper_cell : ℕ → Field → Option Want
stopper_cell cell field = if cell == field.extent.first + field.extent.length
    then Some (want.Attr (autoskip_attr false)) else None

-- the panel's field with a number, from 0 over the whole text
abbrev pub field_numbered : ℕ → List Field → Option Field
field_numbered number fields = find (λ field. field.number == number) fields

abbrev pub coded : List ℕ → List ℕ
coded text = map (λ character. unwrap_or (code_of character) 0) text

-- the characters of a message, in the host's code
abbrev pub message_text : List Field → Message → List ℕ
message_text fields Fresh = []
message_text fields Plain = []
message_text fields KeyNotActive = coded (codes "KEY NOT ACTIVE")
message_text fields (Required number) =
    coded (codes "REQUIRED: ") ++ option_map_or (λ field. field.title) (field_numbered number fields) []
message_text fields (Told text cursor) = coded text.characters

-- the cell of the message row, which starts at an address and reaches to the end of the screen
abbrev pub message_cell : ℕ → List Field → Message → ℕ → Option Want
message_cell start fields message cell =
    if nat_lt cell start then None
    else Some (item_cell (autoskip_attr true) (message_text fields message) (cell - start))

-- the first result that a function gives for the elements of a list
abbrev pub first_some : {X Y : Type 0} → (X → Option Y) → List X → Option Y
first_some find [] = None
first_some find (x ∷ xs) = option_or (find x) (first_some find xs)

-- a wanted cell: that of the text, the field or the message that has it; else of a field that ends there; else a null
abbrev pub wanted_cell : PanelParts → Values → Message → Bool → ℕ → Want
wanted_cell panel values message keep cell =
    unwrap_or
    (option_or (first_some (text_cell values cell) panel.texts)
    (option_or (first_some (field_cell values message keep cell) panel.fields)
    (option_or (message_cell (message_start (size_of panel)) panel.fields message cell)
    (first_some (stopper_cell cell) panel.fields))))
    (want.Char 0)

-- the number of the field that must be filled in, or that the application names for the cursor
abbrev pub field_meant : Message → Option ℕ
field_meant (Required number) = Some number
field_meant (Told text number) = number
field_meant _ = None

-- the cursor's address: the first cell of that field, if the panel has it; else the panel's own place
abbrev pub wanted_cursor : PanelParts → Message → ℕ
wanted_cursor panel message =
    option_map_or (λ field. field.extent.first)
    (option_and_then (λ number. field_numbered number panel.fields) (field_meant message)) panel.cursor

-- the screen is the one that the panel asks for
pub record IsWantedOf (panel : PanelParts) (values : Values) (message : Message) (keep : Bool)
    (screen : WantedScreen) : Type 0 where
  pub size : screen.size ≡ size_of panel
  pub cells : (cell : ℕ) → cell < cells_in (size_of panel)
      → slice_get screen.cells cell ≡ Some (wanted_cell panel values message keep cell)
  pub cursor : screen.cursor ≡ wanted_cursor panel message
  pub reset : screen.reset ≡ is_fresh message

-- the screen that the panel asks for
abbrev pub screen_of : PanelParts → Values → Message → Bool → WantedScreen
screen_of panel values message keep = record {
  size = size_of panel;
  cells = map (wanted_cell panel values message keep) (range_with_len 0 (cells_in (size_of panel)));
  cursor = wanted_cursor panel message;
  reset = is_fresh message;
}

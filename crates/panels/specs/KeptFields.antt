-- A screen that a panel asks for keeps whole fields, or none, and has each text (our profile).
use Rattle.std.specs.Prelude.{◌≡◌, ℕ, ◌<◌, ◌≤◌, ◌+◌, ◌-◌, Bool, true, false, Some, slice_get, slice_index_or}
use Rattle.codes3270.specs.declared.attribute.Attr.{Attr}
use Rattle.datastream.specs.Wanted.{WantedScreen}
use Rattle.datastream.specs.declared.wanted.Want.TheVariants as want
use Rattle.panels.specs.declared.extent.Extent.{Extent}
use Rattle.panels.specs.declared.panel.Field.{Field}
use Rattle.panels.specs.declared.panel.TextItem.{TextItem}
use Rattle.panels.specs.declared.message.Message.{Message}
use Rattle.panels.specs.Panel.{PanelParts, HasItemsApart, IsCellOf, IsLaidOut}
use Rattle.panels.specs.Screen.{Values, autoskip_attr, field_attr, field_content, item_cell, screen_of, shown}

abbrev pub HasAttributeAt : WantedScreen → ℕ → Type 0
HasAttributeAt screen cell = (attribute : Attr) × (slice_get screen.cells cell ≡ Some (want.Attr attribute))

abbrev pub IsKeptAt : WantedScreen → ℕ → Type 0
IsKeptAt screen cell = slice_get screen.cells cell ≡ Some want.Keep

-- holds if the cell has one of the item's characters
abbrev pub IsCharacterOf : Extent → ℕ → Type 0
IsCharacterOf extent cell = (extent.first ≤ cell) × (cell < extent.first + extent.length)

-- each cell between a field's attribute and the next attribute is kept
pub record IsKeptWhole (screen : WantedScreen) (extent : Extent) : Type 0 where
  pub attribute : HasAttributeAt screen (extent.first - 1)
  pub characters : (cell : ℕ) → IsCharacterOf extent cell → IsKeptAt screen cell
  pub next : HasAttributeAt screen (extent.first + extent.length)

-- A screen that is to keep what was typed keeps each field of the panel whole.
abbrev pub FieldsAreKeptWhole : Type 0
FieldsAreKeptWhole =
    (panel : PanelParts) (values : Values) (message : Message) (i : ℕ) (field : Field) → HasItemsApart panel
    → IsLaidOut panel → slice_get panel.fields i ≡ Some field
    → IsKeptWhole (screen_of panel values message true) field.extent

-- holds if the cell is a character of one of the panel's fields
abbrev pub IsOfField : PanelParts → ℕ → Type 0
IsOfField panel cell = (i : ℕ) × (field : Field) × (slice_get panel.fields i ≡ Some field)
    × IsCharacterOf field.extent cell

-- No other cell is kept, and a screen that isn't to keep what was typed keeps none.
abbrev pub NothingElseIsKept : Type 0
NothingElseIsKept =
    (panel : PanelParts) (values : Values) (message : Message) (keep : Bool) (cell : ℕ)
    → IsKeptAt (screen_of panel values message keep) cell
    → (keep ≡ true) × IsOfField panel cell

-- a field is on the screen: an attribute right before its first cell, another right after its last, none between
pub record IsFieldOn (screen : WantedScreen) (extent : Extent) : Type 0 where
  pub attribute : HasAttributeAt screen (extent.first - 1)
  pub characters : (cell : ℕ) → IsCharacterOf extent cell → HasAttributeAt screen cell → ⊥
  pub next : HasAttributeAt screen (extent.first + extent.length)

-- Each screen that a panel asks for has each field of the panel, with its address and its length.
abbrev pub FieldsAreOnTheScreen : Type 0
FieldsAreOnTheScreen =
    (panel : PanelParts) (values : Values) (message : Message) (keep : Bool) (i : ℕ) (field : Field)
    → HasItemsApart panel → IsLaidOut panel
    → slice_get panel.fields i ≡ Some field → IsFieldOn (screen_of panel values message keep) field.extent

-- The attribute of each field of the panel is right before the field's first cell.
abbrev pub AttributesAreThere : Type 0
AttributesAreThere =
    (panel : PanelParts) (values : Values) (message : Message) (keep : Bool) (i : ℕ) (field : Field)
    → HasItemsApart panel → IsLaidOut panel
    → slice_get panel.fields i ≡ Some field
    → slice_get (screen_of panel values message keep).cells (field.extent.first - 1)
    ≡ Some (want.Attr (field_attr values message keep field))

-- If nothing is kept, each cell of each field is written: with the field's content, and with nulls after its end.
abbrev pub FieldsAreWritten : Type 0
FieldsAreWritten =
    (panel : PanelParts) (values : Values) (message : Message) (i : ℕ) (field : Field) (cell : ℕ) → HasItemsApart panel
    → IsLaidOut panel
    → slice_get panel.fields i ≡ Some field → IsCharacterOf field.extent cell
    → slice_get (screen_of panel values message false).cells cell
    ≡ Some (want.Char (slice_index_or (field_content values message field) (cell - field.extent.first) 0))

-- Each cell of each text is written, whatever is kept: its attribute, then its characters, and nulls after their end.
abbrev pub TextsAreWritten : Type 0
TextsAreWritten =
    (panel : PanelParts) (values : Values) (message : Message) (keep : Bool) (i : ℕ) (text : TextItem) (cell : ℕ)
    → HasItemsApart panel → IsLaidOut panel
    → slice_get panel.texts i ≡ Some text → IsCellOf text.extent cell
    → slice_get (screen_of panel values message keep).cells cell
    ≡ Some (item_cell (autoskip_attr text.bright) (shown values text.content) (cell + 1 - text.extent.first))

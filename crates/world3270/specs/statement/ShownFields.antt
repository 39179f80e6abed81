-- The fields and values of a panel on the screen that shows it (our profile).
use Rattle.std.specs.Prelude.{◌≡◌, ◌≢◌, ◌+◌, ◌-◌, ℕ, zero, suc, Bool, true, false, List, [], ◌∷◌, length, Some, slice_get, slice_index_or, unwrap_or}
use Rattle.codes3270.specs.declared.attribute.Attr.{Attr}
use Rattle.codes3270.specs.declared.attribute.Cell.TheVariants.{Char}
use Rattle.codes3270.specs.declared.size.Model.{Model}
use Rattle.datastream.specs.KeptByKeys.{without_mdt}
use Rattle.datastream.specs.Inbound.{without_nulls}
use Rattle.datastream.specs.Screen.{Screen}
use Rattle.datastream.specs.declared.wanted.Want.TheVariants as want
use Rattle.shadow.specs.PaintedFields.{HasField}
use Rattle.panels.specs.KeptFields.{HasAttributeAt, IsCharacterOf, IsKeptAt}
use Rattle.panels.specs.Screen.{Values, field_attr, field_content, is_fresh}
use Rattle.panels.specs.Panel.{HaveNumbersApart}
use Rattle.panels.specs.Values.{value_of}
use Rattle.panels.specs.declared.message.Message.{Message}
use Rattle.panels.specs.declared.message.Message.TheVariants.{Fresh, Plain, KeyNotActive, Required, Told}
use Rattle.panels.specs.declared.panel.Field.{Field as PanelField}
use Rattle.panels.specs.declared.panel.Value.{Value as PanelValue}
use Rattle.host_core.specs.Application.{Application}

-- a text in a field of this length: cut to it, or filled up with nulls
abbrev pub fitted : ℕ → List ℕ → List ℕ
fitted zero text = []
fitted (suc more) [] = 0 ∷ fitted more []
fitted (suc more) (char ∷ text) = char ∷ fitted more text

-- Holds if the screen has the panel's field: this attribute right before the field's first cell, and this text from
-- there to the next attribute.
abbrev pub ShowsField : Screen → PanelField → Attr → List ℕ → Type 0
ShowsField screen field attribute text =
    HasField screen (record { place = field.extent.first - 1; attr = attribute; text = text })

-- Holds if a field was written: the attribute, with MDT, is the one that the panel gives it, and the text is the host's
-- value for the field, or the field's fill, as the panel and its message say, fitted to the field's length.
abbrev pub IsWritten : Values → Message → PanelField → Screen → Type 0
IsWritten values message field screen =
    ShowsField screen field (field_attr values message false field)
    (fitted field.extent.length (field_content values message field))

-- Holds if a field was kept: attribute, with MDT, and text are those that the screen had before, cell by cell. The
-- attribute is the panel's but for MDT, and the text has the field's length. If the terminal waits, the text without
-- nulls is the host's value for the field; else the operator may have changed it since the host was told.
pub record IsKept (waits : Bool) (values : Values) (message : Message) (field : PanelField)
    (before screen : Screen) : Type 0 where
  pub attribute : Attr
  pub text : List ℕ
  pub same_attribute : without_mdt attribute ≡ without_mdt (field_attr values message true field)
  pub same_length : length text ≡ field.extent.length
  pub value : waits ≡ true → value_of values field.number ≡ Some (without_nulls text)
  pub was : ShowsField before field attribute text
  pub is : ShowsField screen field attribute text

-- whether the message is one with which a panel is shown again, after a key that was pressed on it
abbrev pub is_again : Message → Bool
is_again Fresh = false
is_again Plain = false
is_again KeyNotActive = true
is_again (Required field) = true
is_again (Told text field) = true

-- Each of the panel's fields was written; or each was kept, which is possible only if the panel is shown again.
pub data AreShown (waits : Bool) (panel : List PanelField) (values : Values) (message : Message)
    (before screen : Screen) : Type 0 where
  all_written : ((index : ℕ) (field : PanelField) → slice_get panel index ≡ Some field
      → IsWritten values message field screen) → AreShown waits panel values message before screen
  all_kept : is_again message ≡ true → ((index : ℕ) (field : PanelField) → slice_get panel index ≡ Some field
      → IsKept waits values message field before screen)
      → AreShown waits panel values message before screen

-- Holds if the screen shows this text as the panel's value: its characters, one in each cell of the value, and nulls
-- after its end.
abbrev pub ShowsValue : Screen → PanelValue → List ℕ → Type 0
ShowsValue screen value text = (cell : ℕ) → IsCharacterOf value.extent cell
    → slice_get screen.cells cell ≡ Some (Char (slice_index_or text (cell - value.extent.first) 0))

-- The screen shows each of the panel's values: the text that the host has for it, or nulls if it has none.
abbrev pub ValuesAreShown : List PanelValue → Values → Screen → Type 0
ValuesAreShown panel values screen = (index : ℕ) (value : PanelValue) → slice_get panel index ≡ Some value
    → ShowsValue screen value (unwrap_or (value_of values value.number) [])

-- A screen doesn't show the fields if one has another text: neither the value or fill nor the text that was there
-- before.
abbrev pub OtherTextsAreNot : Type 0
OtherTextsAreNot = (waits : Bool) (panel : List PanelField) (values : Values) (message : Message)
    (before screen : Screen) (index : ℕ) (field : PanelField) (attribute : Attr) (text : List ℕ)
    → slice_get panel index ≡ Some field → ShowsField screen field attribute text
    → text ≢ fitted field.extent.length (field_content values message field)
    → ((other : Attr) → ShowsField before field other text → ⊥) → AreShown waits panel values message before screen → ⊥

-- ---- the applications that this is said of

-- Holds if each screen that the application asks for has each field of its panel: the attribute, then its characters or
-- `Keep`, then another attribute; and it has each value's characters. Only a fresh panel resets MDT elsewhere, and the
-- cursor doesn't depend on what is kept. No two fields of a panel have the same number, and a panel in the form for a
-- model is shown to that model as it is.
pub record WantsItsFields (app : Application) : Type 0 where
  pub attributes : (panel : ℕ) (values : Values) (message : Message) (keep : Bool) (index : ℕ) (field : PanelField)
      → slice_get (app.fields panel) index ≡ Some field
      → slice_get (app.screen panel values message keep).cells (field.extent.first - 1)
      ≡ Some (want.Attr (field_attr values message keep field))
  pub written : (panel : ℕ) (values : Values) (message : Message) (index : ℕ) (field : PanelField) (cell : ℕ)
      → slice_get (app.fields panel) index ≡ Some field → IsCharacterOf field.extent cell
      → slice_get (app.screen panel values message false).cells cell
      ≡ Some (want.Char (slice_index_or (field_content values message field) (cell - field.extent.first) 0))
  pub kept : (panel : ℕ) (values : Values) (message : Message) (index : ℕ) (field : PanelField) (cell : ℕ)
      → slice_get (app.fields panel) index ≡ Some field → IsCharacterOf field.extent cell
      → IsKeptAt (app.screen panel values message true) cell
  pub ends : (panel : ℕ) (values : Values) (message : Message) (keep : Bool) (index : ℕ) (field : PanelField)
      → slice_get (app.fields panel) index ≡ Some field
      → HasAttributeAt (app.screen panel values message keep) (field.extent.first + field.extent.length)
  pub values : (panel : ℕ) (values : Values) (message : Message) (keep : Bool) (index : ℕ) (value : PanelValue)
      (cell : ℕ) → slice_get (app.values panel) index ≡ Some value → IsCharacterOf value.extent cell
      → slice_get (app.screen panel values message keep).cells cell
      ≡ Some (want.Char (slice_index_or (unwrap_or (value_of values value.number) []) (cell - value.extent.first) 0))
  pub reset : (panel : ℕ) (values : Values) (message : Message) (keep : Bool)
      → (app.screen panel values message keep).reset ≡ is_fresh message
  pub cursor : (panel : ℕ) (values : Values) (message : Message)
      → (app.screen panel values message true).cursor ≡ (app.screen panel values message false).cursor
  pub numbers : (panel : ℕ) → HaveNumbersApart (app.fields panel)
  pub again : (model : Model) (panel : ℕ) → app.shown model (app.shown model panel) ≡ app.shown model panel

-- What a host shows, and where its keys lead (our profile).
use Rattle.std.specs.Prelude.{◌≡◌, ◌⊎◌, ◌<◌, ◌≤◌, ◌-◌, nat_lt, ℕ, Bool, true, false, List, [], ◌∷◌, length, drop, None, slice_get, unwrap_or, All}
use Rattle.std.specs.List.{list_any, list_all}
use Rattle.std.specs.Map.{values_of}
use Rattle.codes3270.specs.Size.{ScreenSize, alternate_of, cells_in, model_2, most_cells}
use Rattle.codes3270.specs.declared.size.Model.{Model}
use Rattle.codes3270.specs.declared.size.Model.TheVariants.{M2}
use Rattle.codes3270.specs.declared.attention.Aid.{Aid}
use Rattle.datastream.specs.Wanted.{WantedScreen, IsScreen}
use Rattle.datastream.specs.declared.wanted.Want.{Want}
use Rattle.datastream.specs.declared.wanted.Want.TheVariants.{Char, Attr, Keep}
use Rattle.shadow.specs.Fits.{is_keep}
use Rattle.shadow.specs.TextUnknown.{keeps_whole_fields}
use Rattle.panels.specs.declared.panel.Field.{Field}
use Rattle.panels.specs.declared.panel.Value.{Value}
use Rattle.panels.specs.declared.message.Message.{Message}
use Rattle.panels.specs.declared.next.Next.{Next}
use Rattle.panels.specs.Characters.{AreCharacters}
use Rattle.panels.specs.Panel.{PanelParts, Panels, shown_in}
use Rattle.panels.specs.Next.{next_of}
use Rattle.panels.specs.Screen.{Values, screen_of}

-- The sizes that screens may have: `begins` at the beginning of each connection and after Erase/Write, and the
-- alternate size of a model after Erase/Write Alternate.
--
-- Panels are named by 0-based numbers: `start` is the first one; `has_panel` says which exist; `shown` is the one that
-- a terminal of a model is shown if a panel is asked for; `fields` and `values` are a panel's; `next` is where a key
-- leads from it, or, with no AID, what is shown at connect in its place; and `screen` is the screen that it asks for;
-- with `keep`, fields keep what the operator left there.
pub record Application : Type 0 where
  pub begins : ScreenSize
  pub alternate : Model → ScreenSize
  pub start : ℕ
  pub has_panel : ℕ → Bool
  pub shown : Model → (panel : ℕ) → ℕ
  pub fields : ℕ → List Field
  pub values : ℕ → List Value
  pub next : ℕ → Aid → Next
  pub screen : (panel : ℕ) → Values → Message → (keep : Bool) → WantedScreen

-- ---- the last row is for messages

-- where the last row starts
abbrev pub message_place : ScreenSize → ℕ
message_place size = cells_in size - size.columns

-- a character is wanted in this cell
abbrev pub is_wanted_char : Want → Bool
is_wanted_char (Char byte) = true
is_wanted_char (Attr attribute) = false
is_wanted_char Keep = false

-- holds for a protected field to the end: its attribute, then characters only
abbrev pub IsMessageRow : List Want → Type 0
IsMessageRow [] = ⊥
IsMessageRow (Char byte ∷ wants) = ⊥
IsMessageRow (Keep ∷ wants) = ⊥
IsMessageRow (Attr attribute ∷ wants) = (attribute.protected ≡ true) × (list_all is_wanted_char wants ≡ true)

-- ---- applications

-- a size with at least one whole row, with room after an attribute in a row, and with an address for each cell
pub record IsValidSize (size : ScreenSize) : Type 0 where
  pub columns : 1 < size.columns
  pub row : size.columns ≤ cells_in size
  pub addresses : cells_in size ≤ most_cells

-- a screen of that size: the cursor is on it, the last row is for messages, and fields are kept whole or not at all
pub record IsShowable (now : ScreenSize) (wanted : WantedScreen) : Type 0 where
  pub size : wanted.size ≡ now
  pub cells : length wanted.cells ≡ cells_in now
  pub cursor : wanted.cursor < cells_in now
  pub messages : IsMessageRow (drop (message_place now) wanted.cells)
  pub kept : keeps_whole_fields wanted ≡ true

-- holds if no cell of the wanted screen is kept
abbrev pub KeepsNothing : WantedScreen → Type 0
KeepsNothing wanted = list_any is_keep wanted.cells ≡ false

-- holds if the size is one of the two that a terminal of this model may have
abbrev pub IsSizeOf : Application → Model → ScreenSize → Type 0
IsSizeOf app model size = (size ≡ app.begins) ⊎ (size ≡ app.alternate model)

-- An application: what is shown to a terminal has a size that it may have, and without `keep` keeps nothing.
pub record IsApplication (app : Application) : Type 0 where
  pub begins : IsValidSize app.begins
  pub alternates : (model : Model) → IsValidSize (app.alternate model)
  pub sizes : (model : Model) (panel : ℕ) (values : Values) (message : Message) (keep : Bool)
      → IsSizeOf app model (app.screen (app.shown model panel) values message keep).size
  pub showable : (panel : ℕ) (values : Values) (message : Message) (keep : Bool)
      → let screen = app.screen panel values message keep in IsShowable screen.size screen
  pub whole : (panel : ℕ) (values : Values) (message : Message) → KeepsNothing (app.screen panel values message false)

-- holds if the values have only characters that a cell can hold
abbrev pub AreTexts : Values → Type 0
AreTexts values = All AreCharacters (values_of values)

-- Holds if each screen that is asked for, with such values, is one of our profile: it has its size, the cursor is on
-- it, and each cell can hold what is wanted of it.
abbrev pub WantsProperScreens : Application → Type 0
WantsProperScreens app =
    (panel : ℕ) (values : Values) (message : Message) (keep : Bool) → AreTexts values
    → IsScreen (app.screen panel values message keep)

-- ---- the application that panels are

-- a panel without texts and fields, for a number that no panel has
abbrev pub no_panel : PanelParts
no_panel = record {
  name = [];
  model = M2;
  otherwise = None;
  texts = [];
  fields = [];
  values = [];
  cursor = 0;
  targets = [];
  asked = [];
  asked_at_connect = false;
}

-- the panel with a number
abbrev pub panel_at : Panels → ℕ → PanelParts
panel_at set number = unwrap_or (slice_get set.panels number) no_panel

-- what these panels ask for, as an application
abbrev pub application_of : Panels → Application
application_of set = record {
  begins = model_2;
  alternate = alternate_of;
  start = set.start;
  has_panel = λ panel. nat_lt panel (length set.panels);
  shown = λ model panel. shown_in set model panel;
  fields = λ panel. (panel_at set panel).fields;
  values = λ panel. (panel_at set panel).values;
  next = λ panel aid. next_of (panel_at set panel) aid;
  screen = λ panel values message keep. screen_of (panel_at set panel) values message keep;
}

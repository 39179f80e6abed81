-- What a panel consists of, and what holds of the panels of each text (our profile).
use Rattle.std.specs.Prelude.{◌≡◌, ◌≢◌, ℕ, ◌<◌, ◌≤◌, ◌+◌, Bool, true, false, List, length, Option, Some, None, option_and_then, unwrap_or, slice_get, All, if◌then◌else◌}
use Rattle.std.specs.Option.{option_map_or}
use Rattle.codes3270.specs.Size.{ScreenSize, cells_in, alternate_of}
use Rattle.codes3270.specs.declared.size.Model.{Model}
use Rattle.codes3270.specs.declared.size.Model.TheVariants.{M2, M3, M4, M5}
use Rattle.codes3270.specs.declared.attention.Aid.{Aid}
use Rattle.panels.specs.declared.extent.Extent.{Extent}
use Rattle.panels.specs.declared.panel.Content.{Content}
use Rattle.panels.specs.declared.panel.Content.TheVariants.{Literal, Show}
use Rattle.panels.specs.declared.panel.TextItem.{TextItem}
use Rattle.panels.specs.declared.panel.Field.{Field}
use Rattle.panels.specs.declared.panel.Value.{Value}
use Rattle.panels.specs.Characters.{AreCharacters}
use Rattle.panels.specs.Keys.{place_of_key, IsKey}
use Rattle.panels.specs.Size.{message_start}

-- A panel. `otherwise` is the index of the panel that is shown instead in a session of another model, None for model 2.
-- Each of `values` is shown by one of `texts`. `cursor` is a buffer address. `targets` has the index of the panel that
-- each key leads to, and `asked` whether the application decides on the key, both in the order of `key_names`. With
-- `asked_at_connect` it decides what a session whose first panel this is shows first.
pub record PanelParts : Type 0 where
  pub name : List ℕ
  pub model : Model
  pub otherwise : Option ℕ
  pub texts : List TextItem
  pub fields : List Field
  pub values : List Value
  pub cursor : ℕ
  pub targets : List (Option ℕ)
  pub asked : List Bool
  pub asked_at_connect : Bool

-- the size of the screen on which a panel is laid out
abbrev pub size_of : PanelParts → ScreenSize
size_of panel = alternate_of panel.model

-- the index of the panel that a key leads to, if any
abbrev pub target_at : List (Option ℕ) → ℕ → Option ℕ
target_at targets place = option_and_then (λ target. target) (slice_get targets place)

abbrev pub target_of : PanelParts → Aid → Option ℕ
target_of panel aid = option_and_then (target_at panel.targets) (place_of_key aid)

-- whether the application decides on a key
abbrev pub is_asked_at : List Bool → ℕ → Bool
is_asked_at asked place = unwrap_or (slice_get asked place) false

-- the same by its AID; with no AID, whether the application decides at connect
abbrev pub is_asked : PanelParts → Aid → Bool
is_asked panel aid = option_map_or (is_asked_at panel.asked) (place_of_key aid) panel.asked_at_connect

-- the panels of a text: the index of the first to be shown, the names of the LUs, and the panels
pub record Panels : Type 0 where
  pub start : ℕ
  pub lus : List (List ℕ)
  pub panels : List PanelParts

-- whether a session shows a panel as it is: if the panel's model, given first, is 2 or the session's
abbrev pub is_shown : Model → Model → Bool
is_shown M2 session = true
is_shown M3 M3 = true
is_shown M4 M4 = true
is_shown M5 M5 = true
is_shown _ session = false

-- the index of the panel that a session of a model shows for the one at an index: itself, or its `otherwise`
abbrev pub shown_of : Model → ℕ → PanelParts → ℕ
shown_of session p panel = if is_shown panel.model session then p else unwrap_or panel.otherwise p

abbrev pub shown_in : Panels → Model → ℕ → ℕ
shown_in set session p = option_map_or (shown_of session p) (slice_get set.panels p) p

-- the set has the first panel and all targets
pub record AreLinked (set : Panels) : Type 0 where
  pub start : set.start < length set.panels
  pub targets : (p : ℕ) (panel : PanelParts) (aid : Aid) (target : ℕ) → IsKey aid → slice_get set.panels p ≡ Some panel
      → target_of panel aid ≡ Some target → target < length set.panels

-- holds if `otherwise` is None for a panel of model 2, and the index of a panel of model 2 for any other
abbrev pub IsOtherwise : List PanelParts → Model → Option ℕ → Type 0
IsOtherwise panels model None = model ≡ M2
IsOtherwise panels model (Some q) = (model ≢ M2) × (other : PanelParts) × (slice_get panels q ≡ Some other)
    × (other.model ≡ M2)

abbrev pub HaveOtherwise : Panels → Type 0
HaveOtherwise set = (number : ℕ) (panel : PanelParts) → slice_get set.panels number ≡ Some panel
    → IsOtherwise set.panels panel.model panel.otherwise

-- holds if the item lies above the message row of the screen
abbrev pub IsAbove : ScreenSize → Extent → Type 0
IsAbove size extent = extent.first + extent.length ≤ message_start size

-- all items of a panel lie above the message row of its screen, and its cursor is on the screen
pub record IsLaidOut (panel : PanelParts) : Type 0 where
  pub texts : All (λ text. IsAbove (size_of panel) text.extent) panel.texts
  pub fields : All (λ field. IsAbove (size_of panel) field.extent) panel.fields
  pub cursor : panel.cursor < cells_in (size_of panel)

abbrev pub AreLaidOut : Panels → Type 0
AreLaidOut set = (number : ℕ) (panel : PanelParts) → slice_get set.panels number ≡ Some panel → IsLaidOut panel

-- holds if a text's own characters are such as a cell can hold
abbrev pub HasCharacters : Content → Type 0
HasCharacters (Literal text) = AreCharacters text
HasCharacters (Show number) = Unit {0}

-- the texts, fills and titles of a panel are characters that a cell can hold
pub record IsOfCharacters (panel : PanelParts) : Type 0 where
  pub texts : All (λ text. HasCharacters text.content) panel.texts
  pub fills : All (λ field. AreCharacters field.fill) panel.fields
  pub titles : All (λ field. AreCharacters field.title) panel.fields

abbrev pub AreOfCharacters : Panels → Type 0
AreOfCharacters set = (number : ℕ) (panel : PanelParts) → slice_get set.panels number ≡ Some panel
    → IsOfCharacters panel

-- holds if the cell is the item's attribute or one of its characters
abbrev pub IsCellOf : Extent → ℕ → Type 0
IsCellOf extent cell = (extent.first ≤ cell + 1) × (cell + 1 ≤ extent.first + extent.length)

abbrev pub ShareNoCell : Extent → Extent → Type 0
ShareNoCell one other = (cell : ℕ) → IsCellOf one cell → ¬ IsCellOf other cell

-- no two items of a panel share a cell
pub record HasItemsApart (panel : PanelParts) : Type 0 where
  pub texts : (i : ℕ) (j : ℕ) (one : TextItem) (other : TextItem) → i < j → slice_get panel.texts i ≡ Some one
      → slice_get panel.texts j ≡ Some other → ShareNoCell one.extent other.extent
  pub fields : (i : ℕ) (j : ℕ) (one : Field) (other : Field) → i < j → slice_get panel.fields i ≡ Some one
      → slice_get panel.fields j ≡ Some other → ShareNoCell one.extent other.extent
  pub both : (i : ℕ) (j : ℕ) (text : TextItem) (field : Field) → slice_get panel.texts i ≡ Some text
      → slice_get panel.fields j ≡ Some field → ShareNoCell text.extent field.extent

-- holds if no two items of a panel share a cell, for each panel
abbrev pub AreApart : Panels → Type 0
AreApart set = (number : ℕ) (panel : PanelParts) → slice_get set.panels number ≡ Some panel → HasItemsApart panel

-- holds if no two fields of a panel have the same number
abbrev pub HaveNumbersApart : List Field → Type 0
HaveNumbersApart fields = (i : ℕ) (j : ℕ) (one : Field) (other : Field) → i < j → slice_get fields i ≡ Some one
    → slice_get fields j ≡ Some other → one.number ≢ other.number

abbrev pub NumbersAreApart : Panels → Type 0
NumbersAreApart set = (number : ℕ) (panel : PanelParts) → slice_get set.panels number ≡ Some panel
    → HaveNumbersApart panel.fields

-- no two values of a panel have the same number, and no value has that of a field of any panel
pub record ValuesAreApart (set : Panels) : Type 0 where
  pub values : (p i j : ℕ) (panel : PanelParts) (one other : Value) → i < j → slice_get set.panels p ≡ Some panel
      → slice_get panel.values i ≡ Some one → slice_get panel.values j ≡ Some other → one.number ≢ other.number
  pub fields : (p q i j : ℕ) (panel other : PanelParts) (field : Field) (value : Value)
      → slice_get set.panels p ≡ Some panel → slice_get set.panels q ≡ Some other
      → slice_get panel.fields i ≡ Some field → slice_get other.values j ≡ Some value → field.number ≢ value.number

-- Holds if each value of a panel is what one of its texts shows, at the same place.
abbrev pub ShowsItsValues : PanelParts → Type 0
ShowsItsValues panel = (j : ℕ) (value : Value) → slice_get panel.values j ≡ Some value → (i : ℕ) × (text : TextItem)
    × (slice_get panel.texts i ≡ Some text) × (text.extent ≡ value.extent) × (text.content ≡ Show value.number)

abbrev pub ValuesAreTexts : Panels → Type 0
ValuesAreTexts set = (number : ℕ) (panel : PanelParts) → slice_get set.panels number ≡ Some panel
    → ShowsItsValues panel

-- what holds of the panels of each text
pub record AreSound (set : Panels) : Type 0 where
  pub linked : AreLinked set
  pub otherwise : HaveOtherwise set
  pub laid_out : AreLaidOut set
  pub characters : AreOfCharacters set
  pub apart : AreApart set
  pub numbers : NumbersAreApart set
  pub values : ValuesAreApart set
  pub shown : ValuesAreTexts set

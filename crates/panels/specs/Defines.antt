-- Which panels a draft defines (our profile).
use Rattle.std.specs.Prelude.{◌≡◌, ℕ, zero, suc, ◌+◌, List, [], ◌∷◌, ◌++◌, length, Option, Some, None, map, option_and_then, slice_get, bytes_eq, chars, if◌then◌else◌}
use Rattle.std.specs.List.{list_any}
use Rattle.std.specs.Option.{option_map_or}
use Rattle.codes3270.specs.declared.attention.Aid.{Aid}
use Rattle.codes3270.specs.Size.{ScreenSize}
use Rattle.toml.specs.Data.{Members}
use Rattle.toml.specs.Parse.{parse_document}
use Rattle.panels.specs.declared.fault.Location.TheVariants as part
use Rattle.panels.specs.declared.panel.Content.{Content}
use Rattle.panels.specs.declared.panel.Content.TheVariants.{Literal, Show}
use Rattle.panels.specs.declared.panel.TextItem.{TextItem}
use Rattle.panels.specs.declared.panel.Field.{Field}
use Rattle.panels.specs.declared.panel.Value.{Value}
use Rattle.panels.specs.Characters.{codes_of}
use Rattle.panels.specs.Size.{model_numbered}
use Rattle.panels.specs.Draft.{DraftItem, DraftPanel, DraftText, draft_of, draft_size, field_count, fields_of, otherwise_of, title_of, values_of}
use Rattle.panels.specs.Faults.{name_at, IsBasePanelNamed}
use Rattle.panels.specs.Items.{IsExtentOf}
use Rattle.panels.specs.Keys.{connect_name, key_names, name_of_key, IsKey}
use Rattle.panels.specs.Panel.{PanelParts, target_of, Panels}
use Rattle.panels.specs.Passes.{IsFaultless}

-- the number of fields and values in the panels before the one at an index; this one's are numbered from it on
abbrev pub fields_before : ℕ → List DraftPanel → ℕ
fields_before zero panels = 0
fields_before (suc p) panels =
    fields_before p panels + option_map_or (λ panel. length panel.fields) (slice_get panels p) 0

-- holds if the panel at an index has the name
abbrev pub IsPanelNamed : List DraftPanel → List ℕ → ℕ → Type 0
IsPanelNamed panels name p = name_at (part.Panel p) panels ≡ Some name

-- holds if the field or value with a number, from 0 over the whole text, has the name
abbrev pub IsFieldNamed : List DraftPanel → List ℕ → ℕ → Type 0
IsFieldNamed panels name number = (p : ℕ) × (i : ℕ) × (name_at (part.Field p i) panels ≡ Some name)
    × (number ≡ fields_before p panels + i)

-- holds if the content is that of a text item: its own text, or the value of the field that it names
abbrev pub IsContentOf : List DraftPanel → DraftItem → Content → Type 0
IsContentOf panels item (Literal shown) = (text : List ℕ) × (item.text ≡ Some text) × (shown ≡ codes_of (chars text))
IsContentOf panels item (Show number) = (item.text ≡ None) × IsFieldNamed panels item.show number

pub record IsTextOf (size : ScreenSize) (panels : List DraftPanel) (item : DraftItem) (text : TextItem) : Type 0 where
  pub extent : IsExtentOf size item text.extent
  pub bright : text.bright ≡ item.bright
  pub content : IsContentOf panels item text.content

-- the number of a panel's first value, behind its fields
abbrev pub first_value : ℕ → List DraftPanel → DraftPanel → ℕ
first_value p panels draft = fields_before p panels + field_count draft.fields

-- a value: its number, name and place, and the text that shows it
pub record IsValueOf (size : ScreenSize) (n : ℕ) (item : DraftItem) (value : Value) : Type 0 where
  pub number : value.number ≡ n
  pub name : value.name ≡ item.name
  pub extent : IsExtentOf size item value.extent

pub record IsShownOf (size : ScreenSize) (n : ℕ) (item : DraftItem) (text : TextItem) : Type 0 where
  pub extent : IsExtentOf size item text.extent
  pub bright : text.bright ≡ item.bright
  pub content : text.content ≡ Show n

pub record IsFieldOf (size : ScreenSize) (n : ℕ) (item : DraftItem) (field : Field) : Type 0 where
  pub number : field.number ≡ n
  pub name : field.name ≡ item.name
  pub title : field.title ≡ codes_of (chars (title_of item))
  pub extent : IsExtentOf size item field.extent
  pub numeric : field.numeric ≡ item.numeric
  pub hidden : field.hidden ≡ item.hidden
  pub required : field.required ≡ item.required
  pub marked : field.marked ≡ item.marked
  pub fill : field.fill ≡ codes_of (chars item.fill)

-- holds if there are as many things as drafts, and each is that of the draft at its index
pub record IsEachOf {X Y : Type 0} (IsOf : ℕ → X → Y → Type 0) (drafts : List X) (things : List Y) : Type 0 where
  pub size : length things ≡ length drafts
  pub are : (i : ℕ) (draft : X) (thing : Y) → slice_get drafts i ≡ Some draft → slice_get things i ≡ Some thing
      → IsOf i draft thing

-- a panel's texts: those of its texts, and after these those that show its values
pub record AreTextsOf (panels : List DraftPanel) (p : ℕ) (draft : DraftPanel) (texts : List TextItem) : Type 0 where
  pub own : List TextItem
  pub shown : List TextItem
  pub all : texts ≡ own ++ shown
  pub are_own : IsEachOf (λ i. IsTextOf (draft_size draft) panels) draft.texts own
  pub are_shown : IsEachOf (λ i. IsShownOf (draft_size draft) (first_value p panels draft + i)) (values_of draft) shown

-- the cursor's address: the first cell of the field that `cursor` names, else of the first field; 0 without fields
abbrev pub IsCursorBy : Option (List ℕ) → List Field → ℕ → Type 0
IsCursorBy (Some name) fields cursor =
    (i : ℕ) × (field : Field) × (slice_get fields i ≡ Some field) × (field.name ≡ name) × (cursor ≡ field.extent.first)
IsCursorBy None [] cursor = cursor ≡ 0
IsCursorBy None (first ∷ more) cursor = cursor ≡ first.extent.first

-- the text at the first of these keys that has the name
abbrev pub text_at_key : List ℕ → List (List ℕ × List ℕ) → Option (List ℕ)
text_at_key name [] = None
text_at_key name (key ∷ keys) = if bytes_eq key.0 name then Some key.1 else text_at_key name keys

-- holds if the target is the index of the panel with this name, or None if there is no name
abbrev pub IsTargetBy : List DraftPanel → Option (List ℕ) → Option ℕ → Type 0
IsTargetBy panels None target = target ≡ None
IsTargetBy panels (Some name) None = ⊥
IsTargetBy panels (Some name) (Some p) = IsPanelNamed panels name p

-- holds if `otherwise` is the index of a panel of model 2 with the name, or None if there is no name
abbrev pub IsOtherwiseBy : List DraftPanel → Option (List ℕ) → Option ℕ → Type 0
IsOtherwiseBy panels None otherwise = otherwise ≡ None
IsOtherwiseBy panels (Some name) None = ⊥
IsOtherwiseBy panels (Some name) (Some p) = IsBasePanelNamed panels name p

pub record IsPanelOf (panels : List DraftPanel) (p : ℕ) (draft : DraftPanel) (panel : PanelParts) : Type 0 where
  pub name : panel.name ≡ draft.name
  pub model : panel.model ≡ model_numbered draft.model
  pub otherwise : IsOtherwiseBy panels (otherwise_of draft) panel.otherwise
  pub texts : AreTextsOf panels p draft panel.texts
  pub fields : IsEachOf (λ i. IsFieldOf (draft_size draft) (fields_before p panels + i)) (fields_of draft) panel.fields
  pub values : IsEachOf (λ i. IsValueOf (draft_size draft) (first_value p panels draft + i)) (values_of draft)
      panel.values
  pub cursor : IsCursorBy draft.cursor panel.fields panel.cursor
  pub places : length panel.targets ≡ length key_names
  pub asked : panel.asked ≡ map (λ name. list_any (bytes_eq name) draft.asks) key_names
  pub asked_at_connect : panel.asked_at_connect ≡ list_any (bytes_eq connect_name) draft.asks
  pub targets : (aid : Aid) → IsKey aid → IsTargetBy panels
      (option_and_then (λ name. text_at_key name draft.keys) (name_of_key aid)) (target_of panel aid)

-- holds if the panels are those of the draft; the first to be shown is the one that `start` names
pub record Defines (draft : DraftText) (set : Panels) : Type 0 where
  pub start : IsPanelNamed draft.panels draft.start set.start
  pub lus : set.lus ≡ draft.lus
  pub panels : IsEachOf (IsPanelOf draft.panels) draft.panels set.panels

-- holds if the text is TOML, its draft is faultless, and the draft defines the panels
abbrev pub IsReadFrom : List ℕ → Panels → Type 0
IsReadFrom text set = (top : Members) × (parse_document text ≡ Some top) × IsFaultless (draft_of top)
    × Defines (draft_of top) set

-- Two readings of a text define the same panels.
abbrev pub DefinesOnce : Type 0
DefinesOnce = (text : List ℕ) (set other : Panels) → IsReadFrom text set → IsReadFrom text other → set ≡ other

-- What is wrong with a panel text, and where (our profile).
use Rattle.std.specs.Prelude.{◌≡◌, ℕ, ◌<◌, ◌==◌, nat_lt, Bool, true, false, not, ◌||◌, ◌⊎◌, List, [], ◌∷◌, length, Option, Some, None, is_some, option_map, option_and_then, slice_get, bytes_eq, IsTrue, ℤ, pos, Contains, if◌then◌else◌}
use Rattle.std.specs.List.{list_any}
use Rattle.std.specs.Option.{option_map_or}
use Rattle.codes3270.specs.Size.{ScreenSize, model_2}
use Rattle.panels.specs.declared.fault.TreeFault.{TreeFault}
use Rattle.panels.specs.declared.fault.TreeFault.TheVariants.{UnknownKey, Missing, BadKind, BadName, TwiceNamed, OutOfPlace, Overlap, NoCode, NoTarget, BadKey, TooMany, BadModel}
use Rattle.panels.specs.declared.fault.Location.{Location}
use Rattle.panels.specs.declared.fault.Location.TheVariants.{Top, Panel, Text, Field, Value, Keys}
use Rattle.panels.specs.declared.fault.At.{At}
use Rattle.panels.specs.declared.fault.At.TheVariants as place
use Rattle.panels.specs.Limits.{most_panels, most_texts, most_fields}
use Rattle.panels.specs.Size.{is_model_number}
use Rattle.panels.specs.Draft.{DraftItem, DraftPanel, DraftText, draft_size, fields_of, otherwise_of}
use Rattle.panels.specs.Items.{is_panel_name, is_field_name, is_on_screen, is_in_place, HasCell, lacks_code}
use Rattle.panels.specs.Keys.{is_key_name, is_asked_name}

-- the faults that a pass looks for; there are six passes, from 1 on
abbrev pub faults_of : ℕ → List TreeFault
faults_of pass =
    if pass == 1 then UnknownKey ∷ Missing ∷ BadKind ∷ []
    else if pass == 2 then TooMany ∷ []
    else if pass == 3 then BadName ∷ BadKey ∷ TwiceNamed ∷ []
    else if pass == 4 then BadModel ∷ OutOfPlace ∷ NoCode ∷ []
    else if pass == 5 then Overlap ∷ []
    else if pass == 6 then NoTarget ∷ []
    else []

-- the item at a part; each copy of one is a part, and each of a value one of a field, after all fields
abbrev pub item_at : Location → List DraftPanel → Option DraftItem
item_at (Text p i) panels = option_and_then (λ panel. slice_get panel.texts i) (slice_get panels p)
item_at (Field p i) panels = option_and_then (λ panel. slice_get panel.fields i) (slice_get panels p)
item_at _ panels = None

-- the size of the screen on which an item is laid out; that of model 2 for any other part
abbrev pub size_at : Location → List DraftPanel → ScreenSize
size_at (Text p i) panels = option_map_or draft_size (slice_get panels p) model_2
size_at (Field p i) panels = option_map_or draft_size (slice_get panels p) model_2
size_at _ panels = model_2

-- whether the text has the part
abbrev pub is_part : Location → List DraftPanel → Bool
is_part Top panels = true
is_part (Panel p) panels = is_some (slice_get panels p)
is_part (Keys p) panels = is_some (slice_get panels p)
is_part part panels = is_some (item_at part panels)

-- what is wrong with the keys of a table
abbrev pub wrong_at : Location → DraftText → Option TreeFault
wrong_at Top draft = draft.wrong
wrong_at (Panel p) draft = option_and_then (λ panel. panel.wrong) (slice_get draft.panels p)
wrong_at (Keys p) draft = option_and_then (λ panel. panel.wrong_keys) (slice_get draft.panels p)
wrong_at part draft = option_and_then (λ item. item.wrong) (item_at part draft.panels)

-- the panel that has the table; None for the text's own table
abbrev pub panel_of_part : Location → Option ℕ
panel_of_part Top = None
panel_of_part (Panel p) = Some p
panel_of_part (Text p i) = Some p
panel_of_part (Field p i) = Some p
panel_of_part (Value p i) = Some p
panel_of_part (Keys p) = Some p

-- the name of a panel, a field or a value; None for any other part
abbrev pub name_at : Location → List DraftPanel → Option (List ℕ)
name_at (Panel p) panels = option_map (λ panel. panel.name) (slice_get panels p)
name_at (Field p i) panels = option_map (λ field. field.name) (item_at (Field p i) panels)
name_at _ panels = None

-- the name of a panel, a field or a value as its table has it; None for any other part
abbrev pub stem_at : Location → List DraftPanel → Option (List ℕ)
stem_at (Panel p) panels = option_map (λ panel. panel.name) (slice_get panels p)
stem_at (Field p i) panels = option_map (λ field. field.stem) (item_at (Field p i) panels)
stem_at _ panels = None

-- the name in the table of which a field or value is a copy; None for a part that is no copy
abbrev pub copied_name : DraftItem → Option (List ℕ)
copied_name item = option_map (λ _. item.stem) item.copy

abbrev pub copied_name_at : Location → List DraftPanel → Option (List ℕ)
copied_name_at (Field p i) panels = option_and_then copied_name (item_at (Field p i) panels)
copied_name_at _ panels = None

-- whether the text has more panels, or a panel more texts, or more fields and values, than it may
abbrev pub has_too_many : Location → List DraftPanel → Bool
has_too_many Top panels = nat_lt most_panels (length panels)
has_too_many (Panel p) panels =
    option_map_or (λ panel. nat_lt most_texts (length panel.texts) || nat_lt most_fields (length panel.fields))
    (slice_get panels p) false
has_too_many _ panels = false

abbrev pub has_bad_name : Location → List DraftPanel → Bool
has_bad_name (Panel p) panels = option_map_or (λ name. not (is_panel_name name)) (stem_at (Panel p) panels) false
has_bad_name (Field p i) panels = option_map_or (λ name. not (is_field_name name)) (stem_at (Field p i) panels) false
has_bad_name _ panels = false

-- whether the table of keys has a name of no key, or `asks` has one that is neither of a key nor `connect`
abbrev pub has_strange_key : DraftPanel → Bool
has_strange_key panel = list_any (λ key. not (is_key_name key.0)) panel.keys
    || list_any (λ name. not (is_asked_name name)) panel.asks

abbrev pub has_bad_key : Location → List DraftPanel → Bool
has_bad_key (Keys p) panels = option_map_or has_strange_key (slice_get panels p) false
has_bad_key _ panels = false

-- whether the number of a panel's model is none of 2 to 5
abbrev pub has_bad_model : Location → List DraftPanel → Bool
has_bad_model (Panel p) panels = option_map_or (λ panel. not (is_model_number panel.model)) (slice_get panels p) false
has_bad_model _ panels = false

-- holds if both parts are panels, or both are fields or values, and the first comes before the second in the text
abbrev pub IsNamedBefore : Location → Location → Type 0
IsNamedBefore (Panel p) (Panel q) = p < q
IsNamedBefore (Field p i) (Field q j) = (p < q) ⊎ ((p ≡ q) × (i < j))
IsNamedBefore _ _ = ⊥

-- holds if both parts are items of one panel, and the first comes before the second; texts come before fields
abbrev pub IsItemBefore : Location → Location → Type 0
IsItemBefore (Text p i) (Text q j) = (p ≡ q) × (i < j)
IsItemBefore (Text p i) (Field q j) = p ≡ q
IsItemBefore (Field p i) (Field q j) = (p ≡ q) × (i < j)
IsItemBefore _ _ = ⊥

-- two items, both above the message row of a screen, share a cell
pub record Overlaps (size : ScreenSize) (item other : DraftItem) : Type 0 where
  pub on_screen : is_on_screen size item ≡ true
  pub other_on_screen : is_on_screen size other ≡ true
  pub cell : ℤ
  pub has_cell : HasCell size item cell
  pub other_has_cell : HasCell size other cell

-- holds if the panel at an index is of model 2 and has the name
abbrev pub IsBasePanelNamed : List DraftPanel → List ℕ → ℕ → Type 0
IsBasePanelNamed panels name p = (panel : DraftPanel) × (slice_get panels p ≡ Some panel) × (panel.model ≡ pos 2)
    × (panel.name ≡ name)

-- each holds if the name is that of: some panel, some panel of model 2, or some field or value
abbrev pub NamesPanel : List ℕ → List DraftPanel → Type 0
NamesPanel name panels = (p : ℕ) × (name_at (Panel p) panels ≡ Some name)

abbrev pub NamesBasePanel : List ℕ → List DraftPanel → Type 0
NamesBasePanel name panels = (p : ℕ) × IsBasePanelNamed panels name p

abbrev pub NamesItem : List ℕ → List DraftPanel → Type 0
NamesItem name panels = (p : ℕ) × (i : ℕ) × (name_at (Field p i) panels ≡ Some name)

-- holds if the part has the name, and none before it
abbrev pub IsFirstNamed : List ℕ → Location → List DraftPanel → Type 0
IsFirstNamed name part panels = (name_at part panels ≡ Some name)
    × ((earlier : Location) → IsNamedBefore earlier part → ¬ (name_at earlier panels ≡ Some name))

-- the name is that of some field: the first field or value with it is a field
pub record NamesField (name : List ℕ) (panels : List DraftPanel) : Type 0 where
  pub p : ℕ
  pub i : ℕ
  pub field : DraftItem
  pub there : item_at (Field p i) panels ≡ Some field
  pub is_field : field.is_value ≡ false
  pub first : IsFirstNamed name (Field p i) panels

-- holds if the name is that of a field of one panel
abbrev pub HasFieldNamed : List ℕ → DraftPanel → Type 0
HasFieldNamed name panel =
    (i : ℕ) × (field : DraftItem) × (slice_get (fields_of panel) i ≡ Some field) × (field.name ≡ name)

-- holds if a panel's `cursor` names none of its fields
abbrev pub HasLostCursor : DraftPanel → Type 0
HasLostCursor panel = (name : List ℕ) × (panel.cursor ≡ Some name) × ¬ HasFieldNamed name panel

-- holds if a panel's `otherwise` names no panel of model 2
abbrev pub HasLostOtherwise : DraftPanel → List DraftPanel → Type 0
HasLostOtherwise panel panels = (name : List ℕ) × (otherwise_of panel ≡ Some name) × ¬ NamesBasePanel name panels

-- Holds if a name that a table has is of nothing: `start` of no panel; `cursor` of no field of the panel, or
-- `otherwise` of no panel of model 2; `show` of no field; a key's target of no panel.
abbrev pub LacksTarget : Location → DraftText → Type 0
LacksTarget Top draft = ¬ NamesPanel draft.start draft.panels
LacksTarget (Panel p) draft =
    (panel : DraftPanel) × (slice_get draft.panels p ≡ Some panel)
    × (HasLostCursor panel ⊎ HasLostOtherwise panel draft.panels)
LacksTarget (Text p i) draft =
    (item : DraftItem) × (item_at (Text p i) draft.panels ≡ Some item) × (item.text ≡ None)
    × ¬ NamesField item.show draft.panels
LacksTarget (Field p i) draft = ⊥
LacksTarget (Value p i) draft = ⊥
LacksTarget (Keys p) draft =
    (panel : DraftPanel) × (key : List ℕ × List ℕ) × (slice_get draft.panels p ≡ Some panel) × Contains panel.keys key
    × ¬ NamesPanel key.1 draft.panels

-- whether a name occurs twice in the list
abbrev pub asks_twice : List (List ℕ) → Bool
asks_twice [] = false
asks_twice (name ∷ names) = list_any (bytes_eq name) names || asks_twice names

-- whether a panel's `asks` have a name twice, or one that its `keys` have too
abbrev pub has_key_twice : DraftPanel → Bool
has_key_twice panel = asks_twice panel.asks || list_any (λ key. list_any (bytes_eq key.0) panel.asks) panel.keys

-- holds if one way of naming gives one part a name that another way gives the other part
abbrev pub HaveOneName : (by by_other : Location → List DraftPanel → Option (List ℕ)) → Location → Location
    → List DraftPanel → Type 0
HaveOneName by by_other one other panels =
    (name : List ℕ) × (by one panels ≡ Some name) × (by_other other panels ≡ Some name)

-- holds if two parts have one name, or one of them has that in the table of which the other is a copy
abbrev pub ShareName : Location → Location → List DraftPanel → Type 0
ShareName one other panels = HaveOneName name_at name_at one other panels
    ⊎ HaveOneName name_at copied_name_at one other panels
    ⊎ HaveOneName copied_name_at name_at one other panels

-- holds if the first part comes before the second, and they share a name
abbrev pub IsEarlierWithName : Location → Location → List DraftPanel → Type 0
IsEarlierWithName earlier part panels = IsNamedBefore earlier part × ShareName earlier part panels

-- holds if an earlier part has the name of a panel, a field or a value
abbrev pub IsNamedTwice : Location → List DraftPanel → Type 0
IsNamedTwice part panels = (earlier : Location) × IsEarlierWithName earlier part panels

-- holds if the part is named twice so, or is a table of keys whose panel has a key twice
abbrev pub IsTwiceNamed : Location → List DraftPanel → Type 0
IsTwiceNamed (Keys p) panels = IsTrue (option_map_or has_key_twice (slice_get panels p) false)
IsTwiceNamed part panels = IsNamedTwice part panels

-- holds if an earlier item of the panel shares a cell with the item
abbrev pub IsOverlapping : Location → List DraftPanel → Type 0
IsOverlapping part panels =
    (earlier : Location) × (item : DraftItem) × (other : DraftItem) × IsItemBefore earlier part
    × (item_at part panels ≡ Some item) × (item_at earlier panels ≡ Some other)
    × Overlaps (size_at part panels) item other

-- holds if a table has the fault
abbrev pub HasFault : TreeFault → Location → DraftText → Type 0
HasFault UnknownKey part draft = wrong_at part draft ≡ Some UnknownKey
HasFault Missing part draft = wrong_at part draft ≡ Some Missing
HasFault BadKind part draft = wrong_at part draft ≡ Some BadKind
HasFault TooMany part draft = IsTrue (has_too_many part draft.panels)
HasFault BadName part draft = IsTrue (has_bad_name part draft.panels)
HasFault BadKey part draft = IsTrue (has_bad_key part draft.panels)
HasFault TwiceNamed part draft = IsTwiceNamed part draft.panels
HasFault BadModel part draft = IsTrue (has_bad_model part draft.panels)
HasFault OutOfPlace part draft = IsTrue
    (option_map_or (λ item. not (is_in_place (size_at part draft.panels) item)) (item_at part draft.panels) false)
HasFault NoCode part draft = IsTrue (option_map_or lacks_code (item_at part draft.panels) false)
HasFault Overlap part draft = IsOverlapping part draft.panels
HasFault NoTarget part draft = LacksTarget part draft

-- the place at which a fault of a table is reported; for a table of keys it is the panel's
abbrev pub place_of : Location → At
place_of Top = place.Top
place_of (Panel p) = place.Panel p
place_of (Text p i) = place.Text p i
place_of (Field p i) = place.Field p i
place_of (Value p i) = place.Value p i
place_of (Keys p) = place.Panel p

-- the table of a part: that of which an item is a copy
abbrev pub table_by : Location → DraftItem → Location
table_by (Text p i) item = Text p item.index
table_by (Field p i) item = if item.is_value then Value p item.index else Field p item.index
table_by part item = part

abbrev pub table_of : Location → List DraftPanel → Location
table_of part panels = option_map_or (table_by part) (item_at part panels) part

-- holds if the text has the part, and the part has the fault
abbrev pub IsFaulty : TreeFault → Location → DraftText → Type 0
IsFaulty fault part draft = IsTrue (is_part part draft.panels) × HasFault fault part draft

-- holds if a part whose table is at the place has the fault
abbrev pub IsFaultAt : TreeFault → At → DraftText → Type 0
IsFaultAt fault at_place draft = (part : Location) × (place_of (table_of part draft.panels) ≡ at_place)
    × IsFaulty fault part draft

-- holds if no part has a fault that the pass looks for
abbrev pub IsCleanIn : ℕ → DraftText → Type 0
IsCleanIn pass draft = (fault : TreeFault) (part : Location) → Contains (faults_of pass) fault
    → ¬ IsFaulty fault part draft

-- The order in which the faults of a panel text are looked for (our profile).
use Rattle.std.specs.Prelude.{◌≡◌, ℕ, suc, ◌<◌, ◌⊎◌, List, [], ◌∷◌, Some}
use Rattle.toml.specs.Data.{Members}
use Rattle.panels.specs.Draft.{DraftText, draft_of}
use Rattle.toml.specs.Parse.{parse_document}
use Rattle.panels.specs.declared.fault.TreeFault.{TreeFault}
use Rattle.panels.specs.declared.fault.TreeFault.TheVariants.{UnknownKey, Missing, BadKind, BadName, TwiceNamed, OutOfPlace, Overlap, NoCode, NoTarget, BadKey, TooMany, BadModel}
use Rattle.panels.specs.declared.fault.PanelFault.{PanelFault}
use Rattle.panels.specs.declared.fault.PanelFault.TheVariants.{Tree}
use Rattle.panels.specs.declared.fault.Location.{Location}
use Rattle.panels.specs.declared.fault.Location.TheVariants.{Top, Panel, Text, Field, Value, Keys}
use Rattle.panels.specs.declared.fault.At.{At}
use Rattle.panels.specs.Faults.{place_of, table_of, IsFaulty}

-- the pass that looks for a fault, from 1 to 6
abbrev pub pass_of : TreeFault → ℕ
pass_of UnknownKey = 1
pass_of Missing = 1
pass_of BadKind = 1
pass_of TooMany = 2
pass_of BadName = 3
pass_of BadKey = 3
pass_of TwiceNamed = 3
pass_of BadModel = 4
pass_of OutOfPlace = 4
pass_of NoCode = 4
pass_of Overlap = 5
pass_of NoTarget = 6

-- a pass goes from table to table: first the text's own, then panel by panel
abbrev pub panel_turn : Location → ℕ
panel_turn Top = 0
panel_turn (Panel p) = suc p
panel_turn (Text p i) = suc p
panel_turn (Field p i) = suc p
panel_turn (Keys p) = suc p
panel_turn (Value p i) = suc p

-- For each panel, a pass looks first at its own table, then at its texts, at its fields and values, and at the table of
-- its keys. A value's table is no part: each copy of a value is one of a field.
abbrev pub kind_turn : Location → ℕ
kind_turn Top = 0
kind_turn (Panel p) = 0
kind_turn (Text p i) = 1
kind_turn (Field p i) = 2
kind_turn (Keys p) = 3
kind_turn (Value p i) = 4

-- it looks at texts, and at fields, in the order of the text
abbrev pub item_turn : Location → ℕ
item_turn (Text p i) = i
item_turn (Field p i) = i
item_turn (Value p i) = i
item_turn _ = 0

-- the faults that a pass looks for in one table are looked for in this order
abbrev pub fault_turn : TreeFault → ℕ
fault_turn UnknownKey = 0
fault_turn Missing = 1
fault_turn BadKind = 2
fault_turn TooMany = 0
fault_turn BadName = 0
fault_turn BadKey = 1
fault_turn TwiceNamed = 2
fault_turn BadModel = 0
fault_turn OutOfPlace = 1
fault_turn NoCode = 2
fault_turn Overlap = 0
fault_turn NoTarget = 0

-- the turn of a fault in a table: a list of numbers that says when it is looked for
abbrev pub turn_of : TreeFault → Location → List ℕ
turn_of fault part = pass_of fault ∷ panel_turn part ∷ kind_turn part ∷ item_turn part ∷ fault_turn fault ∷ []

-- holds if the first turn comes before the second: it is lower where they first differ
abbrev pub IsSooner : List ℕ → List ℕ → Type 0
IsSooner (x ∷ xs) (y ∷ ys) = (x < y) ⊎ ((x ≡ y) × IsSooner xs ys)
IsSooner _ _ = ⊥

-- holds if the draft has no fault whose turn is sooner
abbrev pub IsClearTo : List ℕ → DraftText → Type 0
IsClearTo turn draft = (fault : TreeFault) (part : Location) → IsSooner (turn_of fault part) turn
    → ¬ IsFaulty fault part draft

-- the draft has the fault at the place, and none whose turn is sooner
pub record IsFirstFault (fault : TreeFault) (place : At) (draft : DraftText) : Type 0 where
  pub part : Location
  pub at_place : place_of (table_of part draft.panels) ≡ place
  pub stands : IsFaulty fault part draft
  pub sooner : IsClearTo (turn_of fault part) draft

-- holds if a fault that is reported for a draft is the draft's first
abbrev pub IsFirstIn : DraftText → PanelFault → Type 0
IsFirstIn draft (Tree fault place) = IsFirstFault fault place draft
IsFirstIn draft _ = Unit {0}

-- holds if a fault that is reported for a text is the first of the text's draft
abbrev pub IsFirstOf : List ℕ → PanelFault → Type 0
IsFirstOf text (Tree fault place) = (top : Members) × (parse_document text ≡ Some top)
    × IsFirstFault fault place (draft_of top)
IsFirstOf text _ = Unit {0}

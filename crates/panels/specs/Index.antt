-- The first part of a panel text that has each name (our profile; only for the contracts of private functions).
use Rattle.std.specs.Prelude.{◌≡◌, ℕ, List, length, Option, Some, None, String, ◌⊎◌, bytes_eq, if◌then◌else◌}
use Rattle.std.specs.Option.{option_or}
use Rattle.std.specs.Global.{Global}
use Rattle.std.specs.BTreeMap.{BTreeMap, get_by_text}
use Rattle.panels.specs.declared.fault.Location.{Location}
use Rattle.panels.specs.declared.fault.Location.TheVariants.{Panel, Field}
use Rattle.panels.specs.Draft.{DraftPanel}
use Rattle.panels.specs.Faults.{IsNamedBefore, copied_name_at, name_at}

-- maps each name, of panels, of fields, or of those that are copied, to the first part with it
abbrev pub NameIndex : Type 0
NameIndex = BTreeMap (String Global) Location

-- the part that the index has for a name
abbrev pub part_named : NameIndex → List ℕ → Option Location
part_named index name = get_by_text index name

-- the part that an index has for a name after a part was added under its name, unless the name was there; a part
-- without a name isn't added
abbrev pub noted : (List ℕ → Option Location) → Option (List ℕ) → Location → List ℕ → Option Location
noted old None part other = old other
noted old (Some name) part other = option_or (old other) (if bytes_eq name other then Some part else None)

-- holds if the index has a part for the name: this one, or one before it
abbrev pub HasFirstOf : NameIndex → List ℕ → Location → Type 0
HasFirstOf index name part = (first : Location) × (part_named index name ≡ Some first)
    × ((first ≡ part) ⊎ IsNamedBefore first part)

-- the index has, for each name that a part before the end is given, the first such part, and nothing else
pub record IsIndexTo (by : Location → List DraftPanel → Option (List ℕ)) (panels : List DraftPanel) (end : Location)
    (index : NameIndex) : Type 0 where
  pub named : (name : List ℕ) (part : Location) → part_named index name ≡ Some part → (by part panels ≡ Some name)
      × IsNamedBefore part end
  pub first : (name : List ℕ) (part : Location) → by part panels ≡ Some name → IsNamedBefore part end
      → HasFirstOf index name part

-- the indexes of all panels, of all fields, and of all copies
pub record AreIndexes (panels : List DraftPanel) (of_panels of_fields of_copies : NameIndex) : Type 0 where
  pub panels_are : IsIndexTo name_at panels (Panel (length panels)) of_panels
  pub fields_are : IsIndexTo name_at panels (Field (length panels) 0) of_fields
  pub copies_are : IsIndexTo copied_name_at panels (Field (length panels) 0) of_copies

-- holds if there is a name, and the index has for it the first part, which comes before the second
abbrev pub IsEarlierIn : NameIndex → Option (List ℕ) → Location → Location → Type 0
IsEarlierIn index None earlier part = ⊥
IsEarlierIn index (Some name) earlier part = (part_named index name ≡ Some earlier) × IsNamedBefore earlier part

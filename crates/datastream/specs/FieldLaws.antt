-- Two views of fields agree (GA23-0059-07 on fields): the list of fields in the order of their addresses, and for each
-- cell the nearest attribute before it, wrapping round at the start.
use Rattle.std.specs.Prelude.{◌≡◌, ◌↔◌, ◌+◌, ◌<◌, not, ℕ, Bool, true, false, List, [], map, length, slice_index_or, Some, None}
use Rattle.std.specs.List.{list_all, sum_by, Contains}
use Rattle.codes3270.specs.declared.attribute.Cell.{Cell}
use Rattle.codes3270.specs.declared.attribute.Cell.TheVariants.{Char, Attr}
use Rattle.datastream.specs.Screen.{is_char, attribute_over, field_text, places_from, IsGoverned}
use Rattle.datastream.specs.Fields.{Field, fields}
use Rattle.datastream.specs.Span.{is_within}

-- the addresses of the attributes
abbrev pub attribute_places : List Cell → List ℕ
attribute_places cells = places_from (λ cell. not (is_char cell)) 0 cells

-- holds if the screen has this field's attribute at its address, and its text is the characters after it
pub record IsFieldOf (cells : List Cell) (field : Field) : Type 0 where
  pub inside : field.place < length cells
  pub attribute : slice_index_or cells field.place (Char 0) ≡ Attr field.attr
  pub characters : field.text ≡ field_text cells field.place

-- whether a cell belongs to a field: its attribute's cell, or one of the cells of its text
abbrev pub covers : List Cell → Field → ℕ → Bool
covers cells field at = is_within (length cells) field.place (length field.text + 1) at

-- The fields are listed by the addresses of their attributes, in ascending order.
abbrev pub FieldsAscend : Type 0
FieldsAscend = (cells : List Cell)
    → (map (λ field. field.place) (fields cells) ≡ attribute_places cells)
    × ((i j : ℕ) → i < j → j < length (attribute_places cells)
    → slice_index_or (attribute_places cells) i 0 < slice_index_or (attribute_places cells) j 0)

-- The list has exactly the screen's fields.
abbrev pub FieldsAreListed : Type 0
FieldsAreListed = (cells : List Cell) (field : Field) → Contains (fields cells) field ↔ IsFieldOf cells field

-- Each cell of a formatted screen belongs to exactly one field, whose attribute is the nearest before the cell,
-- wrapping round at the start.
abbrev pub EachCellHasOneField : Type 0
EachCellHasOneField = (cells : List Cell) (at : ℕ) → at < length cells → list_all is_char cells ≡ false
    → (field : Field) × Contains (fields cells) field × (covers cells field at ≡ true)
    × IsGoverned cells at field.place × (attribute_over cells at ≡ Some field.attr)
    × ((other : Field) → Contains (fields cells) other → covers cells other at ≡ true → other ≡ field)

-- The list of fields is empty exactly if the screen has no attribute, and then no attribute governs any cell.
abbrev pub Unformatted : Type 0
Unformatted = (cells : List Cell)
    → ((list_all is_char cells ≡ true) ↔ (fields cells ≡ []))
    × (fields cells ≡ [] → (at : ℕ) → attribute_over cells at ≡ None)

-- The fields of a formatted screen take all cells: one for each attribute, and one for each character of a field.
abbrev pub FieldsTakeAll : Type 0
FieldsTakeAll = (cells : List Cell) → list_all is_char cells ≡ false
    → sum_by (λ field. length field.text) (fields cells) + length (fields cells) ≡ length cells

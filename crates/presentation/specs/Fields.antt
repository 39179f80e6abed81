-- The fields of a screen as they are listed (GA23-0059-07 on fields).
use Rattle.std.specs.Prelude.{ℕ, List, map, length}
use Rattle.codes3270.specs.declared.attribute.Cell.{Cell}
use Rattle.datastream.specs.Screen.{field_text}
use Rattle.datastream.specs.Fields.{Field as FieldFound, fields}
use Rattle.presentation.specs.declared.fields.Field.{Field}
use Rattle.presentation.specs.Places.{attribute_places}

-- a field as it is listed: the address of its attribute, and how many cells it has
abbrev pub listed : FieldFound → Field
listed field = record { attr = field.place; length = length field.text }

-- the fields of these cells, in the order of their attributes' addresses, each once
abbrev pub listed_fields : List Cell → List Field
listed_fields cells = map listed (fields cells)

-- ---- the list as a walk over the cells finds it

-- the field whose attribute is at an address
abbrev pub field_of : List Cell → ℕ → Field
field_of cells at = record { attr = at; length = length (field_text cells at) }

-- the fields whose attributes are at an address or after it, by address
abbrev pub fields_from : List Cell → ℕ → List Field
fields_from cells from = map (field_of cells) (attribute_places cells from)

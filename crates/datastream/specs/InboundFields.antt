-- Inbound data (GA23-0059-07 on inbound data streams) by fields: the characters before any address, each returned field
-- with its first address and its text, and the cells of a buffer.
use Rattle.std.specs.Prelude.{◌≡◌, ⊤, ◌+◌, ◌%◌, ◌<◌, ◌≤◌, ℕ, Bool, true, false, List, [], ◌∷◌, ◌++◌, length, map, filter, All, Option, Some, None, if◌then◌else◌}
use Rattle.std.specs.List.{flat_map, list_all}
use Rattle.codes3270.specs.Size.{ScreenSize, cells_in, most_cells}
use Rattle.codes3270.specs.Aid.{IsRealAid}
use Rattle.codes3270.specs.Storable.{is_storable}
use Rattle.codes3270.specs.declared.attribute.Cell.{Cell}
use Rattle.codes3270.specs.declared.attribute.Cell.TheVariants.{Char as CharCell, Attr as AttrCell}
use Rattle.datastream.specs.declared.inbound_part.Form.{Form}
use Rattle.datastream.specs.declared.inbound_part.Form.TheVariants.{Modified, All as AllModified, Buffer}
use Rattle.datastream.specs.declared.inbound_part.Part.{Part}
use Rattle.datastream.specs.declared.inbound_part.Part.TheVariants.{At, Char, Attr}
use Rattle.datastream.specs.Screen.{Screen, is_char, text_before_attribute}
use Rattle.datastream.specs.Fields.{Field, fields}
use Rattle.datastream.specs.Inbound.{without_nulls, read_modified, read_buffer}
use Rattle.datastream.specs.InboundText.{is_text_char, InboundParts, IsInbound, IsProperPart, stands_alone}

-- a returned field: the address of its first cell, and its characters
pub record Returned : Type 0 where
  pub first : ℕ
  pub text : List ℕ

-- holds if the field's address is on a screen with `size` cells, and its text is storable and has no nulls
pub record IsProperReturned (size : ℕ) (field : Returned) : Type 0 where
  pub first : field.first < size
  pub text : All (λ char. is_text_char char ≡ true) field.text

-- ---- from parts to fields

-- the characters before any address or attribute
abbrev pub leading_text : List Part → List ℕ
leading_text [] = []
leading_text (At address ∷ parts) = []
leading_text (Char char ∷ parts) = char ∷ leading_text parts
leading_text (Attr attr ∷ parts) = []

-- the returned fields: each address, with the characters up to the next one
abbrev pub returned : List Part → List Returned
returned [] = []
returned (At address ∷ parts) = record { first = address; text = leading_text parts } ∷ returned parts
returned (Char char ∷ parts) = returned parts
returned (Attr attr ∷ parts) = returned parts

-- the cell that a part is, or `None` for an address
abbrev pub cell_of_part : Part → Option Cell
cell_of_part (At address) = None
cell_of_part (Char char) = Some (CharCell char)
cell_of_part (Attr attr) = Some (AttrCell attr)

-- the cells among the parts, in order
abbrev pub cells_sent : List Part → List Cell
cells_sent [] = []
cells_sent (At address ∷ parts) = cells_sent parts
cells_sent (Char char ∷ parts) = CharCell char ∷ cells_sent parts
cells_sent (Attr attr ∷ parts) = AttrCell attr ∷ cells_sent parts

-- ---- and back

-- the parts of a returned field: its address and its characters
abbrev pub field_parts : Returned → List Part
field_parts field = At field.first ∷ map Char field.text

-- the parts of leading characters and returned fields
abbrev pub parts_of_fields : List ℕ → List Returned → List Part
parts_of_fields leading_text returned = map Char leading_text ++ flat_map field_parts returned

-- the part of a cell
abbrev pub part_of_cell : Cell → Part
part_of_cell (CharCell char) = Char char
part_of_cell (AttrCell attr) = Attr attr

-- the parts of a buffer's cells
abbrev pub parts_of_cells : List Cell → List Part
parts_of_cells cells = map part_of_cell cells

-- Parts and fields determine each other: parts of modified fields are those of their fields, parts of a buffer are
-- those of its cells, and the parts of fields or cells give those fields or cells.
pub record PartsAreFields : Type 0 where
  pub joined : (size : ℕ) (form : Form) (parts : List Part) → (form ≡ Buffer → ⊥) → All (IsProperPart size form) parts
      → parts_of_fields (leading_text parts) (returned parts) ≡ parts
  pub lead_back : (chars : List ℕ) (fields : List Returned) → leading_text (parts_of_fields chars fields) ≡ chars
  pub returned_back : (chars : List ℕ) (fields : List Returned) → returned (parts_of_fields chars fields) ≡ fields
  pub cells_joined : (size : ℕ) (parts : List Part) → All (IsProperPart size Buffer) parts
      → parts_of_cells (cells_sent parts) ≡ parts
  pub cells_back : (cells : List Cell) → cells_sent (parts_of_cells cells) ≡ cells

-- ---- what a screen sends

-- the characters that are sent before any address: on an unformatted screen all but nulls, else none
abbrev pub leading_text_of : List Cell → List ℕ
leading_text_of cells = if list_all is_char cells then without_nulls (text_before_attribute cells) else []

-- whether a field's MDT is on
abbrev pub is_modified_field : Field → Bool
is_modified_field field = field.attr.mdt

-- a field as it is sent; `size` is the number of cells
abbrev pub returned_field : ℕ → Field → Returned
returned_field size field = record { first = (field.place + 1) % size; text = without_nulls field.text }

-- the modified fields, by the addresses of their attributes
abbrev pub returned_of : List Cell → List Returned
returned_of cells = map (returned_field (length cells)) (filter is_modified_field (fields cells))

-- the answer of a screen to Read Modified or Read Modified All
abbrev pub modified_data : Form → ScreenSize → Screen → InboundParts
modified_data form size screen =
    if stands_alone form screen.aid
    then record { form = form; size = size; aid = screen.aid; cursor = None; parts = [] }
    else record {
      form = form;
      size = size;
      aid = screen.aid;
      cursor = Some screen.cursor;
      parts = parts_of_fields (leading_text_of screen.cells) (returned_of screen.cells);
    }

-- the answer of a screen to Read Buffer
abbrev pub buffer_data : ScreenSize → Screen → InboundParts
buffer_data size screen =
    record {
      form = Buffer;
      size = size;
      aid = screen.aid;
      cursor = Some screen.cursor;
      parts = parts_of_cells screen.cells;
    }

-- holds if a cell has a storable character or an attribute
abbrev pub IsStorableCell : Cell → Type 0
IsStorableCell (CharCell char) = is_storable char ≡ true
IsStorableCell (AttrCell attr) = ⊤

-- holds if all parts and addresses of a screen can be encoded
pub record IsSendable (screen : Screen) : Type 0 where
  pub few : length screen.cells ≤ most_cells
  pub cursor : screen.cursor < length screen.cells
  pub aid : IsRealAid screen.aid
  pub storable : All IsStorableCell screen.cells

-- What a screen sends in answer to a read is read back as exactly that screen's data.
pub record SentIsRead : Type 0 where
  pub modified : (size : ScreenSize) (screen : Screen) → length screen.cells ≡ cells_in size → IsSendable screen
      → IsInbound (modified_data Modified size screen) (read_modified false screen)
  pub all : (size : ScreenSize) (screen : Screen) → length screen.cells ≡ cells_in size → IsSendable screen
      → IsInbound (modified_data AllModified size screen) (read_modified true screen)
  pub buffer : (size : ScreenSize) (screen : Screen) → length screen.cells ≡ cells_in size → IsSendable screen
      → IsInbound (buffer_data size screen) (read_buffer screen)

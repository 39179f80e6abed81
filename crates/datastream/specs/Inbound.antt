-- What a terminal sends (GA23-0059-07 on Read Modified, Read Modified All and Read Buffer): the modified fields, or the
-- whole buffer.
use Rattle.std.specs.Prelude.{◌+◌, ◌%◌, ◌==◌, ◌&&◌, not, ℕ, Bool, false, List, [], ◌∷◌, ◌++◌, length, filter, if◌then◌else◌}
use Rattle.std.specs.List.{flat_map, list_all}
use Rattle.codes3270.specs.declared.attribute.Cell.{Cell}
use Rattle.codes3270.specs.declared.attribute.Cell.TheVariants.{Char, Attr}
use Rattle.codes3270.specs.Address.{address_bytes}
use Rattle.codes3270.specs.Aid.{byte_of_aid, is_short_aid}
use Rattle.codes3270.specs.Attribute.{attr_byte}
use Rattle.datastream.specs.Grammar.{set_buffer_address, start_field}
use Rattle.datastream.specs.Screen.{Screen, is_char, text_before_attribute, field_text, places_from}

-- a text without its nulls
abbrev pub without_nulls : List ℕ → List ℕ
without_nulls text = filter (λ byte. not (byte == 0)) text

-- whether a cell has an attribute with MDT on
abbrev pub is_modified : Cell → Bool
is_modified (Char byte) = false
is_modified (Attr attribute) = attribute.mdt

-- what is sent of the field whose attribute is at `at`: SBA, the address of its first cell, its characters but nulls
abbrev pub modified_field : List Cell → ℕ → List ℕ
modified_field cells at = set_buffer_address ∷ address_bytes ((at + 1) % length cells)
    ++ without_nulls (field_text cells at)

-- what is sent of all modified fields in the order of their attributes; of an unformatted screen, all but nulls
abbrev pub modified_text : List Cell → List ℕ
modified_text cells =
    if list_all is_char cells then without_nulls (text_before_attribute cells)
    else flat_map (modified_field cells) (places_from is_modified 0 cells)

-- the answer to Read Modified or, if `all`, to Read Modified All, which has the long form for every AID
abbrev pub read_modified : Bool → Screen → List ℕ
read_modified all screen =
    if is_short_aid screen.aid && not all then byte_of_aid screen.aid ∷ []
    else byte_of_aid screen.aid ∷ address_bytes screen.cursor ++ modified_text screen.cells

-- the bytes that Read Buffer sends of a cell
abbrev pub cell_bytes : Cell → List ℕ
cell_bytes (Char byte) = byte ∷ []
cell_bytes (Attr attribute) = start_field ∷ attr_byte attribute ∷ []

-- the answer to Read Buffer
abbrev pub read_buffer : Screen → List ℕ
read_buffer screen = byte_of_aid screen.aid ∷ address_bytes screen.cursor ++ flat_map cell_bytes screen.cells

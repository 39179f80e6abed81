-- Notes: what they write, over which cells, and which screens they may be written on.
use Rattle.std.proofs.Common.{◌≡◌, ◌==◌, ◌<◌, ◌≤◌, ◌+◌, ◌-◌, ◌%◌, nat_lt, ◌||◌, not, ℕ, zero, suc, Bool, true, IsTrue, List, [], ◌∷◌, ◌++◌, length, map, take, drop, Option, None, Some, refl, ap, sym, subst, ◌∙◌, arith, append-nil}
use Rattle.std.specs.Prelude.{replicate, slice_index_or}
use Rattle.std.specs.Int.{is_in_range}
use Rattle.std.specs.List.{All, list_all, list_any}
use Rattle.std.specs.Option.{option_or}
use Rattle.std.proofs.Math.Nat.{mod-eq_of_lt}
use Rattle.std.proofs.lemmas.Bool.{and_parts}
use Rattle.std.proofs.lemmas.Bool.Decides.{nat_tests}
use Rattle.std.proofs.lemmas.List.Elements.{All-nil, All-cons, All-map, All-take, All-append, All-replicate}
use Rattle.codes3270.specs.Size.{ScreenSize, cells_in, most_cells}
use Rattle.codes3270.specs.Storable.{is_storable, stored_controls}
use Rattle.codes3270.specs.declared.attribute.Attr.{Attr as Attribute}
use Rattle.codes3270.specs.declared.attribute.Cell.{Cell}
use Rattle.codes3270.specs.declared.attribute.Cell.TheVariants.{Char, Attr}
use Rattle.datastream.specs.Fields.{fields_from}
use Rattle.datastream.specs.Grammar.{CommandParts, IsProper, IsSpelt, IsCommand}
use Rattle.datastream.specs.Laws.{WrittenIsRead}
use Rattle.datastream.specs.Note.{quiet, IsNoteOrder, IsNote, places_from_on, places_noted, IsProtectedChar}
use Rattle.datastream.specs.Screen.{attribute_in, is_char, last_attribute, attribute_over, protects, is_char_at}
use Rattle.datastream.specs.Writing.{Call, sba, chars, IsAllowed, command_bytes}
use Rattle.datastream.specs.declared.command_code.CommandCode.TheVariants.{Write}
use Rattle.datastream.specs.declared.order.Order.{Order}
use Rattle.datastream.specs.declared.order.Order.TheVariants.{Sba, Char as CharData}
use Rattle.shadow.specs.Notes.{NoteOverwritesProtected, NoteOverwritesBare}
use Rattle.host_core.specs.Application.{IsValidSize, message_place}
use Rattle.host_core.specs.NoteLaws.{IsProtectedRow, HasMessageRow, formatted, unformatted, IsNoteOf, IsProperNote, NotesAreNotes, NotesOverwrite, NotesAreOverCharacters, NotesWriteProtected}
use Rattle.host_core.specs.Notes.{is_graphic, IsNoteText, in_cells, note_orders, note_command}

-- ---- the text

abbrev pub IsStored : ℕ → Type 0
IsStored byte = is_storable byte ≡ true

in_range : (byte : ℕ) → not (nat_lt byte 0x40) ≡ true → nat_lt byte 0xFF ≡ true → is_in_range 0x40 0xFE byte ≡ true
in_range byte low high = grind (arith, nat_tests)

pub graphic_stored : (byte : ℕ) → IsTrue (is_graphic byte) → IsStored byte
graphic_stored byte h =
    let parts = and_parts (not (nat_lt byte 0x40)) (nat_lt byte 0xFF) h in
    ap (λ (inside : Bool). inside || list_any (λ control. byte == control) stored_controls) (in_range byte parts.0 parts.1)

text_stored : (room : ℕ) (text : List ℕ) → IsNoteText text → All IsStored (in_cells room text)
text_stored room text is =
    All-take IsStored room (text ++ replicate room 0)
    (All-append IsStored text (replicate room 0) (λ k d below. graphic_stored (slice_index_or text k d) (is.graphic k d below)) (All-replicate IsStored room 0 refl))

pub few_taken : (room : ℕ) (text : List ℕ) → length (take room text) ≤ room
few_taken zero [] = omega arith
few_taken zero (byte ∷ text) = omega arith
few_taken (suc room) [] = omega arith
few_taken (suc room) (byte ∷ text) = let rest = few_taken room text in omega arith

-- ---- the command

address_on : (cells columns : ℕ) → 1 < columns → columns ≤ cells → cells - columns + 1 < cells
address_on cells columns room row = omega arith

pub orders_proper : (shape : ScreenSize) (text : List ℕ) → IsValidSize shape → IsNoteText text → All (IsProper (cells_in shape)) (note_orders shape text)
orders_proper shape text shaped is =
    All-cons (IsProper (cells_in shape)) (Sba (message_place shape + 1)) (map CharData (in_cells (shape.columns - 1) text))
    (address_on (cells_in shape) shape.columns shaped.columns shaped.row)
    (All-map (IsProper (cells_in shape)) CharData (in_cells (shape.columns - 1) text) (text_stored (shape.columns - 1) text is))

is_note : (shape : ScreenSize) (text : List ℕ) → IsNote (note_command shape text)
is_note shape text = record {
  first = message_place shape + 1;
  others = map CharData (in_cells (shape.columns - 1) text);
  code = refl;
  wcc = refl;
  orders = refl;
  each = All-map IsNoteOrder CharData (in_cells (shape.columns - 1) text) (λ k d below. tt);
}

note_of : (shape : ScreenSize) (command : CommandParts) → IsNoteOf shape command → IsNote command
note_of shape command note = subst IsNote (sym note.is) (is_note shape note.text)

pub notes_are_notes : NotesAreNotes
notes_are_notes shape command shaped note = subst IsProperNote (sym note.is) (record {
  note = is_note shape note.text;
  proper = orders_proper shape note.text shaped note.is_text;
})

text_allowed : (size : ℕ) (text : List ℕ) → All IsStored text → IsAllowed size (chars text)
text_allowed size text each = All-map (IsProper size) CharData text each

-- a note that begins at an address, for a screen of this shape
note_at : ScreenSize → ℕ → List Order → CommandParts
note_at shape address more = record { code = Write; size = shape; wcc = Some quiet; orders = Sba address ∷ more }

spelt_call : WrittenIsRead → (shape : ScreenSize) (address : ℕ) (text : List ℕ) → cells_in shape ≤ most_cells → address < cells_in shape → All IsStored text → IsSpelt (note_at shape address (map CharData text))
unfolding note_at
spelt_call law shape address text few on each =
    let calls : List Call = sba address ∷ chars text ∷ [] in
    let allowed : All (IsAllowed (cells_in shape)) calls =
    All-cons (IsAllowed (cells_in shape)) (sba address) (chars text ∷ []) (All-cons (IsProper (cells_in shape)) (Sba address) [] on (All-nil (IsProper (cells_in shape))))
    (All-cons (IsAllowed (cells_in shape)) (chars text) [] (text_allowed (cells_in shape) text each) (All-nil (IsAllowed (cells_in shape)))) in (
      shape,
      shape,
      command_bytes Write quiet calls,
      subst (λ (more : List Order). IsCommand shape shape (note_at shape address more) (command_bytes Write quiet calls)) (append-nil (map CharData text))
          (law shape shape Write quiet calls few allowed),
    )

note_spelt : WrittenIsRead → (shape : ScreenSize) (command : CommandParts) → IsValidSize shape → IsNoteOf shape command → IsSpelt command
unfolding note_at
note_spelt law shape command shaped note =
    subst IsSpelt (sym note.is)
    (spelt_call law shape (message_place shape + 1) (in_cells (shape.columns - 1) note.text) shaped.addresses
    (address_on (cells_in shape) shape.columns shaped.columns shaped.row) (text_stored (shape.columns - 1) note.text note.is_text))

-- ---- its places: from behind the row's attribute to the screen's end

each_place : (P : ℕ → Type 0) (size at : ℕ) (text : List ℕ) → at + length text ≤ size → ((place : ℕ) → at ≤ place → place < size → P place) → All P (places_from_on size at (map CharData text))
each_place P size at [] few each = All-nil P
each_place P size at (byte ∷ []) few each = All-cons P at [] (each at (omega arith) (omega arith)) (All-nil P)
each_place P size at (byte ∷ other ∷ text) few each =
    let next : (at + 1) % size ≡ at + 1 = mod-eq_of_lt (omega arith) in
    let more : All P (places_from_on size (at + 1) (map CharData (other ∷ text))) = each_place P size (at + 1) (other ∷ text) (omega arith) (λ place after within. each place (omega (arith, after)) within) in
    All-cons P at (places_from_on size ((at + 1) % size) (map CharData (other ∷ text))) (each at (omega arith) (omega arith))
    (subst (λ (from : ℕ). All P (places_from_on size from (map CharData (other ∷ text)))) (sym next) more)

in_row : (cells columns count : ℕ) → 1 < columns → columns ≤ cells → count ≤ columns - 1 → cells - columns + 1 + count ≤ cells
in_row cells columns count room row few = omega arith

pub each_noted : (P : ℕ → Type 0) (shape : ScreenSize) (command : CommandParts) (size : ℕ) → IsValidSize shape → IsNoteOf shape command → size ≡ cells_in shape
    → ((place : ℕ) → message_place shape < place → place < size → P place) → All P (places_noted size command)
each_noted P shape command size shaped note sized each =
    subst (λ (c : CommandParts). All P (places_noted size c)) (sym note.is)
    (each_place P size (message_place shape + 1) (in_cells (shape.columns - 1) note.text)
    (subst (λ (n : ℕ). message_place shape + 1 + length (in_cells (shape.columns - 1) note.text) ≤ n) (sym sized)
    (in_row (cells_in shape) shape.columns (length (in_cells (shape.columns - 1) note.text)) shaped.columns shaped.row (few_taken (shape.columns - 1) _)))
    (λ place after within. each place (omega (arith, after)) within))

-- ---- the cells there

chars_at : (cells : List Cell) (place : ℕ) → list_all is_char cells ≡ true → is_char_at cells place ≡ true
chars_at [] place all = refl
chars_at (Char byte ∷ cells) zero all = refl
chars_at (Char byte ∷ cells) (suc place) all = chars_at cells place all
chars_at (Attr attribute ∷ cells) place all = absurd (cc)

row_char : (cells : List Cell) (row place : ℕ) → IsProtectedRow (drop row cells) → row < place → is_char_at cells place ≡ true
row_char [] row place is after = refl
row_char (cell ∷ cells) row zero is after = absurd (omega arith)
row_char (Char byte ∷ cells) zero (suc place) is after = absurd is
row_char (Attr attribute ∷ cells) zero (suc place) is after = chars_at cells place is.1
row_char (cell ∷ cells) (suc row) (suc place) is after = row_char cells row place is (omega arith)

-- no attribute stands among characters
none_last : (count : ℕ) (cells : List Cell) → list_all is_char cells ≡ true → last_attribute (take count cells) ≡ None
none_last zero [] all = refl
none_last (suc count) [] all = refl
none_last zero (cell ∷ cells) all = refl
none_last (suc count) (Char byte ∷ cells) all = ap (λ (last : Option Attribute). option_or last None) (none_last count cells all)
none_last (suc count) (Attr attribute ∷ cells) all = absurd (cc)

-- the row's attribute is the last one up to any cell behind it
abbrev EndsProtected : List Cell → Type 0
EndsProtected cells = (attribute : Attribute) × (attribute.protected ≡ true) × (last_attribute cells ≡ Some attribute)

row_last : (cells : List Cell) (row count : ℕ) → IsProtectedRow (drop row cells) → row < count → EndsProtected (take count cells)
row_last [] zero count is after = absurd is
row_last [] (suc row) count is after = absurd is
row_last (cell ∷ cells) row zero is after = absurd (omega arith)
row_last (Char byte ∷ cells) zero (suc count) is after = absurd is
row_last (Attr attribute ∷ cells) zero (suc count) is after =
    (attribute, is.0, ap (λ (last : Option Attribute). option_or last (Some attribute)) (none_last count cells is.1))
row_last (cell ∷ cells) (suc row) (suc count) is after =
    let rest = row_last cells row count is (omega arith) in
    (rest.0, rest.1, ap (λ (last : Option Attribute). option_or last (attribute_in cell)) rest.2)

last_behind : (cells more : List Cell) (attribute : Attribute) → last_attribute more ≡ Some attribute → last_attribute (cells ++ more) ≡ Some attribute
last_behind [] more attribute last = last
last_behind (cell ∷ cells) more attribute last = ap (λ (o : Option Attribute). option_or o (attribute_in cell)) (last_behind cells more attribute last)

row_protects : (cells : List Cell) (row place : ℕ) → IsProtectedRow (drop row cells) → row < place → protects (attribute_over cells place) ≡ true
row_protects cells row place is after =
    let last = row_last cells row (place + 1) is (omega arith) in
    ap protects (last_behind (drop (place + 1) cells) (take (place + 1) cells) last.0 last.2) ∙ last.1

row_over : (shape : ScreenSize) (cells : List Cell) (place : ℕ) → HasMessageRow shape cells → message_place shape < place → place < length cells → IsProtectedChar cells place
row_over shape cells place is after within = record {
  inside = within;
  character = row_char cells (message_place shape) place is after;
  protected = row_protects cells (message_place shape) place is after;
}

-- ---- what it writes over

pub notes_write_protected : NotesWriteProtected
notes_write_protected shape command cells shaped note sized row = record {
  note = note_of shape command note;
  each = each_noted (IsProtectedChar cells) shape command (length cells) shaped note sized (λ place after within. row_over shape cells place row after within);
}

pub notes_are_over_characters : NotesAreOverCharacters
notes_are_over_characters shape command cells shaped note sized (formatted row) = record {
  note = note_of shape command note;
  each = each_noted (λ at. is_char_at cells at ≡ true) shape command (length cells) shaped note sized (λ place after within. row_char cells (message_place shape) place row after);
}
notes_are_over_characters shape command cells shaped note sized (unformatted none) = record {
  note = note_of shape command note;
  each = each_noted (λ at. is_char_at cells at ≡ true) shape command (length cells) shaped note sized (λ place after within. chars_at cells place none);
}

no_fields : (whole : List Cell) (at : ℕ) (cells : List Cell) → list_all is_char cells ≡ true → fields_from whole at cells ≡ []
no_fields whole at [] none = refl
no_fields whole at (Char byte ∷ cells) none = no_fields whole (at + 1) cells none
no_fields whole at (Attr attribute ∷ cells) none = absurd (cc)

pub notes_overwrite : WrittenIsRead → NoteOverwritesProtected → NoteOverwritesBare → NotesOverwrite
notes_overwrite written noted bare shape command screen shaped note sized (formatted row) =
    noted command screen (note_spelt written shape command shaped note) (notes_write_protected shape command screen.cells shaped note sized row)
notes_overwrite written noted bare shape command screen shaped note sized (unformatted none) =
    bare command screen (note_spelt written shape command shaped note) (no_fields screen.cells 0 screen.cells none)
    (notes_are_over_characters shape command screen.cells shaped note sized (unformatted none))

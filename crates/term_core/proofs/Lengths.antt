-- How long what a terminal sends can be.
use Rattle.std.proofs.Common.{◌≡◌, ℕ, ◌+◌, ◌*◌, ◌≤◌, not, ◌==◌, ◌&&◌, Bool, true, false, List, [], ◌∷◌, ◌++◌, length, map, arith, sym, ◌∙◌, ap, refl, length-append, suc, if◌then◌else◌}
use Rattle.std.specs.List.{flat_map, list_all, sum_by, Contains}
use Rattle.std.proofs.lemmas.List.Concat.{flat_map-cons}
use Rattle.std.proofs.lemmas.List.Sums.{sum_by-cons}
use Rattle.codes3270.specs.Size.{most_cells}
use Rattle.codes3270.specs.declared.attribute.Cell.{Cell}
use Rattle.codes3270.specs.declared.attribute.Cell.TheVariants.{Char, Attr}
use Rattle.codes3270.specs.Aid.{is_short_aid, byte_of_aid}
use Rattle.codes3270.specs.Address.{address_bytes}
use Rattle.datastream.specs.Screen.{Screen, is_char, text_before_attribute, field_text, places_from}
use Rattle.datastream.specs.Fields.{Field, fields}
use Rattle.datastream.specs.FieldLaws.{FieldsAscend, FieldsAreListed, FieldsTakeAll, attribute_places}
use Rattle.datastream.specs.Inbound.{without_nulls, is_modified, modified_field, modified_text, read_modified, cell_bytes, read_buffer}
use Rattle.term_core.specs.Room.{longest_reading}

-- ---- what a read gets

pub fewer : (bytes : List ℕ) → length (without_nulls bytes) ≤ length bytes
fewer [] = omega arith
fewer (byte ∷ bytes) =
    elim (byte == 0) as (λ v. length (if not v then byte ∷ without_nulls bytes else without_nulls bytes) ≤ length (byte ∷ bytes))
    [ true ↦ omega (arith, fewer bytes) | false ↦ omega (arith, fewer bytes) ]

pub text_fits : (cells : List Cell) → length (text_before_attribute cells) ≤ length cells
text_fits [] = omega arith
text_fits (Char byte ∷ cells) = omega (arith, text_fits cells)
text_fits (Attr attribute ∷ cells) = omega arith

cell_fits : (cell : Cell) → length (cell_bytes cell) ≤ 2
cell_fits (Char byte) = omega arith
cell_fits (Attr attribute) = omega arith

cells_fit : (cells : List Cell) → length (flat_map cell_bytes cells) ≤ 2 * length cells
cells_fit [] = omega arith
cells_fit (cell ∷ cells) = simp length-append (omega (arith, cell_fits cell, cells_fit cells))

-- the bytes that a field takes at most: an order, an address, and its characters
weight : List Cell → ℕ → ℕ
weight cells at = 3 + length (field_text cells at)

weight_is : (cells : List Cell) (field : Field) → field.text ≡ field_text cells field.place → weight cells field.place ≡ 3 + length field.text
unfolding weight
weight_is cells field e = ap (λ (text : List ℕ). 3 + length text) (sym e)

field_fits : (cells : List Cell) (at : ℕ) → length (modified_field cells at) ≤ weight cells at
unfolding weight
field_fits cells at = omega (arith, fewer (field_text cells at))

-- a field more
cons_fits : (whole : List Cell) (at : ℕ) (on : Bool) (some all : List ℕ)
    → length (flat_map (modified_field whole) some) ≤ sum_by (weight whole) all
    → length (flat_map (modified_field whole) (if on then at ∷ some else some)) ≤ sum_by (weight whole) (at ∷ all)
cons_fits whole at true some all fit =
    rw (sum_by-cons (weight whole) at all) (simp (flat_map-cons, length-append) (omega (arith, field_fits whole at)))
cons_fits whole at false some all fit = rw (sum_by-cons (weight whole) at all) (omega arith)

-- the modified fields are among the fields
modified_among : (whole cells : List Cell) (at : ℕ)
    → length (flat_map (modified_field whole) (places_from is_modified at cells)) ≤ sum_by (weight whole) (places_from (λ cell. not (is_char cell)) at cells)
modified_among whole [] at = omega arith
modified_among whole (Char byte ∷ cells) at = modified_among whole cells (at + 1)
modified_among whole (Attr attribute ∷ cells) at =
    cons_fits whole at attribute.mdt (places_from is_modified (at + 1) cells) (places_from (λ cell. not (is_char cell)) (at + 1) cells) (modified_among whole cells (at + 1))

sum_over_places : (w : ℕ → ℕ) (listed : List Field) → sum_by w (map (λ field. field.place) listed) ≡ sum_by (λ field. w field.place) listed
sum_over_places w [] = refl
sum_over_places w (field ∷ listed) =
    sum_by-cons w field.place (map (λ field. field.place) listed) ∙ ap (λ n. w field.place + n) (sum_over_places w listed)
    ∙ sym (sum_by-cons (λ field. w field.place) field listed)

contains_first : (field : Field) (listed : List Field) → Contains (field ∷ listed) field
contains_first field listed = (0, omega arith, refl)

contains_more : (first other : Field) (listed : List Field) → Contains listed other → Contains (first ∷ listed) other
contains_more first other listed there = (suc there.0, omega arith, there.2)

sum_fits : (cells : List Cell) (listed : List Field) → ((field : Field) → Contains listed field → field.text ≡ field_text cells field.place)
    → sum_by (λ field. weight cells field.place) listed ≡ 3 * length listed + sum_by (λ field. length field.text) listed
sum_fits cells [] are = refl
sum_fits cells (field ∷ listed) are =
    let here : weight cells field.place ≡ 3 + length field.text = weight_is cells field (are field (contains_first field listed)) in
    let rest = sum_fits cells listed (λ other there. are other (contains_more field other listed there)) in
    rw (sum_by-cons (λ field. weight cells field.place) field listed, sum_by-cons (λ field. length field.text) field listed) (omega (arith, here, rest))

-- the modified fields of a screen take at most three bytes a cell
modified_fit : FieldsAscend → FieldsAreListed → FieldsTakeAll → (cells : List Cell) → list_all is_char cells ≡ false
    → length (flat_map (modified_field cells) (places_from is_modified 0 cells)) ≤ 3 * length cells
modified_fit ascend listed all cells formatted =
    let few = modified_among cells cells 0 in
    let places : sum_by (weight cells) (attribute_places cells) ≡ sum_by (λ field. weight cells field.place) (fields cells) =
    ap (sum_by (weight cells)) (sym (ascend cells).0) ∙ sum_over_places (weight cells) (fields cells) in
    let total = sum_fits cells (fields cells) (λ field there. ((listed cells field).0 there).characters) in
    let cover = all cells formatted in
    omega (arith, few, places, total, cover)

modified_text_fits : FieldsAscend → FieldsAreListed → FieldsTakeAll → (cells : List Cell) (plain : Bool) → list_all is_char cells ≡ plain
    → length (if plain then without_nulls (text_before_attribute cells) else flat_map (modified_field cells) (places_from is_modified 0 cells)) ≤ 3 * length cells
modified_text_fits ascend listed all cells true e = omega (arith, fewer (text_before_attribute cells), text_fits cells)
modified_text_fits ascend listed all cells false e = modified_fit ascend listed all cells e

short_or_long : (short : Bool) (aid : ℕ) (behind : List ℕ) (room : ℕ) → length behind ≤ room → length (if short then aid ∷ [] else aid ∷ behind) ≤ 1 + room
short_or_long true aid behind room fit = omega arith
short_or_long false aid behind room fit = omega arith

pub read_modified_fits : FieldsAscend → FieldsAreListed → FieldsTakeAll → (screen : Screen) → length screen.cells ≤ most_cells
    → (all : Bool) → length (read_modified all screen) ≤ longest_reading
read_modified_fits ascend listed whole screen few all =
    let text : length (modified_text screen.cells) ≤ 3 * length screen.cells = modified_text_fits ascend listed whole screen.cells (list_all is_char screen.cells) refl in
    let behind : length (address_bytes screen.cursor ++ modified_text screen.cells) ≤ 2 + 3 * length screen.cells = omega (arith, text) in
    let fits = short_or_long (is_short_aid screen.aid && not all) (byte_of_aid screen.aid) (address_bytes screen.cursor ++ modified_text screen.cells) (2 + 3 * length screen.cells) behind in
    omega (arith, fits, few)

pub read_buffer_fits : (screen : Screen) → length screen.cells ≤ most_cells → length (read_buffer screen) ≤ longest_reading
read_buffer_fits screen few = omega (arith, cells_fit screen.cells, few)

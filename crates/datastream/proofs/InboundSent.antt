-- What a screen's read writes is read as that screen's data.
use Rattle.std.proofs.Common.{◌≡◌, ◌==◌, ℕ, ◌+◌, ◌%◌, ◌<◌, ◌≤◌, List, [], ◌∷◌, ◌++◌, length, map, filter, Bool, true, false, cond, refl, ap, sym, ◌∙◌, Some, None, arith, append_assoc, subst}
use Rattle.std.specs.Prelude.{All, ◌&&◌, not}
use Rattle.std.specs.List.{flat_map, list_all}
use Rattle.std.proofs.Math.Nat.{mod-lt}
use Rattle.std.proofs.lemmas.Bool.{cond_both, and_from, false≢true}
use Rattle.std.proofs.lemmas.List.{append-nil, length-map}
use Rattle.std.proofs.lemmas.List.Elements.{All-head, All-tail, All-nil, All-cons}
use Rattle.codes3270.specs.Size.{ScreenSize, cells_in, most_cells}
use Rattle.codes3270.specs.Address.{address_bytes}
use Rattle.codes3270.specs.Aid.{byte_of_aid, is_short_aid}
use Rattle.codes3270.specs.Attribute.{attr_byte}
use Rattle.codes3270.specs.Storable.{is_storable}
use Rattle.codes3270.proofs.RoundTrips.{address_read_back, aid_read_back, attr_read_back}
use Rattle.codes3270.specs.declared.attribute.Attr.{Attr as Attribute}
use Rattle.codes3270.specs.declared.attribute.Cell.{Cell}
use Rattle.codes3270.specs.declared.attribute.Cell.TheVariants.{Char as CharCell, Attr as AttrCell}
use Rattle.datastream.specs.declared.inbound_part.Form.{Form}
use Rattle.datastream.specs.declared.inbound_part.Form.TheVariants.{Modified, All as AllModified, Buffer}
use Rattle.datastream.specs.declared.inbound_part.Part.{Part}
use Rattle.datastream.specs.declared.inbound_part.Part.TheVariants.{At, Char}
use Rattle.datastream.specs.Grammar.{set_buffer_address}
use Rattle.datastream.specs.Screen.{Screen, is_char, ring, text_before_attribute, field_text, places_from}
use Rattle.datastream.specs.Fields.{Field, fields_from}
use Rattle.datastream.specs.Inbound.{without_nulls, is_modified, modified_field, modified_text, read_modified, cell_bytes, read_buffer}
use Rattle.datastream.specs.InboundText.{is_text_char, IsTextPart, IsPart, AreParts, IsWhole, stands_alone, IsInbound}
use Rattle.datastream.specs.InboundText.IsInbound.{alone, long}
use Rattle.datastream.specs.InboundFields.{field_parts, parts_of_fields, part_of_cell, parts_of_cells, leading_text_of, is_modified_field, returned_field, returned_of, modified_data, buffer_data, IsStorableCell, IsSendable, SentIsRead}
use Rattle.datastream.proofs.Texts.{All-ring}

-- ---- parts of texts

text_part : (size : ℕ) (form : Form) (part : Part) (bytes : List ℕ) → (form ≡ Buffer → ⊥) → IsTextPart size part bytes → IsPart size form part bytes
text_part size Modified part bytes other stands = stands
text_part size AllModified part bytes other stands = stands
text_part size Buffer part bytes other stands = absurd (other refl)

whole_text : (size : ℕ) (form : Form) (parts : List Part) → (form ≡ Buffer → ⊥) → IsWhole size form parts
whole_text size Modified parts other = tt
whole_text size AllModified parts other = tt
whole_text size Buffer parts other = absurd (other refl)

AreParts-append : (size : ℕ) (form : Form) (ps qs : List Part) (a b : List ℕ) → AreParts size form ps a → AreParts size form qs b → AreParts size form (ps ++ qs) (a ++ b)
AreParts-append size form [] qs a b is are = subst (λ bytes. AreParts size form qs (bytes ++ b)) (sym is) are
AreParts-append size form (p ∷ ps) qs a b (front, back, first, others, is) are =
    (front, back ++ b, first, AreParts-append size form ps qs back b others are, ap (λ bytes. bytes ++ b) is ∙ append_assoc front back b)

chars_are_parts : (size : ℕ) (form : Form) (chars : List ℕ) → (form ≡ Buffer → ⊥) → All (λ char. is_text_char char ≡ true) chars → AreParts size form (map Char chars) chars
chars_are_parts size form [] other proper = refl
chars_are_parts size form (char ∷ chars) other proper = (
  char ∷ [],
  chars,
  text_part size form (Char char) (char ∷ []) other (All-head (λ c. is_text_char c ≡ true) char chars proper, refl),
  chars_are_parts size form chars other (All-tail (λ c. is_text_char c ≡ true) char chars proper),
  refl,
)

-- without nulls, storable characters are those of a text
text_chars : (chars : List ℕ) → All (λ char. is_storable char ≡ true) chars → All (λ char. is_text_char char ≡ true) (without_nulls chars)
text_chars [] proper = All-nil (λ c. is_text_char c ≡ true)
text_chars (char ∷ chars) proper =
    let P : ℕ → Type 0 = λ c. is_text_char c ≡ true in
    let here : is_storable char ≡ true = All-head (λ c. is_storable c ≡ true) char chars proper in
    let others : All P (without_nulls chars) = text_chars chars (All-tail (λ c. is_storable c ≡ true) char chars proper) in
    cond_both (not (char == 0)) (char ∷ without_nulls chars) (without_nulls chars) (λ cs. All P cs)
    (λ some. All-cons P char (without_nulls chars) (and_from _ _ here some) others)
    (λ none. others)

text_storable : (cells : List Cell) → All IsStorableCell cells → All (λ char. is_storable char ≡ true) (text_before_attribute cells)
text_storable [] proper = All-nil (λ c. is_storable c ≡ true)
text_storable (CharCell byte ∷ cells) proper =
    All-cons (λ c. is_storable c ≡ true) byte (text_before_attribute cells) (All-head IsStorableCell (CharCell byte) cells proper)
    (text_storable cells (All-tail IsStorableCell (CharCell byte) cells proper))
text_storable (AttrCell attribute ∷ cells) proper = All-nil (λ c. is_storable c ≡ true)

-- ---- the modified fields

field_is_parts : (size : ℕ) → size ≤ most_cells → (form : Form) (cells : List Cell) (at : ℕ) (attribute : Attribute) → (form ≡ Buffer → ⊥) → length cells ≡ size
    → All IsStorableCell cells → at < length cells
    → AreParts size form (field_parts (returned_field (length cells) (record { place = at; attr = attribute; text = field_text cells at }))) (modified_field cells at)
field_is_parts size few form cells at attribute other sized storable below =
    let first : ℕ = (at + 1) % length cells in
    let positive : 0 < length cells = omega arith in
    let in_range : first < size = subst (λ n. first < n) sized (mod-lt (at + 1) positive) in
    let text : List ℕ = without_nulls (field_text cells at) in
    let proper : All (λ char. is_text_char char ≡ true) text = text_chars _ (text_storable (ring (at + 1) cells) (All-ring IsStorableCell (at + 1) cells storable)) in (
      set_buffer_address ∷ address_bytes first,
      text,
      text_part size form (At first) (set_buffer_address ∷ address_bytes first) other (_, _, (sym (address_read_back first (omega (arith, in_range, few))), in_range), refl),
      chars_are_parts size form text other proper,
      refl,
    )

abbrev sent_from : List Cell → ℕ → List Cell → List Part
sent_from cells at rest = flat_map field_parts (map (returned_field (length cells)) (filter is_modified_field (fields_from cells at rest)))

abbrev written_from : List Cell → ℕ → List Cell → List ℕ
written_from cells at rest = flat_map (modified_field cells) (places_from is_modified at rest)

fields_are_parts : (size : ℕ) → size ≤ most_cells → (form : Form) (cells : List Cell) (at : ℕ) (rest : List Cell) → (form ≡ Buffer → ⊥) → length cells ≡ size
    → All IsStorableCell cells → at + length rest ≡ length cells
    → AreParts size form (sent_from cells at rest) (written_from cells at rest)
fields_are_parts size few form cells at [] other sized storable ends = refl
fields_are_parts size few form cells at (CharCell byte ∷ rest) other sized storable ends =
    fields_are_parts size few form cells (at + 1) rest other sized storable (omega arith)
fields_are_parts size few form cells at (AttrCell attribute ∷ rest) other sized storable ends =
    let field : Field = record { place = at; attr = attribute; text = field_text cells at } in
    let others : AreParts size form (sent_from cells (at + 1) rest) (written_from cells (at + 1) rest) =
    fields_are_parts size few form cells (at + 1) rest other sized storable (omega arith) in
    one_more attribute.mdt field others
    (field_is_parts size few form cells at attribute other sized storable (omega arith))
  where
    one_more : (modified : Bool) (field : Field) → AreParts size form (sent_from cells (at + 1) rest) (written_from cells (at + 1) rest)
        → AreParts size form (field_parts (returned_field (length cells) field)) (modified_field cells at)
        → AreParts size form (flat_map field_parts (map (returned_field (length cells)) (cond modified (field ∷ filter is_modified_field (fields_from cells (at + 1) rest)) (filter is_modified_field (fields_from cells (at + 1) rest)))))
        (flat_map (modified_field cells) (cond modified (at ∷ places_from is_modified (at + 1) rest) (places_from is_modified (at + 1) rest)))
    one_more true field others first = AreParts-append size form (field_parts (returned_field (length cells) field)) (sent_from cells (at + 1) rest) (modified_field cells at) (written_from cells (at + 1) rest) first others
    one_more false field others first = others

no_fields : (whole : List Cell) (at : ℕ) (cells : List Cell) → list_all is_char cells ≡ true → fields_from whole at cells ≡ []
no_fields whole at [] none = refl
no_fields whole at (CharCell byte ∷ cells) none = no_fields whole (at + 1) cells none
no_fields whole at (AttrCell attribute ∷ cells) none = absurd (false≢true none)

text_is_parts : (size : ℕ) → size ≤ most_cells → (form : Form) (cells : List Cell) → (form ≡ Buffer → ⊥) → length cells ≡ size → All IsStorableCell cells
    → AreParts size form (parts_of_fields (leading_text_of cells) (returned_of cells)) (modified_text cells)
text_is_parts size few form cells other sized storable = by (list_all is_char cells) refl
  where
    by : (b : Bool) → list_all is_char cells ≡ b
        → AreParts size form (parts_of_fields (cond b (without_nulls (text_before_attribute cells)) []) (returned_of cells)) (cond b (without_nulls (text_before_attribute cells)) (flat_map (modified_field cells) (places_from is_modified 0 cells)))
    by true none =
        let text : List ℕ = without_nulls (text_before_attribute cells) in
        let nothing : returned_of cells ≡ [] = ap (λ fs. map (returned_field (length cells)) (filter is_modified_field fs)) (no_fields cells 0 cells none) in
        let are : AreParts size form (map Char text) text = chars_are_parts size form text other (text_chars _ (text_storable cells storable)) in
        subst (λ fs. AreParts size form (parts_of_fields text fs) text) (sym nothing) (subst (λ ps. AreParts size form ps text) (sym (append-nil (map Char text))) are)
    by false some = fields_are_parts size few form cells 0 cells other sized storable (omega arith)

-- ---- Read Modified

modified_not_buffer : Modified ≡ Buffer → ⊥
modified_not_buffer e = cc

all_not_buffer : AllModified ≡ Buffer → ⊥
all_not_buffer e = cc

long_sent : (size : ScreenSize) (form : Form) (screen : Screen) → (form ≡ Buffer → ⊥) → length screen.cells ≡ cells_in size → IsSendable screen → stands_alone form screen.aid ≡ false
    → IsInbound (record { form = form; size = size; aid = screen.aid; cursor = Some screen.cursor; parts = parts_of_fields (leading_text_of screen.cells) (returned_of screen.cells) })
    (byte_of_aid screen.aid ∷ address_bytes screen.cursor ++ modified_text screen.cells)
long_sent size form screen other sized sendable goes_on =
    long (byte_of_aid screen.aid) _ _ screen.cursor (modified_text screen.cells) goes_on (aid_read_back screen.aid sendable.aid) refl
    (sym (address_read_back screen.cursor (omega (arith, sendable.cursor, sendable.few))), subst (λ (n : ℕ). screen.cursor < n) sized sendable.cursor)
    (text_is_parts (cells_in size) (subst (λ (n : ℕ). n ≤ most_cells) sized sendable.few) form screen.cells other sized sendable.storable) (whole_text (cells_in size) form _ other) refl

modified_sent : (size : ScreenSize) (screen : Screen) → length screen.cells ≡ cells_in size → IsSendable screen → IsInbound (modified_data Modified size screen) (read_modified false screen)
modified_sent size screen sized sendable = by (is_short_aid screen.aid) refl
  where
    by : (b : Bool) → is_short_aid screen.aid ≡ b
        → IsInbound (cond b (record { form = Modified; size = size; aid = screen.aid; cursor = None; parts = [] }) (record { form = Modified; size = size; aid = screen.aid; cursor = Some screen.cursor; parts = parts_of_fields (leading_text_of screen.cells) (returned_of screen.cells) }))
        (cond (b && not false) (byte_of_aid screen.aid ∷ []) (byte_of_aid screen.aid ∷ address_bytes screen.cursor ++ modified_text screen.cells))
    by true short = alone (byte_of_aid screen.aid) short (aid_read_back screen.aid sendable.aid) refl refl refl
    by false other = long_sent size Modified screen modified_not_buffer sized sendable other

all_sent : (size : ScreenSize) (screen : Screen) → length screen.cells ≡ cells_in size → IsSendable screen → IsInbound (modified_data AllModified size screen) (read_modified true screen)
all_sent size screen sized sendable = by (is_short_aid screen.aid)
  where
    by : (b : Bool) → IsInbound (record { form = AllModified; size = size; aid = screen.aid; cursor = Some screen.cursor; parts = parts_of_fields (leading_text_of screen.cells) (returned_of screen.cells) })
        (cond (b && not true) (byte_of_aid screen.aid ∷ []) (byte_of_aid screen.aid ∷ address_bytes screen.cursor ++ modified_text screen.cells))
    by true = long_sent size AllModified screen all_not_buffer sized sendable refl
    by false = long_sent size AllModified screen all_not_buffer sized sendable refl

-- ---- Read Buffer

cells_are_parts : (size : ℕ) (cells : List Cell) → All IsStorableCell cells → AreParts size Buffer (parts_of_cells cells) (flat_map cell_bytes cells)
cells_are_parts size [] storable = refl
cells_are_parts size (CharCell byte ∷ cells) storable =
    (byte ∷ [], flat_map cell_bytes cells, (All-head IsStorableCell (CharCell byte) cells storable, refl), cells_are_parts size cells (All-tail IsStorableCell (CharCell byte) cells storable), refl)
cells_are_parts size (AttrCell attribute ∷ cells) storable =
    (cell_bytes (AttrCell attribute), flat_map cell_bytes cells, (attr_byte attribute, sym (attr_read_back attribute), refl), cells_are_parts size cells (All-tail IsStorableCell (AttrCell attribute) cells storable), refl)

buffer_sent : (size : ScreenSize) (screen : Screen) → length screen.cells ≡ cells_in size → IsSendable screen → IsInbound (buffer_data size screen) (read_buffer screen)
buffer_sent size screen sized sendable =
    long (byte_of_aid screen.aid) _ _ screen.cursor (flat_map cell_bytes screen.cells) refl (aid_read_back screen.aid sendable.aid) refl
    (sym (address_read_back screen.cursor (omega (arith, sendable.cursor, sendable.few))), subst (λ (n : ℕ). screen.cursor < n) sized sendable.cursor)
    (cells_are_parts (cells_in size) screen.cells sendable.storable) (length-map screen.cells part_of_cell ∙ sized) refl

pub sent_is_read : SentIsRead
sent_is_read = record { modified = modified_sent; all = all_sent; buffer = buffer_sent }

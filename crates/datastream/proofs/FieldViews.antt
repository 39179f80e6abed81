-- The list of fields, and the attribute nearest before a cell.
use Rattle.std.proofs.Common.{◌≡◌, ◌⊎◌, ℕ, ◌+◌, ◌-◌, ◌%◌, ◌<◌, ◌≤◌, not, ◌&&◌, Bool, true, false, List, [], ◌∷◌, ◌++◌, length, map, get_or, take, drop, arith, sym, ◌∙◌, ap, refl, inl, inr, suc, zero, Some, None, length-append}
use Rattle.std.proofs.Math.Nat.{mod-eq_of_lt, mod-lt}
use Rattle.std.specs.List.{list_all, sum_by, Contains}
use Rattle.std.proofs.lemmas.List.{take-append-drop}
use Rattle.std.proofs.lemmas.List.Folds.{list_all-append}
use Rattle.std.proofs.lemmas.List.Sums.{sum_by-cons}
use Rattle.std.proofs.lemmas.Bool.{cases_lt, cases_eq, cases_Bool, lt-ltb, ltb-true}
use Rattle.codes3270.specs.declared.attribute.Cell.{Cell}
use Rattle.codes3270.specs.declared.attribute.Cell.TheVariants.{Char, Attr}
use Rattle.codes3270.specs.declared.attribute.Attr.{Attr as Attribute}
use Rattle.datastream.specs.Screen.{attribute_in, last_attribute, attribute_over, ring, is_char, is_char_at, text_before_attribute, field_text, places_from, IsGoverned}
use Rattle.datastream.specs.Fields.{Field, fields, fields_from}
use Rattle.datastream.specs.FieldLaws.{IsFieldOf, covers}
use Rattle.datastream.proofs.Rounds.{round_once, behind_ahead, behind_round, back_to}
use Rattle.datastream.proofs.Texts.{get_or-ring, get_or-text}
use Rattle.datastream.proofs.FieldWalk.{fields_walked, fields_are_walked, text_stops, at_drop}
use Rattle.datastream.proofs.Fields.{attribute_over_governed, all_characters_round}

-- ---- a field of the list is one of the screen

fields_there : (whole : List Cell) (at : ℕ) (rest : List Cell) (k : ℕ) (d : Field) → drop at whole ≡ rest → k < length (fields_from whole at rest) → IsFieldOf whole (get_or (fields_from whole at rest) k d)
fields_there whole at [] k d e below = absurd (omega arith)
fields_there whole at (Char byte ∷ rest) k d e below =
    fields_there whole (at + 1) rest k d (at_drop whole at (Char byte) rest e).2 below
fields_there whole at (Attr attribute ∷ rest) zero d e below =
    let there = at_drop whole at (Attr attribute) rest e in
    record { inside = there.0; attribute = there.1; characters = refl }
fields_there whole at (Attr attribute ∷ rest) (suc k) d e below =
    fields_there whole (at + 1) rest k d (at_drop whole at (Attr attribute) rest e).2 (omega arith)

-- ---- a field of the screen is listed

listed : (whole : List Cell) (at : ℕ) (rest : List Cell) (i : ℕ) (attribute : Attribute) (d : Field) → i < length rest → get_or rest i (Char 0) ≡ Attr attribute → (k : ℕ) × (k < length (fields_from whole at rest)) × ((get_or (fields_from whole at rest) k d).place ≡ at + i)
listed whole at [] i attribute d below e = absurd (omega arith)
listed whole at (Char byte ∷ rest) zero attribute d below e = cc
listed whole at (Char byte ∷ rest) (suc i) attribute d below e =
    let found = listed whole (at + 1) rest i attribute d (omega arith) e in
    (found.0, found.1, found.2 ∙ omega arith)
listed whole at (Attr other ∷ rest) zero attribute d below e = (0, omega arith, omega arith)
listed whole at (Attr other ∷ rest) (suc i) attribute d below e =
    let found = listed whole (at + 1) rest i attribute d (omega arith) e in
    (suc found.0, omega (arith, found.1), found.2 ∙ omega arith)

abbrev made : ℕ → Attribute → List ℕ → Field
made place attr text = record { place = place; attr = attr; text = text }

attribute_same : (x y : Attribute) → Attr x ≡ Attr y → x ≡ y
attribute_same x y e = cc

-- the attribute's place says which field it is
one_field : (cells : List Cell) (x y : Field) → IsFieldOf cells x → IsFieldOf cells y → x.place ≡ y.place → x ≡ y
one_field cells x y is_x is_y same =
    let attr : x.attr ≡ y.attr = attribute_same x.attr y.attr (sym is_x.attribute ∙ ap (λ (place : ℕ). get_or cells place (Char 0)) same ∙ is_y.attribute) in
    let text : x.text ≡ y.text = is_x.characters ∙ ap (field_text cells) same ∙ sym is_y.characters in
    ap (λ (place : ℕ). made place x.attr x.text) same ∙ ap (λ (a : Attribute). made y.place a x.text) attr ∙ ap (λ (t : List ℕ). made y.place y.attr t) text

pub field_listed : (cells : List Cell) (field : Field) → IsFieldOf cells field → Contains (fields cells) field
field_listed cells field is =
    let found = listed cells 0 cells field.place field.attr field is.inside is.attribute in
    let there : IsFieldOf cells (get_or (fields cells) found.0 field) = fields_there cells 0 cells found.0 field refl found.1 in
    (found.0, found.1, one_field cells (get_or (fields cells) found.0 field) field there is (found.2 ∙ omega arith))

pub listed_field : (cells : List Cell) (field : Field) → Contains (fields cells) field → IsFieldOf cells field
listed_field cells field (k, below, is) = rw is at (fields_there cells 0 cells k field refl below)

-- ---- in order

pub places_of_fields : (whole : List Cell) (at : ℕ) (rest : List Cell) → map (λ (field : Field). field.place) (fields_from whole at rest) ≡ places_from (λ cell. not (is_char cell)) at rest
places_of_fields whole at [] = refl
places_of_fields whole at (Char byte ∷ rest) = places_of_fields whole (at + 1) rest
places_of_fields whole at (Attr attribute ∷ rest) = ap (λ (places : List ℕ). at ∷ places) (places_of_fields whole (at + 1) rest)

abbrev attributes_from : ℕ → List Cell → List ℕ
attributes_from at cells = places_from (λ cell. not (is_char cell)) at cells

not_before : (at : ℕ) (cells : List Cell) (k d : ℕ) → k < length (attributes_from at cells) → at ≤ get_or (attributes_from at cells) k d
not_before at [] k d below = absurd (omega arith)
not_before at (Char byte ∷ cells) k d below = omega (arith, not_before (at + 1) cells k d below)
not_before at (Attr attribute ∷ cells) zero d below = omega arith
not_before at (Attr attribute ∷ cells) (suc k) d below =
    let lower : k < length (attributes_from (at + 1) cells) = omega arith in
    omega (arith, not_before (at + 1) cells k d lower)

pub ascending : (at : ℕ) (cells : List Cell) (i j d : ℕ) → i < j → j < length (attributes_from at cells) → get_or (attributes_from at cells) i d < get_or (attributes_from at cells) j d
ascending at [] i j d order below = absurd (omega arith)
ascending at (Char byte ∷ cells) i j d order below = ascending (at + 1) cells i j d order below
ascending at (Attr attribute ∷ cells) i zero d order below = absurd (omega arith)
ascending at (Attr attribute ∷ cells) zero (suc j) d order below =
    let lower : j < length (attributes_from (at + 1) cells) = omega arith in
    omega (arith, not_before (at + 1) cells j d lower)
ascending at (Attr attribute ∷ cells) (suc i) (suc j) d order below =
    ascending (at + 1) cells i j d (omega arith) (omega arith)

-- ---- a field's cells are those that its attribute governs

-- i places behind the next cell, and as many less back from a later one
ring_step : (size at place i : ℕ) → at < size → place < size → i < (at + size - place) % size → (place + 1 + i) % size ≡ (at + size - ((at + size - place) % size - 1 - i)) % size
ring_step size at place i a p near =
    elim (cases_lt at place) [
      | inl lower ↦
          let far : (at + size - place) % size ≡ at + size - place = behind_round size place at lower p in
          let close : i < at + size - place = rw far at near in
          rw far (ap (λ (n : ℕ). n % size) (omega arith))
      | inr upper ↦
          let far : (at + size - place) % size ≡ at - place = behind_ahead size place at upper a in
          let close : i < at - place = rw far at near in
          rw far
          (mod-eq_of_lt (omega arith)
          ∙ sym (round_once (at + size - (at - place - 1 - i)) size (omega arith) (omega arith) ∙ omega arith))
    ]

pub governed_from : (cells : List Cell) (at place : ℕ) → at < length cells → place < length cells → is_char_at cells place ≡ false → (at + length cells - place) % length cells ≤ length (field_text cells place) → IsGoverned cells at place
governed_from cells at place a p there reaches =
    let size : ℕ = length cells in
    let back : ℕ = (at + size - place) % size in
    let positive : 0 < size = omega arith in
    record {
      back = back;
      near = mod-lt (at + size - place) positive;
      place = sym (back_to size at place a p);
      there = there;
      none_nearer = λ nearer lower.
          let i : ℕ = back - 1 - nearer in
          let again : back - 1 - i ≡ nearer = omega arith in
          let inside : i < length (text_before_attribute (ring (place + 1) cells)) = omega arith in
          let small : back < size = mod-lt (at + size - place) positive in
          let same : (place + 1 + i) % size ≡ (at + size - nearer) % size = rw again at (ring_step size at place i a p (omega arith)) in
          ap (λ (n : ℕ). is_char_at cells n) (sym same)
          ∙ ap is_char (sym (get_or-ring cells (place + 1) i (Char 0) (omega arith) (omega arith)) ∙ get_or-text (ring (place + 1) cells) i (Char 0) inside);
    }

-- a text is as long as characters follow
text_reaches : (cells : List Cell) (count : ℕ) → count ≤ length cells → ((i : ℕ) → i < count → is_char (get_or cells i (Char 0)) ≡ true) → count ≤ length (text_before_attribute cells)
text_reaches cells zero few each = omega arith
text_reaches [] (suc count) few each = absurd (omega arith)
text_reaches (Char byte ∷ cells) (suc count) few each =
    omega (arith, text_reaches cells count (omega arith) (λ i below. each (suc i) (omega arith)))
text_reaches (Attr attribute ∷ cells) (suc count) few each = let wrong : false ≡ true = each 0 (omega arith) in cc

length-ring : (from : ℕ) (cells : List Cell) → length (ring from cells) ≡ length cells
length-ring from cells =
    let whole : length (take from cells ++ drop from cells) ≡ length cells = ap length (take-append-drop from cells) in
    omega (arith, whole, length-append (take from cells) (drop from cells), length-append (drop from cells) (take from cells))

pub governed_reaches : (cells : List Cell) (at place : ℕ) → at < length cells → IsGoverned cells at place → (at + length cells - place) % length cells ≤ length (field_text cells place)
governed_reaches cells at place a governed =
    let size : ℕ = length cells in
    let positive : 0 < size = omega arith in
    let p : place < size = rw governed.place (mod-lt (at + size - governed.back) positive) in
    let far : (at + size - place) % size ≡ governed.back = rw governed.place (back_to size at governed.back a governed.near) in
    rw far
    (text_reaches (ring (place + 1) cells) governed.back (omega (arith, governed.near, length-ring (place + 1) cells))
    (λ i below.
    let close : i < (at + size - place) % size = rw far below in
    let step : (place + 1 + i) % size ≡ (at + size - (governed.back - 1 - i)) % size = rw far at (ring_step size at place i a p close) in
    ap is_char (get_or-ring cells (place + 1) i (Char 0) (omega arith) (omega (arith, governed.near)))
    ∙ ap (λ (n : ℕ). is_char_at cells n) step
    ∙ governed.none_nearer (governed.back - 1 - i) (omega arith)))

-- ---- each cell has one

pub governor : (cells : List Cell) (at : ℕ) → at < length cells → list_all is_char cells ≡ false → (place : ℕ) × IsGoverned cells at place
governor cells at below formatted =
    elim (within (length cells) (omega arith)) [
      | inl found ↦ found
      | inr none ↦ absurd (let wrong : true ≡ false = sym (all_characters_round cells at below none) ∙ formatted in cc)
    ]
  where
    within : (count : ℕ) → count ≤ length cells → ((place : ℕ) × IsGoverned cells at place) ⊎ ((nearer : ℕ) → nearer < count → is_char_at cells ((at + length cells - nearer) % length cells) ≡ true)
    within zero few = inr (λ nearer lower. absurd (omega arith))
    within (suc count) few = elim (within count (omega arith)) [
      | inl found ↦ inl found
      | inr none ↦ elim (cases_Bool (is_char_at cells ((at + length cells - count) % length cells))) [
        | inl char ↦ inr (λ nearer lower. elim (cases_eq nearer count) [
          | inl same ↦ rw same char
          | inr apart ↦ none nearer (omega arith)
        ])
        | inr there ↦ inl ((at + length cells - count) % length cells, record { back = count; near = omega arith; place = refl; there = there; none_nearer = none })
      ]
    ]

pub one_governor : (cells : List Cell) (at x y : ℕ) → IsGoverned cells at x → IsGoverned cells at y → x ≡ y
one_governor cells at x y by_x by_y =
    elim (cases_lt by_x.back by_y.back) [
      | inl lower ↦ absurd (clash x by_x by_y.none_nearer lower)
      | inr upper ↦ elim (cases_eq by_x.back by_y.back) [
        | inl same ↦ by_x.place ∙ ap (λ (back : ℕ). (at + length cells - back) % length cells) same ∙ sym by_y.place
        | inr apart ↦ absurd (clash y by_y by_x.none_nearer (omega arith))
      ]
    ]
  where
    clash : (place : ℕ) (governed : IsGoverned cells at place) {bound : ℕ} → ((nearer : ℕ) → nearer < bound → is_char_at cells ((at + length cells - nearer) % length cells) ≡ true) → governed.back < bound → ⊥
    clash place governed chars lower =
        let wrong : true ≡ false = sym (chars governed.back lower) ∙ ap (λ (n : ℕ). is_char_at cells n) (sym governed.place) ∙ governed.there in
        cc

attribute_there : (cell : Cell) → is_char cell ≡ false → (attribute : Attribute) × (cell ≡ Attr attribute)
attribute_there (Char byte) e = cc
attribute_there (Attr attribute) e = (attribute, refl)

attribute_is_none : (cell : Cell) (attribute : Attribute) → cell ≡ Attr attribute → is_char cell ≡ false
attribute_is_none cell attribute e = rw e refl

covered_governed : (cells : List Cell) (at : ℕ) (field : Field) → at < length cells → IsFieldOf cells field → covers cells field at ≡ true → IsGoverned cells at field.place
covered_governed cells at field below is covered =
    let lower : (at + length cells - field.place) % length cells < length field.text + 1 = ltb-true _ _ covered in
    let long : length field.text ≡ length (field_text cells field.place) = ap length is.characters in
    governed_from cells at field.place below is.inside (attribute_is_none (get_or cells field.place (Char 0)) field.attr is.attribute) (omega arith)

pub each_cell : (cells : List Cell) (at : ℕ) → at < length cells → list_all is_char cells ≡ false → (field : Field) × Contains (fields cells) field × (covers cells field at ≡ true) × IsGoverned cells at field.place × (attribute_over cells at ≡ Some field.attr) × ((other : Field) → Contains (fields cells) other → covers cells other at ≡ true → other ≡ field)
each_cell cells at below formatted =
    let size : ℕ = length cells in
    let positive : 0 < size = omega arith in
    let found = governor cells at below formatted in
    let place : ℕ = found.0 in
    let governed : IsGoverned cells at place = found.1 in
    let inside : place < size = rw governed.place (mod-lt (at + size - governed.back) positive) in
    let attribute = attribute_there (get_or cells place (Char 0)) governed.there in
    let field : Field = made place attribute.0 (field_text cells place) in
    let is : IsFieldOf cells field = record { inside = inside; attribute = attribute.1; characters = refl } in
    let reaches : (at + size - place) % size ≤ length (field_text cells place) = governed_reaches cells at place below governed in (
      field,
      field_listed cells field is,
      lt-ltb _ _ (omega (arith, reaches)),
      governed,
      attribute_over_governed cells at place below governed ∙ ap attribute_in attribute.1,
      λ other listed covered.
          let is_other : IsFieldOf cells other = listed_field cells other listed in
          one_field cells other field is_other is (one_governor cells at other.place place (covered_governed cells at other below is_other covered) governed),
    )

-- ---- without attributes

pub none_listed : (whole : List Cell) (at : ℕ) (rest : List Cell) → list_all is_char rest ≡ true → fields_from whole at rest ≡ []
none_listed whole at [] all = refl
none_listed whole at (Char byte ∷ rest) all = none_listed whole (at + 1) rest all
none_listed whole at (Attr attribute ∷ rest) all = cc

pub no_attribute : (whole : List Cell) (at : ℕ) (rest : List Cell) → fields_from whole at rest ≡ [] → list_all is_char rest ≡ true
no_attribute whole at [] none = refl
no_attribute whole at (Char byte ∷ rest) none = no_attribute whole (at + 1) rest none
no_attribute whole at (Attr attribute ∷ rest) none = cc

last_attribute_none : (cells : List Cell) → list_all is_char cells ≡ true → last_attribute cells ≡ None
last_attribute_none [] all = refl
last_attribute_none (Char byte ∷ cells) all = rw (last_attribute_none cells all)
last_attribute_none (Attr attribute ∷ cells) all = cc

both_ways : (p q : Bool) → (p && q) ≡ true → (q && p) ≡ true
both_ways true q e = rw e
both_ways false q e = cc

all_in_ring : (cells : List Cell) (from : ℕ) → list_all is_char cells ≡ true → list_all is_char (ring from cells) ≡ true
all_in_ring cells from all =
    rw (list_all-append is_char (drop from cells) (take from cells))
    (both_ways (list_all is_char (take from cells)) (list_all is_char (drop from cells)) (sym (list_all-append is_char (take from cells) (drop from cells)) ∙ ap (list_all is_char) (take-append-drop from cells) ∙ all))

pub none_governs : (cells : List Cell) → fields cells ≡ [] → (at : ℕ) → attribute_over cells at ≡ None
none_governs cells none at =
    last_attribute_none (ring (at + 1) cells) (all_in_ring cells (at + 1) (no_attribute cells 0 cells none))

-- ---- all cells

abbrev text_total : List Field → ℕ
text_total all = sum_by (λ (field : Field). length field.text) all

total_from : (whole : List Cell) (at : ℕ) (rest : List Cell) → length (text_before_attribute (rest ++ whole)) + (text_total (fields_walked whole at rest) + length (fields_walked whole at rest)) ≡ length rest + length (text_before_attribute whole)
total_from whole at [] = omega arith
total_from whole at (Char byte ∷ rest) = omega (arith, total_from whole (at + 1) rest)
total_from whole at (Attr attribute ∷ rest) =
    let more : text_total (fields_walked whole at (Attr attribute ∷ rest)) ≡ length (text_before_attribute (rest ++ whole)) + text_total (fields_walked whole (at + 1) rest) =
    sum_by-cons (λ (field : Field). length field.text) (made at attribute (text_before_attribute (rest ++ whole))) (fields_walked whole (at + 1) rest) in
    omega (arith, more, total_from whole (at + 1) rest)

pub fields_total : (cells : List Cell) → list_all is_char cells ≡ false → text_total (fields cells) + length (fields cells) ≡ length cells
fields_total cells formatted =
    let same : length (text_before_attribute (cells ++ cells)) ≡ length (text_before_attribute cells) = ap length (text_stops cells cells formatted) in
    rw (fields_are_walked cells) (omega (arith, same, total_from cells 0 cells))

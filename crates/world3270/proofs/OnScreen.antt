-- A screen that shows a panel has each field of the panel, at its place and with its length, whatever keys were pressed since but Clear.
use Rattle.std.proofs.Common.{◌≡◌, ◌⊎◌, inl, inr, ◌+◌, ◌-◌, ◌<◌, ◌≤◌, arith, ℕ, zero, suc, true, false, None, Some, List, [], ◌∷◌, ◌++◌, length, drop, take, refl, ap, sym, ◌∙◌}
use Rattle.std.specs.Prelude.{slice_get, slice_index_or}
use Rattle.std.specs.List.{Contains}
use Rattle.std.proofs.lemmas.Bool.{cases_lt}
use Rattle.std.proofs.lemmas.List.{get_or-drop, get_or_past}
use Rattle.std.proofs.lemmas.Option.{get_or_from_slice_get, slice_get_cases, slice_get_past}
use Rattle.codes3270.specs.Size.{cells_in}
use Rattle.codes3270.specs.declared.attribute.Cell.{Cell}
use Rattle.codes3270.specs.declared.attribute.Cell.TheVariants.{Char, Attr}
use Rattle.datastream.specs.Fields.{Field, fields}
use Rattle.datastream.specs.Screen.{Screen, field_text, is_char, is_char_at, text_before_attribute}
use Rattle.datastream.specs.Wanted.{WantedScreen}
use Rattle.datastream.specs.declared.wanted.Want.{Want}
use Rattle.datastream.specs.declared.wanted.Want.TheVariants.{Char as WantChar, Attr as WantAttr, Keep}
use Rattle.datastream.proofs.FieldViews.{field_listed, listed_field}
use Rattle.panels.specs.KeptFields.{IsCharacterOf, IsFieldOn}
use Rattle.panels.specs.declared.extent.Extent.{Extent}
use Rattle.shadow.specs.Belief.{Shadow}
use Rattle.shadow.specs.Fits.{is_paintable}
use Rattle.shadow.specs.Meets.{Meets}
use Rattle.shadow.specs.Painted.{plainly_painted}
use Rattle.shadow.specs.Pairs.{Pairwise}
use Rattle.shadow.proofs.PaintedFields.{IsAsWanted, painted_as_wanted, wanted_at}
use Rattle.world3270.specs.refinement.Unreturned.{SamePlaces}

-- ---- a field among cells

-- an attribute right before its first cell, another right behind its last, none between them
pub record IsAmong (cells : List Cell) (extent : Extent) : Type 0 where
  pub attribute : is_char_at cells (extent.first - 1) ≡ false
  pub characters : (cell : ℕ) → IsCharacterOf extent cell → is_char_at cells cell ≡ true
  pub next : is_char_at cells (extent.first + extent.length) ≡ false

among_wanted : (wanted : WantedScreen) (cells : List Cell) (extent : Extent) → Pairwise IsAsWanted wanted.cells cells → IsFieldOn wanted extent → IsAmong cells extent
among_wanted wanted cells extent each on = record {
  attribute = wanted_at wanted.cells cells (extent.first - 1) (WantAttr on.attribute.0) each on.attribute.1;
  characters = λ cell is. by_place cell is (slice_get_cases wanted.cells cell).1;
  next = wanted_at wanted.cells cells (extent.first + extent.length) (WantAttr on.next.0) each on.next.1;
}
  where
    by_want : (cell : ℕ) → IsCharacterOf extent cell → (want : Want) → slice_get wanted.cells cell ≡ Some want → is_char_at cells cell ≡ true
    by_want cell is (WantChar byte) at = wanted_at wanted.cells cells cell (WantChar byte) each at
    by_want cell is Keep at = wanted_at wanted.cells cells cell Keep each at
    by_want cell is (WantAttr attribute) at = absurd (on.characters cell is (attribute, at))

    by_place : (cell : ℕ) → IsCharacterOf extent cell → ((x : Want) × (cell < length wanted.cells) × (slice_get wanted.cells cell ≡ Some x) × (slice_index_or wanted.cells cell x ≡ x)) ⊎ ((length wanted.cells ≤ cell) × (slice_get wanted.cells cell ≡ None))
        → is_char_at cells cell ≡ true
    by_place cell is (inl there) = by_want cell is there.0 there.2
    by_place cell is (inr past) =
        let before = is.1 in
        let beyond = past.0 in
        let none : slice_get wanted.cells (extent.first + extent.length) ≡ None = slice_get_past wanted.cells (extent.first + extent.length) (omega (arith, before, beyond)) in
        absurd (let both = sym none ∙ on.next.1 in cc)

-- a painted screen has it
pub among_painted : (over : Shadow) (wanted : WantedScreen) (before : Screen) (extent : Extent) → length wanted.cells ≡ cells_in wanted.size → is_paintable over wanted ≡ true → Meets over before
    → IsFieldOn wanted extent → IsAmong (plainly_painted wanted before).cells extent
among_painted over wanted before extent same fits meets on =
    among_wanted wanted (plainly_painted wanted before).cells extent (painted_as_wanted over wanted before same fits meets) on

-- so has one with attributes at the same addresses
pub among_same : (left now : List Cell) (extent : Extent) → SamePlaces left now → IsAmong left extent → IsAmong now extent
among_same left now extent same is = record {
  attribute = same.kinds (extent.first - 1) ∙ is.attribute;
  characters = λ cell at. same.kinds cell ∙ is.characters cell at;
  next = same.kinds (extent.first + extent.length) ∙ is.next;
}

-- ---- it is one of the screen's fields

text_run : (cells more : List Cell) (count : ℕ) → ((i : ℕ) → i < count → is_char_at cells i ≡ true) → is_char_at cells count ≡ false → length (text_before_attribute (cells ++ more)) ≡ count
text_run [] more count chars ends = absurd (let past = ap is_char (get_or_past [] count (Char 0) (omega arith)) in let both = sym ends ∙ past in cc)
text_run (Char byte ∷ cells) more zero chars ends = absurd (cc)
text_run (Attr attribute ∷ cells) more zero chars ends = refl
text_run (Attr attribute ∷ cells) more (suc count) chars ends = absurd (let wrong : false ≡ true = chars 0 (omega arith) in cc)
text_run (Char byte ∷ cells) more (suc count) chars ends = ap suc (text_run cells more count (λ i below. chars (suc i) (omega (arith, below))) ends)

length_among : (cells : List Cell) (extent : Extent) (place : ℕ) → place + 1 ≡ extent.first → IsAmong cells extent → length (field_text cells place) ≡ extent.length
length_among cells extent place before is =
    text_run (drop (place + 1) cells) (take (place + 1) cells) extent.length
    (λ i below. char_behind i ∙ is.characters (place + 1 + i) (omega (arith, before), omega (arith, before, below)))
    (char_behind extent.length ∙ ap (λ (n : ℕ). is_char_at cells (n + extent.length)) before ∙ is.next)
  where
    char_behind : (i : ℕ) → is_char_at (drop (place + 1) cells) i ≡ is_char_at cells (place + 1 + i)
    char_behind i = ap is_char (get_or-drop (place + 1) cells i (Char 0))

-- a field that is listed with that address has its length
pub listed-length : (cells : List Cell) (extent : Extent) (index : ℕ) (field : Field) → slice_get (fields cells) index ≡ Some field → field.place + 1 ≡ extent.first → IsAmong cells extent
    → length field.text ≡ extent.length
listed-length cells extent index field listed before is =
    ap length (by_place (slice_get_cases (fields cells) index).1) ∙ length_among cells extent field.place before is
  where
    by_place : ((x : Field) × (index < length (fields cells)) × (slice_get (fields cells) index ≡ Some x) × (slice_index_or (fields cells) index x ≡ x)) ⊎ ((length (fields cells) ≤ index) × (slice_get (fields cells) index ≡ None))
        → field.text ≡ field_text cells field.place
    by_place (inl there) = (listed_field cells field (index, there.1, get_or_from_slice_get (fields cells) index field field listed)).characters
    by_place (inr past) = absurd (let both = sym past.1 ∙ listed in cc)

-- some field is listed with that address
pub among_listed : (cells : List Cell) (extent : Extent) → IsAmong cells extent
    → (field : Field) × Contains (fields cells) field × (field.place ≡ extent.first - 1)
among_listed cells extent is = by_cell (slice_index_or cells (extent.first - 1) (Char 0)) refl (cases_lt (extent.first - 1) (length cells))
  where
    place : ℕ
    place = extent.first - 1

    by_cell : (cell : Cell) → slice_index_or cells (extent.first - 1) (Char 0) ≡ cell → (extent.first - 1 < length cells) ⊎ (length cells ≤ extent.first - 1)
        → (field : Field) × Contains (fields cells) field × (field.place ≡ extent.first - 1)
    by_cell cell at (inr past) = absurd (let none = sym (ap is_char (get_or_past cells (extent.first - 1) (Char 0) past)) ∙ is.attribute in cc)
    by_cell (Char byte) at (inl below) = absurd (let both = sym (ap is_char at) ∙ is.attribute in cc)
    by_cell (Attr attribute) at (inl below) =
        let field : Field = record { place = extent.first - 1; attr = attribute; text = field_text cells (extent.first - 1) } in
        (field, field_listed cells field (record { inside = below; attribute = at; characters = refl }), refl)

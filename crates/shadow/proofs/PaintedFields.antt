-- The fields of a painted screen: what is wanted is there, and what is kept stays.
use Rattle.std.proofs.Common.{◌≡◌, ◌⊎◌, inl, inr, ◌==◌, not, ◌&&◌, ◌||◌, ◌+◌, ◌-◌, ◌<◌, ◌≤◌, arith, ℕ, zero, suc, Bool, true, false, Some, List, [], ◌∷◌, ◌++◌, length, drop, take, length-drop, refl, ap, sym, subst, ◌∙◌}
use Rattle.std.specs.Prelude.{slice_get, slice_index_or}
use Rattle.std.specs.List.{Contains, list_any}
use Rattle.std.proofs.lemmas.Bool.{and_parts, cases_lt, eqb-true}
use Rattle.std.proofs.lemmas.List.{get_or-drop, get_or_append_left, get_or_past}
use Rattle.std.proofs.lemmas.Option.{same_Some, slice_get_within}
use Rattle.codes3270.specs.Size.{cells_in}
use Rattle.codes3270.specs.declared.attribute.Attr.{Attr as Attribute}
use Rattle.codes3270.specs.declared.attribute.Cell.{Cell}
use Rattle.codes3270.specs.declared.attribute.Cell.TheVariants.{Char, Attr}
use Rattle.datastream.specs.FieldLaws.{IsFieldOf}
use Rattle.datastream.specs.Fields.{Field, fields}
use Rattle.datastream.specs.KeptByKeys.{without_mdt}
use Rattle.datastream.specs.Screen.{Screen, is_char, is_char_at, field_text, text_before_attribute}
use Rattle.datastream.specs.Wanted.{WantedScreen}
use Rattle.datastream.specs.declared.wanted.Want.{Want}
use Rattle.datastream.specs.declared.wanted.Want.TheVariants.{Char as WantChar, Attr as WantAttr, Keep}
use Rattle.datastream.proofs.FieldViews.{field_listed, listed_field}
use Rattle.datastream.proofs.Texts.{get_or-text}
use Rattle.shadow.specs.Belief.{Belief, Shadow, cells_of_fields}
use Rattle.shadow.specs.Fits.{fits_field, fits_from, is_attribute, is_field, is_paintable}
use Rattle.shadow.specs.Meets.{FieldMeets, Meets}
use Rattle.shadow.specs.Painted.{attr_or_kept, cells_under, count_ahead, keeps_ahead, painted_from, plainly_painted}
use Rattle.shadow.specs.PaintedFields.{HasField, KeptStaysThere, StaysThere, WantsKept, WrittenIsThere}
use Rattle.shadow.specs.Pairs.{Pairwise}
use Rattle.shadow.specs.AfterReadBuffer.{same_attr}
use Rattle.shadow.proofs.ExactPainted.{IsFree, KeptIsFree, kept_free}
use Rattle.shadow.proofs.Keeps.{HasNoKeep, KeepsChars, keeps_chars, no_keep, no_keep_ahead, paintable_apart, paintable_fits}
use Rattle.shadow.proofs.LaidOut.{fields_size}
use Rattle.shadow.proofs.Paints.{length-under, same_attr_true, under_same}

-- ---- a painted screen has attributes where they are wanted

-- a cell is an attribute exactly if one is wanted there
abbrev pub IsAsWanted : Want → Cell → Type 0
IsAsWanted want cell = is_char cell ≡ not (is_attribute want)

kept_attr : (reset : Bool) (attribute : Attribute) (there : Cell) → IsFree there → is_char (attr_or_kept true reset attribute there) ≡ false
kept_attr reset attribute (Char byte) free = absurd free
kept_attr true attribute (Attr other) free = refl
kept_attr false attribute (Attr other) free = refl

attr_painted : (keeps reset : Bool) (attribute : Attribute) (there : Cell) → (keeps ≡ true → IsFree there) → is_char (attr_or_kept keeps reset attribute there) ≡ false
attr_painted true reset attribute there free = kept_attr reset attribute there (free refl)
attr_painted false reset attribute there free = refl

as_wanted : (reset : Bool) (whole rest : List Want) (cells : List Cell) → length cells ≡ length rest → KeepsChars rest cells → KeptIsFree whole rest cells
    → Pairwise IsAsWanted rest (painted_from reset whole rest cells)
as_wanted reset whole [] cells same keeps free = tt
as_wanted reset whole (want ∷ rest) [] same keeps free = absurd (omega arith)
as_wanted reset whole (WantChar byte ∷ rest) (there ∷ cells) same keeps free = (refl, as_wanted reset whole rest cells (omega arith) keeps free)
as_wanted reset whole (Keep ∷ rest) (Char byte ∷ cells) same keeps free = (refl, as_wanted reset whole rest cells (omega arith) keeps free)
as_wanted reset whole (Keep ∷ rest) (Attr attribute ∷ cells) same keeps free = absurd keeps
as_wanted reset whole (WantAttr attribute ∷ rest) (there ∷ cells) same keeps free =
    (attr_painted (keeps_ahead (rest ++ whole)) reset attribute there free.0, as_wanted reset whole rest cells (omega arith) keeps free.1)

-- where nothing is kept, nothing has to be there
none_kept : (whole rest : List Want) (cells : List Cell) → HasNoKeep whole → HasNoKeep rest → KeepsChars rest cells × KeptIsFree whole rest cells
none_kept whole [] cells h k = (tt, tt)
none_kept whole (want ∷ rest) [] h k = (tt, tt)
none_kept whole (WantChar byte ∷ rest) (there ∷ cells) h k = none_kept whole rest cells h k
none_kept whole (Keep ∷ rest) (there ∷ cells) h k = absurd (cc)
none_kept whole (WantAttr attribute ∷ rest) (there ∷ cells) h k =
    let more = none_kept whole rest cells h k in
    (more.0, (λ keeps. absurd (let none = sym (no_keep_ahead rest whole k h) ∙ keeps in cc), more.1))

pub painted_as_wanted : (over : Shadow) (wanted : WantedScreen) (before : Screen) → length wanted.cells ≡ cells_in wanted.size → is_paintable over wanted ≡ true → Meets over before
    → Pairwise IsAsWanted wanted.cells (plainly_painted wanted before).cells
painted_as_wanted over wanted before same fits meets = by_belief over fits meets
  where
    under : List Cell
    under = cells_under (length wanted.cells) before.cells

    from : KeepsChars wanted.cells under × KeptIsFree wanted.cells wanted.cells under → Pairwise IsAsWanted wanted.cells (plainly_painted wanted before).cells
    from kept = as_wanted wanted.reset wanted.cells wanted.cells under (length-under (length wanted.cells) before.cells) kept.0 kept.1

    none : HasNoKeep wanted.cells → Pairwise IsAsWanted wanted.cells (plainly_painted wanted before).cells
    none h = from (none_kept wanted.cells wanted.cells under h h)

    by_size : (beliefs : List Belief) → is_paintable (Shadow.Formatted beliefs) wanted ≡ true → Meets (Shadow.Formatted beliefs) before → (b : Bool) → (cells_of_fields beliefs == cells_in wanted.size) ≡ b
        → Pairwise IsAsWanted wanted.cells (plainly_painted wanted before).cells
    by_size beliefs fits meets false apart = none (paintable_apart beliefs wanted fits apart)
    by_size beliefs fits meets true e =
        let there : length before.cells ≡ cells_in wanted.size = sym (fields_size before.cells beliefs meets.1 meets.0) ∙ eqb-true (cells_of_fields beliefs) (cells_in wanted.size) e in
        let fit = paintable_fits (Shadow.Formatted beliefs) wanted fits in
        let chars : KeepsChars wanted.cells before.cells = keeps_chars beliefs wanted.cells before.cells (same ∙ sym there) meets.1 fit in
        let free : KeptIsFree wanted.cells wanted.cells before.cells = kept_free beliefs wanted.cells before.cells meets.1 0 wanted.cells before.cells refl (and_parts _ _ fit).1 in
        from (subst (λ (cells : List Cell). KeepsChars wanted.cells cells × KeptIsFree wanted.cells wanted.cells cells) (sym (under_same (length wanted.cells) before.cells (there ∙ sym same))) (chars, free))

    by_belief : (over : Shadow) → is_paintable over wanted ≡ true → Meets over before → Pairwise IsAsWanted wanted.cells (plainly_painted wanted before).cells
    by_belief Shadow.NothingKnown fits meets = none (no_keep wanted.cells (paintable_fits Shadow.NothingKnown wanted fits))
    by_belief (Shadow.Unformatted known) fits meets = none (no_keep wanted.cells (paintable_fits (Shadow.Unformatted known) wanted fits))
    by_belief (Shadow.Formatted beliefs) fits meets = by_size beliefs fits meets (cells_of_fields beliefs == cells_in wanted.size) refl

pub wanted_at : (wants : List Want) (cells : List Cell) (place : ℕ) (want : Want) → Pairwise IsAsWanted wants cells → slice_get wants place ≡ Some want → is_char_at cells place ≡ not (is_attribute want)
wanted_at [] cells place want each is = absurd (cc)
wanted_at (first ∷ wants) [] place want each is = absurd each
wanted_at (first ∷ wants) (cell ∷ cells) zero want each is = each.0 ∙ ap (λ (w : Want). not (is_attribute w)) (let same : Some first ≡ Some want = is in cc)
wanted_at (first ∷ wants) (cell ∷ cells) (suc place) want each is = wanted_at wants cells place want each.1 is

-- ---- a field whose cells are there is one of the screen's

text_is : (cells more : List Cell) (text : List ℕ) → ((i : ℕ) → i < length text → slice_index_or cells i (Char 0) ≡ Char (slice_index_or text i 0)) → is_char_at cells (length text) ≡ false
    → text_before_attribute (cells ++ more) ≡ text
text_is [] more text chars ends = absurd (let past = ap is_char (get_or_past [] (length text) (Char 0) (omega arith)) in let both = sym ends ∙ past in cc)
text_is (Char byte ∷ cells) more [] chars ends = absurd (cc)
text_is (Attr attribute ∷ cells) more [] chars ends = refl
text_is (Attr attribute ∷ cells) more (first ∷ text) chars ends = absurd (let wrong : Attr attribute ≡ Char first = chars 0 (omega arith) in cc)
text_is (Char byte ∷ cells) more (first ∷ text) chars ends =
    let here : Char byte ≡ Char first = chars 0 (omega arith) in
    let same : byte ≡ first = cc in
    ap (λ (b : ℕ). b ∷ text_before_attribute (cells ++ more)) same
    ∙ ap (λ (t : List ℕ). first ∷ t) (text_is cells more text (λ i below. chars (suc i) (omega (arith, below))) ends)

field_there : (cells : List Cell) (field : Field) → slice_index_or cells field.place (Char 0) ≡ Attr field.attr
    → ((i : ℕ) → i < length field.text → slice_index_or cells (field.place + 1 + i) (Char 0) ≡ Char (slice_index_or field.text i 0))
    → is_char_at cells (field.place + 1 + length field.text) ≡ false → Contains (fields cells) field
field_there cells field attribute chars ends =
    field_listed cells field (record {
      inside = inside (cases_lt field.place (length cells));
      attribute = attribute;
      characters = sym (text_is (drop (field.place + 1) cells) (take (field.place + 1) cells) field.text
          (λ i below. get_or-drop (field.place + 1) cells i (Char 0) ∙ chars i below)
          (ap is_char (get_or-drop (field.place + 1) cells (length field.text) (Char 0)) ∙ ends));
    })
  where
    inside : (field.place < length cells) ⊎ (length cells ≤ field.place) → field.place < length cells
    inside (inl below) = below
    inside (inr past) = absurd (let none : Char 0 ≡ Attr field.attr = sym (get_or_past cells field.place (Char 0) past) ∙ attribute in cc)

-- and the cells of one of the screen's fields are there, where they don't go round the end
char_there : (cells : List Cell) (field : Field) (i : ℕ) → Contains (fields cells) field → i < length field.text → field.place + 1 + i < length cells
    → slice_index_or cells (field.place + 1 + i) (Char 0) ≡ Char (slice_index_or field.text i 0)
char_there cells field i listed below inside =
    let from : ℕ = field.place + 1 in
    let is : IsFieldOf cells field = listed_field cells field listed in
    let within : i < length (field_text cells field.place) = subst (λ (t : List ℕ). i < length t) is.characters below in
    let long : length (drop from cells) ≡ length cells - from = length-drop from cells in
    sym (get_or_append_left (drop from cells) (take from cells) (Char 0) i (omega (arith, long, inside)) ∙ get_or-drop from cells i (Char 0))
    ∙ get_or-text (drop from cells ++ take from cells) i (Char 0) within
    ∙ ap (λ (t : List ℕ). Char (slice_index_or t i 0)) (sym is.characters)

-- ---- what is written

abbrev cell_wanted : Want → Cell
cell_wanted (WantChar byte) = Char byte
cell_wanted (WantAttr attribute) = Attr attribute
cell_wanted Keep = Char 0

-- where nothing is kept each cell is the wanted one
written_cell : (reset : Bool) (whole rest : List Want) (cells : List Cell) (cell : ℕ) (want : Want) → length cells ≡ length rest → HasNoKeep whole → HasNoKeep rest → slice_get rest cell ≡ Some want
    → slice_index_or (painted_from reset whole rest cells) cell (Char 0) ≡ cell_wanted want
written_cell reset whole [] cells cell want same h k at = absurd (cc)
written_cell reset whole (first ∷ rest) [] cell want same h k at = absurd (omega arith)
written_cell reset whole (WantChar byte ∷ rest) (there ∷ cells) zero want same h k at = ap cell_wanted (same_Some (WantChar byte) want at)
written_cell reset whole (Keep ∷ rest) (there ∷ cells) zero want same h k at = absurd (cc)
written_cell reset whole (WantAttr attribute ∷ rest) (there ∷ cells) zero want same h k at =
    ap (λ (keeps : Bool). attr_or_kept keeps reset attribute there) (no_keep_ahead rest whole k h) ∙ ap cell_wanted (same_Some (WantAttr attribute) want at)
written_cell reset whole (WantChar byte ∷ rest) (there ∷ cells) (suc cell) want same h k at = written_cell reset whole rest cells cell want (omega arith) h k at
written_cell reset whole (Keep ∷ rest) (there ∷ cells) (suc cell) want same h k at = absurd (cc)
written_cell reset whole (WantAttr attribute ∷ rest) (there ∷ cells) (suc cell) want same h k at = written_cell reset whole rest cells cell want (omega arith) h k at

pub written_there : WrittenIsThere
written_there wanted before field none w =
    let painted : List Cell = (plainly_painted wanted before).cells in
    let at : (cell : ℕ) (want : Want) → slice_get wanted.cells cell ≡ Some want → slice_index_or painted cell (Char 0) ≡ cell_wanted want =
    λ cell want is.
    written_cell wanted.reset wanted.cells wanted.cells (cells_under (length wanted.cells) before.cells) cell want (length-under (length wanted.cells) before.cells) none none is in
    field_there painted field (at field.place (WantAttr field.attr) w.attribute)
    (λ i below. at (field.place + 1 + i) (WantChar (slice_index_or field.text i 0)) (w.characters i below))
    (ap is_char (at (field.place + 1 + length field.text) (WantAttr w.ends.0) w.ends.1))

-- ---- what is kept

none_there : (wants : List Want) (cell : ℕ) → HasNoKeep wants → slice_get wants cell ≡ Some Keep → ⊥
none_there [] cell none at = absurd (cc)
none_there (WantChar byte ∷ wants) zero none at = absurd (cc)
none_there (WantAttr attribute ∷ wants) zero none at = absurd (cc)
none_there (Keep ∷ wants) cell none at = absurd (cc)
none_there (WantChar byte ∷ wants) (suc cell) none at = none_there wants cell none at
none_there (WantAttr attribute ∷ wants) (suc cell) none at = none_there wants cell none at

kept_cell : (reset : Bool) (whole rest : List Want) (cells : List Cell) (cell : ℕ) → length cells ≡ length rest → slice_get rest cell ≡ Some Keep
    → slice_index_or (painted_from reset whole rest cells) cell (Char 0) ≡ slice_index_or cells cell (Char 0)
kept_cell reset whole [] cells cell same at = absurd (cc)
kept_cell reset whole (want ∷ rest) [] cell same at = absurd (omega arith)
kept_cell reset whole (WantChar byte ∷ rest) (there ∷ cells) zero same at = absurd (cc)
kept_cell reset whole (WantAttr attribute ∷ rest) (there ∷ cells) zero same at = absurd (cc)
kept_cell reset whole (Keep ∷ rest) (there ∷ cells) zero same at = refl
kept_cell reset whole (WantChar byte ∷ rest) (there ∷ cells) (suc cell) same at = kept_cell reset whole rest cells cell (omega arith) at
kept_cell reset whole (WantAttr attribute ∷ rest) (there ∷ cells) (suc cell) same at = kept_cell reset whole rest cells cell (omega arith) at
kept_cell reset whole (Keep ∷ rest) (there ∷ cells) (suc cell) same at = kept_cell reset whole rest cells cell (omega arith) at

keeps_first : (wants more : List Want) → slice_get wants 0 ≡ Some Keep → keeps_ahead (wants ++ more) ≡ true
keeps_first [] more at = absurd (cc)
keeps_first (WantChar byte ∷ wants) more at = absurd (cc)
keeps_first (WantAttr attribute ∷ wants) more at = absurd (cc)
keeps_first (Keep ∷ wants) more at = refl

-- the attribute of a field that is kept is the one that is there
kept_attribute : (whole rest : List Want) (cells : List Cell) (place : ℕ) (attribute : Attribute) → length cells ≡ length rest → slice_get rest place ≡ Some (WantAttr attribute) → slice_get rest (suc place) ≡ Some Keep
    → slice_index_or (painted_from false whole rest cells) place (Char 0) ≡ slice_index_or cells place (Char 0)
kept_attribute whole [] cells place attribute same at next = absurd (cc)
kept_attribute whole (want ∷ rest) [] place attribute same at next = absurd (omega arith)
kept_attribute whole (WantChar byte ∷ rest) (there ∷ cells) zero attribute same at next = absurd (cc)
kept_attribute whole (Keep ∷ rest) (there ∷ cells) zero attribute same at next = absurd (cc)
kept_attribute whole (WantAttr a ∷ rest) (there ∷ cells) zero attribute same at next = ap (λ (keeps : Bool). attr_or_kept keeps false a there) (keeps_first rest whole next)
kept_attribute whole (WantChar byte ∷ rest) (there ∷ cells) (suc place) attribute same at next = kept_attribute whole rest cells place attribute (omega arith) at next
kept_attribute whole (Keep ∷ rest) (there ∷ cells) (suc place) attribute same at next = kept_attribute whole rest cells place attribute (omega arith) at next
kept_attribute whole (WantAttr a ∷ rest) (there ∷ cells) (suc place) attribute same at next = kept_attribute whole rest cells place attribute (omega arith) at next

-- ---- a field that is kept is believed to be there

slice_drop : (n : ℕ) (wants : List Want) (i : ℕ) → slice_get (drop n wants) i ≡ slice_get wants (n + i)
slice_drop zero wants i = ap (slice_get wants) (let same : i ≡ 0 + i = omega arith in same)
slice_drop (suc n) [] i = refl
slice_drop (suc n) (want ∷ wants) i = slice_drop n wants i ∙ ap (slice_get (want ∷ wants)) (let same : suc (n + i) ≡ suc n + i = omega arith in same)

count_is : (wants more : List Want) (count : ℕ) (behind : Attribute) → ((i : ℕ) → i < count → slice_get wants i ≡ Some Keep) → slice_get wants count ≡ Some (WantAttr behind) → count_ahead (wants ++ more) ≡ count
count_is [] more count behind chars ends = absurd (cc)
count_is (WantAttr a ∷ wants) more zero behind chars ends = refl
count_is (WantChar byte ∷ wants) more zero behind chars ends = absurd (cc)
count_is (Keep ∷ wants) more zero behind chars ends = absurd (cc)
count_is (WantAttr a ∷ wants) more (suc count) behind chars ends = absurd (let wrong : Some (WantAttr a) ≡ Some Keep = chars 0 (omega arith) in cc)
count_is (WantChar byte ∷ wants) more (suc count) behind chars ends = absurd (let wrong : Some (WantChar byte) ≡ Some Keep = chars 0 (omega arith) in cc)
count_is (Keep ∷ wants) more (suc count) behind chars ends = ap suc (count_is wants more count behind (λ i below. chars (suc i) (omega (arith, below))) ends)

fit_at : (bs : List Belief) (whole : List Want) (n : ℕ) (rest : List Want) (place : ℕ) (attribute : Attribute) → fits_from bs whole n rest ≡ true → slice_get rest place ≡ Some (WantAttr attribute)
    → fits_field bs (n + place) attribute (drop (suc place) rest ++ whole) ≡ true
fit_at bs whole n [] place attribute fit at = absurd (cc)
fit_at bs whole n (WantChar byte ∷ rest) zero attribute fit at = absurd (cc)
fit_at bs whole n (Keep ∷ rest) zero attribute fit at = absurd (cc)
fit_at bs whole n (WantAttr a ∷ rest) zero attribute fit at =
    let here : fits_field bs n a (rest ++ whole) ≡ true = (and_parts _ _ fit).0 in
    let wants : WantAttr a ≡ WantAttr attribute = same_Some (WantAttr a) (WantAttr attribute) at in
    let same : attribute ≡ a = cc in
    ap (λ (m : ℕ). fits_field bs m attribute (rest ++ whole)) (let first : n + 0 ≡ n = omega arith in first)
    ∙ ap (λ (x : Attribute). fits_field bs n x (rest ++ whole)) same ∙ here
fit_at bs whole n (WantChar byte ∷ rest) (suc place) attribute fit at =
    ap (λ (m : ℕ). fits_field bs m attribute (drop (suc place) rest ++ whole)) (let next : n + suc place ≡ n + 1 + place = omega arith in next)
    ∙ fit_at bs whole (n + 1) rest place attribute fit at
fit_at bs whole n (Keep ∷ rest) (suc place) attribute fit at =
    ap (λ (m : ℕ). fits_field bs m attribute (drop (suc place) rest ++ whole)) (let next : n + suc place ≡ n + 1 + place = omega arith in next)
    ∙ fit_at bs whole (n + 1) rest place attribute fit at
fit_at bs whole n (WantAttr a ∷ rest) (suc place) attribute fit at =
    ap (λ (m : ℕ). fits_field bs m attribute (drop (suc place) rest ++ whole)) (let next : n + suc place ≡ n + 1 + place = omega arith in next)
    ∙ fit_at bs whole (n + 1) rest place attribute (and_parts _ _ fit).1 at

abbrev IsMet : List Field → ℕ → ℕ → Attribute → Type 0
IsMet seen place count attribute =
    (field : Field) × Contains seen field × (field.place ≡ place) × (length field.text ≡ count) × (without_mdt field.attr ≡ without_mdt attribute)

field_met : (bs : List Belief) (seen : List Field) (place count : ℕ) (attribute : Attribute) → Pairwise FieldMeets bs seen → list_any (is_field place attribute count) bs ≡ true → IsMet seen place count attribute
field_met [] seen place count attribute meets any = absurd (cc)
field_met (b ∷ bs) [] place count attribute meets any = absurd meets
field_met (b ∷ bs) (field ∷ seen) place count attribute meets any = by_test (is_field place attribute count b) refl any (field_met bs seen place count attribute meets.1)
  where
    by_test : (t : Bool) → is_field place attribute count b ≡ t → (t || list_any (is_field place attribute count) bs) ≡ true
        → (list_any (is_field place attribute count) bs ≡ true → IsMet seen place count attribute) → IsMet (field ∷ seen) place count attribute
    by_test true here any rest =
        let parts = and_parts (b.place == place && same_attr b.attr attribute) (b.length == count) here in
        let more = and_parts (b.place == place) (same_attr b.attr attribute) parts.0 in (
          field,
          (0, omega arith, refl),
          meets.0.same_place ∙ eqb-true b.place place more.0,
          meets.0.same_length ∙ eqb-true b.length count parts.1,
          ap without_mdt meets.0.same_attr ∙ same_attr_true b.attr attribute more.1,
        )
    by_test false here any rest =
        let found = rest any in
        (found.0, (suc found.1.0, omega (arith, found.1.1), found.1.2), found.2, found.3, found.4)

kept_met : (bs : List Belief) (wants : List Want) (seen : List Field) (place count : ℕ) (attribute behind : Attribute) → Pairwise FieldMeets bs seen → fits_from bs wants 0 wants ≡ true
    → slice_get wants place ≡ Some (WantAttr attribute) → 0 < count → ((i : ℕ) → i < count → slice_get wants (place + 1 + i) ≡ Some Keep) → slice_get wants (place + 1 + count) ≡ Some (WantAttr behind)
    → IsMet seen place count attribute
kept_met bs wants seen place count attribute behind meets fit at some chars ends =
    let ahead : List Want = drop (suc place) wants ++ wants in
    let at_place : (0 + place) ≡ place = omega arith in
    let here : fits_field bs (0 + place) attribute ahead ≡ true = fit_at bs wants 0 wants place attribute fit at in
    let shifted : (i : ℕ) → suc place + i ≡ place + 1 + i = λ i. omega arith in
    let keep : (i : ℕ) → i < count → slice_get (drop (suc place) wants) i ≡ Some Keep = λ i below. slice_drop (suc place) wants i ∙ ap (slice_get wants) (shifted i) ∙ chars i below in
    let keeps : keeps_ahead ahead ≡ true = keeps_first (drop (suc place) wants) wants (keep 0 some) in
    let counted : count_ahead ahead ≡ count = count_is (drop (suc place) wants) wants count behind keep (slice_drop (suc place) wants count ∙ ap (slice_get wants) (shifted count) ∙ ends) in
    let inside : (not attribute.protected && list_any (is_field (0 + place) attribute (count_ahead ahead)) bs) ≡ true =
    subst (λ (k : Bool). (not k || (not attribute.protected && list_any (is_field (0 + place) attribute (count_ahead ahead)) bs)) ≡ true) keeps here in
    let found : list_any (is_field (0 + place) attribute (count_ahead ahead)) bs ≡ true = (and_parts _ _ inside).1 in
    field_met bs seen place count attribute meets
    (ap (λ (p : ℕ). list_any (is_field p attribute count) bs) (sym at_place) ∙ ap (λ (n : ℕ). list_any (is_field (0 + place) attribute n) bs) (sym counted) ∙ found)

-- ---- it stays

stays : (wanted : WantedScreen) (before : Screen) (field : Field) (attribute : Attribute) → length before.cells ≡ length wanted.cells → wanted.reset ≡ false → Contains (fields before.cells) field
    → WantsKept wanted field.place (length field.text) attribute → is_char_at (plainly_painted wanted before).cells (field.place + 1 + length field.text) ≡ false
    → HasField (plainly_painted wanted before) field
stays wanted before field attribute long unreset there w ends =
    let painted : List Cell = painted_from false wanted.cells wanted.cells before.cells in
    let same : painted ≡ (plainly_painted wanted before).cells =
    ap (λ (r : Bool). painted_from r wanted.cells wanted.cells before.cells) (sym unreset)
    ∙ ap (λ (cells : List Cell). painted_from wanted.reset wanted.cells wanted.cells cells) (sym (under_same (length wanted.cells) before.cells long)) in
    let first : slice_get wanted.cells (suc field.place) ≡ Some Keep = ap (slice_get wanted.cells) (let next : suc field.place ≡ field.place + 1 + 0 = omega arith in next) ∙ w.characters 0 w.some in
    subst (λ (cells : List Cell). Contains (fields cells) field) same
    (field_there painted field
    (kept_attribute wanted.cells wanted.cells before.cells field.place attribute long w.attribute_is first ∙ (listed_field before.cells field there).attribute)
    (λ i below.
    let at = w.characters i below in
    let inside : field.place + 1 + i < length before.cells = subst (λ (n : ℕ). field.place + 1 + i < n) (sym long) (slice_get_within wanted.cells (field.place + 1 + i) Keep at) in
    kept_cell false wanted.cells wanted.cells before.cells (field.place + 1 + i) long at ∙ char_there before.cells field i there below inside)
    (subst (λ (cells : List Cell). is_char_at cells (field.place + 1 + length field.text) ≡ false) (sym same) ends))

pub kept_there : KeptStaysThere
kept_there over wanted before place count attribute size fits meets unreset w = by_belief over fits meets
  where
    never : HasNoKeep wanted.cells → StaysThere place count attribute before (plainly_painted wanted before)
    never none = absurd (none_there wanted.cells (place + 1 + 0) none (w.characters 0 w.some))

    from_met : (over : Shadow) → is_paintable over wanted ≡ true → Meets over before → length before.cells ≡ length wanted.cells → IsMet (fields before.cells) place count attribute
        → StaysThere place count attribute before (plainly_painted wanted before)
    from_met over fits meets long met =
        let field : Field = met.0 in
        let its : WantsKept wanted field.place (length field.text) attribute =
        subst (λ (n : ℕ). WantsKept wanted field.place n attribute) (sym met.3) (subst (λ (p : ℕ). WantsKept wanted p count attribute) (sym met.2) w) in
        let each = painted_as_wanted over wanted before size fits meets in
        record {
          field = field;
          place_is = met.2;
          length_is = met.3;
          attribute_is = met.4;
          was = met.1;
          is = stays wanted before field attribute long unreset met.1 its
              (wanted_at wanted.cells (plainly_painted wanted before).cells (field.place + 1 + length field.text) (WantAttr its.ends.0) each its.ends.1);
        }

    by_size : (beliefs : List Belief) → is_paintable (Shadow.Formatted beliefs) wanted ≡ true → Meets (Shadow.Formatted beliefs) before → (b : Bool) → (cells_of_fields beliefs == cells_in wanted.size) ≡ b
        → StaysThere place count attribute before (plainly_painted wanted before)
    by_size beliefs fits meets false apart = never (paintable_apart beliefs wanted fits apart)
    by_size beliefs fits meets true e =
        let there : length before.cells ≡ cells_in wanted.size = sym (fields_size before.cells beliefs meets.1 meets.0) ∙ eqb-true (cells_of_fields beliefs) (cells_in wanted.size) e in
        let fit = paintable_fits (Shadow.Formatted beliefs) wanted fits in
        from_met (Shadow.Formatted beliefs) fits meets (there ∙ sym size)
        (kept_met beliefs wanted.cells (fields before.cells) place count attribute w.ends.0 meets.1 (and_parts _ _ fit).1 w.attribute_is w.some w.characters w.ends.1)

    by_belief : (over : Shadow) → is_paintable over wanted ≡ true → Meets over before → StaysThere place count attribute before (plainly_painted wanted before)
    by_belief Shadow.NothingKnown fits meets = never (no_keep wanted.cells (paintable_fits Shadow.NothingKnown wanted fits))
    by_belief (Shadow.Unformatted known) fits meets = never (no_keep wanted.cells (paintable_fits (Shadow.Unformatted known) wanted fits))
    by_belief (Shadow.Formatted beliefs) fits meets = by_size beliefs fits meets (cells_of_fields beliefs == cells_in wanted.size) refl

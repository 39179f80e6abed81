-- Keep stands over characters alone, where it fits.
use Rattle.std.proofs.Common.{◌≡◌, ℕ, suc, ◌+◌, ◌≤◌, Bool, true, false, not, ◌&&◌, ◌||◌, List, [], ◌∷◌, ◌++◌, length, drop, map, Some, refl, ap, sym, subst, arith, ◌∙◌, if◌then◌else◌, nat_eq}
use Rattle.std.specs.Prelude.{⊤, ◌==◌}
use Rattle.std.specs.List.{list_any}
use Rattle.std.proofs.lemmas.Bool.{and_parts}
use Rattle.codes3270.specs.Size.{cells_in}
use Rattle.codes3270.specs.declared.attribute.Attr.{Attr as Attribute}
use Rattle.codes3270.specs.declared.attribute.Cell.{Cell}
use Rattle.codes3270.specs.declared.attribute.Cell.TheVariants.{Char, Attr}
use Rattle.codes3270.specs.declared.attribute.Display.TheVariants.{Normal}
use Rattle.datastream.specs.Screen.{text_before_attribute}
use Rattle.datastream.specs.Fields.{fields}
use Rattle.datastream.specs.Wanted.{WantedScreen}
use Rattle.datastream.specs.declared.wanted.Want.{Want}
use Rattle.datastream.specs.declared.wanted.Want.TheVariants.{Char as WantChar, Attr as WantAttr, Keep}
use Rattle.shadow.specs.Pairs.{Pairwise}
use Rattle.shadow.specs.Belief.{Fact, Belief, Shadow, fields_of, cells_of_fields}
use Rattle.shadow.specs.Meets.{FieldMeets}
use Rattle.shadow.specs.AfterReadBuffer.{same_attr}
use Rattle.shadow.specs.Taken.{fact_before}
use Rattle.shadow.specs.Painted.{keeps_ahead, count_ahead}
use Rattle.shadow.specs.Fits.{is_keep, is_attribute, is_field, fits_field, fits_from, fields_fit, fits, is_paintable}
use Rattle.shadow.proofs.Pairs.{drop_tail}
use Rattle.shadow.proofs.TakenMeets.{Before, old_fact}

-- what is kept are characters
abbrev pub KeepsChars : List Want → List Cell → Type 0
KeepsChars [] cells = ⊤
KeepsChars (want ∷ rest) [] = ⊤
KeepsChars (WantAttr a ∷ rest) (x ∷ cells) = KeepsChars rest cells
KeepsChars (WantChar c ∷ rest) (x ∷ cells) = KeepsChars rest cells
KeepsChars (Keep ∷ rest) (Char c ∷ cells) = KeepsChars rest cells
KeepsChars (Keep ∷ rest) (Attr a ∷ cells) = ⊥

-- as many characters stand ahead as a field with Keep has cells ahead; `rest` and `cells` are what is left of `wants` and `whole`
abbrev HasRoom : List Want → List Cell → List Want → List Cell → Type 0
HasRoom wants whole rest cells = keeps_ahead (rest ++ wants) ≡ true → count_ahead (rest ++ wants) ≤ length (text_before_attribute (cells ++ whole))

-- it is so behind each attribute that is wanted
abbrev pub AllRoom : List Want → List Cell → List Want → List Cell → Type 0
AllRoom wants whole [] cells = ⊤
AllRoom wants whole (want ∷ rest) [] = ⊤
AllRoom wants whole (WantAttr a ∷ rest) (x ∷ cells) = HasRoom wants whole rest cells × AllRoom wants whole rest cells
AllRoom wants whole (WantChar c ∷ rest) (x ∷ cells) = AllRoom wants whole rest cells
AllRoom wants whole (Keep ∷ rest) (x ∷ cells) = AllRoom wants whole rest cells

-- one cell further
further : (wants : List Want) (whole : List Cell) (want : Want) (rest : List Want) (x : Cell) (cells : List Cell) → AllRoom wants whole (want ∷ rest) (x ∷ cells) → HasRoom wants whole (want ∷ rest) (x ∷ cells) → HasRoom wants whole rest cells
further wants whole (WantAttr a) rest x cells all room = all.0
further wants whole (WantChar c) rest (Char d) cells all room = λ keeps. let h = room keeps in omega arith
further wants whole (WantChar c) rest (Attr a) cells all room = λ keeps. let h = room keeps in absurd (omega arith)
further wants whole Keep rest (Char d) cells all room = λ keeps. let h = room refl in omega arith
further wants whole Keep rest (Attr a) cells all room = λ keeps. let h = room refl in absurd (omega arith)

rest_room : (wants : List Want) (whole : List Cell) (want : Want) (rest : List Want) (x : Cell) (cells : List Cell) → AllRoom wants whole (want ∷ rest) (x ∷ cells) → AllRoom wants whole rest cells
rest_room wants whole (WantAttr a) rest x cells all = all.1
rest_room wants whole (WantChar c) rest x cells all = all
rest_room wants whole Keep rest x cells all = all

to_end : (wants : List Want) (whole : List Cell) (rest : List Want) (cells : List Cell) → length rest ≡ length cells → AllRoom wants whole rest cells → HasRoom wants whole rest cells → HasRoom wants whole [] []
to_end wants whole [] [] same all room = room
to_end wants whole [] (x ∷ cells) same all room = absurd (omega arith)
to_end wants whole (want ∷ rest) [] same all room = absurd (omega arith)
to_end wants whole (want ∷ rest) (x ∷ cells) same all room =
    to_end wants whole rest cells (omega arith) (rest_room wants whole want rest x cells all) (further wants whole want rest x cells all room)

-- from the first attribute on, round the end
from_attribute : (wants : List Want) (whole : List Cell) (rest : List Want) (cells : List Cell) → length rest ≡ length cells → list_any is_attribute rest ≡ true → AllRoom wants whole rest cells → HasRoom wants whole [] []
from_attribute wants whole [] cells same some all = absurd (cc)
from_attribute wants whole (want ∷ rest) [] same some all = absurd (omega arith)
from_attribute wants whole (WantAttr a ∷ rest) (x ∷ cells) same some all = to_end wants whole rest cells (omega arith) all.1 all.0
from_attribute wants whole (WantChar c ∷ rest) (x ∷ cells) same some all = from_attribute wants whole rest cells (omega arith) some all
from_attribute wants whole (Keep ∷ rest) (x ∷ cells) same some all = from_attribute wants whole rest cells (omega arith) some all

keeps_once : (wants more : List Want) → list_any is_attribute wants ≡ true → keeps_ahead (wants ++ more) ≡ keeps_ahead wants
keeps_once [] more some = absurd (cc)
keeps_once (WantAttr a ∷ wants) more some = refl
keeps_once (WantChar c ∷ wants) more some = keeps_once wants more some
keeps_once (Keep ∷ wants) more some = refl

pub count_once : (wants more : List Want) → list_any is_attribute wants ≡ true → count_ahead (wants ++ more) ≡ count_ahead wants
count_once [] more some = absurd (cc)
count_once (WantAttr a ∷ wants) more some = refl
count_once (WantChar c ∷ wants) more some = ap suc (count_once wants more some)
count_once (Keep ∷ wants) more some = ap suc (count_once wants more some)

text_once : (cells more : List Cell) → length (text_before_attribute cells) ≤ length (text_before_attribute (cells ++ more))
text_once [] more = omega arith
text_once (Attr a ∷ cells) more = omega arith
text_once (Char c ∷ cells) more = let h = text_once cells more in omega arith

start_room : (wants : List Want) (whole : List Cell) → length wants ≡ length whole → list_any is_attribute wants ≡ true → AllRoom wants whole wants whole → HasRoom wants whole wants whole
start_room wants whole same some all keeps =
    let h = from_attribute wants whole wants whole same some all (sym (keeps_once wants wants some) ∙ keeps) in
    let longer = text_once whole whole in
    let once = count_once wants wants some in
    omega arith

keeps_from : (wants : List Want) (whole : List Cell) (rest : List Want) (cells : List Cell) → AllRoom wants whole rest cells → HasRoom wants whole rest cells → KeepsChars rest cells
keeps_from wants whole [] cells all room = tt
keeps_from wants whole (want ∷ rest) [] all room = tt
keeps_from wants whole (WantAttr a ∷ rest) (x ∷ cells) all room = keeps_from wants whole rest cells all.1 all.0
keeps_from wants whole (WantChar c ∷ rest) (x ∷ cells) all room = keeps_from wants whole rest cells all (further wants whole (WantChar c) rest x cells all room)
keeps_from wants whole (Keep ∷ rest) (Char d ∷ cells) all room = keeps_from wants whole rest cells all (further wants whole Keep rest (Char d) cells all room)
keeps_from wants whole (Keep ∷ rest) (Attr a ∷ cells) all room = let h = room refl in absurd (omega arith)

abbrev pub HasNoKeep : List Want → Type 0
HasNoKeep wants = list_any is_keep wants ≡ false

none_keeps : (wants : List Want) (cells : List Cell) → HasNoKeep wants → KeepsChars wants cells
none_keeps [] cells h = tt
none_keeps (want ∷ rest) [] h = tt
none_keeps (WantAttr a ∷ rest) (x ∷ cells) h = none_keeps rest cells h
none_keeps (WantChar c ∷ rest) (x ∷ cells) h = none_keeps rest cells h
none_keeps (Keep ∷ rest) (x ∷ cells) h = absurd (cc)

-- where Keep stands in fields alone, with room
keeps_fields : (wants : List Want) (whole : List Cell) → length wants ≡ length whole → (not (list_any is_keep wants) || list_any is_attribute wants) ≡ true → AllRoom wants whole wants whole → KeepsChars wants whole
keeps_fields wants whole same inside all = cases (list_any is_keep wants) refl (list_any is_attribute wants) refl inside
  where
    cases : (k : Bool) → list_any is_keep wants ≡ k → (a : Bool) → list_any is_attribute wants ≡ a → (not k || a) ≡ true → KeepsChars wants whole
    cases false none a is e = none_keeps wants whole none
    cases true keeps true some e = keeps_from wants whole wants whole all (start_room wants whole same some all)
    cases true keeps false none e = absurd (cc)

-- ---- the fields of a screen that meets what is believed have room

pub field_found : (bs : List Belief) (place : ℕ) (a : Attribute) (count : ℕ) → list_any (is_field place a count) bs ≡ true → (fact : Fact) × (fact_before bs place count ≡ Some fact)
field_found [] place a count e = absurd (cc)
field_found (b ∷ bs) place a count e = cases (nat_eq b.place place) (same_attr b.attr a) (nat_eq b.length count) e (field_found bs place a count)
  where
    cases : (p s l : Bool) → ((p && s && l) || list_any (is_field place a count) bs) ≡ true → (list_any (is_field place a count) bs ≡ true → (fact : Fact) × (fact_before bs place count ≡ Some fact))
        → (fact : Fact) × ((if p && l then Some b.fact else fact_before bs place count) ≡ Some fact)
    cases true s true e later = (b.fact, refl)
    cases true true false e later = later e
    cases true false false e later = later e
    cases false s l e later = later e

fits_room : (bs : List Belief) (wants : List Want) (whole : List Cell) → ((place : ℕ) → Before bs place (drop (place + 1) whole ++ whole))
    → (n : ℕ) (rest : List Want) (cells : List Cell) → cells ≡ drop n whole → fits_from bs wants n rest ≡ true → AllRoom wants whole rest cells
fits_room bs wants whole before n [] cells is e = tt
fits_room bs wants whole before n (want ∷ rest) [] is e = tt
fits_room bs wants whole before n (WantChar c ∷ rest) (x ∷ cells) is e = fits_room bs wants whole before (n + 1) rest cells (drop_tail n x cells whole is) e
fits_room bs wants whole before n (Keep ∷ rest) (x ∷ cells) is e = fits_room bs wants whole before (n + 1) rest cells (drop_tail n x cells whole is) e
fits_room bs wants whole before n (WantAttr a ∷ rest) (x ∷ cells) is e =
    let parts = and_parts _ _ e in
    (room parts.0, fits_room bs wants whole before (n + 1) rest cells (drop_tail n x cells whole is) parts.1)
  where
    room : fits_field bs n a (rest ++ wants) ≡ true → HasRoom wants whole rest cells
    room fit keeps =
        let inside : (not a.protected && list_any (is_field n a (count_ahead (rest ++ wants))) bs) ≡ true =
        subst (λ k. (not k || (not a.protected && list_any (is_field n a (count_ahead (rest ++ wants))) bs)) ≡ true) keeps fit in
        let listed : list_any (is_field n a (count_ahead (rest ++ wants))) bs ≡ true = (and_parts (not a.protected) (list_any (is_field n a (count_ahead (rest ++ wants))) bs) inside).1 in
        let found : (fact : Fact) × (fact_before bs n (count_ahead (rest ++ wants)) ≡ Some fact) = field_found bs n a (count_ahead (rest ++ wants)) listed in
        let long : length (text_before_attribute (drop (n + 1) whole ++ whole)) ≡ count_ahead (rest ++ wants) = (before n (count_ahead (rest ++ wants)) found.0 found.1).1 in
        let there : length (text_before_attribute (cells ++ whole)) ≡ length (text_before_attribute (drop (n + 1) whole ++ whole)) =
        ap (λ (l : List Cell). length (text_before_attribute (l ++ whole))) (drop_tail n x cells whole is) in
        omega arith

-- Keep stands over characters of a screen that meets what is believed
pub keeps_chars : (bs : List Belief) (wants : List Want) (whole : List Cell) → length wants ≡ length whole → Pairwise FieldMeets bs (fields whole)
    → ((not (list_any is_keep wants) || list_any is_attribute wants) && fits_from bs wants 0 wants) ≡ true → KeepsChars wants whole
keeps_chars bs wants whole same meets e =
    let parts = and_parts _ _ e in
    keeps_fields wants whole same parts.0 (fits_room bs wants whole (λ place. old_fact whole 0 whole bs meets refl place) 0 wants whole refl parts.1)

-- ---- without fields there is no Keep

blank_attribute : Attribute
blank_attribute = record { protected = false; numeric = false; display = Normal; mdt = false }

abbrev all_attributes : List Want → List Cell
all_attributes wants = map (λ _. Attr blank_attribute) wants

length-all_attributes : (wants : List Want) → length (all_attributes wants) ≡ length wants
length-all_attributes [] = refl
length-all_attributes (want ∷ wants) = ap suc (length-all_attributes wants)

keeps_none : (wants : List Want) → KeepsChars wants (all_attributes wants) → HasNoKeep wants
keeps_none [] h = refl
keeps_none (WantAttr a ∷ wants) h = keeps_none wants h
keeps_none (WantChar c ∷ wants) h = keeps_none wants h
keeps_none (Keep ∷ wants) h = absurd h

pub no_keep : (wants : List Want) → ((not (list_any is_keep wants) || list_any is_attribute wants) && fits_from [] wants 0 wants) ≡ true → HasNoKeep wants
no_keep wants e =
    let parts = and_parts _ _ e in
    keeps_none wants
    (keeps_fields wants (all_attributes wants) (sym (length-all_attributes wants)) parts.0
    (fits_room [] wants (all_attributes wants) (λ place len fact e. absurd (cc)) 0 wants (all_attributes wants) refl parts.1))

pub no_keep_ahead : (xs ys : List Want) → HasNoKeep xs → HasNoKeep ys → keeps_ahead (xs ++ ys) ≡ false
no_keep_ahead [] [] h k = refl
no_keep_ahead [] (WantAttr a ∷ ys) h k = refl
no_keep_ahead [] (WantChar c ∷ ys) h k = no_keep_ahead [] ys h k
no_keep_ahead [] (Keep ∷ ys) h k = absurd (cc)
no_keep_ahead (WantAttr a ∷ xs) ys h k = refl
no_keep_ahead (WantChar c ∷ xs) ys h k = no_keep_ahead xs ys h k
no_keep_ahead (Keep ∷ xs) ys h k = absurd (cc)

-- ---- what can be painted

none_fits : (bs : List Belief) (whole : List Want) (n : ℕ) (rest : List Want) → HasNoKeep whole → HasNoKeep rest → fits_from bs whole n rest ≡ true
none_fits bs whole n [] h k = refl
none_fits bs whole n (WantChar c ∷ rest) h k = none_fits bs whole (n + 1) rest h k
none_fits bs whole n (Keep ∷ rest) h k = absurd (cc)
none_fits bs whole n (WantAttr a ∷ rest) h k = rw (no_keep_ahead rest whole k h) (none_fits bs whole (n + 1) rest h k)

-- it fits the fields that are believed
pub paintable_fits : (shadow : Shadow) (wanted : WantedScreen) → is_paintable shadow wanted ≡ true → fields_fit (fields_of shadow) wanted.cells ≡ true
paintable_fits shadow wanted can = cases (list_any is_keep wanted.cells) refl can
  where
    cases : (t : Bool) → list_any is_keep wanted.cells ≡ t → (not t || fits shadow wanted) ≡ true → fields_fit (fields_of shadow) wanted.cells ≡ true
    cases true is e = (and_parts _ _ e).1
    cases false is e =
        ap (λ (u : Bool). (not u || list_any is_attribute wanted.cells) && fits_from (fields_of shadow) wanted.cells 0 wanted.cells) is
        ∙ none_fits (fields_of shadow) wanted.cells 0 wanted.cells is is

-- where the sizes differ, nothing is kept
pub paintable_apart : (bs : List Belief) (wanted : WantedScreen) → is_paintable (Shadow.Formatted bs) wanted ≡ true → (cells_of_fields bs == cells_in wanted.size) ≡ false → HasNoKeep wanted.cells
paintable_apart bs wanted can apart = cases (list_any is_keep wanted.cells) refl can
  where
    cases : (t : Bool) → list_any is_keep wanted.cells ≡ t → (not t || fits (Shadow.Formatted bs) wanted) ≡ true → HasNoKeep wanted.cells
    cases true is e = absurd (let same = (and_parts _ _ e).0 in let both : false ≡ true = sym apart ∙ same in cc)
    cases false is e = is

-- What is held place by place, and the fields that it makes.
use Rattle.std.proofs.Common.{◌≡◌, ℕ, zero, suc, ◌+◌, ◌<◌, ◌≤◌, Bool, true, false, ◌&&◌, ◌||◌, List, [], ◌∷◌, ◌++◌, length, drop, get_or, Option, Some, None, refl, ap, sym, subst, arith, ◌∙◌, ne_eqb, eq-eqb, eqb-true, inl, inr, ◌-◌, ◌%◌, map, flat_map, take, if◌then◌else◌, option_map, append_assoc, append-nil, length-append}
use Rattle.std.specs.Prelude.{◌==◌, slice_get, option_and_then, IfSome}
use Rattle.std.specs.List.{list_any}
use Rattle.std.proofs.Math.Nat.{add-mod_right, mod_self, mod-eq_of_lt, mod-lt}
use Rattle.std.proofs.lemmas.Bool.{cases_lt}
use Rattle.std.proofs.lemmas.List.{at_drop_more, length-drop, drop_at, take_at, length-map}
use Rattle.codes3270.specs.declared.attribute.Attr.{Attr as Attribute}
use Rattle.shadow.specs.declared.mdt_state.MdtState.{MdtState}
use Rattle.shadow.specs.declared.cell_belief.TextKnowledge.{TextKnowledge}
use Rattle.shadow.specs.declared.cell_belief.TextKnowledge.TheVariants.{Cells}
use Rattle.shadow.specs.declared.cell_belief.CellBelief.{CellBelief}
use Rattle.shadow.specs.declared.cell_belief.CellBelief.TheVariants.{Attr, Known, Unplaced, Unknown}
use Rattle.shadow.specs.Queries.{belief_with, known_cells, known_at, known_cell}
use Rattle.shadow.specs.Belief.{Fact, Belief, Shadow, fields_of, cells_of_fields, cells_believed, IsOfSize, HasCell, next_address}
use Rattle.shadow.specs.Fits.{is_field, is_of_size}
use Rattle.shadow.specs.AfterReadBuffer.{same_attr}
use Rattle.shadow.specs.InPlace.{chars_known, fact_held, belief_held, beliefs_held, is_whole, known_text, is_attribute, has_attribute, has_fields, cell_known, cells_known, shadow_held, AreHeld, IsHeld}
use Rattle.shadow.specs.Taken.{whole_text, exact_or_any, old_char, field_cells, first_place, laid_out, formatted_as, after_write, taken_write, mark_off, marks_off_if}
use Rattle.shadow.specs.Base.{mark_off_if}
use Rattle.shadow.specs.Paint.{known_nulls, known_before, writes_over}
use Rattle.shadow.specs.Settled.{is_settled_fact}
use Rattle.shadow.specs.declared.known.Known.{Known as KnownCell}
use Rattle.shadow.specs.declared.known.Known.TheVariants.{Attr as KnownAttr}
use Rattle.codes3270.specs.declared.write_control.Wcc.{Wcc}
use Rattle.datastream.specs.declared.order.Order.{Order}
use Rattle.shadow.specs.Heard.{starts_at}
use Rattle.shadow.proofs.FieldPlaces.{first_apart}

-- ---- a field whose characters are told one by one

pub whole_known : (ks : List (Option ℕ)) → is_whole ks ≡ true → whole_text ks ≡ Some (known_text ks)
whole_known [] e = refl
whole_known (None ∷ ks) e = absurd (cc)
whole_known (Some c ∷ ks) e = ap (option_map (λ cs. c ∷ cs)) (whole_known ks e)

pub partly_known : (ks : List (Option ℕ)) → is_whole ks ≡ false → whole_text ks ≡ None
partly_known [] e = absurd (cc)
partly_known (None ∷ ks) e = refl
partly_known (Some c ∷ ks) e = ap (option_map (λ cs. c ∷ cs)) (partly_known ks e)

pub exact_held : (ahead : List CellBelief) → is_whole (chars_known ahead) ≡ true → fact_held Cells ahead ≡ Fact.Exact (known_text (chars_known ahead))
exact_held ahead e = ap (λ text. exact_or_any text (chars_known ahead)) (whole_known (chars_known ahead) e)

pub any_held : (ahead : List CellBelief) → is_whole (chars_known ahead) ≡ false → fact_held Cells ahead ≡ Fact.Any (chars_known ahead)
any_held ahead e = ap (λ text. exact_or_any text (chars_known ahead)) (partly_known (chars_known ahead) e)

pub settled_if_whole : (ahead : List CellBelief) → is_settled_fact (fact_held Cells ahead) ≡ is_whole (chars_known ahead)
settled_if_whole ahead = cases (is_whole (chars_known ahead)) refl
  where
    cases : (t : Bool) → is_whole (chars_known ahead) ≡ t → is_settled_fact (fact_held Cells ahead) ≡ t
    cases true e = ap is_settled_fact (exact_held ahead e)
    cases false e = ap is_settled_fact (any_held ahead e)

-- ---- a field is found by its place

pub no_attribute : (whole : List CellBelief) (n : ℕ) (x : CellBelief) (rest : List CellBelief) → is_attribute x ≡ false → beliefs_held whole n (x ∷ rest) ≡ beliefs_held whole (n + 1) rest
no_attribute whole n (Attr a m t) rest e = absurd (cc)
no_attribute whole n (Known c) rest e = refl
no_attribute whole n (Unplaced c) rest e = refl
no_attribute whole n Unknown rest e = refl

-- a search for the field at a place
module _ {R : Type 0} (size p : ℕ) (search_ : List Belief → R) (skips : (b : Belief) (bs : List Belief) → b.place < size → (b.place ≡ p → ⊥) → search_ (b ∷ bs) ≡ search_ bs)
    (goes_on : (b : Belief) (bs cs : List Belief) → search_ bs ≡ search_ cs → search_ (b ∷ bs) ≡ search_ (b ∷ cs)) where
  one_on : (whole : List CellBelief) (n : ℕ) (x : CellBelief) (rest : List CellBelief) → n < size → (n ≡ p → ⊥) → search_ (beliefs_held whole n (x ∷ rest)) ≡ search_ (beliefs_held whole (n + 1) rest)
  one_on whole n (Attr a m t) rest low other = skips (belief_held n a m t (rest ++ whole)) (beliefs_held whole (n + 1) rest) low other
  one_on whole n (Known c) rest low other = refl
  one_on whole n (Unplaced c) rest low other = refl
  one_on whole n Unknown rest low other = refl

  none_behind : (whole : List CellBelief) (n : ℕ) (rest : List CellBelief) → p < n → n + length rest ≤ size → search_ (beliefs_held whole n rest) ≡ search_ []
  none_behind whole n [] later few = refl
  none_behind whole n (x ∷ rest) later few = one_on whole n x rest (omega arith) (λ e. omega arith) ∙ none_behind whole (n + 1) rest (omega arith) (omega arith)

  from_place : (whole : List CellBelief) (k : ℕ) → k ≤ p → p < length whole → length whole ≤ size → search_ (beliefs_held whole 0 whole) ≡ search_ (beliefs_held whole k (drop k whole))
  from_place whole zero low within few = refl
  from_place whole (suc k) low within few =
      let next : k + 1 ≡ suc k = omega arith in
      subst (λ j. search_ (beliefs_held whole 0 whole) ≡ search_ (beliefs_held whole j (drop j whole))) next
      (from_place whole k (omega arith) within few
      ∙ at_drop_more (λ rest. search_ (beliefs_held whole k rest)) whole k Unknown (omega arith)
      ∙ one_on whole k (get_or whole k Unknown) (drop (k + 1) whole) (omega arith) (λ e. omega arith))

  pub found : (whole : List CellBelief) (a : Attribute) (m : MdtState) (t : TextKnowledge) → p < length whole → length whole ≤ size → Attr a m t ≡ get_or whole p (Attr a m t)
      → search_ (beliefs_held whole 0 whole) ≡ search_ (belief_held p a m t (drop (p + 1) whole ++ whole) ∷ [])
  found whole a m t within few is =
      from_place whole p (omega arith) within few
      ∙ at_drop_more (λ rest. search_ (beliefs_held whole p rest)) whole p (Attr a m t) within
      ∙ ap (λ x. search_ (beliefs_held whole p (x ∷ drop (p + 1) whole))) (sym is)
      ∙ goes_on (belief_held p a m t (drop (p + 1) whole ++ whole)) (beliefs_held whole (p + 1) (drop (p + 1) whole)) []
      (none_behind whole (p + 1) (drop (p + 1) whole) (omega arith) (omega (arith, length-drop (p + 1) whole)))

  pub missed : (whole : List CellBelief) (x : CellBelief) → is_attribute x ≡ false → p < length whole → length whole ≤ size → x ≡ get_or whole p x → search_ (beliefs_held whole 0 whole) ≡ search_ []
  missed whole x none within few is =
      from_place whole p (omega arith) within few
      ∙ at_drop_more (λ rest. search_ (beliefs_held whole p rest)) whole p x within
      ∙ ap (λ y. search_ (beliefs_held whole p (y ∷ drop (p + 1) whole))) (sym is)
      ∙ ap search_ (no_attribute whole p x (drop (p + 1) whole) none)
      ∙ none_behind whole (p + 1) (drop (p + 1) whole) (omega arith) (omega (arith, length-drop (p + 1) whole))

-- ---- the field at a place

with_skips : (size p : ℕ) (b : Belief) (bs : List Belief) → b.place < size → (b.place ≡ p → ⊥) → belief_with p (b ∷ bs) ≡ belief_with p bs
with_skips size p b bs low other = rw (ne_eqb b.place p other) refl

with_goes_on : (p : ℕ) (b : Belief) (bs cs : List Belief) → belief_with p bs ≡ belief_with p cs → belief_with p (b ∷ bs) ≡ belief_with p (b ∷ cs)
with_goes_on p b bs cs e = ap (λ o. if b.place == p then Some b else o) e

pub with_found : (p : ℕ) (whole : List CellBelief) (a : Attribute) (m : MdtState) (t : TextKnowledge) → p < length whole → Attr a m t ≡ get_or whole p (Attr a m t)
    → belief_with p (beliefs_held whole 0 whole) ≡ Some (belief_held p a m t (drop (p + 1) whole ++ whole))
with_found p whole a m t within is =
    found (length whole) p (belief_with p) (with_skips (length whole) p) (with_goes_on p) whole a m t within (omega arith) is ∙ rw (eq-eqb p p refl) refl

pub with_missed : (p : ℕ) (whole : List CellBelief) (x : CellBelief) → is_attribute x ≡ false → p < length whole → x ≡ get_or whole p x → belief_with p (beliefs_held whole 0 whole) ≡ None
with_missed p whole x none within is = missed (length whole) p (belief_with p) (with_skips (length whole) p) (with_goes_on p) whole x none within (omega arith) is

-- ---- whether a field is there

either_way : (t u : Bool) → u ≡ false → (t || u) ≡ t
either_way true u e = refl
either_way false u e = e

field_skips : (size p : ℕ) (a : Attribute) (count : ℕ) (b : Belief) (bs : List Belief) → b.place < size → (b.place ≡ p → ⊥) → list_any (is_field p a count) (b ∷ bs) ≡ list_any (is_field p a count) bs
field_skips size p a count b bs low other = rw (ne_eqb b.place p other) refl

any_goes_on : (f : Belief → Bool) (b : Belief) (bs cs : List Belief) → list_any f bs ≡ list_any f cs → list_any f (b ∷ bs) ≡ list_any f (b ∷ cs)
any_goes_on f b bs cs e = ap (λ t. f b || t) e

pub field_found : (p : ℕ) (b : Attribute) (count : ℕ) (whole : List CellBelief) (a : Attribute) (m : MdtState) (t : TextKnowledge) → p < length whole → Attr a m t ≡ get_or whole p (Attr a m t)
    → list_any (is_field p b count) (beliefs_held whole 0 whole) ≡ (same_attr a b && length (chars_known (drop (p + 1) whole ++ whole)) == count)
field_found p b count whole a m t within is =
    found (length whole) p (list_any (is_field p b count)) (field_skips (length whole) p b count) (any_goes_on (is_field p b count)) whole a m t within (omega arith) is
    ∙ rw (eq-eqb p p refl) (either_way _ false refl)

pub field_missed : (p : ℕ) (b : Attribute) (count : ℕ) (whole : List CellBelief) (x : CellBelief) → is_attribute x ≡ false → p < length whole → x ≡ get_or whole p x
    → list_any (is_field p b count) (beliefs_held whole 0 whole) ≡ false
field_missed p b count whole x none within is =
    missed (length whole) p (list_any (is_field p b count)) (field_skips (length whole) p b count) (any_goes_on (is_field p b count)) whole x none within (omega arith) is

-- ---- whether a field begins at an address

-- the address before another, round the end
abbrev pub address_before : ℕ → ℕ → ℕ
address_before size first = (first + size - 1) % size

pub before_next : (size first : ℕ) → first < size → next_address size (address_before size first) ≡ first
before_next size zero low =
    let last : (0 + size - 1) % size ≡ size - 1 = ap (λ n. n % size) (omega arith) ∙ mod-eq_of_lt (omega arith) in
    ap (λ n. (n + 1) % size) last ∙ ap (λ n. n % size) (omega arith) ∙ mod_self size
before_next size (suc first) low =
    let back : (suc first + size - 1) % size ≡ first = ap (λ n. n % size) (omega arith) ∙ mod_behind size first (omega arith) in
    ap (λ n. (n + 1) % size) back ∙ mod-eq_of_lt (omega arith) ∙ omega arith
  where
    mod_behind : (size n : ℕ) → n < size → (n + size) % size ≡ n
    mod_behind size n low = add-mod_right n size ∙ mod-eq_of_lt low

starts_skips : (size first : ℕ) → first < size → (b : Belief) (bs : List Belief) → b.place < size → (b.place ≡ address_before size first → ⊥)
    → list_any (λ c. starts_at size c first) (b ∷ bs) ≡ list_any (λ c. starts_at size c first) bs
starts_skips size first low b bs within other = rw (ne_eqb (next_address size b.place) first apart) refl
  where
    apart : next_address size b.place ≡ first → ⊥
    apart e =
        let p : ℕ = address_before size first in
        let same : next_address size b.place ≡ next_address size p = e ∙ sym (before_next size first low) in
        let few : p < size = mod-lt (first + size - 1) (omega arith) in
        elim (cases_lt b.place p) [
          | inl less ↦ first_apart size b.place p less few same
          | inr more ↦ elim (cases_lt p b.place) [
            | inl less ↦ first_apart size p b.place less within (sym same)
            | inr same_place ↦ other (omega arith)
          ]
        ]

pub starts_found : (size first : ℕ) → first < size → (whole : List CellBelief) → length whole ≡ size → (a : Attribute) (m : MdtState) (t : TextKnowledge) → Attr a m t ≡ get_or whole (address_before size first) (Attr a m t)
    → list_any (λ c. starts_at size c first) (beliefs_held whole 0 whole) ≡ true
starts_found size first low whole even a m t is =
    let p : ℕ = address_before size first in
    let few : p < size = mod-lt (first + size - 1) (omega arith) in
    found size p (list_any (λ c. starts_at size c first)) (starts_skips size first low) (any_goes_on (λ c. starts_at size c first)) whole a m t (omega arith) (omega arith) is
    ∙ rw (eq-eqb (next_address size p) first (before_next size first low)) refl

pub starts_missed : (size first : ℕ) → first < size → (whole : List CellBelief) → length whole ≡ size → (x : CellBelief) → is_attribute x ≡ false → x ≡ get_or whole (address_before size first) x
    → list_any (λ c. starts_at size c first) (beliefs_held whole 0 whole) ≡ false
starts_missed size first low whole even x none is =
    let p : ℕ = address_before size first in
    let few : p < size = mod-lt (first + size - 1) (omega arith) in
    missed size p (list_any (λ c. starts_at size c first)) (starts_skips size first low) (any_goes_on (λ c. starts_at size c first)) whole x none (omega arith) (omega arith) is

pub starts_there : (size first : ℕ) → first < size → (whole : List CellBelief) → length whole ≡ size → (x : CellBelief) → x ≡ get_or whole (address_before size first) x
    → is_attribute x ≡ list_any (λ c. starts_at size c first) (beliefs_held whole 0 whole)
starts_there size first low whole even (Attr a m t) is = sym (starts_found size first low whole even a m t is)
starts_there size first low whole even (Known c) is = sym (starts_missed size first low whole even (Known c) refl is)
starts_there size first low whole even (Unplaced c) is = sym (starts_missed size first low whole even (Unplaced c) refl is)
starts_there size first low whole even Unknown is = sym (starts_missed size first low whole even Unknown refl is)

-- ---- what is known of the cells

-- the places from the first attribute on, and before it
abbrev from_attribute : List CellBelief → List CellBelief
from_attribute [] = []
from_attribute (Attr a m t ∷ places) = Attr a m t ∷ places
from_attribute (Known c ∷ places) = from_attribute places
from_attribute (Unplaced c ∷ places) = from_attribute places
from_attribute (Unknown ∷ places) = from_attribute places

abbrev front_known : List CellBelief → List KnownCell
front_known places = map old_char (chars_known places)

parted : (places : List CellBelief) → front_known places ++ cells_known (from_attribute places) ≡ cells_known places
parted [] = refl
parted (Attr a m t ∷ places) = refl
parted (Known c ∷ places) = ap (λ ks. old_char (Some c) ∷ ks) (parted places)
parted (Unplaced c ∷ places) = ap (λ ks. old_char None ∷ ks) (parted places)
parted (Unknown ∷ places) = ap (λ ks. old_char None ∷ ks) (parted places)

-- the last field goes on at address 0
ring_last : (rest more : List CellBelief) → has_attribute rest ≡ false → front_known (rest ++ more) ≡ cells_known rest ++ front_known more
ring_last [] more e = refl
ring_last (Attr a m t ∷ rest) more e = absurd (cc)
ring_last (Known c ∷ rest) more e = ap (λ ks. old_char (Some c) ∷ ks) (ring_last rest more e)
ring_last (Unplaced c ∷ rest) more e = ap (λ ks. old_char None ∷ ks) (ring_last rest more e)
ring_last (Unknown ∷ rest) more e = ap (λ ks. old_char None ∷ ks) (ring_last rest more e)

-- any other ends at the next attribute
ring_inner : (rest more : List CellBelief) → has_attribute rest ≡ true → front_known (rest ++ more) ++ cells_known (from_attribute rest) ≡ cells_known rest
ring_inner [] more e = absurd (cc)
ring_inner (Attr a m t ∷ rest) more e = refl
ring_inner (Known c ∷ rest) more e = ap (λ ks. old_char (Some c) ∷ ks) (ring_inner rest more e)
ring_inner (Unplaced c ∷ rest) more e = ap (λ ks. old_char None ∷ ks) (ring_inner rest more e)
ring_inner (Unknown ∷ rest) more e = ap (λ ks. old_char None ∷ ks) (ring_inner rest more e)

pub no_beliefs : (whole : List CellBelief) (n : ℕ) (rest : List CellBelief) → has_attribute rest ≡ false → beliefs_held whole n rest ≡ []
no_beliefs whole n [] e = refl
no_beliefs whole n (Attr a m t ∷ rest) e = absurd (cc)
no_beliefs whole n (Known c ∷ rest) e = no_beliefs whole (n + 1) rest e
no_beliefs whole n (Unplaced c ∷ rest) e = no_beliefs whole (n + 1) rest e
no_beliefs whole n (Unknown ∷ rest) e = no_beliefs whole (n + 1) rest e

fields_known : (whole : List CellBelief) (n : ℕ) (rest : List CellBelief) → AreHeld whole rest → has_attribute rest ≡ true → flat_map field_cells (beliefs_held whole n rest) ≡ cells_known (from_attribute rest) ++ front_known whole
fields_known whole n [] held e = absurd (cc)
fields_known whole n (Known c ∷ rest) held e = fields_known whole (n + 1) rest held e
fields_known whole n (Unplaced c ∷ rest) held e = fields_known whole (n + 1) rest held e
fields_known whole n (Unknown ∷ rest) held e = fields_known whole (n + 1) rest held e
fields_known whole n (Attr a m t ∷ rest) held e =
    ap (λ ks. (KnownAttr a m ∷ map old_char ks) ++ flat_map field_cells (beliefs_held whole (n + 1) rest)) held.0
    ∙ ap (λ ks. KnownAttr a m ∷ ks) (cases (has_attribute rest) refl (fields_known whole (n + 1) rest held.1))
  where
    cases : (t : Bool) → has_attribute rest ≡ t → (has_attribute rest ≡ true → flat_map field_cells (beliefs_held whole (n + 1) rest) ≡ cells_known (from_attribute rest) ++ front_known whole)
        → front_known (rest ++ whole) ++ flat_map field_cells (beliefs_held whole (n + 1) rest) ≡ cells_known rest ++ front_known whole
    cases true is later =
        ap (λ ks. front_known (rest ++ whole) ++ ks) (later is)
        ∙ sym (append_assoc (front_known (rest ++ whole)) (cells_known (from_attribute rest)) (front_known whole))
        ∙ ap (λ ks. ks ++ front_known whole) (ring_inner rest whole is)
    cases false is later =
        ap (λ bs. front_known (rest ++ whole) ++ flat_map field_cells bs) (no_beliefs whole (n + 1) rest is)
        ∙ append-nil (front_known (rest ++ whole)) ∙ ring_last rest whole is

first_at : (whole : List CellBelief) (n : ℕ) (rest : List CellBelief) → has_attribute rest ≡ true → first_place (beliefs_held whole n rest) ≡ n + length (chars_known rest)
first_at whole n [] e = absurd (cc)
first_at whole n (Attr a m t ∷ rest) e = omega arith
first_at whole n (Known c ∷ rest) e = let later = first_at whole (n + 1) rest e in omega arith
first_at whole n (Unplaced c ∷ rest) e = let later = first_at whole (n + 1) rest e in omega arith
first_at whole n (Unknown ∷ rest) e = let later = first_at whole (n + 1) rest e in omega arith

pub length-cells : (places : List CellBelief) → length (cells_known places) ≡ length places
length-cells [] = refl
length-cells (p ∷ places) = ap suc (length-cells places)

pub cells_laid : (size : ℕ) (places : List CellBelief) → length places ≡ size → IsHeld places → has_attribute places ≡ true → laid_out size (beliefs_held places 0 places) ≡ cells_known places
cells_laid size places even held e =
    let front = front_known places in
    let back = cells_known (from_attribute places) in
    let first = first_at places 0 places e in
    let n : ℕ = size - first_place (beliefs_held places 0 places) in
    let tail : length back ≡ n =
    omega (arith, length-append front back, length-map (chars_known places) old_char, ap length (parted places), length-cells places) in
    ap (λ ks. drop n ks ++ take n ks) (fields_known places 0 places held e)
    ∙ ap (λ ks. ks ++ take n (back ++ front)) (drop_at back front n tail)
    ∙ ap (λ ks. front ++ ks) (take_at back front n tail)
    ∙ parted places

pub bare_known : (places : List CellBelief) → has_attribute places ≡ false → front_known places ≡ cells_known places
bare_known [] e = refl
bare_known (Attr a m t ∷ places) e = absurd (cc)
bare_known (Known c ∷ places) e = ap (λ ks. old_char (Some c) ∷ ks) (bare_known places e)
bare_known (Unplaced c ∷ places) e = ap (λ ks. old_char None ∷ ks) (bare_known places e)
bare_known (Unknown ∷ places) e = ap (λ ks. old_char None ∷ ks) (bare_known places e)

-- ---- which belief is held

some_beliefs : (whole : List CellBelief) (n : ℕ) (rest : List CellBelief) → has_attribute rest ≡ true → (b : Belief) × (bs : List Belief) × (beliefs_held whole n rest ≡ b ∷ bs)
some_beliefs whole n [] e = absurd (cc)
some_beliefs whole n (Attr a m t ∷ rest) e = (belief_held n a m t (rest ++ whole), beliefs_held whole (n + 1) rest, refl)
some_beliefs whole n (Known c ∷ rest) e = some_beliefs whole (n + 1) rest e
some_beliefs whole n (Unplaced c ∷ rest) e = some_beliefs whole (n + 1) rest e
some_beliefs whole n (Unknown ∷ rest) e = some_beliefs whole (n + 1) rest e

pub formatted_held : (places : List CellBelief) → has_attribute places ≡ true → shadow_held true places ≡ Shadow.Formatted (beliefs_held places 0 places)
formatted_held places e =
    let some = some_beliefs places 0 places e in
    ap (λ bs. formatted_as bs (chars_known places)) some.2 ∙ ap Shadow.Formatted (sym some.2)

pub unformatted_held : (places : List CellBelief) → has_attribute places ≡ false → shadow_held true places ≡ Shadow.Unformatted (chars_known places)
unformatted_held places e = ap (λ bs. formatted_as bs (chars_known places)) (no_beliefs places 0 places e)

pub fields_held : (places : List CellBelief) → fields_of (shadow_held true places) ≡ beliefs_held places 0 places
fields_held places = cases (has_attribute places) refl
  where
    cases : (t : Bool) → has_attribute places ≡ t → fields_of (shadow_held true places) ≡ beliefs_held places 0 places
    cases true e = ap fields_of (formatted_held places e)
    cases false e = ap fields_of (unformatted_held places e) ∙ sym (no_beliefs places 0 places e)

pub has_held : (places : List CellBelief) → has_fields (shadow_held true places) ≡ has_attribute places
has_held places = cases (has_attribute places) refl
  where
    cases : (t : Bool) → has_attribute places ≡ t → has_fields (shadow_held true places) ≡ t
    cases true e = ap has_fields (formatted_held places e)
    cases false e = ap has_fields (unformatted_held places e)

-- ---- how many cells the screen has

cells_behind : (whole : List CellBelief) (n : ℕ) (rest : List CellBelief) → has_attribute rest ≡ true → cells_of_fields (beliefs_held whole n rest) ≡ length (cells_known (from_attribute rest)) + length (front_known whole)
cells_behind whole n [] e = absurd (cc)
cells_behind whole n (Known c ∷ rest) e = cells_behind whole (n + 1) rest e
cells_behind whole n (Unplaced c ∷ rest) e = cells_behind whole (n + 1) rest e
cells_behind whole n (Unknown ∷ rest) e = cells_behind whole (n + 1) rest e
cells_behind whole n (Attr a m t ∷ rest) e = cases (has_attribute rest) refl (cells_behind whole (n + 1) rest)
  where
    ahead : length (front_known (rest ++ whole)) ≡ length (chars_known (rest ++ whole))
    ahead = length-map (chars_known (rest ++ whole)) old_char

    cases : (t : Bool) → has_attribute rest ≡ t → (has_attribute rest ≡ true → cells_of_fields (beliefs_held whole (n + 1) rest) ≡ length (cells_known (from_attribute rest)) + length (front_known whole))
        → suc (length (chars_known (rest ++ whole))) + cells_of_fields (beliefs_held whole (n + 1) rest) ≡ suc (length (cells_known rest)) + length (front_known whole)
    cases true is later =
        let more = later is in
        omega (arith, ahead, ap length (ring_inner rest whole is), length-append (front_known (rest ++ whole)) (cells_known (from_attribute rest)))
    cases false is later =
        let none : cells_of_fields (beliefs_held whole (n + 1) rest) ≡ 0 = ap cells_of_fields (no_beliefs whole (n + 1) rest is) in
        omega (arith, ahead, ap length (ring_last rest whole is), length-append (cells_known rest) (front_known whole))

pub fields_cells : (places : List CellBelief) → has_attribute places ≡ true → cells_of_fields (beliefs_held places 0 places) ≡ length places
fields_cells places e =
    omega (arith, cells_behind places 0 places e, length-append (front_known places) (cells_known (from_attribute places)), ap length (parted places), length-cells places)

bare_cells : (places : List CellBelief) → has_attribute places ≡ false → length (chars_known places) ≡ length places
bare_cells places e = sym (length-map (chars_known places) old_char) ∙ ap length (bare_known places e) ∙ length-cells places

pub size_held : (places : List CellBelief) → cells_believed (shadow_held true places) ≡ Some (length places)
size_held places = cases (has_attribute places) refl
  where
    cases : (t : Bool) → has_attribute places ≡ t → cells_believed (shadow_held true places) ≡ Some (length places)
    cases true e = ap cells_believed (formatted_held places e) ∙ ap (λ (n : ℕ). Some n) (fields_cells places e)
    cases false e = ap cells_believed (unformatted_held places e) ∙ ap (λ (n : ℕ). Some n) (bare_cells places e)

pub known_size : (places : List CellBelief) (n : ℕ) → IsOfSize n (shadow_held true places) → length places ≡ n
known_size places n is = subst (λ (o : Option ℕ). IfSome o (λ cells. cells ≡ n)) (size_held places) is

pub of_size : (knows : Bool) (places : List CellBelief) (n : ℕ) → length places ≡ n → IsOfSize n (shadow_held knows places)
of_size false places n is = tt
of_size true places n is = subst (λ (o : Option ℕ). IfSome o (λ cells. cells ≡ n)) (sym (size_held places)) is

-- an address that is handed
pub cell_of : (places : List CellBelief) (shadow : Shadow) (at n : ℕ) → n ≡ at → shadow ≡ shadow_held true places → HasCell at shadow → n < length places
cell_of places shadow at n same is has =
    let there : at < length places = subst (λ (o : Option ℕ). IfSome o (λ cells. at < cells)) (size_held places) (subst (HasCell at) is has) in
    omega (arith, same, there)

-- whether they are of a screen of a size
pub has_size : (places : List CellBelief) (n : ℕ) → is_of_size n (shadow_held true places) ≡ (length places == n)
has_size places n = cases (has_attribute places) refl
  where
    cases : (t : Bool) → has_attribute places ≡ t → is_of_size n (shadow_held true places) ≡ (length places == n)
    cases true e = ap (is_of_size n) (formatted_held places e) ∙ ap (λ (m : ℕ). m == n) (fields_cells places e)
    cases false e = ap (is_of_size n) (unformatted_held places e) ∙ ap (λ (m : ℕ). m == n) (bare_cells places e)

pub known_held : (places : List CellBelief) → IsHeld places → known_cells (shadow_held true places) ≡ cells_known places
known_held places held = cases (has_attribute places) refl
  where
    cases : (t : Bool) → has_attribute places ≡ t → known_cells (shadow_held true places) ≡ cells_known places
    cases true e =
        ap known_cells (formatted_held places e)
        ∙ ap (λ (n : ℕ). laid_out n (beliefs_held places 0 places)) (fields_cells places e)
        ∙ cells_laid (length places) places refl held e
    cases false e = ap known_cells (unformatted_held places e) ∙ bare_known places e

pub taken_held : (size : ℕ) (wcc : Option Wcc) (orders : List Order) (places : List CellBelief) → length places ≡ size → IsHeld places
    → taken_write size wcc orders (shadow_held true places) ≡ after_write size wcc orders (beliefs_held places 0 places) (cells_known places)
taken_held size wcc orders places even held = cases (has_attribute places) refl
  where
    cases : (t : Bool) → has_attribute places ≡ t → taken_write size wcc orders (shadow_held true places) ≡ after_write size wcc orders (beliefs_held places 0 places) (cells_known places)
    cases true e = ap (taken_write size wcc orders) (formatted_held places e) ∙ ap (after_write size wcc orders (beliefs_held places 0 places)) (cells_laid size places even held e)
    cases false e =
        ap (taken_write size wcc orders) (unformatted_held places e)
        ∙ ap (after_write size wcc orders []) (bare_known places e)
        ∙ ap (λ bs. after_write size wcc orders bs (cells_known places)) (sym (no_beliefs places 0 places e))

-- ---- one cell

cell_there : (places : List CellBelief) (at : ℕ) (p : CellBelief) → at < length places → p ≡ get_or places at p → slice_get (cells_known places) at ≡ Some (cell_known p false)
cell_there [] at p within is = absurd (omega arith)
cell_there (x ∷ places) zero p within is = ap (λ y. Some (cell_known y false)) (sym is)
cell_there (x ∷ places) (suc at) p within is = cell_there places at p (omega arith) is

pub known_there : (places : List CellBelief) (at : ℕ) (p : CellBelief) → IsHeld places → at < length places → p ≡ get_or places at p → known_at (shadow_held true places) at ≡ known_cell (cell_known p false)
known_there places at p held within is =
    ap (λ ks. option_and_then known_cell (slice_get ks at)) (known_held places held) ∙ ap (option_and_then known_cell) (cell_there places at p within is)

cell_or : (places : List CellBelief) (at : ℕ) (p : CellBelief) (d : KnownCell) → at < length places → p ≡ get_or places at p → get_or (cells_known places) at d ≡ cell_known p false
cell_or [] at p d within is = absurd (omega arith)
cell_or (x ∷ places) zero p d within is = ap (λ y. cell_known y false) (sym is)
cell_or (x ∷ places) (suc at) p d within is = cell_or places at p d (omega arith) is

off_or : (places : List CellBelief) (at : ℕ) (p : CellBelief) (d : KnownCell) → at < length places → p ≡ get_or places at p → get_or (map mark_off (cells_known places)) at d ≡ mark_off (cell_known p false)
off_or [] at p d within is = absurd (omega arith)
off_or (x ∷ places) zero p d within is = ap (λ y. mark_off (cell_known y false)) (sym is)
off_or (x ∷ places) (suc at) p d within is = off_or places at p d (omega arith) is

pub known_reset : (resets : Bool) (places : List CellBelief) (at : ℕ) (p : CellBelief) (d : KnownCell) → at < length places → p ≡ get_or places at p → get_or (marks_off_if resets (cells_known places)) at d ≡ mark_off_if resets (cell_known p false)
known_reset true places at p d within is = off_or places at p d within is
known_reset false places at p d within is = cell_or places at p d within is

pub length_reset : (resets : Bool) (places : List CellBelief) → length (marks_off_if resets (cells_known places)) ≡ length places
length_reset true places = length-map (cells_known places) mark_off ∙ length-cells places
length_reset false places = length-cells places

pub null_there : (n at : ℕ) (d : KnownCell) → at < n → get_or (known_nulls n) at d ≡ old_char (Some 0)
null_there zero at d within = absurd (omega arith)
null_there (suc n) zero d within = refl
null_there (suc n) (suc at) d within = null_there n at d (omega arith)

-- ---- what a paint writes over

-- the fields that are believed fill the wanted screen
pub over_held : (size : ℕ) (places : List CellBelief) → writes_over size (shadow_held true places) ≡ (has_attribute places && length places == size)
over_held size places = cases (has_attribute places) refl
  where
    cases : (t : Bool) → has_attribute places ≡ t → writes_over size (shadow_held true places) ≡ (t && length places == size)
    cases true e = ap (writes_over size) (formatted_held places e) ∙ ap (λ (n : ℕ). n == size) (fields_cells places e)
    cases false e = ap (writes_over size) (unformatted_held places e)

pub base_known : (size : ℕ) (resets : Bool) (places : List CellBelief) → IsHeld places
    → known_before size resets (shadow_held true places) ≡ (if has_attribute places && length places == size then marks_off_if resets (cells_known places) else known_nulls size)
base_known size resets places held = cases (has_attribute places) refl
  where
    before : List Belief
    before = beliefs_held places 0 places

    fits : has_attribute places ≡ true → (u : Bool) → (length places == size) ≡ u
        → (if u then marks_off_if resets (laid_out size before) else known_nulls size) ≡ (if u then marks_off_if resets (cells_known places) else known_nulls size)
    fits e true same = ap (marks_off_if resets) (cells_laid size places (eqb-true (length places) size same) held e)
    fits e false other = refl

    cases : (t : Bool) → has_attribute places ≡ t
        → known_before size resets (shadow_held true places) ≡ (if t && length places == size then marks_off_if resets (cells_known places) else known_nulls size)
    cases true e =
        ap (known_before size resets) (formatted_held places e)
        ∙ ap (λ (n : ℕ). if n == size then marks_off_if resets (laid_out size before) else known_nulls size) (fields_cells places e)
        ∙ fits e (length places == size) refl
    cases false e = ap (known_before size resets) (unformatted_held places e)

-- Where a shadow's fields are laid out, what is known of the cells behind an attribute is what is known of its field's characters.
use Rattle.std.proofs.Common.{◌≡◌, ◌+◌, ◌-◌, ℕ, zero, suc, ◌≤◌, ◌<◌, Bool, true, false, ◌&&◌, List, [], ◌∷◌, ◌++◌, length, map, flat_map, take, drop, Option, Some, refl, ap, sym, subst, arith, ◌∙◌, append_assoc, if◌then◌else◌, nat_eq, eqb-true, length-append}
use Rattle.std.proofs.lemmas.Bool.{and_parts}
use Rattle.std.proofs.lemmas.List.{length-take-le, take-append-drop, drop-append-le}
use Rattle.std.proofs.Math.Seq.{drop-append-add}
use Rattle.codes3270.specs.declared.attribute.Attr.{Attr as Attribute}
use Rattle.codes3270.specs.declared.attribute.Cell.{Cell}
use Rattle.codes3270.specs.declared.attribute.Cell.TheVariants.{Char, Attr}
use Rattle.datastream.specs.Screen.{text_before_attribute}
use Rattle.datastream.specs.Fields.{fields}
use Rattle.datastream.proofs.FieldWalk.{fields_walked, fields_are_walked}
use Rattle.shadow.specs.declared.mdt_state.MdtState.{MdtState}
use Rattle.shadow.specs.declared.known.Known.{Known}
use Rattle.shadow.specs.declared.known.Known.TheVariants.{Attr as KnownAttr}
use Rattle.shadow.specs.Pairs.{Pairwise}
use Rattle.shadow.specs.Belief.{Fact, Belief}
use Rattle.shadow.specs.Meets.{FieldMeets}
use Rattle.shadow.specs.AfterReadBuffer.{known_chars}
use Rattle.shadow.specs.Taken.{old_char, field_cells, first_place, laid_out, known_ahead, fact_before}
use Rattle.shadow.proofs.Pairs.{pairwise-length}
use Rattle.shadow.proofs.LaidOut.{CellFits, laid_out_fits, first_at, length-field_cells}

-- where an attribute stands ahead, what follows doesn't matter
text_inner : (whole more : List Cell) (n : ℕ) (rest : List Cell) → (fields_walked whole n rest ≡ [] → ⊥) → text_before_attribute (rest ++ more) ≡ text_before_attribute rest
text_inner whole more n [] h = absurd (h refl)
text_inner whole more n (Char c ∷ rest) h = ap (λ (cs : List ℕ). c ∷ cs) (text_inner whole more (n + 1) rest h)
text_inner whole more n (Attr a ∷ rest) h = refl

-- the cells of a field stand in a list of cells, whose first has an address
record Stands (first : ℕ) (flat : List Known) (place len : ℕ) (fact : Fact) : Type 0 where
  pub front : List Known
  pub attr : Attribute
  pub mdt : MdtState
  pub others : List Belief
  pub split : flat ≡ front ++ KnownAttr attr mdt ∷ (map old_char (known_chars len fact) ++ flat_map field_cells others)
  pub placed : first + length front ≡ place

stands : (whole : List Cell) (n : ℕ) (rest : List Cell) (bs : List Belief) → Pairwise FieldMeets bs (fields_walked whole n rest)
    → (first : ℕ) (front : List Known) → first + length front ≡ n + length (text_before_attribute rest) → (place len : ℕ) (fact : Fact) → fact_before bs place len ≡ Some fact
    → Stands first (front ++ flat_map field_cells bs) place len fact × (place < n + length rest)
stands whole n [] [] h first front at place len fact e = absurd (cc)
stands whole n [] (b ∷ bs) h first front at place len fact e = absurd h
stands whole n (Char c ∷ rest) bs h first front at place len fact e =
    let ih = stands whole (n + 1) rest bs h first front (omega arith) place len fact e in
    (ih.0, let within = ih.1 in omega arith)
stands whole n (Attr a ∷ rest) [] h first front at place len fact e = absurd (cc)
stands whole n (Attr a ∷ rest) (b ∷ bs) h first front at place len fact e =
    cases (nat_eq b.place place && nat_eq b.length len) refl e bs refl (λ more further found. stands whole (n + 1) rest bs h.1 first more further place len fact found)
  where
    mine : List Known
    mine = field_cells b

    here : (nat_eq b.place place && nat_eq b.length len) ≡ true → b.fact ≡ fact → Stands first (front ++ (mine ++ flat_map field_cells bs)) place len fact × (place < n + suc (length rest))
    here test same =
        let parts = and_parts _ _ test in
        let same_length : b.length ≡ len = eqb-true _ _ parts.1 in
        let same_place : n ≡ place = h.0.same_place ∙ eqb-true _ _ parts.0 in
        let chars : known_chars b.length b.fact ≡ known_chars len fact = ap (λ (l : ℕ). known_chars l b.fact) same_length ∙ ap (known_chars len) same in (
          record {
            front = front;
            attr = b.attr;
            mdt = b.mdt;
            others = bs;
            split = ap (λ (ks : List (Option ℕ)). front ++ KnownAttr b.attr b.mdt ∷ (map old_char ks ++ flat_map field_cells bs)) chars;
            placed = omega arith;
          },
          omega arith,
        )

    cases : (t : Bool) → (nat_eq b.place place && nat_eq b.length len) ≡ t → (if t then Some b.fact else fact_before bs place len) ≡ Some fact
        → (others : List Belief) → bs ≡ others
        → ((more : List Known) → first + length more ≡ n + 1 + length (text_before_attribute rest) → fact_before bs place len ≡ Some fact → Stands first (more ++ flat_map field_cells bs) place len fact × (place < n + 1 + length rest))
        → Stands first (front ++ (mine ++ flat_map field_cells bs)) place len fact × (place < n + suc (length rest))
    cases true test found others is later = here test (cc)
    cases false test found [] is later = absurd (let none = ap (λ (ds : List Belief). fact_before ds place len) is in cc)
    cases false test found (d ∷ others) is later =
        let some : fields_walked whole (n + 1) rest ≡ [] → ⊥ = λ none. subst (Pairwise FieldMeets (d ∷ others)) none (subst (λ (ds : List Belief). Pairwise FieldMeets ds (fields_walked whole (n + 1) rest)) is h.1) in
        let long = length-field_cells b (record { place = n; attr = a; text = text_before_attribute (rest ++ whole) }) h.0 in
        let inner = ap length (text_inner whole whole (n + 1) rest some) in
        let same_length = h.0.same_length in
        let further : first + length (front ++ mine) ≡ n + 1 + length (text_before_attribute rest) = omega (arith, length-append front mine) in
        let ih = later (front ++ mine) further found in
        (subst (λ (cells : List Known). Stands first cells place len fact) (append_assoc front mine (flat_map field_cells bs)) ih.0, let within = ih.1 in omega arith)

-- the cells of a ring that is turned, from an address on
turned : {X : Type 0} (flat : List X) (first size m : ℕ) → length flat ≡ size → first ≤ size → m ≤ size - first
    → drop (first + m) (drop (size - first) flat ++ take (size - first) flat) ++ (drop (size - first) flat ++ take (size - first) flat) ≡ drop m flat ++ take (size - first) flat
turned flat first size m whole few within =
    let k : ℕ = size - first in
    let front : List _ = take k flat in
    let back : List _ = drop k flat in
    let both = ap length (take-append-drop k flat) in
    let length_front : length front ≡ k = length-take-le k flat (omega arith) in
    let length_back : length back ≡ first = omega (arith, length-append front back) in
    ap (λ (n : ℕ). drop (n + m) (back ++ front) ++ (back ++ front)) (sym length_back)
    ∙ ap (λ cells. cells ++ (back ++ front)) (drop-append-add back front m)
    ∙ sym (append_assoc (drop m front) back front)
    ∙ ap (λ cells. cells ++ front) (sym (drop-append-le m front back (omega arith)) ∙ ap (drop m) (take-append-drop k flat))

ahead_of : (ks : List (Option ℕ)) (more : List Known) → known_ahead more ≡ [] → known_ahead (map old_char ks ++ more) ≡ ks
ahead_of [] more none = none
ahead_of (k ∷ ks) more none = ap (λ (xs : List (Option ℕ)). k ∷ xs) (ahead_of ks more none)

none_ahead : (bs : List Belief) (more : List Known) → known_ahead more ≡ [] → known_ahead (flat_map field_cells bs ++ more) ≡ []
none_ahead [] more none = none
none_ahead (b ∷ bs) more none = refl

none_first : (bs : List Belief) (k : ℕ) → known_ahead (take k (flat_map field_cells bs)) ≡ []
none_first [] zero = refl
none_first [] (suc k) = refl
none_first (b ∷ bs) zero = refl
none_first (b ∷ bs) (suc k) = refl

-- where they are laid out from an address on
ring_behind : (laid flat : List Known) (first size place len : ℕ) (fact : Fact) → laid ≡ drop (size - first) flat ++ take (size - first) flat → length flat ≡ size → first ≤ size → place < size
    → known_ahead (take (size - first) flat) ≡ [] → Stands first flat place len fact → known_ahead (drop (place + 1) laid ++ laid) ≡ known_chars len fact
ring_behind laid flat first size place len fact is whole few within none it =
    let start : List Known = take (size - first) flat in
    let ks : List (Option ℕ) = known_chars len fact in
    let more : List Known = flat_map field_cells it.others in
    let m : ℕ = length it.front + 1 in
    let placed = it.placed in
    let at : place + 1 ≡ first + m = omega arith in
    let tail : drop m flat ≡ map old_char ks ++ more = ap (drop m) it.split ∙ drop-append-add it.front (KnownAttr it.attr it.mdt ∷ (map old_char ks ++ more)) 1 in
    let ring : drop (place + 1) laid ++ laid ≡ drop m flat ++ start = rw (is, at) (turned flat first size m whole few (omega arith)) in
    ap known_ahead (ring ∙ ap (λ (xs : List Known). xs ++ start) tail ∙ append_assoc (map old_char ks) more start) ∙ ahead_of ks (more ++ start) (none_ahead it.others start none)

pub behind : (size : ℕ) (cells : List Cell) (bs : List Belief) → length cells ≡ size → Pairwise FieldMeets bs (fields cells) → (fields cells ≡ [] → ⊥)
    → (place len : ℕ) (fact : Fact) → fact_before bs place len ≡ Some fact → known_ahead (drop (place + 1) (laid_out size bs) ++ laid_out size bs) ≡ known_chars len fact
behind size cells bs whole h some place len fact found =
    let flat : List Known = flat_map field_cells bs in
    let first : ℕ = first_place bs in
    let first_is = first_at cells 0 cells bs h some in
    let all = stands cells 0 cells bs (subst (Pairwise FieldMeets bs) (fields_are_walked cells) h) first [] (omega arith) place len fact found in
    let within = all.1 in
    let placed = all.0.placed in
    let laid = pairwise-length CellFits (laid_out size bs) cells (laid_out_fits size cells bs whole h some) in
    let both = ap length (take-append-drop (size - first) flat) in
    let length_flat : length flat ≡ size = omega (arith, length-append (take (size - first) flat) (drop (size - first) flat), length-append (drop (size - first) flat) (take (size - first) flat)) in
    ring_behind (laid_out size bs) flat first size place len fact refl length_flat (omega arith) (omega arith) (none_first bs (size - first)) all.0

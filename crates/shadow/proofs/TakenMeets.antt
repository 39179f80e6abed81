-- A plain write on a screen that meets the shadow gives one that meets the new shadow.
use Rattle.std.proofs.Common.{◌≡◌, ℕ, zero, suc, ◌+◌, Bool, true, false, ◌&&◌, List, [], ◌∷◌, ◌++◌, length, map, set, drop, Option, Some, None, unwrap_or, refl, ap, sym, subst, arith, ◌∙◌, if◌then◌else◌, nat_eq, eqb-true}
use Rattle.std.specs.Prelude.{⊤}
use Rattle.std.specs.List.{list_all}
use Rattle.std.proofs.lemmas.Bool.{and_parts}
use Rattle.codes3270.specs.declared.attribute.Cell.{Cell}
use Rattle.codes3270.specs.declared.attribute.Cell.TheVariants.{Char, Attr}
use Rattle.datastream.specs.Screen.{Screen, text_before_attribute, field_text}
use Rattle.datastream.specs.Fields.{fields, fields_from}
use Rattle.datastream.proofs.FieldWalk.{fields_walked, fields_are_walked, text_is}
use Rattle.datastream.specs.KeptByKeys.{without_mdt}
use Rattle.datastream.specs.Meaning.{unmodified}
use Rattle.datastream.specs.declared.order.Order.{Order}
use Rattle.datastream.specs.declared.order.Order.TheVariants.{Sf, Sba, Ic, Pt, Ra, Eua, Char as CharData}
use Rattle.shadow.specs.declared.known.Known.{Known}
use Rattle.shadow.specs.declared.known.Known.TheVariants.{Attr as KnownAttr, Char as KnownChar}
use Rattle.shadow.specs.Pairs.{Pairwise}
use Rattle.shadow.specs.Belief.{Fact, Belief}
use Rattle.shadow.specs.Meets.{FieldMeets, MarkIs, Holds, KnownIs, Meets}
use Rattle.shadow.specs.AfterReadBuffer.{mark_seen}
use Rattle.shadow.specs.Stores.{Store, stores, stores_unplaced, is_plain_order}
use Rattle.shadow.specs.Taken.{new_cell, known_stored, mark_off, known_ahead, fresh_ahead, and_char, whole_text, exact_or_any, fact_known, fact_before, fact_after, beliefs_from, formatted_as, believed}
use Rattle.shadow.proofs.Stored.{stored}
use Rattle.shadow.proofs.Pairs.{pairwise-length, drop_tail, empty}
use Rattle.shadow.proofs.FieldPlaces.{both_false}
use Rattle.shadow.proofs.HeardMeets.{none_now}

-- what a slot says of a cell, before the write and now
abbrev pub SlotIs : Known → Cell → Cell → Type 0
SlotIs (KnownAttr k m) old (Attr a) = (without_mdt a ≡ k) × MarkIs m a.mdt
SlotIs (KnownAttr k m) old (Char c) = ⊥
SlotIs (KnownChar slot fresh) old (Attr a) = ⊥
SlotIs (KnownChar slot fresh) old (Char c) = KnownIs slot c × (fresh ≡ false → old ≡ Char c)

abbrev pub Slotted : List Known → List Cell → List Cell → Type 0
Slotted [] [] [] = ⊤
Slotted [] [] (new ∷ news) = ⊥
Slotted [] (old ∷ olds) news = ⊥
Slotted (slot ∷ slots) [] news = ⊥
Slotted (slot ∷ slots) (old ∷ olds) [] = ⊥
Slotted (slot ∷ slots) (old ∷ olds) (new ∷ news) = SlotIs slot old new × Slotted slots olds news

slotted-append : (ss : List Known) (os ns : List Cell) (ts : List Known) (ps ms : List Cell) → Slotted ss os ns → Slotted ts ps ms → Slotted (ss ++ ts) (os ++ ps) (ns ++ ms)
slotted-append [] [] [] ts ps ms h k = k
slotted-append [] [] (n ∷ ns) ts ps ms h k = absurd h
slotted-append [] (o ∷ os) ns ts ps ms h k = absurd h
slotted-append (s ∷ ss) [] ns ts ps ms h k = absurd h
slotted-append (s ∷ ss) (o ∷ os) [] ts ps ms h k = absurd h
slotted-append (s ∷ ss) (o ∷ os) (n ∷ ns) ts ps ms h k = (h.0, slotted-append ss os ns ts ps ms h.1 k)

mark_seen_is : (mdt : Bool) → MarkIs (mark_seen mdt) mdt
mark_seen_is true = refl
mark_seen_is false = refl

new_cell_is : (old cell : Cell) → SlotIs (new_cell cell) old cell
new_cell_is old (Char c) = (refl, λ e. absurd (cc))
new_cell_is old (Attr a) = (refl, mark_seen_is a.mdt)

-- one cell is stored
put : (at : ℕ) (cell : Cell) (ss : List Known) (os ns : List Cell) → Slotted ss os ns → Slotted (set ss at (new_cell cell)) os (set ns at cell)
put at cell [] [] [] h = tt
put at cell [] [] (n ∷ ns) h = absurd h
put at cell [] (o ∷ os) ns h = absurd h
put at cell (s ∷ ss) [] ns h = absurd h
put at cell (s ∷ ss) (o ∷ os) [] h = absurd h
put zero cell (s ∷ ss) (o ∷ os) (n ∷ ns) h = (new_cell_is o cell, h.1)
put (suc at) cell (s ∷ ss) (o ∷ os) (n ∷ ns) h = (h.0, put at cell ss os ns h.1)

pub puts : (more : List Store) (ss : List Known) (os ns : List Cell) → Slotted ss os ns → Slotted (known_stored more ss) os (stored more ns)
puts [] ss os ns h = h
puts (store ∷ more) ss os ns h = puts more _ os _ (put store.at store.cell ss os ns h)

-- MDT is reset
pub reset : (ss : List Known) (os ns : List Cell) → Slotted ss os ns → Slotted (map mark_off ss) os (map unmodified ns)
reset [] [] [] h = tt
reset [] [] (n ∷ ns) h = absurd h
reset [] (o ∷ os) ns h = absurd h
reset (s ∷ ss) [] ns h = absurd h
reset (s ∷ ss) (o ∷ os) [] h = absurd h
reset (s ∷ ss) (o ∷ os) (n ∷ ns) h = (one s n h.0, reset ss os ns h.1)
  where
    one : (s : Known) (n : Cell) → SlotIs s o n → SlotIs (mark_off s) o (unmodified n)
    one (KnownAttr k m) (Attr a) h = (h.0, refl)
    one (KnownAttr k m) (Char c) h = absurd h
    one (KnownChar slot fresh) (Attr a) h = absurd h
    one (KnownChar slot fresh) (Char c) h = h

-- the characters before the first attribute
ahead_known : (ss : List Known) (os ns : List Cell) → Slotted ss os ns → Pairwise KnownIs (known_ahead ss) (text_before_attribute ns)
ahead_known [] [] [] h = tt
ahead_known [] [] (n ∷ ns) h = absurd h
ahead_known [] (o ∷ os) ns h = absurd h
ahead_known (s ∷ ss) [] ns h = absurd h
ahead_known (s ∷ ss) (o ∷ os) [] h = absurd h
ahead_known (KnownAttr k m ∷ ss) (o ∷ os) (Attr a ∷ ns) h = tt
ahead_known (KnownAttr k m ∷ ss) (o ∷ os) (Char c ∷ ns) h = absurd h.0
ahead_known (KnownChar slot fresh ∷ ss) (o ∷ os) (Attr a ∷ ns) h = absurd h.0
ahead_known (KnownChar slot fresh ∷ ss) (o ∷ os) (Char c ∷ ns) h = (h.0.0, ahead_known ss os ns h.1)

-- where none of them was stored they are what they were
ahead_kept : (ss : List Known) (os ns : List Cell) → Slotted ss os ns → fresh_ahead ss ≡ false → length (text_before_attribute os) ≡ length (known_ahead ss) → text_before_attribute os ≡ text_before_attribute ns
ahead_kept [] [] [] h none same = refl
ahead_kept [] [] (n ∷ ns) h none same = absurd h
ahead_kept [] (o ∷ os) ns h none same = absurd h
ahead_kept (s ∷ ss) [] ns h none same = absurd h
ahead_kept (s ∷ ss) (o ∷ os) [] h none same = absurd h
ahead_kept (KnownAttr k m ∷ ss) (o ∷ os) (Attr a ∷ ns) h none same = empty _ same
ahead_kept (KnownAttr k m ∷ ss) (o ∷ os) (Char c ∷ ns) h none same = absurd h.0
ahead_kept (KnownChar slot fresh ∷ ss) (o ∷ os) (Attr a ∷ ns) h none same = absurd h.0
ahead_kept (KnownChar slot fresh ∷ ss) (o ∷ os) (Char c ∷ ns) h none same =
    let parts = both_false _ _ none in
    let old : o ≡ Char c = h.0.1 parts.0 in
    let same_old = rw old at same in
    rw old (ap (λ cs. c ∷ cs) (ahead_kept ss os ns h.1 parts.1 (omega (arith, same_old))))

-- the fact of a field that was there before holds of the characters that were there
pub old_fact : (whole : List Cell) (n : ℕ) (rest : List Cell) (bs : List Belief) → Pairwise FieldMeets bs (fields_from whole n rest) → rest ≡ drop n whole
    → (place len : ℕ) (fact : Fact) → fact_before bs place len ≡ Some fact → Holds fact (text_before_attribute (drop (place + 1) whole ++ whole)) × (length (text_before_attribute (drop (place + 1) whole ++ whole)) ≡ len)
old_fact whole n [] [] h is place len fact e = absurd (cc)
old_fact whole n [] (b ∷ bs) h is place len fact e = absurd h
old_fact whole n (Char c ∷ rest) bs h is place len fact e = old_fact whole (n + 1) rest bs h (drop_tail n _ rest whole is) place len fact e
old_fact whole n (Attr a ∷ rest) [] h is place len fact e = absurd (cc)
old_fact whole n (Attr a ∷ rest) (b ∷ bs) h is place len fact e =
    cases (nat_eq b.place place && nat_eq b.length len) refl e (old_fact whole (n + 1) rest bs h.1 (drop_tail n _ rest whole is) place len fact)
  where
    here : nat_eq b.place place ≡ true → drop (place + 1) whole ≡ rest
    here at = ap (λ k. drop (k + 1) whole) (sym (h.0.same_place ∙ eqb-true _ _ at)) ∙ sym (drop_tail n _ rest whole is)

    cases : (t : Bool) → (nat_eq b.place place && nat_eq b.length len) ≡ t → (if t then Some b.fact else fact_before bs place len) ≡ Some fact
        → (fact_before bs place len ≡ Some fact → Holds fact (text_before_attribute (drop (place + 1) whole ++ whole)) × (length (text_before_attribute (drop (place + 1) whole ++ whole)) ≡ len))
        → Holds fact (text_before_attribute (drop (place + 1) whole ++ whole)) × (length (text_before_attribute (drop (place + 1) whole ++ whole)) ≡ len)
    cases true test found later =
        let parts : (nat_eq b.place place ≡ true) × (nat_eq b.length len ≡ true) = and_parts _ _ test in
        let same : b.fact ≡ fact = cc found in
        rw (here parts.0, text_is whole n a rest (sym is)) (subst (λ (g : Fact). Holds g (field_text whole n)) same h.0.holds, h.0.same_length ∙ eqb-true _ _ parts.1)
    cases false test found later = later found

whole_text_is : (ks : List (Option ℕ)) (text v : List ℕ) → Pairwise KnownIs ks text → whole_text ks ≡ Some v → text ≡ v
whole_text_is [] [] v h e = (cc)
whole_text_is [] (c ∷ cs) v h e = absurd h
whole_text_is (k ∷ ks) [] v h e = absurd h
whole_text_is (None ∷ ks) (c ∷ cs) v h e = absurd (cc)
whole_text_is (Some known ∷ ks) (c ∷ cs) v h e = cases (whole_text ks) e (whole_text_is ks cs)
  where
    cases : (o : Option (List ℕ)) → and_char (Some known) o ≡ Some v → ((w : List ℕ) → Pairwise KnownIs ks cs → o ≡ Some w → cs ≡ w) → c ∷ cs ≡ v
    cases None e ih = absurd (cc)
    cases (Some w) e ih = let same : cs ≡ w = ih w h.1 refl in let head : c ≡ known = h.0 in (cc)

fact_known_holds : (ks : List (Option ℕ)) (text : List ℕ) → Pairwise KnownIs ks text → Holds (fact_known ks) text
fact_known_holds ks text h = cases (whole_text ks) refl
  where
    cases : (o : Option (List ℕ)) → whole_text ks ≡ o → Holds (exact_or_any o ks) text
    cases (Some v) e = whole_text_is ks text v h e
    cases None e = h

-- what the facts before say of the characters that were in the ring after a place
abbrev pub Before : List Belief → ℕ → List Cell → Type 0
Before bs place os = (len : ℕ) (fact : Fact) → fact_before bs place len ≡ Some fact → Holds fact (text_before_attribute os) × (length (text_before_attribute os) ≡ len)

fact_after_holds : (bs : List Belief) (n : ℕ) (ss : List Known) (os ns : List Cell) → Slotted ss os ns → Before bs n os
    → Holds (fact_after bs n ss) (text_before_attribute ns)
fact_after_holds bs n ss os ns h before = cases (fresh_ahead ss) refl
  where
    known : Holds (fact_known (known_ahead ss)) (text_before_attribute ns)
    known = fact_known_holds _ _ (ahead_known ss os ns h)

    kept : (o : Option Fact) → fact_before bs n (length (known_ahead ss)) ≡ o → fresh_ahead ss ≡ false → Holds (unwrap_or o (fact_known (known_ahead ss))) (text_before_attribute ns)
    kept None e none = known
    kept (Some fact) e none = let was = before (length (known_ahead ss)) fact e in subst (Holds fact) (ahead_kept ss os ns h none was.1) was.0

    cases : (t : Bool) → fresh_ahead ss ≡ t
        → Holds (if t then fact_known (known_ahead ss) else unwrap_or (fact_before bs n (length (known_ahead ss))) (fact_known (known_ahead ss))) (text_before_attribute ns)
    cases true e = known
    cases false e = kept (fact_before bs n (length (known_ahead ss))) refl e

beliefs_after : (bs : List Belief) (ws : List Known) (wo wn : List Cell) → Slotted ws wo wn → ((place : ℕ) → Before bs place (drop (place + 1) wo ++ wo))
    → (n : ℕ) (rs : List Known) (ro rn : List Cell) → Slotted rs ro rn → ro ≡ drop n wo
    → Pairwise FieldMeets (beliefs_from bs ws n rs) (fields_walked wn n rn)
beliefs_after bs ws wo wn w before n [] [] [] h is = tt
beliefs_after bs ws wo wn w before n [] [] (b ∷ rn) h is = absurd h
beliefs_after bs ws wo wn w before n [] (o ∷ ro) rn h is = absurd h
beliefs_after bs ws wo wn w before n (s ∷ rs) [] rn h is = absurd h
beliefs_after bs ws wo wn w before n (s ∷ rs) (o ∷ ro) [] h is = absurd h
beliefs_after bs ws wo wn w before n (KnownAttr k m ∷ rs) (o ∷ ro) (Char c ∷ rn) h is = absurd h.0
beliefs_after bs ws wo wn w before n (KnownChar slot fresh ∷ rs) (o ∷ ro) (Attr a ∷ rn) h is = absurd h.0
beliefs_after bs ws wo wn w before n (KnownChar slot fresh ∷ rs) (o ∷ ro) (Char c ∷ rn) h is = beliefs_after bs ws wo wn w before (n + 1) rs ro rn h.1 (drop_tail n o ro wo is)
beliefs_after bs ws wo wn w before n (KnownAttr k m ∷ rs) (o ∷ ro) (Attr a ∷ rn) h is =
    let rings = slotted-append rs ro rn ws wo wn h.1 w in
    let was : Before bs n (ro ++ wo) = subst (λ xs. Before bs n (xs ++ wo)) (sym (drop_tail n o ro wo is)) (before n) in (
      record {
        same_place = refl;
        same_attr = h.0.0;
        mark_is = h.0.1;
        same_length = pairwise-length KnownIs _ _ (ahead_known (rs ++ ws) (ro ++ wo) (rn ++ wn) rings);
        holds = fact_after_holds bs n (rs ++ ws) (ro ++ wo) (rn ++ wn) rings was;
      },
      beliefs_after bs ws wo wn w before (n + 1) rs ro rn h.1 (drop_tail n o ro wo is),
    )

pub believed_meets : (bs : List Belief) (ws : List Known) (wo : List Cell) (s : Screen) → Slotted ws wo s.cells → ((place : ℕ) → Before bs place (drop (place + 1) wo ++ wo))
    → Meets (believed bs ws) s
believed_meets bs ws wo s w before =
    cases (beliefs_from bs ws 0 ws)
    (subst (Pairwise FieldMeets (beliefs_from bs ws 0 ws)) (sym (fields_are_walked s.cells)) (beliefs_after bs ws wo s.cells w before 0 ws wo s.cells w refl))
  where
    cases : (new : List Belief) → Pairwise FieldMeets new (fields s.cells) → Meets (formatted_as new (known_ahead ws)) s
    cases [] h = (none_now FieldMeets [] (fields s.cells) h refl, ahead_known ws wo s.cells w)
    cases (b ∷ new) h = ((λ e. absurd (subst (Pairwise FieldMeets (b ∷ new)) e h)), h)

-- where the first SBA comes before the first cell, the cursor doesn't matter
pub placed : (size a b : ℕ) (orders : List Order) → stores_unplaced orders ≡ false → list_all is_plain_order orders ≡ true → stores size a orders ≡ stores size b orders
placed size a b [] h p = refl
placed size a b (Sba to ∷ orders) h p = refl
placed size a b (Sf attr ∷ orders) h p = absurd (cc)
placed size a b (Ic ∷ orders) h p = placed size a b orders h p
placed size a b (CharData c ∷ orders) h p = absurd (cc)
placed size a b (Pt ∷ orders) h p = absurd (cc)
placed size a b (Ra stop c ∷ orders) h p = absurd (cc)
placed size a b (Eua stop ∷ orders) h p = absurd (cc)

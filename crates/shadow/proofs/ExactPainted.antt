-- A paint makes each protected field exact.
use Rattle.std.proofs.Common.{◌≡◌, ℕ, ◌+◌, Bool, true, false, not, ◌||◌, ◌&&◌, List, [], ◌∷◌, ◌++◌, length, map, drop, Option, Some, None, unwrap_or, refl, ap, sym, subst, arith, ◌∙◌, append_assoc, if◌then◌else◌, nat_eq, eqb-true, All}
use Rattle.std.specs.Prelude.{⊤, ◌==◌}
use Rattle.std.specs.List.{list_any}
use Rattle.std.proofs.lemmas.Bool.{and_parts}
use Rattle.std.proofs.lemmas.List.{drop-map}
use Rattle.std.proofs.lemmas.List.Elements.{All-nil, All-cons}
use Rattle.codes3270.specs.Size.{cells_in}
use Rattle.codes3270.specs.declared.attribute.Attr.{Attr as Attribute}
use Rattle.codes3270.specs.declared.attribute.Cell.{Cell}
use Rattle.codes3270.specs.declared.attribute.Cell.TheVariants.{Char, Attr}
use Rattle.datastream.specs.Fields.{fields, fields_from}
use Rattle.datastream.specs.KeptByKeys.{without_mdt}
use Rattle.datastream.specs.declared.order.Order.{Order}
use Rattle.datastream.specs.declared.wanted.Want.{Want}
use Rattle.datastream.specs.declared.wanted.Want.TheVariants.{Char as WantChar, Attr as WantAttr, Keep}
use Rattle.shadow.specs.declared.mdt_state.MdtState.{MdtState}
use Rattle.shadow.specs.declared.known.Known.{Known}
use Rattle.shadow.specs.declared.known.Known.TheVariants.{Attr as KnownAttr, Char as KnownChar}
use Rattle.shadow.specs.Pairs.{Pairwise}
use Rattle.shadow.specs.Belief.{Fact, Belief, Shadow, cells_of_fields}
use Rattle.shadow.specs.Meets.{FieldMeets}
use Rattle.shadow.specs.AfterReadBuffer.{known_chars, same_attr}
use Rattle.shadow.specs.Stores.{Store, store_also}
use Rattle.shadow.specs.Taken.{laid_out, new_cell, known_stored, mark_off, marks_off_if, known_ahead, fresh_ahead, exact_or_any, fact_known, fact_before, fact_after, belief_after, beliefs_from, known_after, taken}
use Rattle.shadow.specs.Painted.{keeps_ahead, count_ahead}
use Rattle.shadow.specs.Fits.{is_field, fits_field, fits_from, fields_fit}
use Rattle.shadow.specs.Paint.{is_char, is_there, unless, cell_to_store, to_store, painting, paint}
use Rattle.shadow.specs.Exactness.{IsExact, FieldIsExact, IsExactIfProtected, ProtectedIsExact, PaintedIsExact}
use Rattle.shadow.proofs.Pairs.{pairwise-append, pairwise_weaken, pairwise-length, drop_tail, empty}
use Rattle.shadow.proofs.FieldPlaces.{both_false}
use Rattle.shadow.proofs.LaidOut.{CellFits, laid_out_fits, fields_size}
use Rattle.shadow.proofs.AfterReadBuffer.{whole_fresh}
use Rattle.shadow.proofs.Keeps.{KeepsChars, keeps_chars, paintable_fits}
use Rattle.shadow.proofs.Paints.{same_attr_true, put_at, length_more, paints_stores, paint_wcc, erase_erases, painted_if}
use Rattle.shadow.proofs.Behind.{behind}
use Rattle.shadow.proofs.ExactTaken.{found_exact, write_has, erased_exact}

-- ---- what is known once a paint is taken

abbrev pub stored_over : Known → Option Cell → Known
stored_over known None = known
stored_over known (Some cell) = new_cell cell

-- what is known of each cell; `whole`: all that is wanted, of which `rest` stands here
abbrev pub known_painted : List Want → List Want → List Known → List Known
known_painted whole [] known = []
known_painted whole (want ∷ rest) [] = []
known_painted whole (want ∷ rest) (k ∷ known) = stored_over k (cell_to_store (rest ++ whole) want k) ∷ known_painted whole rest known

one_stored : (o : Option Cell) (n : ℕ) (front : List Known) (k : Known) (known : List Known) (more : List Store) → length front ≡ n
    → known_stored (store_also o n more) (front ++ k ∷ known) ≡ known_stored more ((front ++ stored_over k o ∷ []) ++ known)
one_stored None n front k known more e = ap (known_stored more) (sym (append_assoc front (k ∷ []) known))
one_stored (Some cell) n front k known more e = ap (known_stored more) (put_at front k (new_cell cell) known n e ∙ sym (append_assoc front (new_cell cell ∷ []) known))

pub stores_painted : (whole : List Want) (n : ℕ) (rest : List Want) (known front : List Known) → length front ≡ n → length rest ≡ length known
    → known_stored (to_store whole n rest known) (front ++ known) ≡ front ++ known_painted whole rest known
stores_painted whole n [] [] front e same = refl
stores_painted whole n [] (k ∷ known) front e same = absurd (omega arith)
stores_painted whole n (want ∷ rest) [] front e same = absurd (omega arith)
stores_painted whole n (want ∷ rest) (k ∷ known) front e same =
    let new : Known = stored_over k (cell_to_store (rest ++ whole) want k) in
    one_stored (cell_to_store (rest ++ whole) want k) n front k known (to_store whole (n + 1) rest known) e
    ∙ stores_painted whole (n + 1) rest known (front ++ new ∷ []) (length_more front new n e) (omega arith)
    ∙ append_assoc front (new ∷ []) (known_painted whole rest known)

-- a character that wasn't just stored is what was known of the cell
abbrev pub OldIs : Known → Known → Type 0
OldIs old (KnownAttr k m) = ⊤
OldIs old (KnownChar slot fresh) = fresh ≡ false → old ≡ KnownChar slot fresh

old_is : (old : Known) (o : Option Cell) → OldIs old (stored_over old o)
old_is (KnownAttr k m) None = tt
old_is (KnownChar slot fresh) None = λ e. refl
old_is old (Some (Char c)) = λ e. absurd (cc)
old_is old (Some (Attr a)) = tt

pub all_old : (whole rest : List Want) (known : List Known) → length rest ≡ length known → Pairwise OldIs known (known_painted whole rest known)
all_old whole [] [] same = tt
all_old whole [] (k ∷ known) same = absurd (omega arith)
all_old whole (want ∷ rest) [] same = absurd (omega arith)
all_old whole (want ∷ rest) (k ∷ known) same = (old_is k (cell_to_store (rest ++ whole) want k), all_old whole rest known (omega arith))

ahead_old : (olds news : List Known) → Pairwise OldIs olds news → fresh_ahead news ≡ false → length (known_ahead olds) ≡ length (known_ahead news) → known_ahead olds ≡ known_ahead news
ahead_old [] [] h none same = refl
ahead_old [] (new ∷ news) h none same = absurd h
ahead_old (old ∷ olds) [] h none same = absurd h
ahead_old (old ∷ olds) (KnownAttr k m ∷ news) h none same = empty _ same
ahead_old (old ∷ olds) (KnownChar slot fresh ∷ news) h none same =
    let parts = both_false _ _ none in
    let was : old ≡ KnownChar slot fresh = h.0 parts.0 in
    let same_old = rw was at same in
    rw was (ap (λ (ks : List (Option ℕ)). slot ∷ ks) (ahead_old olds news h.1 parts.1 (omega (arith, same_old))))

-- each cell is what is wanted there
abbrev pub WantedIs : Want → Known → Type 0
WantedIs (WantAttr a) (KnownAttr k m) = ⊤
WantedIs (WantAttr a) (KnownChar slot fresh) = ⊥
WantedIs (WantChar c) (KnownAttr k m) = ⊥
WantedIs (WantChar c) (KnownChar slot fresh) = slot ≡ Some c
WantedIs Keep (KnownAttr k m) = ⊥
WantedIs Keep (KnownChar slot fresh) = ⊤

-- without Keep all characters are known
pub all_wanted_known : (wants : List Want) (news : List Known) → Pairwise WantedIs wants news → keeps_ahead wants ≡ false → (text : List ℕ) × (known_ahead news ≡ map Some text)
all_wanted_known [] [] h none = ([], refl)
all_wanted_known [] (new ∷ news) h none = absurd h
all_wanted_known (want ∷ wants) [] h none = absurd h
all_wanted_known (WantAttr a ∷ wants) (KnownAttr k m ∷ news) h none = ([], refl)
all_wanted_known (WantAttr a ∷ wants) (KnownChar slot fresh ∷ news) h none = absurd h.0
all_wanted_known (WantChar c ∷ wants) (KnownAttr k m ∷ news) h none = absurd h.0
all_wanted_known (WantChar c ∷ wants) (KnownChar slot fresh ∷ news) h none =
    let ih = all_wanted_known wants news h.1 none in
    let more : known_ahead news ≡ map Some ih.0 = ih.1 in
    let here : slot ≡ Some c = h.0 in
    (c ∷ ih.0, cc)
all_wanted_known (Keep ∷ wants) (new ∷ news) h none = absurd (cc)

-- an attribute or a character, as on the screen
abbrev pub Shaped : Known → Cell → Type 0
Shaped (KnownAttr k m) (Attr a) = without_mdt a ≡ k
Shaped (KnownAttr k m) (Char c) = ⊥
Shaped (KnownChar slot fresh) (Attr a) = ⊥
Shaped (KnownChar slot fresh) (Char c) = ⊤

fits_shape : (k : Known) (x : Cell) → CellFits k x → Shaped k x
fits_shape (KnownAttr k m) (Attr a) h = h.0
fits_shape (KnownAttr k m) (Char c) h = h
fits_shape (KnownChar slot fresh) (Attr a) h = h
fits_shape (KnownChar slot fresh) (Char c) h = tt

off_shape : (k : Known) (x : Cell) → Shaped k x → Shaped (mark_off k) x
off_shape (KnownAttr k m) x h = h
off_shape (KnownChar slot fresh) x h = h

off_shaped : (known : List Known) (cells : List Cell) → Pairwise Shaped known cells → Pairwise Shaped (map mark_off known) cells
off_shaped [] [] h = tt
off_shaped [] (x ∷ cells) h = h
off_shaped (k ∷ known) [] h = h
off_shaped (k ∷ known) (x ∷ cells) h = (off_shape k x h.0, off_shaped known cells h.1)

pub all_shaped : (reset : Bool) (known : List Known) (cells : List Cell) → Pairwise CellFits known cells → Pairwise Shaped (marks_off_if reset known) cells
all_shaped true known cells h = off_shaped known cells (pairwise_weaken CellFits Shaped fits_shape known cells h)
all_shaped false known cells h = pairwise_weaken CellFits Shaped fits_shape known cells h

-- the attribute of a field to be kept is there, and unprotected
abbrev pub IsFree : Cell → Type 0
IsFree (Char c) = ⊥
IsFree (Attr a) = a.protected ≡ false

abbrev pub KeptIsFree : List Want → List Want → List Cell → Type 0
KeptIsFree wants [] cells = ⊤
KeptIsFree wants (want ∷ rest) [] = ⊤
KeptIsFree wants (WantAttr a ∷ rest) (x ∷ cells) = (keeps_ahead (rest ++ wants) ≡ true → IsFree x) × KeptIsFree wants rest cells
KeptIsFree wants (WantChar c ∷ rest) (x ∷ cells) = KeptIsFree wants rest cells
KeptIsFree wants (Keep ∷ rest) (x ∷ cells) = KeptIsFree wants rest cells

found_free : (whole : List Cell) (n : ℕ) (rest : List Cell) (bs : List Belief) → Pairwise FieldMeets bs (fields_from whole n rest) → rest ≡ drop n whole
    → (place : ℕ) (a : Attribute) (count : ℕ) → list_any (is_field place a count) bs ≡ true → a.protected ≡ false → (x : Cell) (more : List Cell) → x ∷ more ≡ drop place whole → IsFree x
found_free whole n [] [] h is place a count e free x more at = absurd (cc)
found_free whole n [] (b ∷ bs) h is place a count e free x more at = absurd h
found_free whole n (Char c ∷ rest) bs h is place a count e free x more at = found_free whole (n + 1) rest bs h (drop_tail n _ rest whole is) place a count e free x more at
found_free whole n (Attr y ∷ rest) [] h is place a count e free x more at = absurd (cc)
found_free whole n (Attr y ∷ rest) (b ∷ bs) h is place a count e free x more at =
    cases (nat_eq b.place place) refl (same_attr b.attr a) refl (nat_eq b.length count) e (λ later. found_free whole (n + 1) rest bs h.1 (drop_tail n _ rest whole is) place a count later free x more at)
  where
    here : nat_eq b.place place ≡ true → same_attr b.attr a ≡ true → IsFree x
    here p s =
        let place_is : n ≡ place = h.0.same_place ∙ eqb-true _ _ p in
        let found : x ∷ more ≡ Attr y ∷ rest = at ∙ ap (λ k. drop k whole) (sym place_is) ∙ sym is in
        let x_is : Attr y ≡ x = cc in
        let protected : y.protected ≡ false = ap (λ (z : Attribute). z.protected) (h.0.same_attr) ∙ ap (λ (z : Attribute). z.protected) (same_attr_true b.attr a s) ∙ free in
        subst IsFree x_is protected

    cases : (p : Bool) → nat_eq b.place place ≡ p → (s : Bool) → same_attr b.attr a ≡ s → (l : Bool) → ((p && s && l) || list_any (is_field place a count) bs) ≡ true → (list_any (is_field place a count) bs ≡ true → IsFree x) → IsFree x
    cases true p true s true found later = here p s
    cases true p true s false found later = later found
    cases true p false s l found later = later found
    cases false p b s l found later = later found

pub kept_free : (bs : List Belief) (wants : List Want) (whole : List Cell) → Pairwise FieldMeets bs (fields whole)
    → (n : ℕ) (rest : List Want) (cells : List Cell) → cells ≡ drop n whole → fits_from bs wants n rest ≡ true → KeptIsFree wants rest cells
kept_free bs wants whole h n [] cells is e = tt
kept_free bs wants whole h n (want ∷ rest) [] is e = tt
kept_free bs wants whole h n (WantChar c ∷ rest) (x ∷ cells) is e = kept_free bs wants whole h (n + 1) rest cells (drop_tail n x cells whole is) e
kept_free bs wants whole h n (Keep ∷ rest) (x ∷ cells) is e = kept_free bs wants whole h (n + 1) rest cells (drop_tail n x cells whole is) e
kept_free bs wants whole h n (WantAttr a ∷ rest) (x ∷ cells) is e =
    let parts = and_parts _ _ e in
    (free parts.0, kept_free bs wants whole h (n + 1) rest cells (drop_tail n x cells whole is) parts.1)
  where
    is_free : (p : Bool) → not p ≡ true → p ≡ false
    is_free true e = absurd (cc)
    is_free false e = refl

    free : fits_field bs n a (rest ++ wants) ≡ true → keeps_ahead (rest ++ wants) ≡ true → IsFree x
    free fit keeps =
        let inside : (not a.protected && list_any (is_field n a (count_ahead (rest ++ wants))) bs) ≡ true =
        subst (λ k. (not k || (not a.protected && list_any (is_field n a (count_ahead (rest ++ wants))) bs)) ≡ true) keeps fit in
        let parts = and_parts (not a.protected) (list_any (is_field n a (count_ahead (rest ++ wants))) bs) inside in
        found_free whole 0 whole bs h refl n a (count_ahead (rest ++ wants)) parts.1 (is_free a.protected parts.0) x cells is

char_is : (slot : Option ℕ) (c : ℕ) → is_char slot c ≡ true → slot ≡ Some c
char_is None c e = absurd (cc)
char_is (Some known) c e = ap Some (eqb-true known c e)

wanted_char : (c : ℕ) (k : Known) (ahead : List Want) → WantedIs (WantChar c) (stored_over k (cell_to_store ahead (WantChar c) k))
wanted_char c k ahead = cases (is_there k (Char c)) refl
  where
    right : (k : Known) → is_there k (Char c) ≡ true → WantedIs (WantChar c) k
    right (KnownAttr a m) e = absurd (cc)
    right (KnownChar slot fresh) e = char_is slot c e

    cases : (t : Bool) → is_there k (Char c) ≡ t → WantedIs (WantChar c) (stored_over k (unless t (Char c)))
    cases true e = right k e
    cases false e = refl

wanted_attr : (a : Attribute) (k : Known) (x : Cell) (ahead : List Want) → Shaped k x → (keeps_ahead ahead ≡ true → IsFree x) → WantedIs (WantAttr a) (stored_over k (cell_to_store ahead (WantAttr a) k))
wanted_attr a k x ahead shape free = cases (keeps_ahead ahead) refl (is_there k (Attr a)) refl
  where
    kept : (k : Known) (x : Cell) → Shaped k x → IsFree x → WantedIs (WantAttr a) k
    kept (KnownAttr b m) x shape f = tt
    kept (KnownChar slot fresh) (Attr y) shape f = absurd shape
    kept (KnownChar slot fresh) (Char c) shape f = absurd f

    right : (k : Known) → is_there k (Attr a) ≡ true → WantedIs (WantAttr a) k
    right (KnownAttr b m) e = tt
    right (KnownChar slot fresh) e = absurd (cc)

    cases : (keeps : Bool) → keeps_ahead ahead ≡ keeps → (t : Bool) → is_there k (Attr a) ≡ t → WantedIs (WantAttr a) (stored_over k (unless (keeps || t) (Attr a)))
    cases true keeps t e = kept k x shape (free keeps)
    cases false keeps true e = right k e
    cases false keeps false e = tt

pub all_wanted : (wants rest : List Want) (known : List Known) (cells : List Cell) → length rest ≡ length known → Pairwise Shaped known cells → KeepsChars rest cells → KeptIsFree wants rest cells
    → Pairwise WantedIs rest (known_painted wants rest known)
all_wanted wants [] known cells same shape keeps free = tt
all_wanted wants (want ∷ rest) [] cells same shape keeps free = absurd (omega arith)
all_wanted wants (want ∷ rest) (k ∷ known) [] same shape keeps free = absurd shape
all_wanted wants (WantChar c ∷ rest) (k ∷ known) (x ∷ cells) same shape keeps free = (wanted_char c k (rest ++ wants), all_wanted wants rest known cells (omega arith) shape.1 keeps free)
all_wanted wants (WantAttr a ∷ rest) (k ∷ known) (x ∷ cells) same shape keeps free = (wanted_attr a k x (rest ++ wants) shape.0 free.0, all_wanted wants rest known cells (omega arith) shape.1 keeps free.1)
all_wanted wants (Keep ∷ rest) (KnownChar slot fresh ∷ known) (Char c ∷ cells) same shape keeps free = (tt, all_wanted wants rest known cells (omega arith) shape.1 keeps free)
all_wanted wants (Keep ∷ rest) (KnownAttr k m ∷ known) (Char c ∷ cells) same shape keeps free = absurd shape.0
all_wanted wants (Keep ∷ rest) (k ∷ known) (Attr y ∷ cells) same shape keeps free = absurd keeps

-- a protected field isn't one to be kept
abbrev ProtectedIsPut : List Want → List Want → List Known → Type 0
ProtectedIsPut wants [] news = ⊤
ProtectedIsPut wants (want ∷ rest) [] = ⊤
ProtectedIsPut wants (WantAttr a ∷ rest) (KnownAttr k m ∷ news) = (k.protected ≡ true → keeps_ahead (rest ++ wants) ≡ false) × ProtectedIsPut wants rest news
ProtectedIsPut wants (WantAttr a ∷ rest) (KnownChar slot fresh ∷ news) = ProtectedIsPut wants rest news
ProtectedIsPut wants (WantChar c ∷ rest) (new ∷ news) = ProtectedIsPut wants rest news
ProtectedIsPut wants (Keep ∷ rest) (new ∷ news) = ProtectedIsPut wants rest news

kept_unprotected : (k : Known) (x : Cell) → Shaped k x → IsFree x → (b : Attribute) (m : MdtState) → k ≡ KnownAttr b m → b.protected ≡ true → ⊥
kept_unprotected (KnownAttr k m) (Attr y) shape free b n e p =
    let same : k ≡ b = cc in
    let one : y.protected ≡ true = ap (λ (z : Attribute). z.protected) (shape ∙ same) ∙ p in
    absurd (cc)
kept_unprotected (KnownAttr k m) (Char c) shape free b n e p = absurd shape
kept_unprotected (KnownChar slot fresh) (Attr y) shape free b n e p = absurd shape
kept_unprotected (KnownChar slot fresh) (Char c) shape free b n e p = absurd free

all_put : (wants rest : List Want) (known : List Known) (cells : List Cell) → Pairwise Shaped known cells → KeptIsFree wants rest cells → ProtectedIsPut wants rest (known_painted wants rest known)
all_put wants [] known cells shape free = tt
all_put wants (want ∷ rest) [] cells shape free = tt
all_put wants (want ∷ rest) (k ∷ known) [] shape free = absurd shape
all_put wants (WantChar c ∷ rest) (k ∷ known) (x ∷ cells) shape free = all_put wants rest known cells shape.1 free
all_put wants (Keep ∷ rest) (k ∷ known) (x ∷ cells) shape free = all_put wants rest known cells shape.1 free
all_put wants (WantAttr a ∷ rest) (k ∷ known) (x ∷ cells) shape free = one (stored_over k (cell_to_store (rest ++ wants) (WantAttr a) k)) refl (all_put wants rest known cells shape.1 free.1)
  where
    put : (b : Attribute) (m : MdtState) → stored_over k (cell_to_store (rest ++ wants) (WantAttr a) k) ≡ KnownAttr b m → b.protected ≡ true → keeps_ahead (rest ++ wants) ≡ false
    put b m e p = cases (keeps_ahead (rest ++ wants)) refl e
      where
        cases : (keeps : Bool) → keeps_ahead (rest ++ wants) ≡ keeps → stored_over k (unless (keeps || is_there k (Attr a)) (Attr a)) ≡ KnownAttr b m → keeps ≡ false
        cases true keeps e = absurd (kept_unprotected k x shape.0 (free.0 keeps) b m e p)
        cases false keeps e = refl

    one : (new : Known) → stored_over k (cell_to_store (rest ++ wants) (WantAttr a) k) ≡ new → ProtectedIsPut wants rest (known_painted wants rest known)
        → ProtectedIsPut wants (WantAttr a ∷ rest) (new ∷ known_painted wants rest known)
    one (KnownAttr b m) e others = (put b m e, others)
    one (KnownChar slot fresh) e others = others

-- ---- the fields of it

-- what was known of the characters of the fields
abbrev pub WasKnown : List Belief → List Known → Type 0
WasKnown bs cells = (place len : ℕ) (fact : Fact) → fact_before bs place len ≡ Some fact → known_ahead (drop (place + 1) cells ++ cells) ≡ known_chars len fact

ahead_off : (xs ys : List Known) → known_ahead (map mark_off xs ++ map mark_off ys) ≡ known_ahead (xs ++ ys)
ahead_off [] [] = refl
ahead_off [] (KnownAttr k m ∷ ys) = refl
ahead_off [] (KnownChar slot fresh ∷ ys) = ap (λ (ks : List (Option ℕ)). slot ∷ ks) (ahead_off [] ys)
ahead_off (KnownAttr k m ∷ xs) ys = refl
ahead_off (KnownChar slot fresh ∷ xs) ys = ap (λ (ks : List (Option ℕ)). slot ∷ ks) (ahead_off xs ys)

pub off_known : (reset : Bool) (bs : List Belief) (cells : List Known) → WasKnown bs cells → WasKnown bs (marks_off_if reset cells)
off_known true bs cells h place len fact e =
    ap (λ (xs : List Known). known_ahead (xs ++ map mark_off cells)) (drop-map mark_off (place + 1) cells) ∙ ahead_off (drop (place + 1) cells) cells ∙ h place len fact e
off_known false bs cells h place len fact e = h place len fact e

pub field_put : (bs : List Belief) (n : ℕ) (ahead olds : List Known) (text : List ℕ) → All FieldIsExact bs → known_ahead ahead ≡ map Some text → Pairwise OldIs olds ahead
    → ((len : ℕ) (fact : Fact) → fact_before bs n len ≡ Some fact → known_ahead olds ≡ known_chars len fact) → IsExact (fact_after bs n ahead)
field_put bs n ahead olds text exact known old was = cases (fresh_ahead ahead) refl
  where
    put : IsExact (fact_known (known_ahead ahead))
    put = (text, ap fact_known known ∙ ap (λ (o : Option (List ℕ)). exact_or_any o (map Some text)) (whole_fresh text))

    kept : (o : Option Fact) → fact_before bs n (length (known_ahead ahead)) ≡ o → fresh_ahead ahead ≡ false → IsExact (unwrap_or o (fact_known (known_ahead ahead)))
    kept None e none = put
    kept (Some fact) e none =
        let len : ℕ = length (known_ahead ahead) in
        let it = found_exact bs n len fact e exact in
        let before = was len fact e in
        (text, it.exact text (sym before ∙ ahead_old olds ahead old none (ap length before ∙ it.whole) ∙ known))

    cases : (t : Bool) → fresh_ahead ahead ≡ t → IsExact (if t then fact_known (known_ahead ahead) else unwrap_or (fact_before bs n (length (known_ahead ahead))) (fact_known (known_ahead ahead)))
    cases true e = put
    cases false e = kept (fact_before bs n (length (known_ahead ahead))) refl e

all_protected : (bs : List Belief) (wants : List Want) (olds news : List Known) → All FieldIsExact bs → WasKnown bs olds → Pairwise WantedIs wants news → Pairwise OldIs olds news
    → (n : ℕ) (rest : List Want) (ro rn : List Known) → Pairwise WantedIs rest rn → Pairwise OldIs ro rn → ProtectedIsPut wants rest rn → ro ≡ drop n olds
    → All IsExactIfProtected (beliefs_from bs news n rn)
all_protected bs wants olds news exact was w o n rest ro [] h k put is = All-nil IsExactIfProtected
all_protected bs wants olds news exact was w o n [] ro (new ∷ rn) h k put is = absurd h
all_protected bs wants olds news exact was w o n (want ∷ rest) [] (new ∷ rn) h k put is = absurd k
all_protected bs wants olds news exact was w o n (WantChar c ∷ rest) (old ∷ ro) (KnownAttr b m ∷ rn) h k put is = absurd h.0
all_protected bs wants olds news exact was w o n (Keep ∷ rest) (old ∷ ro) (KnownAttr b m ∷ rn) h k put is = absurd h.0
all_protected bs wants olds news exact was w o n (WantAttr a ∷ rest) (old ∷ ro) (KnownChar slot fresh ∷ rn) h k put is = absurd h.0
all_protected bs wants olds news exact was w o n (WantChar c ∷ rest) (old ∷ ro) (KnownChar slot fresh ∷ rn) h k put is =
    all_protected bs wants olds news exact was w o (n + 1) rest ro rn h.1 k.1 put (drop_tail n old ro olds is)
all_protected bs wants olds news exact was w o n (Keep ∷ rest) (old ∷ ro) (KnownChar slot fresh ∷ rn) h k put is =
    all_protected bs wants olds news exact was w o (n + 1) rest ro rn h.1 k.1 put (drop_tail n old ro olds is)
all_protected bs wants olds news exact was w o n (WantAttr a ∷ rest) (old ∷ ro) (KnownAttr b m ∷ rn) h k put is =
    All-cons IsExactIfProtected (belief_after bs n b m (rn ++ news)) (beliefs_from bs news (n + 1) rn) one (all_protected bs wants olds news exact was w o (n + 1) rest ro rn h.1 k.1 put.1 (drop_tail n old ro olds is))
  where
    one : b.protected ≡ true → IsExact (fact_after bs n (rn ++ news))
    one p =
        let known = all_wanted_known (rest ++ wants) (rn ++ news) (pairwise-append WantedIs rest rn wants news h.1 w) (put.0 p) in
        field_put bs n (rn ++ news) (ro ++ olds) known.0 exact known.1 (pairwise-append OldIs ro rn olds news k.1 o)
        (λ len fact e. ap (λ (xs : List Known). known_ahead (xs ++ olds)) (drop_tail n old ro olds is) ∙ was n len fact e)

-- a paint begins at no address that is known
pub no_address : (k : ℕ) → None ≡ Some k → 0 ≡ k
no_address k e = absurd (cc)

pub painted_exact : PaintedIsExact
painted_exact Shadow.NothingKnown wanted s whole can meets exact = erased_exact (cells_in wanted.size) (paint (cells_in wanted.size) Shadow.NothingKnown wanted) Shadow.NothingKnown (erase_erases wanted.size)
painted_exact (Shadow.Unformatted known) wanted s whole can meets exact =
    erased_exact (cells_in wanted.size) (paint (cells_in wanted.size) (Shadow.Unformatted known) wanted) (Shadow.Unformatted known) (erase_erases wanted.size)
painted_exact (Shadow.Formatted bs) wanted s whole can meets exact = cases (cells_of_fields bs == cells_in wanted.size) refl
  where
    cases : (t : Bool) → (cells_of_fields bs == cells_in wanted.size) ≡ t → ProtectedIsExact (taken (cells_in wanted.size) (painted_if t (cells_in wanted.size) bs wanted) (Shadow.Formatted bs))
    cases false e = erased_exact (cells_in wanted.size) (painted_if false (cells_in wanted.size) bs wanted) (Shadow.Formatted bs) (erase_erases wanted.size)
    cases true e =
        let size : ℕ = cells_in wanted.size in
        let there : length s.cells ≡ size = sym (fields_size s.cells bs meets.1 meets.0) ∙ eqb-true (cells_of_fields bs) size e in
        let same : length wanted.cells ≡ length s.cells = whole ∙ sym there in
        let fits : fields_fit bs wanted.cells ≡ true = paintable_fits (Shadow.Formatted bs) wanted can in
        let wants : List Want = wanted.cells in
        let laid : List Known = laid_out size bs in
        let olds : List Known = marks_off_if wanted.reset laid in
        let more : List Store = to_store wants 0 wants olds in
        let orders : List Order = painting size wanted.cursor None more in
        let news : List Known = known_painted wants wants olds in
        let shape : Pairwise Shaped olds s.cells = all_shaped wanted.reset laid s.cells (laid_out_fits size s.cells bs there meets.1 meets.0) in
        let free : KeptIsFree wants wants s.cells = kept_free bs wants s.cells meets.1 0 wants s.cells refl (and_parts _ _ fits).1 in
        let keeps : KeepsChars wants s.cells = keeps_chars bs wants s.cells same meets.1 fits in
        let long : length wants ≡ length olds = same ∙ pairwise-length Shaped olds s.cells shape in
        let is : known_after size (Some (paint_wcc wanted.reset)) orders laid ≡ news =
        ap (λ (stored : List Store). known_stored stored olds) (paints_stores size wanted.cursor more 0 None no_address) ∙ stores_painted wants 0 wants olds [] refl long in
        let w : Pairwise WantedIs wants news = all_wanted wants wants olds s.cells long shape keeps free in
        let o : Pairwise OldIs olds news = all_old wants wants olds long in
        let was : WasKnown bs olds = off_known wanted.reset bs laid (behind size s.cells bs there meets.1 meets.0) in
        write_has IsExactIfProtected size (Some (paint_wcc wanted.reset)) orders bs laid
        (subst (λ (cells : List Known). All IsExactIfProtected (beliefs_from bs cells 0 cells)) (sym is)
        (all_protected bs wants olds news exact was w o 0 wants olds news w o (all_put wants wants olds s.cells shape free) refl))

-- A paint that keeps whole fields alone opens none.
use Rattle.std.proofs.Common.{◌≡◌, ℕ, suc, ◌+◌, Bool, true, false, not, ◌||◌, ◌&&◌, List, [], ◌∷◌, ◌++◌, length, map, drop, Some, None, refl, ap, sym, subst, arith, ◌∙◌, if◌then◌else◌, nat_eq, eqb-true, All}
use Rattle.std.specs.Prelude.{⊤, ◌==◌}
use Rattle.std.specs.List.{list_any}
use Rattle.std.proofs.lemmas.Bool.{and_parts}
use Rattle.std.proofs.lemmas.List.Elements.{All-head, All-tail, All-nil, All-cons}
use Rattle.codes3270.specs.Size.{cells_in}
use Rattle.codes3270.specs.declared.attribute.Attr.{Attr as Attribute}
use Rattle.codes3270.specs.declared.attribute.Cell.{Cell}
use Rattle.codes3270.specs.declared.attribute.Cell.TheVariants.{Char, Attr}
use Rattle.datastream.specs.Fields.{fields, fields_from}
use Rattle.datastream.specs.declared.order.Order.{Order}
use Rattle.datastream.specs.declared.wanted.Want.{Want}
use Rattle.datastream.specs.declared.wanted.Want.TheVariants.{Char as WantChar, Attr as WantAttr, Keep}
use Rattle.shadow.specs.declared.known.Known.{Known}
use Rattle.shadow.specs.declared.known.Known.TheVariants.{Attr as KnownAttr, Char as KnownChar}
use Rattle.shadow.specs.Pairs.{Pairwise}
use Rattle.shadow.specs.Belief.{Fact, Belief, Shadow, cells_of_fields}
use Rattle.shadow.specs.Exactness.{IsExact, FieldIsExact}
use Rattle.shadow.specs.Fits.{is_field, fits_field, fits_from, fields_fit}
use Rattle.shadow.specs.Meets.{FieldMeets}
use Rattle.shadow.specs.TextUnknown.{is_any, IsNotOpen, NothingIsOpen, keeps_alone, keeps_whole, PaintOpensNothing}
use Rattle.shadow.specs.Paint.{to_store, painting, paint}
use Rattle.shadow.specs.Painted.{keeps_ahead, count_ahead}
use Rattle.shadow.specs.Stores.{Store}
use Rattle.shadow.specs.Taken.{laid_out, mark_off, marks_off_if, known_stored, known_ahead, fresh_ahead, fact_before, fact_after, belief_after, beliefs_from, known_after, taken}
use Rattle.shadow.proofs.Pairs.{pairwise-append, pairwise-length, drop_tail}
use Rattle.shadow.proofs.LaidOut.{laid_out_fits, fields_size}
use Rattle.shadow.proofs.Keeps.{KeepsChars, keeps_chars, field_found, paintable_fits}
use Rattle.shadow.proofs.Paints.{paints_stores, paint_wcc, erase_erases, painted_if}
use Rattle.shadow.proofs.Behind.{behind}
use Rattle.shadow.proofs.ExactTaken.{write_has}
use Rattle.shadow.proofs.ExactPainted.{OldIs, WantedIs, Shaped, IsFree, KeptIsFree, WasKnown, known_painted, stores_painted, all_old, all_wanted_known, all_shaped, kept_free, all_wanted, off_known, field_put, no_address}
use Rattle.shadow.proofs.StoredClosed.{IsStale, stale_laid}
use Rattle.shadow.proofs.NotesTaken.{fact_kept}
use Rattle.shadow.proofs.Opening.{erase_leaves_nothing_open}

-- ---- of what is kept nothing was just stored

abbrev StaleIfKept : Want → Known → Type 0
StaleIfKept (WantAttr a) k = ⊤
StaleIfKept (WantChar c) k = ⊤
StaleIfKept Keep k = IsStale k

off_stale : (known : List Known) → All IsStale known → All IsStale (map mark_off known)
off_stale [] h = All-nil IsStale
off_stale (KnownAttr a m ∷ known) h = All-cons IsStale (mark_off (KnownAttr a m)) (map mark_off known) tt (off_stale known (All-tail IsStale (KnownAttr a m) known h))
off_stale (KnownChar slot fresh ∷ known) h =
    All-cons IsStale (KnownChar slot fresh) (map mark_off known) (All-head IsStale (KnownChar slot fresh) known h) (off_stale known (All-tail IsStale (KnownChar slot fresh) known h))

marks_stale : (reset : Bool) (known : List Known) → All IsStale known → All IsStale (marks_off_if reset known)
marks_stale true known h = off_stale known h
marks_stale false known h = h

all_stale : (whole rest : List Want) (known : List Known) → length rest ≡ length known → All IsStale known → Pairwise StaleIfKept rest (known_painted whole rest known)
all_stale whole [] known same h = tt
all_stale whole (want ∷ rest) [] same h = absurd (omega arith)
all_stale whole (WantAttr a ∷ rest) (k ∷ known) same h = (tt, all_stale whole rest known (omega arith) (All-tail IsStale k known h))
all_stale whole (WantChar c ∷ rest) (k ∷ known) same h = (tt, all_stale whole rest known (omega arith) (All-tail IsStale k known h))
all_stale whole (Keep ∷ rest) (k ∷ known) same h = (All-head IsStale k known h, all_stale whole rest known (omega arith) (All-tail IsStale k known h))

kept_stale : (wants : List Want) (news : List Known) → Pairwise WantedIs wants news → Pairwise StaleIfKept wants news → keeps_alone wants ≡ true → fresh_ahead news ≡ false
kept_stale [] [] w h e = refl
kept_stale [] (new ∷ news) w h e = absurd w
kept_stale (want ∷ wants) [] w h e = absurd w
kept_stale (WantAttr a ∷ wants) (KnownAttr b m ∷ news) w h e = refl
kept_stale (WantAttr a ∷ wants) (KnownChar slot fresh ∷ news) w h e = absurd w.0
kept_stale (WantChar c ∷ wants) (new ∷ news) w h e = absurd (cc)
kept_stale (Keep ∷ wants) (KnownAttr b m ∷ news) w h e = absurd w.0
kept_stale (Keep ∷ wants) (KnownChar slot true ∷ news) w h e = absurd (let wrong = h.0 in cc)
kept_stale (Keep ∷ wants) (KnownChar slot false ∷ news) w h e = kept_stale wants news w.1 h.1 e

wanted_long : (wants : List Want) (news : List Known) → Pairwise WantedIs wants news → length (known_ahead news) ≡ count_ahead wants
wanted_long [] [] w = refl
wanted_long [] (new ∷ news) w = absurd w
wanted_long (want ∷ wants) [] w = absurd w
wanted_long (WantAttr a ∷ wants) (KnownAttr b m ∷ news) w = refl
wanted_long (WantAttr a ∷ wants) (KnownChar slot fresh ∷ news) w = absurd w.0
wanted_long (WantChar c ∷ wants) (KnownAttr b m ∷ news) w = absurd w.0
wanted_long (WantChar c ∷ wants) (KnownChar slot fresh ∷ news) w = ap suc (wanted_long wants news w.1)
wanted_long (Keep ∷ wants) (KnownAttr b m ∷ news) w = absurd w.0
wanted_long (Keep ∷ wants) (KnownChar slot fresh ∷ news) w = ap suc (wanted_long wants news w.1)

-- ---- what was believed of an unprotected field isn't open

found_not_open : (whole : List Cell) (n : ℕ) (rest : List Cell) (bs : List Belief) → Pairwise FieldMeets bs (fields_from whole n rest) → rest ≡ drop n whole → All IsNotOpen bs
    → (place len : ℕ) (fact : Fact) → fact_before bs place len ≡ Some fact → (x : Cell) (more : List Cell) → x ∷ more ≡ drop place whole → IsFree x → is_any fact ≡ false
found_not_open whole n [] [] h is shut place len fact e x more at free = absurd (cc)
found_not_open whole n [] (b ∷ bs) h is shut place len fact e x more at free = absurd h
found_not_open whole n (Char c ∷ rest) bs h is shut place len fact e x more at free =
    found_not_open whole (n + 1) rest bs h (drop_tail n (Char c) rest whole is) shut place len fact e x more at free
found_not_open whole n (Attr y ∷ rest) [] h is shut place len fact e x more at free = absurd (cc)
found_not_open whole n (Attr y ∷ rest) (b ∷ bs) h is shut place len fact e x more at free =
    cases (nat_eq b.place place && nat_eq b.length len) refl e
    (λ later. found_not_open whole (n + 1) rest bs h.1 (drop_tail n (Attr y) rest whole is) (All-tail IsNotOpen b bs shut) place len fact later x more at free)
  where
    here : nat_eq b.place place ≡ true → b.fact ≡ fact → is_any fact ≡ false
    here p same =
        let place_is : n ≡ place = h.0.same_place ∙ eqb-true _ _ p in
        let found : x ∷ more ≡ Attr y ∷ rest = at ∙ ap (λ k. drop k whole) (sym place_is) ∙ sym is in
        let x_is : x ≡ Attr y = cc in
        let unprotected : y.protected ≡ false = subst IsFree x_is free in
        ap is_any (sym same) ∙ All-head IsNotOpen b bs shut (ap (λ (z : Attribute). z.protected) (sym h.0.same_attr) ∙ unprotected)

    cases : (t : Bool) → (nat_eq b.place place && nat_eq b.length len) ≡ t → (if t then Some b.fact else fact_before bs place len) ≡ Some fact → (fact_before bs place len ≡ Some fact → is_any fact ≡ false) → is_any fact ≡ false
    cases true test found later = here (and_parts _ _ test).0 (cc)
    cases false test found later = later found

-- ---- the fields of what is painted

-- what holds of the whole ring
pub record IsPainted (bs : List Belief) (wants : List Want) (whole : List Cell) (olds news : List Known) : Type 0 where
  pub exact : All FieldIsExact bs
  pub shut : All IsNotOpen bs
  pub was : WasKnown bs olds
  pub meets : Pairwise FieldMeets bs (fields whole)
  pub wanted : Pairwise WantedIs wants news
  pub old : Pairwise OldIs olds news
  pub stale : Pairwise StaleIfKept wants news

-- and of what stands from an address on
pub record IsPaintedFrom (bs : List Belief) (wants : List Want) (whole : List Cell) (olds : List Known) (n : ℕ) (rest : List Want) (cells : List Cell) (ro rn : List Known) : Type 0 where
  pub same : length rest ≡ length cells
  pub wanted : Pairwise WantedIs rest rn
  pub old : Pairwise OldIs ro rn
  pub stale : Pairwise StaleIfKept rest rn
  pub free : KeptIsFree wants rest cells
  pub alone : keeps_whole wants rest ≡ true
  pub fits : fits_from bs wants n rest ≡ true
  pub is : ro ≡ drop n olds
  pub at : cells ≡ drop n whole

field_shut : (bs : List Belief) (wants : List Want) (whole : List Cell) (olds news : List Known) → IsPainted bs wants whole olds news
    → (n : ℕ) (a : Attribute) (rest : List Want) (x : Cell) (cells : List Cell) (ro rn : List Known) → Pairwise WantedIs rest rn → Pairwise OldIs ro rn → Pairwise StaleIfKept rest rn → (keeps_ahead (rest ++ wants) ≡ true → IsFree x)
    → (not (keeps_ahead (rest ++ wants)) || keeps_alone (rest ++ wants)) ≡ true → fits_field bs n a (rest ++ wants) ≡ true → ro ≡ drop (n + 1) olds → x ∷ cells ≡ drop n whole
    → is_any (fact_after bs n (rn ++ news)) ≡ false
field_shut bs wants whole olds news all n a rest x cells ro rn wanted old stale free alone fit is at = cases (keeps_ahead (rest ++ wants)) refl
  where
    w : Pairwise WantedIs (rest ++ wants) (rn ++ news)
    w = pairwise-append WantedIs rest rn wants news wanted all.wanted

    cases : (keeps : Bool) → keeps_ahead (rest ++ wants) ≡ keeps → is_any (fact_after bs n (rn ++ news)) ≡ false
    cases false e =
        let known = all_wanted_known (rest ++ wants) (rn ++ news) w e in
        let exact : IsExact (fact_after bs n (rn ++ news)) = field_put bs n (rn ++ news) (ro ++ olds) known.0 all.exact known.1 (pairwise-append OldIs ro rn olds news old all.old)
        (λ len fact e. ap (λ (xs : List Known). known_ahead (xs ++ olds)) is ∙ all.was n len fact e) in
        ap is_any exact.1
    cases true e =
        let count : ℕ = count_ahead (rest ++ wants) in
        let alone_ : keeps_alone (rest ++ wants) ≡ true = subst (λ (k : Bool). (not k || keeps_alone (rest ++ wants)) ≡ true) e alone in
        let inside : (not a.protected && list_any (is_field n a count) bs) ≡ true = subst (λ (k : Bool). (not k || (not a.protected && list_any (is_field n a count) bs)) ≡ true) e fit in
        let found = field_found bs n a count (and_parts (not a.protected) (list_any (is_field n a count) bs) inside).1 in
        let none : fresh_ahead (rn ++ news) ≡ false = kept_stale (rest ++ wants) (rn ++ news) w (pairwise-append StaleIfKept rest rn wants news stale all.stale) alone_ in
        ap is_any (fact_kept bs n count found.0 (rn ++ news) none (wanted_long (rest ++ wants) (rn ++ news) w) found.1)
        ∙ found_not_open whole 0 whole bs all.meets refl all.shut n count found.0 found.1 x cells at (free e)

all_shut : (bs : List Belief) (wants : List Want) (whole : List Cell) (olds news : List Known) → IsPainted bs wants whole olds news
    → (n : ℕ) (rest : List Want) (cells : List Cell) (ro rn : List Known) → IsPaintedFrom bs wants whole olds n rest cells ro rn → All IsNotOpen (beliefs_from bs news n rn)
all_shut bs wants whole olds news all n rest cells ro [] h = All-nil IsNotOpen
all_shut bs wants whole olds news all n [] cells ro (new ∷ rn) h = absurd h.wanted
all_shut bs wants whole olds news all n (want ∷ rest) cells [] (new ∷ rn) h = absurd h.old
all_shut bs wants whole olds news all n (want ∷ rest) [] (old ∷ ro) (new ∷ rn) h = absurd (let same = h.same in omega arith)
all_shut bs wants whole olds news all n (WantChar c ∷ rest) (x ∷ cells) (old ∷ ro) (KnownAttr b m ∷ rn) h = absurd h.wanted.0
all_shut bs wants whole olds news all n (Keep ∷ rest) (x ∷ cells) (old ∷ ro) (KnownAttr b m ∷ rn) h = absurd h.wanted.0
all_shut bs wants whole olds news all n (WantAttr a ∷ rest) (x ∷ cells) (old ∷ ro) (KnownChar slot fresh ∷ rn) h = absurd h.wanted.0
all_shut bs wants whole olds news all n (WantChar c ∷ rest) (x ∷ cells) (old ∷ ro) (KnownChar slot fresh ∷ rn) h =
    let same = h.same in
    all_shut bs wants whole olds news all (n + 1) rest cells ro rn (record {
      same = omega arith;
      wanted = h.wanted.1;
      old = h.old.1;
      stale = h.stale.1;
      free = h.free;
      alone = h.alone;
      fits = h.fits;
      is = drop_tail n old ro olds h.is;
      at = drop_tail n x cells whole h.at;
    })
all_shut bs wants whole olds news all n (Keep ∷ rest) (x ∷ cells) (old ∷ ro) (KnownChar slot fresh ∷ rn) h =
    let same = h.same in
    all_shut bs wants whole olds news all (n + 1) rest cells ro rn (record {
      same = omega arith;
      wanted = h.wanted.1;
      old = h.old.1;
      stale = h.stale.1;
      free = h.free;
      alone = h.alone;
      fits = h.fits;
      is = drop_tail n old ro olds h.is;
      at = drop_tail n x cells whole h.at;
    })
all_shut bs wants whole olds news all n (WantAttr a ∷ rest) (x ∷ cells) (old ∷ ro) (KnownAttr b m ∷ rn) h =
    let same = h.same in
    let is : ro ≡ drop (n + 1) olds = drop_tail n old ro olds h.is in
    let fits = and_parts (fits_field bs n a (rest ++ wants)) (fits_from bs wants (n + 1) rest) h.fits in
    let alone = and_parts (not (keeps_ahead (rest ++ wants)) || keeps_alone (rest ++ wants)) (keeps_whole wants rest) h.alone in
    All-cons IsNotOpen (belief_after bs n b m (rn ++ news)) (beliefs_from bs news (n + 1) rn)
    (λ unprotected. field_shut bs wants whole olds news all n a rest x cells ro rn h.wanted.1 h.old.1 h.stale.1 h.free.0 alone.0 fits.0 is h.at)
    (all_shut bs wants whole olds news all (n + 1) rest cells ro rn (record {
      same = omega arith;
      wanted = h.wanted.1;
      old = h.old.1;
      stale = h.stale.1;
      free = h.free.1;
      alone = alone.1;
      fits = fits.1;
      is = is;
      at = drop_tail n x cells whole h.at;
    }))

pub paint_opens_nothing : PaintOpensNothing
paint_opens_nothing Shadow.NothingKnown wanted s long_ can whole meets exact shut =
    erase_leaves_nothing_open (cells_in wanted.size) (paint (cells_in wanted.size) Shadow.NothingKnown wanted) Shadow.NothingKnown (erase_erases wanted.size)
paint_opens_nothing (Shadow.Unformatted known) wanted s long_ can whole meets exact shut =
    erase_leaves_nothing_open (cells_in wanted.size) (paint (cells_in wanted.size) (Shadow.Unformatted known) wanted) (Shadow.Unformatted known) (erase_erases wanted.size)
paint_opens_nothing (Shadow.Formatted bs) wanted s long_ can whole meets exact shut = cases (cells_of_fields bs == cells_in wanted.size) refl
  where
    cases : (t : Bool) → (cells_of_fields bs == cells_in wanted.size) ≡ t → NothingIsOpen (taken (cells_in wanted.size) (painted_if t (cells_in wanted.size) bs wanted) (Shadow.Formatted bs))
    cases false e = erase_leaves_nothing_open (cells_in wanted.size) (painted_if false (cells_in wanted.size) bs wanted) (Shadow.Formatted bs) (erase_erases wanted.size)
    cases true e =
        let size : ℕ = cells_in wanted.size in
        let there : length s.cells ≡ size = sym (fields_size s.cells bs meets.1 meets.0) ∙ eqb-true (cells_of_fields bs) size e in
        let same : length wanted.cells ≡ length s.cells = long_ ∙ sym there in
        let fits : fields_fit bs wanted.cells ≡ true = paintable_fits (Shadow.Formatted bs) wanted can in
        let wants : List Want = wanted.cells in
        let laid : List Known = laid_out size bs in
        let olds : List Known = marks_off_if wanted.reset laid in
        let more : List Store = to_store wants 0 wants olds in
        let orders : List Order = painting size wanted.cursor None more in
        let news : List Known = known_painted wants wants olds in
        let shape : Pairwise Shaped olds s.cells = all_shaped wanted.reset laid s.cells (laid_out_fits size s.cells bs there meets.1 meets.0) in
        let fitting : fits_from bs wants 0 wants ≡ true = (and_parts _ _ fits).1 in
        let free : KeptIsFree wants wants s.cells = kept_free bs wants s.cells meets.1 0 wants s.cells refl fitting in
        let keeps : KeepsChars wants s.cells = keeps_chars bs wants s.cells same meets.1 fits in
        let long : length wants ≡ length olds = same ∙ pairwise-length Shaped olds s.cells shape in
        let is : known_after size (Some (paint_wcc wanted.reset)) orders laid ≡ news =
        ap (λ (stored : List Store). known_stored stored olds) (paints_stores size wanted.cursor more 0 None no_address) ∙ stores_painted wants 0 wants olds [] refl long in
        let w : Pairwise WantedIs wants news = all_wanted wants wants olds s.cells long shape keeps free in
        let o : Pairwise OldIs olds news = all_old wants wants olds long in
        let t : Pairwise StaleIfKept wants news = all_stale wants wants olds long (marks_stale wanted.reset laid (stale_laid size bs)) in
        let was : WasKnown bs olds = off_known wanted.reset bs laid (behind size s.cells bs there meets.1 meets.0) in
        write_has IsNotOpen size (Some (paint_wcc wanted.reset)) orders bs laid
        (subst (λ (cells : List Known). All IsNotOpen (beliefs_from bs cells 0 cells)) (sym is)
        (all_shut bs wants s.cells olds news (record { exact = exact; shut = shut; was = was; meets = meets.1; wanted = w; old = o; stale = t })
        0 wants s.cells olds news (record { same = same; wanted = w; old = o; stale = t; free = free; alone = whole; fits = fitting; is = refl; at = refl })))

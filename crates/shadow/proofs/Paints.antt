-- A paint gives the wanted screen on every screen that meets the shadow.
use Rattle.std.proofs.Common.{◌≡◌, ℕ, zero, suc, ◌+◌, Bool, true, false, ◌&&◌, ◌||◌, List, [], ◌∷◌, ◌++◌, length, map, set, replicate, Option, Some, None, refl, ap, sym, subst, ◌∙◌, eq-eqb, eqb-true, append_assoc, length-append, arith, if◌then◌else◌}
use Rattle.std.specs.Prelude.{◌==◌}
use Rattle.std.specs.List.{list_all}
use Rattle.codes3270.specs.Size.{ScreenSize, cells_in}
use Rattle.std.proofs.lemmas.Bool.{and_parts}
use Rattle.std.proofs.lemmas.List.{length-map, length-replicate}
use Rattle.codes3270.specs.declared.attention.Aid.TheVariants.{NoAid}
use Rattle.codes3270.specs.declared.attribute.Attr.{Attr as Attribute}
use Rattle.codes3270.specs.declared.attribute.Cell.{Cell}
use Rattle.codes3270.specs.declared.attribute.Cell.TheVariants.{Char, Attr}
use Rattle.codes3270.specs.declared.write_control.Wcc.{Wcc}
use Rattle.codes3270.specs.Attribute.{attr_of}
use Rattle.codes3270.proofs.RoundTrips.{attr_read_back}
use Rattle.datastream.specs.Screen.{Screen}
use Rattle.datastream.specs.Fields.{Field}
use Rattle.datastream.specs.KeptByKeys.{without_mdt}
use Rattle.datastream.specs.Wanted.{WantedScreen}
use Rattle.datastream.specs.Grammar.{CommandParts, is_write}
use Rattle.datastream.specs.Meaning.{WriteProgress, unmodified, prepared, restored, written, cleared, after_code}
use Rattle.datastream.specs.declared.command_code.CommandCode.TheVariants.{Write, EraseWrite, EraseWriteAlternate}
use Rattle.datastream.specs.declared.order.Order.{Order}
use Rattle.datastream.specs.declared.wanted.Want.{Want}
use Rattle.datastream.specs.declared.wanted.Want.TheVariants.{Char as WantChar, Attr as WantAttr, Keep}
use Rattle.shadow.specs.declared.known.Known.{Known}
use Rattle.shadow.specs.declared.known.Known.TheVariants.{Attr as KnownAttr, Char as KnownChar}
use Rattle.shadow.specs.declared.mdt_state.MdtState.{MdtState}
use Rattle.shadow.specs.declared.mdt_state.MdtState.TheVariants.{On, Off, Unknown}
use Rattle.shadow.specs.Pairs.{Pairwise}
use Rattle.shadow.specs.Belief.{Belief, Shadow, cells_of_fields, next_address}
use Rattle.shadow.specs.Exactness.{is_erase}
use Rattle.shadow.specs.Meets.{MarkIs, KnownIs, Knows, Meets}
use Rattle.shadow.specs.AfterReadBuffer.{same_attr, formatted_or}
use Rattle.shadow.specs.Stores.{Store, store_also, stores, stores_unplaced, is_plain_order}
use Rattle.shadow.specs.Taken.{laid_out, marks_off_if, mark_off, formatted_as, taken_code, taken}
use Rattle.shadow.specs.Painted.{keeps_ahead, attr_or_kept, painted_from, cells_under, plainly_painted}
use Rattle.shadow.specs.Paint.{is_char, marks, is_there, unless, to_store, order_of, is_at, sba_unless, painting, known_nulls, known_before, writes_over, is_base_size, erase_code, paint_code, paint}
use Rattle.shadow.specs.Laws.{WantedIsPainted, PaintIsTaken, PaintedIsKnown, PaintIsPlain}
use Rattle.shadow.proofs.LaidOut.{CellFits, laid_out_fits, fields_size, written_with}
use Rattle.shadow.proofs.Stored.{stored, cursor_after, plain_orders}
use Rattle.shadow.proofs.Erasing.{same_nulls}
use Rattle.shadow.proofs.Keeps.{KeepsChars, HasNoKeep, keeps_chars, no_keep, no_keep_ahead, paintable_fits, paintable_apart}

marked : (mark : MdtState) (m mdt : Bool) → MarkIs mark mdt → marks mark m ≡ true → mdt ≡ m
marked On true mdt h e = h
marked Off true mdt h e = absurd (cc)
marked Unknown true mdt h e = absurd (cc)
marked On false mdt h e = absurd (cc)
marked Off false mdt h e = h
marked Unknown false mdt h e = absurd (cc)

char_there : (known : Option ℕ) (c d : ℕ) → KnownIs known d → is_char known c ≡ true → d ≡ c
char_there None c d h e = absurd (cc)
char_there (Some known) c d h e = h ∙ eqb-true known c e

pub same_attr_true : (a b : Attribute) → same_attr a b ≡ true → without_mdt a ≡ without_mdt b
same_attr_true a b e = sym (attr_read_back (without_mdt a)) ∙ ap attr_of (eqb-true _ _ e) ∙ attr_read_back (without_mdt b)

whole_attr : (a b : Attribute) → without_mdt a ≡ without_mdt b → a.mdt ≡ b.mdt → a ≡ b
whole_attr a b e m = λ i. record { protected = (e i).protected; numeric = (e i).numeric; display = (e i).display; mdt = m i }

-- what is known to be there is there
there : (known : Known) (cell want : Cell) → CellFits known cell → is_there known want ≡ true → cell ≡ want
there (KnownAttr k m) (Attr a) (Attr b) h e =
    let parts = and_parts _ _ e in
    let same : without_mdt a ≡ without_mdt b = ap without_mdt h.0 ∙ same_attr_true k b parts.0 in
    let mdt : a.mdt ≡ b.mdt = marked m b.mdt a.mdt h.1 parts.1 in
    ap (λ (x : Attribute). Attr x) (whole_attr a b same mdt)
there (KnownAttr k m) (Char d) want h e = absurd h
there (KnownChar k fresh) (Attr a) want h e = absurd h
there (KnownAttr k m) (Attr a) (Char c) h e = absurd (cc)
there (KnownChar k fresh) (Char d) (Attr b) h e = absurd (cc)
there (KnownChar k fresh) (Char d) (Char c) h e = ap (λ (x : ℕ). Char x) (char_there k c d h.0 e)

-- the orders store the cells
at_known : (known : Option ℕ) (at to : ℕ) → ((k : ℕ) → known ≡ Some k → at ≡ k) → is_at known to ≡ true → at ≡ to
at_known None at to h e = absurd (cc)
at_known (Some k) at to h e = h k refl ∙ eqb-true k to e

cell_stored : (size at : ℕ) (cell : Cell) (orders : List Order) → stores size at (order_of cell ∷ orders) ≡ record { at = at; cell = cell } ∷ stores size (next_address size at) orders
cell_stored size at (Char c) orders = refl
cell_stored size at (Attr a) orders = refl

pub paints_stores : (size cursor : ℕ) (more : List Store) (at : ℕ) (known : Option ℕ) → ((k : ℕ) → known ≡ Some k → at ≡ k) → stores size at (painting size cursor known more) ≡ more
paints_stores size cursor [] at known h = refl
paints_stores size cursor (store ∷ more) at known h =
    cases (is_at known store.at) refl (paints_stores size cursor more (next_address size store.at) (Some (next_address size store.at)) (λ k e. (cc)))
  where
    cases : (t : Bool) → is_at known store.at ≡ t → stores size (next_address size store.at) (painting size cursor (Some (next_address size store.at)) more) ≡ more
        → stores size at (sba_unless t store.at (order_of store.cell ∷ painting size cursor (Some (next_address size store.at)) more)) ≡ store ∷ more
    cases true e ih =
        subst (λ a. stores size a (order_of store.cell ∷ painting size cursor (Some (next_address size store.at)) more) ≡ store ∷ more) (sym (at_known known at store.at h e))
        (cell_stored size store.at store.cell (painting size cursor (Some (next_address size store.at)) more) ∙ ap (λ l. store ∷ l) ih)
    cases false e ih = cell_stored size store.at store.cell (painting size cursor (Some (next_address size store.at)) more) ∙ ap (λ l. store ∷ l) ih

paints_cursor : (size cursor : ℕ) (more : List Store) (old at : ℕ) (known : Option ℕ) → cursor_after size old at (painting size cursor known more) ≡ cursor
paints_cursor size cursor [] old at known = refl
paints_cursor size cursor (store ∷ more) old at known = cases (is_at known store.at) (λ a. paints_cursor size cursor more old a (Some (next_address size store.at)))
  where
    one : (cell : Cell) (a : ℕ) → ((b : ℕ) → cursor_after size old b (painting size cursor (Some (next_address size store.at)) more) ≡ cursor)
        → cursor_after size old a (order_of cell ∷ painting size cursor (Some (next_address size store.at)) more) ≡ cursor
    one (Char c) a ih = ih (next_address size a)
    one (Attr b) a ih = ih (next_address size a)

    cases : (t : Bool) → ((b : ℕ) → cursor_after size old b (painting size cursor (Some (next_address size store.at)) more) ≡ cursor)
        → cursor_after size old at (sba_unless t store.at (order_of store.cell ∷ painting size cursor (Some (next_address size store.at)) more)) ≡ cursor
    cases true ih = one store.cell at ih
    cases false ih = one store.cell store.at ih

paints_plain : (size cursor : ℕ) (more : List Store) (known : Option ℕ) → list_all is_plain_order (painting size cursor known more) ≡ true
paints_plain size cursor [] known = refl
paints_plain size cursor (store ∷ more) known = cases (is_at known store.at) (one store.cell (paints_plain size cursor more (Some (next_address size store.at))))
  where
    one : (cell : Cell) → list_all is_plain_order (painting size cursor (Some (next_address size store.at)) more) ≡ true
        → list_all is_plain_order (order_of cell ∷ painting size cursor (Some (next_address size store.at)) more) ≡ true
    one (Char c) h = h
    one (Attr a) h = h

    cases : (t : Bool) → list_all is_plain_order (order_of store.cell ∷ painting size cursor (Some (next_address size store.at)) more) ≡ true
        → list_all is_plain_order (sba_unless t store.at (order_of store.cell ∷ painting size cursor (Some (next_address size store.at)) more)) ≡ true
    cases true h = h
    cases false h = h

pub put_at : {X : Type 0} (front : List X) (x y : X) (rest : List X) (n : ℕ) → length front ≡ n → set (front ++ x ∷ rest) n y ≡ front ++ y ∷ rest
put_at [] x y rest zero e = refl
put_at [] x y rest (suc n) e = absurd (omega arith)
put_at (z ∷ front) x y rest zero e = absurd (omega arith)
put_at (z ∷ front) x y rest (suc n) e = ap (λ l. z ∷ l) (put_at front x y rest n (omega arith))

pub length_more : {X : Type 0} (front : List X) (x : X) (n : ℕ) → length front ≡ n → length (front ++ x ∷ []) ≡ n + 1
length_more front x n e = omega (arith, length-append front (x ∷ []))

-- one cell is stored or left
one_cell : (right : Bool) (n : ℕ) (front : List Cell) (x y z : Cell) (cells : List Cell) (more : List Store) → length front ≡ n → (right ≡ true → x ≡ z) → (right ≡ false → y ≡ z)
    → stored (store_also (unless right y) n more) (front ++ x ∷ cells) ≡ stored more ((front ++ z ∷ []) ++ cells)
one_cell true n front x y z cells more e h k = ap (λ (w : Cell). stored more (front ++ w ∷ cells)) (h refl) ∙ ap (stored more) (sym (append_assoc front (z ∷ []) cells))
one_cell false n front x y z cells more e h k = ap (stored more) (put_at front x y cells n e ∙ ap (λ (w : Cell). front ++ w ∷ cells) (k refl) ∙ sym (append_assoc front (z ∷ []) cells))

attr_left : (keeps known : Bool) (x : Cell) (a : Attribute) → (known ≡ true → x ≡ Attr a) → (keeps || known) ≡ true → x ≡ attr_or_kept keeps false a x
attr_left true known x a h e = refl
attr_left false known x a h e = h e

attr_put : (keeps known : Bool) (x : Cell) (a : Attribute) → (keeps || known) ≡ false → Attr a ≡ attr_or_kept keeps false a x
attr_put true known x a e = absurd (cc)
attr_put false known x a e = refl

stores_plain : (whole : List Want) (n : ℕ) (rest : List Want) (known : List Known) (cells front : List Cell) → length front ≡ n → length rest ≡ length cells → Pairwise CellFits known cells
    → stored (to_store whole n rest known) (front ++ cells) ≡ front ++ painted_from false whole rest cells
stores_plain whole n [] [] [] front e same h = refl
stores_plain whole n [] known (x ∷ cells) front e same h = absurd (omega arith)
stores_plain whole n [] (slot ∷ known) [] front e same h = absurd h
stores_plain whole n (want ∷ rest) known [] front e same h = absurd (omega arith)
stores_plain whole n (want ∷ rest) [] (x ∷ cells) front e same h = absurd h
stores_plain whole n (Keep ∷ rest) (slot ∷ known) (x ∷ cells) front e same h =
    ap (stored (to_store whole (n + 1) rest known)) (sym (append_assoc front (x ∷ []) cells))
    ∙ stores_plain whole (n + 1) rest known cells (front ++ x ∷ []) (length_more front x n e) (omega arith) h.1
    ∙ append_assoc front (x ∷ []) (painted_from false whole rest cells)
stores_plain whole n (WantChar c ∷ rest) (slot ∷ known) (x ∷ cells) front e same h =
    one_cell (is_there slot (Char c)) n front x (Char c) (Char c) cells (to_store whole (n + 1) rest known) e (there slot x (Char c) h.0) (λ _. refl)
    ∙ stores_plain whole (n + 1) rest known cells (front ++ Char c ∷ []) (length_more front (Char c) n e) (omega arith) h.1
    ∙ append_assoc front (Char c ∷ []) (painted_from false whole rest cells)
stores_plain whole n (WantAttr a ∷ rest) (slot ∷ known) (x ∷ cells) front e same h =
    let keeps : Bool = keeps_ahead (rest ++ whole) in
    let z : Cell = attr_or_kept keeps false a x in
    one_cell (keeps || is_there slot (Attr a)) n front x (Attr a) z cells (to_store whole (n + 1) rest known) e
    (attr_left keeps (is_there slot (Attr a)) x a (there slot x (Attr a) h.0)) (attr_put keeps (is_there slot (Attr a)) x a)
    ∙ stores_plain whole (n + 1) rest known cells (front ++ z ∷ []) (length_more front z n e) (omega arith) h.1
    ∙ append_assoc front (z ∷ []) (painted_from false whole rest cells)

-- what is kept, after a reset
kept_reset : (whole rest : List Want) (cells : List Cell) → KeepsChars rest cells
    → painted_from false whole rest (map unmodified cells) ≡ painted_from true whole rest cells
kept_reset whole [] cells k = refl
kept_reset whole (want ∷ rest) [] k = refl
kept_reset whole (WantAttr a ∷ rest) (x ∷ cells) k = ap (λ l. attr_or_kept (keeps_ahead (rest ++ whole)) true a x ∷ l) (kept_reset whole rest cells k)
kept_reset whole (WantChar c ∷ rest) (x ∷ cells) k = ap (λ l. Char c ∷ l) (kept_reset whole rest cells k)
kept_reset whole (Keep ∷ rest) (Attr a ∷ cells) k = absurd k
kept_reset whole (Keep ∷ rest) (Char c ∷ cells) k = ap (λ l. Char c ∷ l) (kept_reset whole rest cells k)

known_reset : (known : List Known) (cells : List Cell) → Pairwise CellFits known cells → Pairwise CellFits (map mark_off known) (map unmodified cells)
known_reset [] [] h = tt
known_reset [] (x ∷ cells) h = h
known_reset (slot ∷ known) [] h = h
known_reset (KnownAttr k m ∷ known) (Attr a ∷ cells) h = ((h.0.0, refl), known_reset known cells h.1)
known_reset (KnownAttr k m ∷ known) (Char c ∷ cells) h = absurd h.0
known_reset (KnownChar k fresh ∷ known) (Attr a ∷ cells) h = absurd h.0
known_reset (KnownChar k fresh ∷ known) (Char c ∷ cells) h = ((h.0.0, λ _. refl), known_reset known cells h.1)

null_fits : (size : ℕ) → Pairwise CellFits (known_nulls size) (replicate size (Char 0))
null_fits zero = tt
null_fits (suc size) = ((refl, λ _. refl), null_fits size)

-- where nothing is kept the screen before doesn't matter
none_kept : (r q : Bool) (whole rest : List Want) (cells others : List Cell) → HasNoKeep whole → HasNoKeep rest → length cells ≡ length others → painted_from r whole rest cells ≡ painted_from q whole rest others
none_kept r q whole [] cells others h k e = refl
none_kept r q whole (want ∷ rest) [] [] h k e = refl
none_kept r q whole (want ∷ rest) [] (o ∷ others) h k e = absurd (omega arith)
none_kept r q whole (want ∷ rest) (x ∷ cells) [] h k e = absurd (omega arith)
none_kept r q whole (Keep ∷ rest) (x ∷ cells) (o ∷ others) h k e = absurd (cc)
none_kept r q whole (WantChar c ∷ rest) (x ∷ cells) (o ∷ others) h k e = ap (λ l. Char c ∷ l) (none_kept r q whole rest cells others h k (omega arith))
none_kept r q whole (WantAttr a ∷ rest) (x ∷ cells) (o ∷ others) h k e =
    rw (no_keep_ahead rest whole k h) (ap (λ l. Attr a ∷ l) (none_kept r q whole rest cells others h k (omega arith)))

kept_as_is : (reset : Bool) (whole : List Want) (known : List Known) (cells : List Cell) → length whole ≡ length cells → KeepsChars whole cells → Pairwise CellFits known cells
    → stored (to_store whole 0 whole (marks_off_if reset known)) (if reset then map unmodified cells else cells) ≡ painted_from reset whole whole cells
kept_as_is true whole known cells same k h =
    stores_plain whole 0 whole (map mark_off known) (map unmodified cells) [] refl (same ∙ sym (length-map cells unmodified)) (known_reset known cells h) ∙ kept_reset whole whole cells k
kept_as_is false whole known cells same k h = stores_plain whole 0 whole known cells [] refl same h

-- ---- the whole screen

-- a paint's write control character
abbrev pub paint_wcc : Bool → Wcc
paint_wcc reset = record { alarm = false; restore = true; reset = reset }

-- what a paint's orders make of a screen
paint_orders : (size cursor : ℕ) (reset : Bool) (more : List Store) (s : Screen) → length s.cells ≡ size
    → written (Some (paint_wcc reset)) (painting size cursor None more) s
    ≡ record { cells = stored more (if reset then map unmodified s.cells else s.cells); cursor = cursor; aid = NoAid }
paint_orders size cursor reset more s whole =
    let orders : List Order = painting size cursor None more in
    let write : WriteProgress = record { screen = prepared (paint_wcc reset) s; address = s.cursor; after_data = false } in
    ap (restored (paint_wcc reset)) (plain_orders size orders write (paints_plain size cursor more None) (length-prepared reset))
    ∙ (λ i. record {
      cells = stored (paints_stores size cursor more s.cursor None (λ k e. absurd (cc)) i) (if reset then map unmodified s.cells else s.cells);
      cursor = paints_cursor size cursor more s.cursor s.cursor None i;
      aid = NoAid;
    })
  where
    length-prepared : (r : Bool) → length (if r then map unmodified s.cells else s.cells) ≡ size
    length-prepared true = length-map s.cells unmodified ∙ whole
    length-prepared false = whole

-- the cells under a paint
pub length-under : (n : ℕ) (cells : List Cell) → length (cells_under n cells) ≡ n
length-under n cells = cases (length cells == n) refl
  where
    cases : (t : Bool) → (length cells == n) ≡ t → length (if t then cells else replicate n (Char 0)) ≡ n
    cases true e = eqb-true (length cells) n e
    cases false e = length-replicate n (Char 0)

pub under_same : (n : ℕ) (cells : List Cell) → length cells ≡ n → cells_under n cells ≡ cells
under_same n cells e = ap (λ (t : Bool). if t then cells else replicate n (Char 0)) (eq-eqb (length cells) n e)

erased_paint : (size : ℕ) (wanted : WantedScreen) (s : Screen) → length wanted.cells ≡ size → HasNoKeep wanted.cells
    → written (Some (paint_wcc wanted.reset)) (painting size wanted.cursor None (to_store wanted.cells 0 wanted.cells (known_nulls size))) (cleared size s) ≡ plainly_painted wanted s
erased_paint size wanted s same none =
    let blank : List Cell = replicate size (Char 0) in
    let under : List Cell = cells_under (length wanted.cells) s.cells in
    let more : List Store = to_store wanted.cells 0 wanted.cells (known_nulls size) in
    paint_orders size wanted.cursor wanted.reset more (cleared size s) (length-replicate size (Char 0))
    ∙ ap (λ (cells : List Cell). record { cells = cells; cursor = wanted.cursor; aid = NoAid })
    (ap (stored more) (same_nulls wanted.reset size)
    ∙ stores_plain wanted.cells 0 wanted.cells (known_nulls size) blank [] refl (same ∙ sym (length-replicate size (Char 0))) (null_fits size)
    ∙ none_kept false wanted.reset wanted.cells wanted.cells blank under none none (length-replicate size (Char 0) ∙ sym same ∙ sym (length-under (length wanted.cells) s.cells)))

-- ---- the code of a paint

erase_is_write : (size : ScreenSize) → is_write (erase_code size) ≡ true
erase_is_write size = cases (is_base_size size)
  where
    cases : (t : Bool) → is_write (if t then EraseWrite else EraseWriteAlternate) ≡ true
    cases true = refl
    cases false = refl

pub code_writes : (size : ℕ) (shadow : Shadow) (wanted : WantedScreen) → is_write (paint_code size shadow wanted) ≡ true
code_writes size shadow wanted = cases (writes_over size shadow)
  where
    cases : (t : Bool) → is_write (if t then Write else erase_code wanted.size) ≡ true
    cases true = refl
    cases false = erase_is_write wanted.size

pub erase_erases : (size : ScreenSize) → is_erase (erase_code size) ≡ true
erase_erases size = cases (is_base_size size)
  where
    cases : (t : Bool) → is_erase (if t then EraseWrite else EraseWriteAlternate) ≡ true
    cases true = refl
    cases false = refl

no_write : (size : ScreenSize) → erase_code size ≡ Write → ⊥
no_write size e = absurd (let erases : is_erase Write ≡ true = ap is_erase (sym e) ∙ erase_erases size in cc)

-- what is then written on
erase_after : (size : ScreenSize) (n : ℕ) (wcc : Option Wcc) (orders : List Order) (s : Screen) → after_code (erase_code size) n wcc orders s ≡ written wcc orders (cleared n s)
erase_after size n wcc orders s = cases (is_base_size size)
  where
    cases : (t : Bool) → after_code (if t then EraseWrite else EraseWriteAlternate) n wcc orders s ≡ written wcc orders (cleared n s)
    cases true = refl
    cases false = refl

-- a Write is for a screen of the wanted size
pub write_for : (n : ℕ) (shadow : Shadow) (wanted : WantedScreen) (s : Screen) → Meets shadow s → paint_code n shadow wanted ≡ Write → length s.cells ≡ n
write_for n Shadow.NothingKnown wanted s meets is = absurd (no_write wanted.size is)
write_for n (Shadow.Unformatted known) wanted s meets is = absurd (no_write wanted.size is)
write_for n (Shadow.Formatted bs) wanted s meets is = cases (cells_of_fields bs == n) refl is
  where
    cases : (t : Bool) → (cells_of_fields bs == n) ≡ t → (if t then Write else erase_code wanted.size) ≡ Write → length s.cells ≡ n
    cases true e code = sym (fields_size s.cells bs meets.1 meets.0) ∙ eqb-true (cells_of_fields bs) n e
    cases false e code = absurd (no_write wanted.size code)

pub wanted_painted : WantedIsPainted
wanted_painted Shadow.NothingKnown wanted s same can meets =
    let size : ℕ = cells_in wanted.size in
    erase_after wanted.size size (Some (paint_wcc wanted.reset)) (painting size wanted.cursor None (to_store wanted.cells 0 wanted.cells (known_nulls size))) s
    ∙ erased_paint size wanted s same (no_keep wanted.cells (paintable_fits Shadow.NothingKnown wanted can))
wanted_painted (Shadow.Unformatted known) wanted s same can meets =
    let size : ℕ = cells_in wanted.size in
    erase_after wanted.size size (Some (paint_wcc wanted.reset)) (painting size wanted.cursor None (to_store wanted.cells 0 wanted.cells (known_nulls size))) s
    ∙ erased_paint size wanted s same (no_keep wanted.cells (paintable_fits (Shadow.Unformatted known) wanted can))
wanted_painted (Shadow.Formatted bs) wanted s same can meets = cases (cells_of_fields bs == cells_in wanted.size) refl
  where
    cases : (t : Bool) → (cells_of_fields bs == cells_in wanted.size) ≡ t
        → after_code (if t then Write else erase_code wanted.size) (cells_in wanted.size) (Some (paint_wcc wanted.reset))
        (painting (cells_in wanted.size) wanted.cursor None (to_store wanted.cells 0 wanted.cells (if t then marks_off_if wanted.reset (laid_out (cells_in wanted.size) bs) else known_nulls (cells_in wanted.size)))) s
        ≡ plainly_painted wanted s
    cases true e =
        let n : ℕ = cells_in wanted.size in
        let there : length s.cells ≡ n = sym (fields_size s.cells bs meets.1 meets.0) ∙ eqb-true (cells_of_fields bs) n e in
        let long : length wanted.cells ≡ length s.cells = same ∙ sym there in
        let more : List Store = to_store wanted.cells 0 wanted.cells (marks_off_if wanted.reset (laid_out n bs)) in
        paint_orders n wanted.cursor wanted.reset more s there
        ∙ ap (λ (cells : List Cell). record { cells = cells; cursor = wanted.cursor; aid = NoAid })
        (kept_as_is wanted.reset wanted.cells (laid_out n bs) s.cells long (keeps_chars bs wanted.cells s.cells long meets.1 (paintable_fits (Shadow.Formatted bs) wanted can)) (laid_out_fits n s.cells bs there meets.1 meets.0)
        ∙ ap (painted_from wanted.reset wanted.cells wanted.cells) (sym (under_same (length wanted.cells) s.cells (sym long))))
    cases false e =
        let n : ℕ = cells_in wanted.size in
        erase_after wanted.size n (Some (paint_wcc wanted.reset)) (painting n wanted.cursor None (to_store wanted.cells 0 wanted.cells (known_nulls n))) s
        ∙ erased_paint n wanted s same (paintable_apart bs wanted can e)

-- a paint of a belief with fields, by whether it writes over them
abbrev pub painted_if : Bool → ℕ → List Belief → WantedScreen → CommandParts
painted_if over size bs wanted = record {
  code = if over then Write else erase_code wanted.size;
  size = wanted.size;
  wcc = Some (paint_wcc wanted.reset);
  orders = painting size wanted.cursor None (to_store wanted.cells 0 wanted.cells (if over then marks_off_if wanted.reset (laid_out size bs) else known_nulls size));
}

-- ---- something is known after a paint

seen_knows : (fs : List Field) (chars : List ℕ) → Knows (formatted_or fs chars)
seen_knows [] chars = tt
seen_knows (f ∷ fs) chars = tt

formatted_knows : (bs : List Belief) (known : List (Option ℕ)) → Knows (formatted_as bs known)
formatted_knows [] known = tt
formatted_knows (b ∷ bs) known = tt

paints_placed : (size cursor : ℕ) (more : List Store) → stores_unplaced (painting size cursor None more) ≡ false
paints_placed size cursor [] = refl
paints_placed size cursor (store ∷ more) = refl

erase_knows : (size : ScreenSize) (n : ℕ) (command : CommandParts) (shadow : Shadow) → Knows (taken_code (erase_code size) n command shadow)
erase_knows size n command shadow = cases (is_base_size size)
  where
    cases : (t : Bool) → Knows (taken_code (if t then EraseWrite else EraseWriteAlternate) n command shadow)
    cases true = seen_knows _ _
    cases false = seen_knows _ _

pub painted_known : PaintedIsKnown
painted_known size Shadow.NothingKnown wanted = erase_knows wanted.size size (paint size Shadow.NothingKnown wanted) Shadow.NothingKnown
painted_known size (Shadow.Unformatted known) wanted = erase_knows wanted.size size (paint size (Shadow.Unformatted known) wanted) (Shadow.Unformatted known)
painted_known size (Shadow.Formatted bs) wanted = cases (cells_of_fields bs == size)
  where
    cases : (t : Bool) → Knows (taken size (painted_if t size bs wanted) (Shadow.Formatted bs))
    cases true =
        let more : List Store = to_store wanted.cells 0 wanted.cells (marks_off_if wanted.reset (laid_out size bs)) in
        rw (paints_placed size wanted.cursor more) (formatted_knows _ _)
    cases false = erase_knows wanted.size size (painted_if false size bs wanted) (Shadow.Formatted bs)

pub painted_plain : PaintIsPlain
painted_plain size shadow wanted =
    ap (λ (t : Bool). t && list_all is_plain_order (paint size shadow wanted).orders) (code_writes size shadow wanted)
    ∙ paints_plain size wanted.cursor (to_store wanted.cells 0 wanted.cells (known_before size wanted.reset shadow)) None

-- what a paint leaves meets what is then believed, and is the wanted screen
pub painted_taken : PaintIsTaken
painted_taken shadow wanted s same can meets =
    let size : ℕ = cells_in wanted.size in
    subst (Meets (taken size (paint size shadow wanted) shadow)) (wanted_painted shadow wanted s same can meets)
    (written_with size (paint size shadow wanted) (λ _. (record { alarm = false; restore = true; reset = wanted.reset }, refl)) shadow s (painted_plain size shadow wanted)
    (write_for size shadow wanted s meets) meets)

-- CellBeliefs that are changed one after another, where they stand.
use Rattle.std.proofs.Common.{◌≡◌, ℕ, zero, suc, ◌+◌, ◌<◌, ◌≤◌, Bool, true, false, List, [], ◌∷◌, ◌++◌, length, map, take, drop, set, get_or, Option, refl, ap, sym, arith, ◌∙◌, append_assoc, append-nil, if◌then◌else◌}
use Rattle.std.specs.Prelude.{unwrap_or}
use Rattle.std.proofs.lemmas.List.{at_drop_more, take_more_set, drop-set-lt, drop_more, at_drop_all, take_all}
use Rattle.codes3270.specs.declared.attribute.Cell.{Cell}
use Rattle.codes3270.specs.declared.attribute.Cell.TheVariants.{Char, Attr as AttrCell}
use Rattle.shadow.specs.declared.known.Known.{Known}
use Rattle.shadow.specs.declared.cell_belief.CellBelief.{CellBelief}
use Rattle.shadow.specs.declared.cell_belief.CellBelief.TheVariants.{Attr, Known as KnownPlace, Unplaced, Unknown}
use Rattle.shadow.specs.declared.cell_belief.BeforeWrite.{BeforeWrite}
use Rattle.shadow.specs.InPlace.{cell_known, cells_known}
use Rattle.shadow.specs.Since.{belief_of_cell, place_off, knowledge_of, never, cells_written, IsAsItWas, Since, is_touched, place_settled, settled}
use Rattle.shadow.specs.Taken.{mark_off, marks_off_if, new_cell}

-- one more of a walk that changes what it passes
pub changed_here : {A : Type 0} (F G : List A → List A) (now : List A) (i : ℕ) (x y : A) → i < length now → x ≡ get_or now i x → F (x ∷ drop (i + 1) now) ≡ y ∷ G (drop (i + 1) now)
    → take i now ++ F (drop i now) ≡ take (i + 1) (set now i y) ++ G (drop (i + 1) (set now i y))
changed_here {A} F G now i x y within is steps =
    at_drop_more (λ (r : List A). take i now ++ F r) now i x within
    ∙ ap (λ (z : A). take i now ++ F (z ∷ drop (i + 1) now)) (sym is)
    ∙ ap (λ (r : List A). take i now ++ r) steps
    ∙ sym (append_assoc (take i now) (y ∷ []) (G (drop (i + 1) now)))
    ∙ ap (λ (front : List A). front ++ G (drop (i + 1) now)) (sym (take_more_set now i y within))
    ∙ ap (λ (r : List A). take (i + 1) (set now i y) ++ G r) (sym (drop-set-lt (i + 1) now i y (omega arith)))

-- all was passed
pub all_changed : {A : Type 0} (F : List A → List A) (now : List A) (i : ℕ) → length now ≤ i → F [] ≡ [] → take i now ++ F (drop i now) ≡ now
all_changed {A} F now i over none =
    at_drop_all (λ (r : List A). take i now ++ F r) now i over ∙ ap (λ (r : List A). take i now ++ r) none ∙ append-nil (take i now) ∙ take_all i now over

-- ---- what is kept at the start of a write

abbrev pub past_kept : CellBelief → BeforeWrite
past_kept place = record { knowledge = knowledge_of place; fresh = false }

as_it_is : (p : CellBelief) → IsAsItWas p p false
as_it_is (Attr a m t) = tt
as_it_is (KnownPlace c) = λ _. refl
as_it_is (Unplaced c) = λ _. refl
as_it_is Unknown = λ _. refl

pub since_start : (ps : List CellBelief) → Since ps ps (map past_kept ps)
since_start [] = tt
since_start (p ∷ ps) = (refl, as_it_is p, since_start ps)

pub cells_start : (ps : List CellBelief) → cells_written ps (map past_kept ps) ≡ cells_known ps
cells_start [] = refl
cells_start (p ∷ ps) = ap (λ (cells : List Known). cell_known p false ∷ cells) (cells_start ps)

-- ---- marks off

off_known : (p : CellBelief) (fresh : Bool) → cell_known (place_off p) fresh ≡ mark_off (cell_known p fresh)
off_known (Attr a m t) fresh = refl
off_known (KnownPlace c) fresh = refl
off_known (Unplaced c) fresh = refl
off_known Unknown fresh = refl

pub cells_off : (ps : List CellBelief) (qs : List BeforeWrite) → cells_written (map place_off ps) qs ≡ map mark_off (cells_written ps qs)
cells_off [] qs = refl
cells_off (p ∷ ps) [] = refl
cells_off (p ∷ ps) (q ∷ qs) = ap (λ (k : Known). k ∷ cells_written (map place_off ps) qs) (off_known p q.fresh) ∙ ap (λ (ks : List Known). mark_off (cell_known p q.fresh) ∷ ks) (cells_off ps qs)

off_as_it_was : (o n : CellBelief) (fresh : Bool) → IsAsItWas o n fresh → IsAsItWas o (place_off n) fresh
off_as_it_was o (Attr a m t) fresh h = tt
off_as_it_was o (KnownPlace c) fresh h = h
off_as_it_was o (Unplaced c) fresh h = h
off_as_it_was o Unknown fresh h = h

pub since_off : (os ns : List CellBelief) (qs : List BeforeWrite) → Since os ns qs → Since os (map place_off ns) qs
since_off [] [] [] h = tt
since_off [] [] (q ∷ qs) h = h
since_off [] (n ∷ ns) qs h = h
since_off (o ∷ os) [] qs h = h
since_off (o ∷ os) (n ∷ ns) [] h = h
since_off (o ∷ os) (n ∷ ns) (q ∷ qs) h = (h.0, off_as_it_was o n q.fresh h.1, since_off os ns qs h.2)

-- ---- a cell is stored

stored_known : (cell : Cell) → cell_known (belief_of_cell cell) true ≡ new_cell cell
stored_known (Char c) = refl
stored_known (AttrCell a) = refl

cells_set : (ps : List CellBelief) (qs : List BeforeWrite) (i : ℕ) (p : CellBelief) (q : BeforeWrite) → cells_written (set ps i p) (set qs i q) ≡ set (cells_written ps qs) i (cell_known p q.fresh)
cells_set [] qs i p q = refl
cells_set (x ∷ ps) [] zero p q = refl
cells_set (x ∷ ps) [] (suc i) p q = refl
cells_set (x ∷ ps) (y ∷ qs) zero p q = refl
cells_set (x ∷ ps) (y ∷ qs) (suc i) p q = ap (λ (ks : List Known). cell_known x y.fresh ∷ ks) (cells_set ps qs i p q)

pub cells_put : (ps : List CellBelief) (qs : List BeforeWrite) (i : ℕ) (cell : Cell) (q : BeforeWrite) → q.fresh ≡ true → cells_written (set ps i (belief_of_cell cell)) (set qs i q) ≡ set (cells_written ps qs) i (new_cell cell)
cells_put ps qs i cell q fresh = cells_set ps qs i (belief_of_cell cell) q ∙ ap (λ (f : Bool). set (cells_written ps qs) i (cell_known (belief_of_cell cell) f)) fresh ∙ ap (set (cells_written ps qs) i) (stored_known cell)

fresh_as_it_was : (o n : CellBelief) → IsAsItWas o n true
fresh_as_it_was o (Attr a m t) = tt
fresh_as_it_was o (KnownPlace c) = λ e. absurd (cc)
fresh_as_it_was o (Unplaced c) = λ e. absurd (cc)
fresh_as_it_was o Unknown = λ e. absurd (cc)

pub since_put : (os ns : List CellBelief) (qs : List BeforeWrite) (i : ℕ) (n : CellBelief) (r : BeforeWrite) → r ≡ get_or qs i r → Since os ns qs → Since os (set ns i n) (set qs i (record { knowledge = r.knowledge; fresh = true }))
since_put [] [] [] i n r is h = tt
since_put [] [] (q ∷ qs) i n r is h = absurd h
since_put [] (x ∷ ns) qs i n r is h = absurd h
since_put (o ∷ os) [] qs i n r is h = absurd h
since_put (o ∷ os) (x ∷ ns) [] i n r is h = absurd h
since_put (o ∷ os) (x ∷ ns) (q ∷ qs) zero n r is h = (ap (λ (s : BeforeWrite). s.knowledge) is ∙ h.0, fresh_as_it_was o n, h.2)
since_put (o ∷ os) (x ∷ ns) (q ∷ qs) (suc i) n r is h = (h.0, h.1, since_put os ns qs i n r is h.2)

-- ---- a walk over the places and what is kept of them

pub length_written : (ps : List CellBelief) (qs : List BeforeWrite) → length ps ≡ length qs → length (cells_written ps qs) ≡ length ps
length_written [] qs e = refl
length_written (p ∷ ps) [] e = absurd (omega arith)
length_written (p ∷ ps) (q ∷ qs) e = ap suc (length_written ps qs (omega arith))

pub cells_drop : (i : ℕ) (ps : List CellBelief) (qs : List BeforeWrite) → drop i (cells_written ps qs) ≡ cells_written (drop i ps) (drop i qs)
cells_drop zero ps qs = refl
cells_drop (suc i) [] qs = refl
cells_drop (suc i) (p ∷ ps) [] = none (drop i ps)
  where
    none : (xs : List CellBelief) → [] ≡ cells_written xs []
    none [] = refl
    none (x ∷ xs) = refl
cells_drop (suc i) (p ∷ ps) (q ∷ qs) = cells_drop i ps qs

pub cells_at : (ps : List CellBelief) (qs : List BeforeWrite) (i : ℕ) (p : CellBelief) (q : BeforeWrite) → i < length ps → i < length qs → p ≡ get_or ps i p → q ≡ get_or qs i q
    → drop i (cells_written ps qs) ≡ cell_known p q.fresh ∷ drop (i + 1) (cells_written ps qs)
cells_at ps qs i p q low few is_p is_q =
    cells_drop i ps qs
    ∙ ap (λ (xs : List CellBelief). cells_written xs (drop i qs)) (drop_more ps i p low ∙ ap (λ (x : CellBelief). x ∷ drop (i + 1) ps) (sym is_p))
    ∙ ap (cells_written (p ∷ drop (i + 1) ps)) (drop_more qs i q few ∙ ap (λ (y : BeforeWrite). y ∷ drop (i + 1) qs) (sym is_q))
    ∙ ap (λ (ks : List Known). cell_known p q.fresh ∷ ks) (sym (cells_drop (i + 1) ps qs))

pub past_here : (qs : List BeforeWrite) (i : ℕ) (q : BeforeWrite) → i < length qs → q ≡ get_or qs i q → drop i qs ≡ q ∷ drop (i + 1) qs
past_here qs i q few is = drop_more qs i q few ∙ ap (λ (y : BeforeWrite). y ∷ drop (i + 1) qs) (sym is)

-- one place further, with more behind
pub touched_on : (ps : List CellBelief) (qs : List BeforeWrite) (more : List Known) (others : List BeforeWrite) (i : ℕ) (p : CellBelief) (q : BeforeWrite) (t : Option Bool) → i < length ps → i < length qs → p ≡ get_or ps i p → q ≡ get_or qs i q
    → ((cells : List Known) (pasts : List BeforeWrite) → is_touched (cell_known p q.fresh ∷ cells) (q ∷ pasts) ≡ unwrap_or t (is_touched cells pasts))
    → is_touched (drop i (cells_written ps qs) ++ more) (drop i qs ++ others) ≡ unwrap_or t (is_touched (drop (i + 1) (cells_written ps qs) ++ more) (drop (i + 1) qs ++ others))
touched_on ps qs more others i p q t low few is_p is_q says =
    ap (λ (ks : List Known). is_touched (ks ++ more) (drop i qs ++ others)) (cells_at ps qs i p q low few is_p is_q)
    ∙ ap (λ (ys : List BeforeWrite). is_touched (cell_known p q.fresh ∷ (drop (i + 1) (cells_written ps qs) ++ more)) (ys ++ others)) (past_here qs i q few is_q)
    ∙ says (drop (i + 1) (cells_written ps qs) ++ more) (drop (i + 1) qs ++ others)

-- ---- attributes are told anew

settled_known : (p : CellBelief) (q : BeforeWrite) (t fresh : Bool) → cell_known (place_settled p q t) fresh ≡ cell_known p fresh
settled_known (Attr a m s) q t fresh = refl
settled_known (KnownPlace c) q t fresh = refl
settled_known (Unplaced c) q t fresh = refl
settled_known Unknown q t fresh = refl

-- so no cell is known otherwise
pub cells_same : (ps : List CellBelief) (qs : List BeforeWrite) (i : ℕ) (p : CellBelief) (q : BeforeWrite) (t : Bool) → p ≡ get_or ps i p → cells_written (set ps i (place_settled p q t)) qs ≡ cells_written ps qs
cells_same [] qs i p q t is = refl
cells_same (x ∷ ps) [] zero p q t is = refl
cells_same (x ∷ ps) [] (suc i) p q t is = refl
cells_same (x ∷ ps) (y ∷ qs) zero p q t is = ap (λ (k : Known). k ∷ cells_written ps qs) (settled_known p q t y.fresh ∙ ap (λ (z : CellBelief). cell_known z y.fresh) is)
cells_same (x ∷ ps) (y ∷ qs) (suc i) p q t is = ap (λ (ks : List Known). cell_known x y.fresh ∷ ks) (cells_same ps qs i p q t is)

pub settled_step : (ks : List Known) (now : List CellBelief) (qs : List BeforeWrite) (i : ℕ) (new : CellBelief) → i < length now → length now ≡ length qs → cells_written now qs ≡ ks
    → (let cells = cells_written now qs in new ≡ place_settled (get_or now i Unknown) (get_or qs i never) (is_touched (drop (i + 1) cells ++ cells) (drop (i + 1) qs ++ qs)))
    → (cells_written (set now i new) qs ≡ cells_written now qs)
    × (take i now ++ settled ks qs (drop i now) (drop i qs) ≡ take (i + 1) (set now i new) ++ settled ks qs (drop (i + 1) (set now i new)) (drop (i + 1) qs))
settled_step ks now qs i new within even is_ks is_new =
    let p = get_or now i Unknown in
    let q = get_or qs i never in
    let t : Bool = is_touched (drop (i + 1) (cells_written now qs) ++ cells_written now qs) (drop (i + 1) qs ++ qs) in
    let p_here : p ≡ get_or now i p = get_or_any now i Unknown p within in
    let q_here : q ≡ get_or qs i q = get_or_any qs i never q (omega arith) in
    let cells : is_touched (cells_written (drop (i + 1) now) (drop (i + 1) qs) ++ ks) (drop (i + 1) qs ++ qs) ≡ t =
    ap (λ (k : List Known). is_touched (k ++ ks) (drop (i + 1) qs ++ qs)) (sym (cells_drop (i + 1) now qs))
    ∙ ap (λ (k : List Known). is_touched (drop (i + 1) (cells_written now qs) ++ k) (drop (i + 1) qs ++ qs)) (sym is_ks) in (
      ap (λ (x : CellBelief). cells_written (set now i x) qs) is_new ∙ cells_same now qs i p q t p_here,
      changed_here (λ (ps : List CellBelief). settled ks qs ps (drop i qs)) (λ (ps : List CellBelief). settled ks qs ps (drop (i + 1) qs)) now i p new within p_here
          (ap (settled ks qs (p ∷ drop (i + 1) now)) (past_here qs i q (omega arith) q_here)
          ∙ ap (λ (b : Bool). place_settled p q b ∷ settled ks qs (drop (i + 1) now) (drop (i + 1) qs)) cells
          ∙ ap (λ (x : CellBelief). x ∷ settled ks qs (drop (i + 1) now) (drop (i + 1) qs)) (sym is_new)),
    )
  where
    get_or_any : {A : Type 0} (xs : List A) (n : ℕ) (d e : A) → n < length xs → get_or xs n d ≡ get_or xs n e
    get_or_any [] n d e h = absurd (omega arith)
    get_or_any (x ∷ xs) zero d e h = refl
    get_or_any (x ∷ xs) (suc n) d e h = get_or_any xs n d e (omega arith)

-- ---- a write that may set marks off

pub reset_cells : (resets : Bool) (ps : List CellBelief) (qs : List BeforeWrite) → cells_written (if resets then map place_off ps else ps) qs ≡ marks_off_if resets (cells_written ps qs)
reset_cells true ps qs = cells_off ps qs
reset_cells false ps qs = refl

pub since_reset : (resets : Bool) (ps : List CellBelief) (qs : List BeforeWrite) → Since ps ps qs → Since ps (if resets then map place_off ps else ps) qs
since_reset true ps qs h = since_off ps ps qs h
since_reset false ps qs h = h

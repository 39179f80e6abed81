-- The fields after a write are those that its cells make.
use Rattle.std.proofs.Common.{◌≡◌, ℕ, suc, ◌+◌, ◌<◌, ◌≤◌, Bool, true, false, not, ◌||◌, List, [], ◌∷◌, ◌++◌, length, map, Option, Some, None, refl, ap, sym, subst, arith, ◌∙◌, ne_eqb, eq-eqb, if◌then◌else◌, append-nil}
use Rattle.std.specs.Prelude.{unwrap_or, is_some, option_map}
use Rattle.std.proofs.lemmas.Option.{same_Some}
use Rattle.codes3270.specs.declared.attribute.Attr.{Attr as Attribute}
use Rattle.shadow.specs.declared.known.Known.{Known}
use Rattle.shadow.specs.declared.known.Known.TheVariants.{Char as KnownChar}
use Rattle.shadow.specs.declared.mdt_state.MdtState.{MdtState}
use Rattle.shadow.specs.declared.cell_belief.TextKnowledge.{TextKnowledge}
use Rattle.shadow.specs.declared.cell_belief.TextKnowledge.TheVariants.{Cells}
use Rattle.shadow.specs.declared.cell_belief.CellBelief.{CellBelief}
use Rattle.shadow.specs.declared.cell_belief.CellBelief.TheVariants.{Attr, Known as KnownPlace, Unplaced, Unknown}
use Rattle.shadow.specs.declared.cell_belief.BeforeWrite.{BeforeWrite}
use Rattle.shadow.specs.Belief.{Fact, Belief}
use Rattle.shadow.specs.AfterReadBuffer.{known_chars}
use Rattle.shadow.specs.InPlace.{cell_known, cells_known, chars_known, text_told, fact_told, fact_held, belief_held, beliefs_held, shadow_held, SaysCells, AreHeld, IsHeld}
use Rattle.shadow.specs.Since.{knowledge_of, cells_written, Since, is_touched, knowledge_after, settled}
use Rattle.shadow.specs.Taken.{known_ahead, fresh_ahead, whole_text, exact_or_any, fact_known, fact_before, fact_after, beliefs_from, formatted_as, believed}

-- ---- lists one behind the other

pub cells-append : (ps qs : List CellBelief) → cells_known (ps ++ qs) ≡ cells_known ps ++ cells_known qs
cells-append [] qs = refl
cells-append (p ∷ ps) qs = ap (λ (ks : List Known). cell_known p false ∷ ks) (cells-append ps qs)

pub written-append : (ns ms : List CellBelief) (qs rs : List BeforeWrite) → length ns ≡ length qs → cells_written (ns ++ ms) (qs ++ rs) ≡ cells_written ns qs ++ cells_written ms rs
written-append [] ms [] rs e = refl
written-append [] ms (q ∷ qs) rs e = absurd (omega arith)
written-append (n ∷ ns) ms [] rs e = absurd (omega arith)
written-append (n ∷ ns) ms (q ∷ qs) rs e = ap (λ (ks : List Known). cell_known n q.fresh ∷ ks) (written-append ns ms qs rs (omega arith))

pub since-append : (os ns : List CellBelief) (qs : List BeforeWrite) (ps ms : List CellBelief) (rs : List BeforeWrite) → Since os ns qs → Since ps ms rs → Since (os ++ ps) (ns ++ ms) (qs ++ rs)
since-append [] [] [] ps ms rs h k = k
since-append [] [] (q ∷ qs) ps ms rs h k = absurd h
since-append [] (n ∷ ns) qs ps ms rs h k = absurd h
since-append (o ∷ os) [] qs ps ms rs h k = absurd h
since-append (o ∷ os) (n ∷ ns) [] ps ms rs h k = absurd h
since-append (o ∷ os) (n ∷ ns) (q ∷ qs) ps ms rs h k = (h.0, h.1, since-append os ns qs ps ms rs h.2 k)

pub since-length : (os ns : List CellBelief) (qs : List BeforeWrite) → Since os ns qs → (length ns ≡ length qs) × (length os ≡ length ns)
since-length [] [] [] h = (refl, refl)
since-length [] [] (q ∷ qs) h = absurd h
since-length [] (n ∷ ns) qs h = absurd h
since-length (o ∷ os) [] qs h = absurd h
since-length (o ∷ os) (n ∷ ns) [] h = absurd h
since-length (o ∷ os) (n ∷ ns) (q ∷ qs) h = let more = since-length os ns qs h.2 in (ap suc more.0, ap suc more.1)

-- ---- a field that wasn't touched is as it was

-- what an untouched field has of the places that were
abbrev AsBefore : List CellBelief → List CellBelief → List Known → Type 0
AsBefore os ns ks = (chars_known os ≡ known_ahead ks) × (text_told os ≡ text_told ns) × (fresh_ahead ks ≡ false)

has_none : (t : Option TextKnowledge) → not (is_some t) ≡ false → (s : TextKnowledge) × (t ≡ Some s)
has_none None e = absurd (cc)
has_none (Some s) e = (s, refl)

is_none : (t : Option TextKnowledge) → not (is_some t) ≡ true → t ≡ None
is_none None e = refl
is_none (Some s) e = absurd (cc)

neither : (a b : Bool) → (a || b) ≡ false → (a ≡ false) × (b ≡ false)
neither true b e = absurd (cc)
neither false b e = (refl, e)

there : (o : CellBelief) (s : TextKnowledge) → knowledge_of o ≡ Some s → (os : List CellBelief) → (chars_known (o ∷ os) ≡ []) × (text_told (o ∷ os) ≡ [])
there (Attr a m t) s e os = (refl, refl)
there (KnownPlace c) s e os = absurd (cc)
there (Unplaced c) s e os = absurd (cc)
there Unknown s e os = absurd (cc)

-- one character further
char_as_before : (o n : CellBelief) (os ns : List CellBelief) (ks : List Known) (known : Option ℕ) → o ≡ n → chars_known (n ∷ ns) ≡ known ∷ chars_known ns → ((ms : List CellBelief) → chars_known (n ∷ ms) ≡ known ∷ chars_known ms)
    → ((ms ls : List CellBelief) → text_told ms ≡ text_told ls → text_told (n ∷ ms) ≡ text_told (n ∷ ls)) → AsBefore os ns ks → AsBefore (o ∷ os) (n ∷ ns) (KnownChar known false ∷ ks)
char_as_before o n os ns ks known same is chars told h = (
  ap (λ (x : CellBelief). chars_known (x ∷ os)) same ∙ chars os ∙ ap (λ (cs : List (Option ℕ)). known ∷ cs) h.0,
  ap (λ (x : CellBelief). text_told (x ∷ os)) same ∙ told os ns h.1,
  h.2,
)

pub untouched : (os ns : List CellBelief) (qs : List BeforeWrite) → Since os ns qs → is_touched (cells_written ns qs) qs ≡ false → AsBefore os ns (cells_written ns qs)
untouched [] [] [] h e = (refl, refl, refl)
untouched [] [] (q ∷ qs) h e = absurd h
untouched [] (n ∷ ns) qs h e = absurd h
untouched (o ∷ os) [] qs h e = absurd h
untouched (o ∷ os) (n ∷ ns) [] h e = absurd h
untouched (o ∷ os) (Attr a m t ∷ ns) (q ∷ qs) h e =
    let some = has_none q.knowledge e in
    let old = there o some.0 (sym h.0 ∙ some.1) os in
    (old.0, old.1, refl)
untouched (o ∷ os) (KnownPlace c ∷ ns) (q ∷ qs) h e =
    let both = neither q.fresh (is_touched (cells_written ns qs) qs) e in
    subst (λ (f : Bool). AsBefore (o ∷ os) (KnownPlace c ∷ ns) (KnownChar (Some c) f ∷ cells_written ns qs)) (sym both.0)
    (char_as_before o (KnownPlace c) os ns (cells_written ns qs) (Some c) (h.1 both.0) refl (λ ms. refl) (λ ms ls k. refl) (untouched os ns qs h.2 both.1))
untouched (o ∷ os) (Unplaced c ∷ ns) (q ∷ qs) h e =
    let both = neither q.fresh (is_touched (cells_written ns qs) qs) e in
    subst (λ (f : Bool). AsBefore (o ∷ os) (Unplaced c ∷ ns) (KnownChar None f ∷ cells_written ns qs)) (sym both.0)
    (char_as_before o (Unplaced c) os ns (cells_written ns qs) None (h.1 both.0) refl (λ ms. refl) (λ ms ls k. ap (λ (cs : List ℕ). c ∷ cs) k) (untouched os ns qs h.2 both.1))
untouched (o ∷ os) (Unknown ∷ ns) (q ∷ qs) h e =
    let both = neither q.fresh (is_touched (cells_written ns qs) qs) e in
    subst (λ (f : Bool). AsBefore (o ∷ os) (Unknown ∷ ns) (KnownChar None f ∷ cells_written ns qs)) (sym both.0)
    (char_as_before o Unknown os ns (cells_written ns qs) None (h.1 both.0) refl (λ ms. refl) (λ ms ls k. refl) (untouched os ns qs h.2 both.1))

-- ---- a field that was touched, though none of its characters was stored, was longer

shorter : (o : CellBelief) → knowledge_of o ≡ None → (os : List CellBelief) → 0 < length (chars_known (o ∷ os))
shorter (Attr a m t) e os = absurd (cc)
shorter (KnownPlace c) e os = omega arith
shorter (Unplaced c) e os = omega arith
shorter Unknown e os = omega arith

either : (a b : Bool) → (a || b) ≡ true → a ≡ false → b ≡ true
either true b e f = absurd (cc)
either false b e f = e

one_longer : (o n : CellBelief) (os : List CellBelief) (count : ℕ) → o ≡ n → (length (chars_known (n ∷ os)) ≡ suc (length (chars_known os))) → count < length (chars_known os) → suc count < length (chars_known (o ∷ os))
one_longer o n os count same is h = let e = ap (λ (x : CellBelief). length (chars_known (x ∷ os))) same in omega arith

pub touched_longer : (os ns : List CellBelief) (qs : List BeforeWrite) → Since os ns qs → is_touched (cells_written ns qs) qs ≡ true → fresh_ahead (cells_written ns qs) ≡ false → length (known_ahead (cells_written ns qs)) < length (chars_known os)
touched_longer [] [] [] h e f = absurd (cc)
touched_longer [] [] (q ∷ qs) h e f = absurd h
touched_longer [] (n ∷ ns) qs h e f = absurd h
touched_longer (o ∷ os) [] qs h e f = absurd h
touched_longer (o ∷ os) (n ∷ ns) [] h e f = absurd h
touched_longer (o ∷ os) (Attr a m t ∷ ns) (q ∷ qs) h e f = shorter o (sym h.0 ∙ is_none q.knowledge e) os
touched_longer (o ∷ os) (KnownPlace c ∷ ns) (q ∷ qs) h e f =
    let both = neither q.fresh (fresh_ahead (cells_written ns qs)) f in
    one_longer o (KnownPlace c) os (length (known_ahead (cells_written ns qs))) (h.1 both.0) refl (touched_longer os ns qs h.2 (either q.fresh (is_touched (cells_written ns qs) qs) e both.0) both.1)
touched_longer (o ∷ os) (Unplaced c ∷ ns) (q ∷ qs) h e f =
    let both = neither q.fresh (fresh_ahead (cells_written ns qs)) f in
    one_longer o (Unplaced c) os (length (known_ahead (cells_written ns qs))) (h.1 both.0) refl (touched_longer os ns qs h.2 (either q.fresh (is_touched (cells_written ns qs) qs) e both.0) both.1)
touched_longer (o ∷ os) (Unknown ∷ ns) (q ∷ qs) h e f =
    let both = neither q.fresh (fresh_ahead (cells_written ns qs)) f in
    one_longer o Unknown os (length (known_ahead (cells_written ns qs))) (h.1 both.0) refl (touched_longer os ns qs h.2 (either q.fresh (is_touched (cells_written ns qs) qs) e both.0) both.1)

-- ---- what is known and told isn't changed by telling anew

pub settled_chars : (ks : List Known) (before : List BeforeWrite) (ns : List CellBelief) (qs : List BeforeWrite) (more : List CellBelief) (cells : List Known) → length ns ≡ length qs → chars_known more ≡ known_ahead cells
    → chars_known (settled ks before ns qs ++ more) ≡ known_ahead (cells_written ns qs ++ cells)
settled_chars ks before [] [] more cells e h = h
settled_chars ks before [] (q ∷ qs) more cells e h = absurd (omega arith)
settled_chars ks before (n ∷ ns) [] more cells e h = absurd (omega arith)
settled_chars ks before (Attr a m t ∷ ns) (q ∷ qs) more cells e h = refl
settled_chars ks before (KnownPlace c ∷ ns) (q ∷ qs) more cells e h = ap (λ (cs : List (Option ℕ)). Some c ∷ cs) (settled_chars ks before ns qs more cells (omega arith) h)
settled_chars ks before (Unplaced c ∷ ns) (q ∷ qs) more cells e h = ap (λ (cs : List (Option ℕ)). None ∷ cs) (settled_chars ks before ns qs more cells (omega arith) h)
settled_chars ks before (Unknown ∷ ns) (q ∷ qs) more cells e h = ap (λ (cs : List (Option ℕ)). None ∷ cs) (settled_chars ks before ns qs more cells (omega arith) h)

pub settled_told : (ks : List Known) (before : List BeforeWrite) (ns : List CellBelief) (qs : List BeforeWrite) (more others : List CellBelief) → length ns ≡ length qs → text_told more ≡ text_told others
    → text_told (settled ks before ns qs ++ more) ≡ text_told (ns ++ others)
settled_told ks before [] [] more others e h = h
settled_told ks before [] (q ∷ qs) more others e h = absurd (omega arith)
settled_told ks before (n ∷ ns) [] more others e h = absurd (omega arith)
settled_told ks before (Attr a m t ∷ ns) (q ∷ qs) more others e h = refl
settled_told ks before (KnownPlace c ∷ ns) (q ∷ qs) more others e h = refl
settled_told ks before (Unplaced c ∷ ns) (q ∷ qs) more others e h = ap (λ (cs : List ℕ). c ∷ cs) (settled_told ks before ns qs more others (omega arith) h)
settled_told ks before (Unknown ∷ ns) (q ∷ qs) more others e h = refl

-- ---- what is told one by one says its cells

whole_is : (ks : List (Option ℕ)) (text : List ℕ) → whole_text ks ≡ Some text → map Some text ≡ ks
whole_is [] [] e = refl
whole_is [] (c ∷ text) e = absurd (cc)
whole_is (None ∷ ks) text e = absurd (cc)
whole_is (Some c ∷ ks) text e = cases (whole_text ks) refl e (whole_is ks)
  where
    cases : (o : Option (List ℕ)) → whole_text ks ≡ o → option_map (λ chars. c ∷ chars) o ≡ Some text → ((more : List ℕ) → whole_text ks ≡ Some more → map Some more ≡ ks) → map Some text ≡ Some c ∷ ks
    cases None is h later = absurd (cc)
    cases (Some more) is h later = subst (λ (t : List ℕ). map Some t ≡ Some c ∷ ks) (same_Some _ _ h) (ap (λ (cs : List (Option ℕ)). Some c ∷ cs) (later more is))

pub says_known : (ks : List (Option ℕ)) → known_chars (length ks) (fact_known ks) ≡ ks
says_known ks = cases (whole_text ks) refl
  where
    cases : (o : Option (List ℕ)) → whole_text ks ≡ o → known_chars (length ks) (exact_or_any o ks) ≡ ks
    cases None is = refl
    cases (Some text) is = whole_is ks text is

-- ---- the facts that were

none_later : (whole : List CellBelief) (n : ℕ) (rest : List CellBelief) (p count : ℕ) → p < n → fact_before (beliefs_held whole n rest) p count ≡ None
none_later whole n [] p count later = refl
none_later whole n (Attr a m t ∷ rest) p count later = rw (ne_eqb n p (λ e. omega arith)) (none_later whole (n + 1) rest p count (omega arith))
none_later whole n (KnownPlace c ∷ rest) p count later = none_later whole (n + 1) rest p count (omega arith)
none_later whole n (Unplaced c ∷ rest) p count later = none_later whole (n + 1) rest p count (omega arith)
none_later whole n (Unknown ∷ rest) p count later = none_later whole (n + 1) rest p count (omega arith)

pub later_facts : (whole : List CellBelief) (n : ℕ) (o : CellBelief) (rest : List CellBelief) (p count : ℕ) → n + 1 ≤ p → fact_before (beliefs_held whole n (o ∷ rest)) p count ≡ fact_before (beliefs_held whole (n + 1) rest) p count
later_facts whole n (Attr a m t) rest p count later = rw (ne_eqb n p (λ e. omega arith)) refl
later_facts whole n (KnownPlace c) rest p count later = refl
later_facts whole n (Unplaced c) rest p count later = refl
later_facts whole n Unknown rest p count later = refl

no_fact : (whole : List CellBelief) (n : ℕ) (o : CellBelief) (rest : List CellBelief) (count : ℕ) → knowledge_of o ≡ None → fact_before (beliefs_held whole n (o ∷ rest)) n count ≡ None
no_fact whole n (Attr a m t) rest count e = absurd (cc)
no_fact whole n (KnownPlace c) rest count e = none_later whole (n + 1) rest n count (omega arith)
no_fact whole n (Unplaced c) rest count e = none_later whole (n + 1) rest n count (omega arith)
no_fact whole n Unknown rest count e = none_later whole (n + 1) rest n count (omega arith)

its_fact : (whole : List CellBelief) (n : ℕ) (o : CellBelief) (rest : List CellBelief) (count : ℕ) (t : TextKnowledge) → knowledge_of o ≡ Some t → count ≡ length (chars_known (rest ++ whole))
    → fact_before (beliefs_held whole n (o ∷ rest)) n count ≡ Some (fact_held t (rest ++ whole))
its_fact whole n (Attr a m s) rest count t e same =
    rw (eq-eqb n n refl, eq-eqb (length (chars_known (rest ++ whole))) count (sym same)) (ap (λ (u : TextKnowledge). Some (fact_held u (rest ++ whole))) (same_Some _ _ e))
its_fact whole n (KnownPlace c) rest count t e same = absurd (cc)
its_fact whole n (Unplaced c) rest count t e same = absurd (cc)
its_fact whole n Unknown rest count t e same = absurd (cc)

other_fact : (whole : List CellBelief) (n : ℕ) (o : CellBelief) (rest : List CellBelief) (count : ℕ) → count < length (chars_known (rest ++ whole)) → fact_before (beliefs_held whole n (o ∷ rest)) n count ≡ None
other_fact whole n (Attr a m s) rest count longer =
    rw (eq-eqb n n refl, ne_eqb (length (chars_known (rest ++ whole))) count (λ e. omega arith)) (none_later whole (n + 1) rest n count (omega arith))
other_fact whole n (KnownPlace c) rest count longer = none_later whole (n + 1) rest n count (omega arith)
other_fact whole n (Unplaced c) rest count longer = none_later whole (n + 1) rest n count (omega arith)
other_fact whole n Unknown rest count longer = none_later whole (n + 1) rest n count (omega arith)

held_rest : (whole : List CellBelief) (o : CellBelief) (os : List CellBelief) → AreHeld whole (o ∷ os) → AreHeld whole os
held_rest whole (Attr a m t) os h = h.1
held_rest whole (KnownPlace c) os h = h
held_rest whole (Unplaced c) os h = h
held_rest whole Unknown os h = h

held_here : (whole : List CellBelief) (o : CellBelief) (os : List CellBelief) (t : TextKnowledge) → knowledge_of o ≡ Some t → AreHeld whole (o ∷ os) → SaysCells t (os ++ whole)
held_here whole (Attr a m s) os t e h = subst (λ (u : TextKnowledge). SaysCells u (os ++ whole)) (same_Some _ _ e) h.0
held_here whole (KnownPlace c) os t e h = absurd (cc)
held_here whole (Unplaced c) os t e h = absurd (cc)
held_here whole Unknown os t e h = absurd (cc)

-- ---- all together

module _ (olds news : List CellBelief) (pasts : List BeforeWrite) (since : Since olds news pasts) (held : IsHeld olds) where
  abbrev cells : List Known
  cells = cells_written news pasts

  abbrev after : List CellBelief
  after = settled cells pasts news pasts

  abbrev before : List Belief
  before = beliefs_held olds 0 olds

  whole_chars : chars_known after ≡ known_ahead cells
  whole_chars =
      ap chars_known (sym (append-nil after)) ∙ settled_chars cells pasts news pasts [] [] (since-length olds news pasts since).0 refl ∙ ap known_ahead (append-nil cells)

  whole_told : text_told after ≡ text_told news
  whole_told =
      ap text_told (sym (append-nil after)) ∙ settled_told cells pasts news pasts [] [] (since-length olds news pasts since).0 refl ∙ ap text_told (append-nil news)

  -- what is said of a field: its fact, and that this says its cells
  abbrev Says : ℕ → TextKnowledge → List CellBelief → List Known → Type 0
  Says n t ring known = (fact_held t ring ≡ fact_after before n known) × SaysCells t ring

  says_cells : (n : ℕ) (ring : List CellBelief) (known : List Known) → chars_known ring ≡ known_ahead known → (fresh_ahead known ≡ false → fact_before before n (length (known_ahead known)) ≡ None) → Says n Cells ring known
  says_cells n ring known same none = (ap fact_known same ∙ sym (cases (fresh_ahead known) none), says_known (chars_known ring))
    where
      cases : (f : Bool) → (f ≡ false → fact_before before n (length (known_ahead known)) ≡ None)
          → (if f then fact_known (known_ahead known) else unwrap_or (fact_before before n (length (known_ahead known))) (fact_known (known_ahead known))) ≡ fact_known (known_ahead known)
      cases true h = refl
      cases false h = ap (λ (o : Option Fact). unwrap_or o (fact_known (known_ahead known))) (h refl)

  module _ (n : ℕ) (o : CellBelief) (os ns : List CellBelief) (q : BeforeWrite) (qs : List BeforeWrite) (kept : q.knowledge ≡ knowledge_of o) (rest : Since os ns qs) (said : AreHeld olds (o ∷ os))
      (facts : (count : ℕ) → fact_before before n count ≡ fact_before (beliefs_held olds n (o ∷ os)) n count) where
    abbrev known : List Known
    known = cells_written ns qs ++ cells

    abbrev ring : List CellBelief
    ring = settled cells pasts ns qs ++ after

    ring_cells : cells_written (ns ++ news) (qs ++ pasts) ≡ known
    ring_cells = written-append ns news qs pasts (since-length os ns qs rest).0

    ring_since : Since (os ++ olds) (ns ++ news) (qs ++ pasts)
    ring_since = since-append os ns qs olds news pasts rest since

    pub ring_chars : chars_known ring ≡ known_ahead known
    ring_chars = settled_chars cells pasts ns qs after cells (since-length os ns qs rest).0 whole_chars

    ring_told : text_told ring ≡ text_told (ns ++ news)
    ring_told = settled_told cells pasts ns qs after news (since-length os ns qs rest).0 whole_told

    as_before : is_touched known (qs ++ pasts) ≡ false → AsBefore (os ++ olds) (ns ++ news) known
    as_before e =
        subst (AsBefore (os ++ olds) (ns ++ news)) ring_cells
        (untouched (os ++ olds) (ns ++ news) (qs ++ pasts) ring_since (ap (λ (ks : List Known). is_touched ks (qs ++ pasts)) ring_cells ∙ e))

    longer : is_touched known (qs ++ pasts) ≡ true → fresh_ahead known ≡ false → length (known_ahead known) < length (chars_known (os ++ olds))
    longer e f =
        subst (λ (ks : List Known). length (known_ahead ks) < length (chars_known (os ++ olds))) ring_cells
        (touched_longer (os ++ olds) (ns ++ news) (qs ++ pasts) ring_since (ap (λ (ks : List Known). is_touched ks (qs ++ pasts)) ring_cells ∙ e) (ap fresh_ahead ring_cells ∙ f))

    same_told : (t : TextKnowledge) → q.knowledge ≡ Some t → AsBefore (os ++ olds) (ns ++ news) known → Says n t ring known
    same_told t is h =
        let chars : chars_known (os ++ olds) ≡ chars_known ring = h.0 ∙ sym ring_chars in
        let told : text_told (os ++ olds) ≡ text_told ring = h.1 ∙ sym ring_told in
        let fact : fact_held t (os ++ olds) ≡ fact_held t ring = ap (λ (cs : List (Option ℕ)). fact_told t cs (text_told (os ++ olds))) chars ∙ ap (fact_told t (chars_known ring)) told in
        let old : fact_before before n (length (known_ahead known)) ≡ Some (fact_held t (os ++ olds)) =
        facts (length (known_ahead known)) ∙ its_fact olds n o os (length (known_ahead known)) t (sym kept ∙ is) (ap length (sym h.0)) in (
          sym (ap (λ (f : Bool). if f then fact_known (known_ahead known) else unwrap_or (fact_before before n (length (known_ahead known))) (fact_known (known_ahead known))) h.2
              ∙ ap (λ (p : Option Fact). unwrap_or p (fact_known (known_ahead known))) old ∙ fact),
          subst (λ (ts : List ℕ). known_chars (length (chars_known ring)) (fact_told t (chars_known ring) ts) ≡ chars_known ring) told
              (subst (λ (cs : List (Option ℕ)). known_chars (length cs) (fact_told t cs (text_told (os ++ olds))) ≡ cs) chars (held_here olds o os t (sym kept ∙ is) said)),
        )

    unlike : (p : Option TextKnowledge) → q.knowledge ≡ p → AsBefore (os ++ olds) (ns ++ news) known → Says n (unwrap_or p Cells) ring known
    unlike None is h = says_cells n ring known ring_chars (λ _. facts (length (known_ahead known)) ∙ no_fact olds n o os (length (known_ahead known)) (sym kept ∙ is))
    unlike (Some t) is h = same_told t is h

    pub says : Says n (knowledge_after q (is_touched known (qs ++ pasts))) ring known
    says = cases (is_touched known (qs ++ pasts)) refl
      where
        cases : (t : Bool) → is_touched known (qs ++ pasts) ≡ t → Says n (if t then Cells else unwrap_or q.knowledge Cells) ring known
        cases true e = says_cells n ring known ring_chars (λ f. facts (length (known_ahead known)) ∙ other_fact olds n o os (length (known_ahead known)) (longer e f))
        cases false e = unlike q.knowledge refl (as_before e)

  abbrev Facts : ℕ → List CellBelief → Type 0
  Facts n os = (p count : ℕ) → n ≤ p → fact_before before p count ≡ fact_before (beliefs_held olds n os) p count

  facts_on : (n : ℕ) (o : CellBelief) (os : List CellBelief) → Facts n (o ∷ os) → Facts (n + 1) os
  facts_on n o os facts p count later = facts p count (omega arith) ∙ later_facts olds n o os p count later

  abbrev Settled : ℕ → List CellBelief → List BeforeWrite → Type 0
  Settled n ns qs = (beliefs_held after n (settled cells pasts ns qs) ≡ beliefs_from before cells n (cells_written ns qs)) × AreHeld after (settled cells pasts ns qs)

  belief_of : ℕ → Attribute → MdtState → List (Option ℕ) → Fact → Belief
  belief_of n a m known fact = record { place = n; attr = a; mdt = m; length = length known; fact = fact }

  each : (n : ℕ) (os ns : List CellBelief) (qs : List BeforeWrite) → Since os ns qs → AreHeld olds os → Facts n os → Settled n ns qs
  unfolding belief_of
  each n [] [] [] h said facts = (refl, tt)
  each n [] [] (q ∷ qs) h said facts = absurd h
  each n [] (x ∷ ns) qs h said facts = absurd h
  each n (o ∷ os) [] qs h said facts = absurd h
  each n (o ∷ os) (x ∷ ns) [] h said facts = absurd h
  each n (o ∷ os) (KnownPlace c ∷ ns) (q ∷ qs) h said facts = each (n + 1) os ns qs h.2 (held_rest olds o os said) (facts_on n o os facts)
  each n (o ∷ os) (Unplaced c ∷ ns) (q ∷ qs) h said facts = each (n + 1) os ns qs h.2 (held_rest olds o os said) (facts_on n o os facts)
  each n (o ∷ os) (Unknown ∷ ns) (q ∷ qs) h said facts = each (n + 1) os ns qs h.2 (held_rest olds o os said) (facts_on n o os facts)
  each n (o ∷ os) (Attr a m t ∷ ns) (q ∷ qs) h said facts =
      let more = each (n + 1) os ns qs h.2 (held_rest olds o os said) (facts_on n o os facts) in
      let here = says n o os ns q qs h.0 h.2 said (λ count. facts n count (omega arith)) in
      let chars = ring_chars n o os ns q qs h.0 h.2 said (λ count. facts n count (omega arith)) in
      let knowledge : TextKnowledge = knowledge_after q (is_touched (cells_written ns qs ++ cells) (qs ++ pasts)) in
      let ring : List CellBelief = settled cells pasts ns qs ++ after in
      let others = beliefs_from before cells (n + 1) (cells_written ns qs) in (
        ap (λ (bs : List Belief). belief_held n a m knowledge ring ∷ bs) more.0
            ∙ ap (λ (f : Fact). belief_of n a m (chars_known ring) f ∷ others) here.0
            ∙ ap (λ (ks : List (Option ℕ)). belief_of n a m ks (fact_after before n (cells_written ns qs ++ cells)) ∷ others) chars,
        (here.1, more.1),
      )

  pub settled_shadow : shadow_held true after ≡ believed before cells
  settled_shadow =
      ap (λ (bs : List Belief). formatted_as bs (chars_known after)) (each 0 olds news pasts since held (λ p count later. refl)).0
      ∙ ap (formatted_as (beliefs_from before cells 0 cells)) whole_chars

  pub settled_held : IsHeld after
  settled_held = (each 0 olds news pasts since held (λ p count later. refl)).1

-- What a note leaves.
use Rattle.std.proofs.Common.{◌≡◌, ℕ, zero, suc, ◌+◌, Bool, true, false, ◌&&◌, List, [], ◌∷◌, ◌++◌, length, map, set, drop, Option, Some, None, unwrap_or, refl, ap, sym, subst, arith, ◌∙◌, if◌then◌else◌, All}
use Rattle.std.specs.Prelude.{⊤}
use Rattle.std.specs.Option.{option_or}
use Rattle.std.specs.List.{list_all}
use Rattle.std.proofs.lemmas.List.Elements.{All-head, All-tail, All-nil, All-cons, All-weaker}
use Rattle.codes3270.specs.Size.{ScreenSize}
use Rattle.codes3270.specs.declared.attribute.Attr.{Attr as Attribute}
use Rattle.codes3270.specs.declared.attribute.Cell.{Cell}
use Rattle.codes3270.specs.declared.attribute.Cell.TheVariants.{Char, Attr}
use Rattle.codes3270.specs.declared.write_control.Wcc.{Wcc}
use Rattle.datastream.specs.Fields.{Field, fields, fields_from}
use Rattle.datastream.specs.Grammar.{CommandParts, is_write}
use Rattle.datastream.specs.KeptByKeys.{without_mdt}
use Rattle.datastream.specs.Inbound.{without_nulls}
use Rattle.datastream.specs.Meaning.{unmodified, prepared, written, after_command}
use Rattle.datastream.specs.Screen.{Screen, is_char, is_char_at, last_attribute, field_text}
use Rattle.datastream.specs.declared.order.Order.{Order}
use Rattle.datastream.specs.declared.command_code.CommandCode.{CommandCode}
use Rattle.datastream.specs.declared.command_code.CommandCode.TheVariants.{Write, EraseWrite, EraseWriteAlternate, ReadBuffer, ReadModified, ReadModifiedAll, EraseAllUnprotected}
use Rattle.datastream.proofs.Fields.{option_or_assoc}
use Rattle.shadow.specs.declared.known.Known.{Known}
use Rattle.shadow.specs.declared.known.Known.TheVariants.{Attr as KnownAttr, Char as KnownChar}
use Rattle.shadow.specs.Belief.{Fact, Belief, Shadow, fields_of}
use Rattle.shadow.specs.Exactness.{IsOverCharacter}
use Rattle.shadow.specs.AfterReadBuffer.{known_chars}
use Rattle.shadow.specs.Meets.{FieldMeets, Holds, KnownIs, Meets, Knows, ListsFields, told, FieldTold, IsTold}
use Rattle.shadow.specs.Notes.{IsOverProtected, OverwritesProtected, PlacedStaysKnown, NoteStaysListed, NoteStaysTold, NoteStaysExact, NoteOpensNothing, NoteStaysWhole}
use Rattle.shadow.specs.TextUnknown.{is_any}
use Rattle.shadow.specs.Pairs.{Pairwise}
use Rattle.shadow.specs.Stores.{Store, stores, stores_unplaced, is_plain_order}
use Rattle.shadow.specs.Taken.{old_char, laid_out, known_stored, marks_off_if, known_ahead, fresh_ahead, fact_known, fact_before, fact_after, beliefs_from, formatted_as, believed, resets, known_after, after_write, taken_write, taken}
use Rattle.shadow.proofs.Pairs.{pairwise-append, pairwise-length, drop_tail}
use Rattle.shadow.proofs.HeardOthers.{chars_known}
use Rattle.shadow.proofs.Stored.{stored}
use Rattle.shadow.proofs.TakenMeets.{placed}
use Rattle.shadow.proofs.LaidOut.{CellFits, cells_written, has_wcc, laid_out_fits, bare_fits, written_with}
use Rattle.shadow.proofs.Behind.{behind}
use Rattle.shadow.proofs.ExactTaken.{taken_exact}
use Rattle.shadow.proofs.ExactPainted.{Shaped, all_shaped, WasKnown}
use Rattle.shadow.proofs.ExactWritten.{Follows, follows_itself, all_over, ahead_known, FoundFrom, found_past, found_here, written_protected}
use Rattle.shadow.proofs.StoredClosed.{Closed, closed-append, not_fresh, IsStale, stale_chars, stale_laid, closed_stale, closed_stores}

-- ---- the screen: attributes stay

abbrev SameKind : Cell → Cell → Type 0
SameKind (Attr a) (Attr b) = b ≡ a
SameKind (Attr a) (Char c) = ⊥
SameKind (Char c) (Attr b) = ⊥
SameKind (Char c) (Char d) = ⊤

kind_itself : (cells : List Cell) → Pairwise SameKind cells cells
kind_itself [] = tt
kind_itself (Attr a ∷ cells) = (refl, kind_itself cells)
kind_itself (Char c ∷ cells) = (tt, kind_itself cells)

kind_put : (c at : ℕ) (olds news : List Cell) → Pairwise SameKind olds news → is_char_at olds at ≡ true → Pairwise SameKind olds (set news at (Char c))
kind_put c at [] [] h there = tt
kind_put c at [] (y ∷ news) h there = absurd h
kind_put c at (x ∷ olds) [] h there = absurd h
kind_put c zero (Attr a ∷ olds) (y ∷ news) h there = absurd (cc)
kind_put c zero (Char d ∷ olds) (y ∷ news) h there = (tt, h.1)
kind_put c (suc at) (x ∷ olds) (y ∷ news) h there = (h.0, kind_put c at olds news h.1 there)

cell_put : (cell : Cell) (at : ℕ) (olds news : List Cell) → Pairwise SameKind olds news → is_char cell ≡ true → is_char_at olds at ≡ true → Pairwise SameKind olds (set news at cell)
cell_put (Char c) at olds news h e there = kind_put c at olds news h there
cell_put (Attr a) at olds news h e there = absurd (cc)

kinds_put : (more : List Store) (olds news : List Cell) → All (IsOverCharacter olds) more → Pairwise SameKind olds news → Pairwise SameKind olds (stored more news)
kinds_put [] olds news over h = h
kinds_put (store ∷ more) olds news over h =
    let here : IsOverCharacter olds store = All-head (IsOverCharacter olds) store more over in
    kinds_put more olds (set news store.at store.cell) (All-tail (IsOverCharacter olds) store more over) (cell_put store.cell store.at olds news h here.0 here.1)

abbrev SameAttr : Field → Field → Type 0
SameAttr old new = new.attr ≡ old.attr

same_fields : (wo wn : List Cell) (n : ℕ) (ro rn : List Cell) → Pairwise SameKind ro rn → Pairwise SameAttr (fields_from wo n ro) (fields_from wn n rn)
same_fields wo wn n [] [] h = tt
same_fields wo wn n [] (y ∷ rn) h = absurd h
same_fields wo wn n (x ∷ ro) [] h = absurd h
same_fields wo wn n (Attr a ∷ ro) (Attr b ∷ rn) h = (h.0, same_fields wo wn (n + 1) ro rn h.1)
same_fields wo wn n (Attr a ∷ ro) (Char c ∷ rn) h = absurd h.0
same_fields wo wn n (Char c ∷ ro) (Attr b ∷ rn) h = absurd h.0
same_fields wo wn n (Char c ∷ ro) (Char d ∷ rn) h = same_fields wo wn (n + 1) ro rn h.1

still_none : (gs fs : List Field) → Pairwise SameAttr gs fs → gs ≡ [] → fs ≡ []
still_none [] [] h e = refl
still_none [] (f ∷ fs) h e = absurd h
still_none (g ∷ gs) fs h e = absurd (cc)

-- ---- the belief: unprotected fields keep their facts

pub record FieldKept (old new : Belief) : Type 0 where
  pub same_attr : new.attr ≡ old.attr
  pub same_fact : new.attr.protected ≡ false → new.fact ≡ old.fact

same_length : (olds news : List Known) → Pairwise Follows olds news → length (known_ahead news) ≡ length (known_ahead olds)
same_length [] [] h = refl
same_length [] (new ∷ news) h = absurd h
same_length (old ∷ olds) [] h = absurd h
same_length (KnownAttr k m ∷ olds) (KnownAttr b n ∷ news) h = refl
same_length (KnownAttr k m ∷ olds) (KnownChar slot fresh ∷ news) h = absurd h.0
same_length (KnownChar slot fresh ∷ olds) (KnownAttr b n ∷ news) h = absurd h.0
same_length (KnownChar slot fresh ∷ olds) (KnownChar t g ∷ news) h = ap suc (same_length olds news h.1)

pub fact_kept : (bs : List Belief) (n len : ℕ) (fact : Fact) (ahead : List Known) → fresh_ahead ahead ≡ false → length (known_ahead ahead) ≡ len → fact_before bs n len ≡ Some fact → fact_after bs n ahead ≡ fact
fact_kept bs n len fact ahead none long found =
    let known : Fact = fact_known (known_ahead ahead) in
    ap (λ (t : Bool). if t then known else unwrap_or (fact_before bs n (length (known_ahead ahead))) known) none
    ∙ ap (λ (l : ℕ). unwrap_or (fact_before bs n l) known) long
    ∙ ap (λ (o : Option Fact). unwrap_or o known) found

-- what holds of the whole ring of cells
pub record IsWritten (bs : List Belief) (whole : List Cell) (olds news : List Known) : Type 0 where
  pub was : WasKnown bs olds
  pub follows : Pairwise Follows olds news
  pub closed : Closed (last_attribute whole) whole news

-- and of those from an address on; `over`: the attribute that governs the first of them
pub record IsRest (bs : List Belief) (whole : List Cell) (olds : List Known) (n : ℕ) (cells : List Cell) (rest : List Belief) (ro rn : List Known) (over : Option Attribute) : Type 0 where
  pub meets : Pairwise FieldMeets rest (fields_from whole n cells)
  pub shape : Pairwise Shaped ro cells
  pub follows : Pairwise Follows ro rn
  pub is : ro ≡ drop n olds
  pub found : FoundFrom n bs rest
  pub closed : Closed over cells rn
  pub governs : option_or (last_attribute cells) over ≡ last_attribute whole

one_kept : (bs : List Belief) (whole : List Cell) (olds news : List Known) → IsWritten bs whole olds news
    → (n : ℕ) (a : Attribute) (cells : List Cell) (b : Belief) (rest : List Belief) (k x : Attribute) (ro rn : List Known) → FieldMeets b (record { place = n; attr = a; text = field_text whole n })
    → without_mdt a ≡ k → k ≡ x → Pairwise Follows ro rn → ro ≡ drop (n + 1) olds → fact_before bs n b.length ≡ Some b.fact → Closed (Some a) cells rn → option_or (last_attribute cells) (Some a) ≡ last_attribute whole
    → (x ≡ b.attr) × (x.protected ≡ false → fact_after bs n (rn ++ news) ≡ b.fact)
one_kept bs whole olds news all n a cells b rest k x ro rn meets attr_is same follows is at closed governs = (attribute, fact)
  where
    attribute : x ≡ b.attr
    attribute = sym same ∙ sym attr_is ∙ meets.same_attr

    ring : known_ahead (ro ++ olds) ≡ known_chars b.length b.fact
    ring = ap (λ (ks : List Known). known_ahead (ks ++ olds)) is ∙ all.was n b.length b.fact at

    long : length (known_ahead (rn ++ news)) ≡ b.length
    long =
        same_length (ro ++ olds) (rn ++ news) (pairwise-append Follows ro rn olds news follows all.follows) ∙ ap length ring
        ∙ sym (pairwise-length KnownIs _ _ (chars_known b.length b.fact (field_text whole n) meets.same_length meets.holds)) ∙ meets.same_length

    fact : x.protected ≡ false → fact_after bs n (rn ++ news) ≡ b.fact
    fact free =
        let open_ : a.protected ≡ false = ap (λ (z : Attribute). z.protected) (attr_is ∙ same) ∙ free in
        let shut : Closed (Some a) (cells ++ whole) (rn ++ news) = closed-append (Some a) cells whole rn news closed (subst (λ (o : Option Attribute). Closed o whole news) (sym governs) all.closed) in
        fact_kept bs n b.length b.fact (rn ++ news) (not_fresh (Some a) (λ (p : a.protected ≡ true). absurd (cc)) (cells ++ whole) (rn ++ news) shut) long at

all_kept : (bs : List Belief) (whole : List Cell) (olds news : List Known) → IsWritten bs whole olds news
    → (n : ℕ) (cells : List Cell) (rest : List Belief) (ro rn : List Known) (over : Option Attribute) → IsRest bs whole olds n cells rest ro rn over
    → Pairwise FieldKept rest (beliefs_from bs news n rn)
all_kept bs whole olds news all n [] [] [] [] over h = tt
all_kept bs whole olds news all n [] (b ∷ rest) [] [] over h = absurd h.meets
all_kept bs whole olds news all n [] rest [] (new ∷ rn) over h = absurd h.follows
all_kept bs whole olds news all n [] rest (old ∷ ro) rn over h = absurd h.shape
all_kept bs whole olds news all n (y ∷ cells) rest [] rn over h = absurd h.shape
all_kept bs whole olds news all n (y ∷ cells) rest (old ∷ ro) [] over h = absurd h.follows
all_kept bs whole olds news all n (Char c ∷ cells) rest (KnownAttr k m ∷ ro) (new ∷ rn) over h = absurd h.shape.0
all_kept bs whole olds news all n (Attr a ∷ cells) rest (KnownChar slot fresh ∷ ro) (new ∷ rn) over h = absurd h.shape.0
all_kept bs whole olds news all n (Char c ∷ cells) rest (KnownChar slot fresh ∷ ro) (KnownAttr b m ∷ rn) over h = absurd h.follows.0
all_kept bs whole olds news all n (Attr a ∷ cells) rest (KnownAttr k m ∷ ro) (KnownChar t g ∷ rn) over h = absurd h.follows.0
all_kept bs whole olds news all n (Char c ∷ cells) rest (KnownChar slot fresh ∷ ro) (KnownChar t g ∷ rn) over h =
    all_kept bs whole olds news all (n + 1) cells rest ro rn over (record {
      meets = h.meets;
      shape = h.shape.1;
      follows = h.follows.1;
      is = drop_tail n (KnownChar slot fresh) ro olds h.is;
      found = λ place len later. h.found place len (omega arith);
      closed = h.closed.1;
      governs = sym (option_or_assoc (last_attribute cells) None over) ∙ h.governs;
    })
all_kept bs whole olds news all n (Attr a ∷ cells) [] (KnownAttr k m ∷ ro) (KnownAttr x y ∷ rn) over h = absurd h.meets
all_kept bs whole olds news all n (Attr a ∷ cells) (b ∷ rest) (KnownAttr k m ∷ ro) (KnownAttr x y ∷ rn) over h =
    let is : ro ≡ drop (n + 1) olds = drop_tail n (KnownAttr k m) ro olds h.is in
    let governs : option_or (last_attribute cells) (Some a) ≡ last_attribute whole = sym (option_or_assoc (last_attribute cells) (Some a) over) ∙ h.governs in
    let place : b.place ≡ n = sym h.meets.0.same_place in
    let here = one_kept bs whole olds news all n a cells b rest k x ro rn h.meets.0 h.shape.0 h.follows.0 h.follows.1 is (found_here n bs b rest place h.found) h.closed governs in (
      record { same_attr = here.0; same_fact = here.1 },
      all_kept bs whole olds news all (n + 1) cells rest ro rn (Some a) (record {
        meets = h.meets.1;
        shape = h.shape.1;
        follows = h.follows.1;
        is = is;
        found = found_past n bs b rest place h.found;
        closed = h.closed;
        governs = governs;
      }),
    )

-- ---- what follows from it

told_holds : (fact : Fact) (text t : List ℕ) → told fact ≡ Some t → Holds fact text → told fact ≡ Some (without_nulls text)
told_holds (Fact.Exact value) text t e h = ap (λ (v : List ℕ). Some (without_nulls v)) (sym h)
told_holds (Fact.ExactOrNulls value) text t e h = absurd (cc)
told_holds (Fact.Text value) text t e h = ap Some (sym h)
told_holds (Fact.TextOrNulls value) text t e h = absurd (cc)
told_holds (Fact.Any known) text t e h = absurd (cc)

field_told : (b new : Belief) (g f : Field) → FieldTold b g → FieldKept b new → FieldMeets new f → SameAttr g f → FieldTold new f
field_told b new g f was kept meets same free on =
    let old = was (ap (λ (z : Attribute). z.protected) (sym same) ∙ free) (ap (λ (z : Attribute). z.mdt) (sym same) ∙ on) in
    let fact : new.fact ≡ b.fact = kept.same_fact (ap (λ (z : Attribute). z.protected) (sym meets.same_attr) ∙ free) in
    told_holds new.fact f.text (without_nulls g.text) (ap told fact ∙ old) meets.holds

fields_told : (bs news : List Belief) (gs fs : List Field) → Pairwise FieldTold bs gs → Pairwise FieldKept bs news → Pairwise FieldMeets news fs → Pairwise SameAttr gs fs → Pairwise FieldTold news fs
fields_told [] [] gs [] was kept meets same = tt
fields_told [] [] gs (f ∷ fs) was kept meets same = absurd meets
fields_told [] (new ∷ news) gs fs was kept meets same = absurd kept
fields_told (b ∷ bs) [] gs fs was kept meets same = absurd kept
fields_told (b ∷ bs) (new ∷ news) [] fs was kept meets same = absurd was
fields_told (b ∷ bs) (new ∷ news) (g ∷ gs) [] was kept meets same = absurd meets
fields_told (b ∷ bs) (new ∷ news) (g ∷ gs) (f ∷ fs) was kept meets same = (field_told b new g f was.0 kept.0 meets.0 same.0, fields_told bs news gs fs was.1 kept.1 meets.1 same.1)

-- what holds of the fact, if the field is unprotected
abbrev pub IfFree : (Fact → Type 0) → Belief → Type 0
IfFree Q belief = belief.attr.protected ≡ false → Q belief.fact

free_kept : (Q : Fact → Type 0) (bs news : List Belief) → Pairwise FieldKept bs news → All (IfFree Q) bs → All (IfFree Q) news
free_kept Q [] [] kept h = h
free_kept Q [] (new ∷ news) kept h = absurd kept
free_kept Q (b ∷ bs) [] kept h = absurd kept
free_kept Q (b ∷ bs) (new ∷ news) kept h = All-cons (IfFree Q) new news one (free_kept Q bs news kept.1 (All-tail (IfFree Q) b bs h))
  where
    one : IfFree Q new
    one free =
        subst Q (sym (kept.0.same_fact free)) (All-head (IfFree Q) b bs h (ap (λ (z : Attribute). z.protected) (sym kept.0.same_attr) ∙ free))

-- ---- a note on a screen

record Plainly (wcc : Wcc) (orders : List Order) (s : Screen) : Type 0 where
  keeps : wcc.reset ≡ false
  at_once : stores_unplaced orders ≡ false
  plain : list_all is_plain_order orders ≡ true
  over : All (IsOverProtected s.cells) (stores (length s.cells) 0 orders)

abbrev write_of : ScreenSize → Wcc → List Order → CommandParts
write_of size wcc orders = record { code = Write; size = size; wcc = Some wcc; orders = orders }

over_characters : (cells : List Cell) (more : List Store) → All (IsOverProtected cells) more → All (IsOverCharacter cells) more
over_characters cells = All-weaker (IsOverProtected cells) (IsOverCharacter cells) (λ (store : Store) (h : IsOverProtected cells store). h.0)

cells_after : (wcc : Wcc) (orders : List Order) (s : Screen) → Plainly wcc orders s → (written (Some wcc) orders s).cells ≡ stored (stores (length s.cells) 0 orders) s.cells
cells_after wcc orders s h =
    cells_written wcc orders s h.plain
    ∙ ap (λ (more : List Store). stored more (prepared wcc s).cells) (sym (placed (length s.cells) 0 s.cursor orders h.at_once h.plain))
    ∙ ap (λ (t : Bool). stored (stores (length s.cells) 0 orders) (if t then map unmodified s.cells else s.cells)) h.keeps

kinds_after : (wcc : Wcc) (orders : List Order) (s : Screen) → Plainly wcc orders s → Pairwise SameAttr (fields s.cells) (fields (written (Some wcc) orders s).cells)
kinds_after wcc orders s h =
    subst (λ (cells : List Cell). Pairwise SameAttr (fields s.cells) (fields cells)) (sym (cells_after wcc orders s h))
    (same_fields s.cells (stored (stores (length s.cells) 0 orders) s.cells) 0 s.cells (stored (stores (length s.cells) 0 orders) s.cells)
    (kinds_put (stores (length s.cells) 0 orders) s.cells s.cells (over_characters s.cells (stores (length s.cells) 0 orders) h.over) (kind_itself s.cells)))

written_as : (wcc : Wcc) (orders : List Order) (s : Screen) → Plainly wcc orders s → (bs : List Belief) (laid : List Known)
    → after_write (length s.cells) (Some wcc) orders bs laid ≡ believed bs (known_stored (stores (length s.cells) 0 orders) laid)
written_as wcc orders s h bs laid =
    ap (λ (t : Bool). if t then Shadow.NothingKnown else believed bs (known_after (length s.cells) (Some wcc) orders laid)) h.at_once
    ∙ ap (λ (t : Bool). believed bs (known_stored (stores (length s.cells) 0 orders) (marks_off_if t laid))) h.keeps

follows_stored : (wcc : Wcc) (orders : List Order) (s : Screen) → Plainly wcc orders s → (laid : List Known) → Pairwise CellFits laid s.cells → Pairwise Follows laid (known_stored (stores (length s.cells) 0 orders) laid)
follows_stored wcc orders s h laid fits =
    all_over (stores (length s.cells) 0 orders) laid laid s.cells (over_characters s.cells (stores (length s.cells) 0 orders) h.over) (follows_itself laid) (all_shaped false laid s.cells fits)

fields_kept : (wcc : Wcc) (orders : List Order) (s : Screen) → Plainly wcc orders s → (bs : List Belief) (laid : List Known) → Pairwise CellFits laid s.cells → All IsStale laid → WasKnown bs laid → Pairwise FieldMeets bs (fields s.cells)
    → Pairwise FieldKept bs (beliefs_from bs (known_stored (stores (length s.cells) 0 orders) laid) 0 (known_stored (stores (length s.cells) 0 orders) laid))
fields_kept wcc orders s h bs laid fits stale was meets =
    let more : List Store = stores (length s.cells) 0 orders in
    let news : List Known = known_stored more laid in
    let over : Option Attribute = last_attribute s.cells in
    let shape : Pairwise Shaped laid s.cells = all_shaped false laid s.cells fits in
    let follows : Pairwise Follows laid news = follows_stored wcc orders s h laid fits in
    let closed : Closed over s.cells news = closed_stores more s.cells laid h.over (closed_stale over s.cells laid stale shape) in
    all_kept bs s.cells laid news (record { was = was; follows = follows; closed = closed }) 0 s.cells bs laid news over
    (record { meets = meets; shape = shape; follows = follows; is = refl; found = λ place len later. refl; closed = closed; governs = itself over })
  where
    itself : (o : Option Attribute) → option_or o o ≡ o
    itself None = refl
    itself (Some a) = refl

-- each belief
abbrev Fitting : List Belief → List Known → Screen → Type 0
Fitting bs laid s = Pairwise CellFits laid s.cells × All IsStale laid × WasKnown bs laid × Pairwise FieldMeets bs (fields s.cells)

fitting_bare : (known : List (Option ℕ)) (s : Screen) → Meets (Shadow.Unformatted known) s → Fitting [] (map old_char known) s
fitting_bare known s meets = (
  bare_fits s.cells 0 known s.cells meets.0 meets.1,
  stale_chars known,
  λ place len fact e. absurd (cc),
  subst (Pairwise FieldMeets []) (sym meets.0) tt,
)

fitting_laid : (bs : List Belief) (s : Screen) → Meets (Shadow.Formatted bs) s → Fitting bs (laid_out (length s.cells) bs) s
fitting_laid bs s meets = (
  laid_out_fits (length s.cells) s.cells bs refl meets.1 meets.0,
  stale_laid (length s.cells) bs,
  behind (length s.cells) s.cells bs refl meets.1 meets.0,
  meets.1,
)

told_as : (new : List Belief) (known : List (Option ℕ)) (s : Screen) → Meets (formatted_as new known) s → (Pairwise FieldMeets new (fields s.cells) → Pairwise FieldTold new (fields s.cells)) → IsTold (formatted_as new known) s
told_as [] known s meets h = tt
told_as (b ∷ new) known s meets h = h meets.1

free_as : (Q : Fact → Type 0) (new : List Belief) (known : List (Option ℕ)) → All (IfFree Q) new → All (IfFree Q) (fields_of (formatted_as new known))
free_as Q [] known h = All-nil (IfFree Q)
free_as Q (b ∷ new) known h = h

told_after : (wcc : Wcc) (orders : List Order) (s : Screen) → Plainly wcc orders s → (bs : List Belief) (laid : List Known) → Fitting bs laid s → Pairwise FieldTold bs (fields s.cells)
    → Meets (after_write (length s.cells) (Some wcc) orders bs laid) (written (Some wcc) orders s) → IsTold (after_write (length s.cells) (Some wcc) orders bs laid) (written (Some wcc) orders s)
told_after wcc orders s h bs laid fit was meets =
    let news : List Known = known_stored (stores (length s.cells) 0 orders) laid in
    let e = written_as wcc orders s h bs laid in
    subst (λ (shadow : Shadow). IsTold shadow (written (Some wcc) orders s)) (sym e)
    (told_as (beliefs_from bs news 0 news) (known_ahead news) (written (Some wcc) orders s) (subst (λ (shadow : Shadow). Meets shadow (written (Some wcc) orders s)) e meets)
    (λ meet. fields_told bs (beliefs_from bs news 0 news) (fields s.cells) (fields (written (Some wcc) orders s).cells) was
    (fields_kept wcc orders s h bs laid fit.0 fit.1 fit.2 fit.3) meet (kinds_after wcc orders s h)))

free_after : (Q : Fact → Type 0) (wcc : Wcc) (orders : List Order) (s : Screen) → Plainly wcc orders s → (bs : List Belief) (laid : List Known) → Fitting bs laid s → All (IfFree Q) bs
    → All (IfFree Q) (fields_of (after_write (length s.cells) (Some wcc) orders bs laid))
free_after Q wcc orders s h bs laid fit was =
    let news : List Known = known_stored (stores (length s.cells) 0 orders) laid in
    subst (λ (shadow : Shadow). All (IfFree Q) (fields_of shadow)) (sym (written_as wcc orders s h bs laid))
    (free_as Q (beliefs_from bs news 0 news) (known_ahead news)
    (free_kept Q bs (beliefs_from bs news 0 news) (fields_kept wcc orders s h bs laid fit.0 fit.1 fit.2 fit.3) was))

write_told : (wcc : Wcc) (orders : List Order) (shadow : Shadow) (s : Screen) → Plainly wcc orders s → Meets shadow s → IsTold shadow s
    → Meets (taken_write (length s.cells) (Some wcc) orders shadow) (written (Some wcc) orders s) → IsTold (taken_write (length s.cells) (Some wcc) orders shadow) (written (Some wcc) orders s)
write_told wcc orders Shadow.NothingKnown s h meets was now = tt
write_told wcc orders (Shadow.Unformatted known) s h meets was now =
    told_after wcc orders s h [] (map old_char known) (fitting_bare known s meets) (subst (Pairwise FieldTold []) (sym meets.0) tt) now
write_told wcc orders (Shadow.Formatted bs) s h meets was now = told_after wcc orders s h bs (laid_out (length s.cells) bs) (fitting_laid bs s meets) was now

write_free : (Q : Fact → Type 0) (wcc : Wcc) (orders : List Order) (shadow : Shadow) (s : Screen) → Plainly wcc orders s → Meets shadow s → All (IfFree Q) (fields_of shadow)
    → All (IfFree Q) (fields_of (taken_write (length s.cells) (Some wcc) orders shadow))
write_free Q wcc orders Shadow.NothingKnown s h meets was = All-nil (IfFree Q)
write_free Q wcc orders (Shadow.Unformatted known) s h meets was = free_after Q wcc orders s h [] (map old_char known) (fitting_bare known s meets) (All-nil (IfFree Q))
write_free Q wcc orders (Shadow.Formatted bs) s h meets was = free_after Q wcc orders s h bs (laid_out (length s.cells) bs) (fitting_laid bs s meets) was

-- a command over protected characters is a write of a control character and orders
record Split (command : CommandParts) (s : Screen) : Type 0 where
  wcc : Wcc
  is : write_of command.size wcc command.orders ≡ command
  plainly : Plainly wcc command.orders s

split : (command : CommandParts) (s : Screen) → OverwritesProtected command s → Split command s
split command s h =
    let has = has_wcc command h.encoded (ap is_write h.writes) in
    record {
      wcc = has.0;
      is = λ i. record { code = sym h.writes i; size = command.size; wcc = sym has.1 i; orders = command.orders };
      plainly = record {
        keeps = ap resets (sym has.1) ∙ h.keeps_mdt;
        at_once = h.placed;
        plain = ap (λ (code : CommandCode). is_write code && list_all is_plain_order command.orders) (sym h.writes) ∙ h.plain;
        over = h.over;
      };
    }

-- ---- the laws

believed_known : (new : List Belief) (known : List (Option ℕ)) → Knows (formatted_as new known)
believed_known [] known = tt
believed_known (b ∷ new) known = tt

placed_known : (size : ℕ) (wcc : Option Wcc) (orders : List Order) (shadow : Shadow) → stores_unplaced orders ≡ false → Knows shadow → Knows (taken_write size wcc orders shadow)
placed_known size wcc orders shadow e knows = by_shadow shadow knows
  where
    after : (bs : List Belief) (laid : List Known) → Knows (after_write size wcc orders bs laid)
    after bs laid =
        subst (λ (t : Bool). Knows (if t then Shadow.NothingKnown else believed bs (known_after size wcc orders laid))) (sym e)
        (believed_known (beliefs_from bs (known_after size wcc orders laid) 0 (known_after size wcc orders laid)) (known_ahead (known_after size wcc orders laid)))

    by_shadow : (shadow : Shadow) → Knows shadow → Knows (taken_write size wcc orders shadow)
    by_shadow Shadow.NothingKnown knows = absurd knows
    by_shadow (Shadow.Unformatted known) knows = after [] (map old_char known)
    by_shadow (Shadow.Formatted bs) knows = after bs (laid_out size bs)

pub stays_known : PlacedStaysKnown
stays_known size command shadow is e knows = cases command.code is
  where
    cases : (code : CommandCode) → code ≡ Write → Knows (taken size (record command { code = code }) shadow)
    cases Write is = placed_known size command.wcc command.orders shadow e knows
    cases EraseWrite is = absurd (cc)
    cases EraseWriteAlternate is = absurd (cc)
    cases ReadBuffer is = absurd (cc)
    cases ReadModified is = absurd (cc)
    cases ReadModifiedAll is = absurd (cc)
    cases EraseAllUnprotected is = absurd (cc)

lists_known : (shadow : Shadow) (s : Screen) → Meets shadow s → Knows shadow → ListsFields shadow s
lists_known Shadow.NothingKnown s meets knows some = knows
lists_known (Shadow.Unformatted known) s meets knows some = some meets.0
lists_known (Shadow.Formatted bs) s meets knows some = tt

pub stays_listed : NoteStaysListed
stays_listed command shadow s h meets lists = cases shadow meets lists
  where
    it : Split command s
    it = split command s h

    still : fields s.cells ≡ [] → fields (after_command command s).cells ≡ []
    still none =
        subst (λ (c : CommandParts). fields (after_command c s).cells ≡ []) it.is
        (still_none (fields s.cells) (fields (written (Some it.wcc) command.orders s).cells) (kinds_after it.wcc command.orders s it.plainly) none)

    known : (shadow : Shadow) → Meets shadow s → Knows shadow → ListsFields (taken (length s.cells) command shadow) (after_command command s)
    known shadow meets knows =
        lists_known (taken (length s.cells) command shadow) (after_command command s) (written_with (length s.cells) command (has_wcc command h.encoded) shadow s h.plain (λ _. refl) meets)
        (stays_known (length s.cells) command shadow h.writes h.placed knows)

    cases : (shadow : Shadow) → Meets shadow s → ListsFields shadow s → ListsFields (taken (length s.cells) command shadow) (after_command command s)
    cases Shadow.NothingKnown meets lists = λ some. absurd (lists (λ none. some (still none)))
    cases (Shadow.Unformatted known_) meets lists = known (Shadow.Unformatted known_) meets tt
    cases (Shadow.Formatted bs) meets lists = known (Shadow.Formatted bs) meets tt

pub stays_told : NoteStaysTold
stays_told command shadow s h meets was =
    let it = split command s h in
    let now : Meets (taken (length s.cells) command shadow) (after_command command s) = written_with (length s.cells) command (has_wcc command h.encoded) shadow s h.plain (λ _. refl) meets in
    subst (λ (c : CommandParts). Meets (taken (length s.cells) c shadow) (after_command c s) → IsTold (taken (length s.cells) c shadow) (after_command c s)) it.is
    (write_told it.wcc command.orders shadow s it.plainly meets was) now

pub stays_exact : NoteStaysExact
stays_exact command shadow s h meets known protected = (
  taken_exact (length s.cells) command shadow known,
  written_protected command shadow s h.writes (over_characters s.cells (stores (length s.cells) 0 command.orders) h.over) meets known protected,
)

-- what holds of the facts of unprotected fields
pub free_stays : (Q : Fact → Type 0) (command : CommandParts) (shadow : Shadow) (s : Screen) → OverwritesProtected command s → Meets shadow s → All (IfFree Q) (fields_of shadow)
    → All (IfFree Q) (fields_of (taken (length s.cells) command shadow))
free_stays Q command shadow s h meets was =
    let it = split command s h in
    subst (λ (c : CommandParts). All (IfFree Q) (fields_of (taken (length s.cells) c shadow))) it.is (write_free Q it.wcc command.orders shadow s it.plainly meets was)

pub opens_nothing : NoteOpensNothing
opens_nothing = free_stays (λ (fact : Fact). is_any fact ≡ false)

no_kept : (new : List Belief) → Pairwise FieldKept [] new → new ≡ []
no_kept [] h = refl
no_kept (b ∷ new) h = absurd h

pub stays_whole : NoteStaysWhole
stays_whole command s text h meets =
    let it = split command s h in
    let laid : List Known = map old_char (map Some text) in
    let news : List Known = known_stored (stores (length s.cells) 0 command.orders) laid in
    let fit = fitting_bare (map Some text) s meets in
    let now = ahead_known laid news text (follows_stored it.wcc command.orders s it.plainly laid fit.0) (chars_ahead (map Some text)) in
    let none : beliefs_from [] news 0 news ≡ [] = no_kept (beliefs_from [] news 0 news) (fields_kept it.wcc command.orders s it.plainly [] laid fit.0 fit.1 fit.2 fit.3) in (
      now.0,
      subst (λ (c : CommandParts). taken (length s.cells) c (Shadow.Unformatted (map Some text)) ≡ Shadow.Unformatted (map Some now.0)) it.is
          (written_as it.wcc command.orders s it.plainly [] laid ∙ ap (λ (bs : List Belief). formatted_as bs (known_ahead news)) none ∙ ap Shadow.Unformatted now.1),
    )
  where
    chars_ahead : (known : List (Option ℕ)) → known_ahead (map old_char known) ≡ known
    chars_ahead [] = refl
    chars_ahead (k ∷ known) = ap (λ (ks : List (Option ℕ)). k ∷ ks) (chars_ahead known)

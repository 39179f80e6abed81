-- A write of characters over characters leaves protected fields exact.
use Rattle.std.proofs.Common.{◌≡◌, ℕ, zero, suc, ◌+◌, ◌≤◌, Bool, true, false, ◌&&◌, List, [], ◌∷◌, ◌++◌, length, map, set, drop, Option, Some, None, refl, ap, sym, subst, arith, ◌∙◌, if◌then◌else◌, nat_eq, eq-eqb, ne_eqb, All}
use Rattle.std.specs.Prelude.{⊤}
use Rattle.std.proofs.lemmas.List.Elements.{All-head, All-tail, All-nil, All-cons}
use Rattle.codes3270.specs.declared.attribute.Attr.{Attr as Attribute}
use Rattle.codes3270.specs.declared.attribute.Cell.{Cell}
use Rattle.codes3270.specs.declared.attribute.Cell.TheVariants.{Char, Attr}
use Rattle.codes3270.specs.declared.write_control.Wcc.{Wcc}
use Rattle.datastream.specs.Screen.{Screen, is_char, is_char_at}
use Rattle.datastream.specs.Fields.{fields, fields_from}
use Rattle.datastream.specs.declared.order.Order.{Order}
use Rattle.datastream.specs.declared.command_code.CommandCode.{CommandCode}
use Rattle.datastream.specs.declared.command_code.CommandCode.TheVariants.{Write, EraseWrite, EraseWriteAlternate, ReadBuffer, ReadModified, ReadModifiedAll, EraseAllUnprotected}
use Rattle.shadow.specs.declared.known.Known.{Known}
use Rattle.shadow.specs.declared.known.Known.TheVariants.{Attr as KnownAttr, Char as KnownChar}
use Rattle.shadow.specs.Pairs.{Pairwise}
use Rattle.shadow.specs.Belief.{Belief, Shadow, fields_of}
use Rattle.shadow.specs.Meets.{FieldMeets, Meets}
use Rattle.shadow.specs.AfterReadBuffer.{known_chars}
use Rattle.shadow.specs.Stores.{Store, stores}
use Rattle.shadow.specs.Taken.{old_char, laid_out, new_cell, known_stored, marks_off_if, resets, known_ahead, fact_before, fact_after, belief_after, beliefs_from, known_after, after_write, taken_write, taken}
use Rattle.shadow.specs.Exactness.{IsExact, FieldIsExact, IsExactIfProtected, IsOverCharacter, WrittenStaysProtected}
use Rattle.shadow.proofs.Pairs.{pairwise-append, pairwise_weaken, drop_tail}
use Rattle.shadow.proofs.LaidOut.{CellFits, laid_out_fits, bare_fits}
use Rattle.shadow.proofs.Behind.{behind}
use Rattle.shadow.proofs.ExactTaken.{write_has}
use Rattle.shadow.proofs.ExactPainted.{OldIs, Shaped, all_shaped, WasKnown, off_known, field_put}

abbrev pub IsKnown : Option ℕ → Type 0
IsKnown None = ⊥
IsKnown (Some c) = ⊤

-- what was known of a cell, and what is now: the same, or a character in place of one
abbrev pub Follows : Known → Known → Type 0
Follows (KnownAttr k m) (KnownAttr b n) = k ≡ b
Follows (KnownAttr k m) (KnownChar slot fresh) = ⊥
Follows (KnownChar slot fresh) (KnownAttr b n) = ⊥
Follows (KnownChar slot fresh) (KnownChar t g) = (g ≡ false → KnownChar slot fresh ≡ KnownChar t g) × (IsKnown slot → IsKnown t)

pub follows_itself : (known : List Known) → Pairwise Follows known known
follows_itself [] = tt
follows_itself (KnownAttr k m ∷ known) = (refl, follows_itself known)
follows_itself (KnownChar slot fresh ∷ known) = ((λ e. refl, λ h. h), follows_itself known)

-- one character is stored over another
char_over : (c at : ℕ) (olds news : List Known) (cells : List Cell) → Pairwise Follows olds news → Pairwise Shaped olds cells → is_char_at cells at ≡ true → Pairwise Follows olds (set news at (new_cell (Char c)))
char_over c at [] [] cells h shape over = tt
char_over c at [] (new ∷ news) cells h shape over = absurd h
char_over c at (old ∷ olds) [] cells h shape over = absurd h
char_over c at (old ∷ olds) (new ∷ news) [] h shape over = absurd shape
char_over c zero (KnownChar slot fresh ∷ olds) (new ∷ news) (x ∷ cells) h shape over = ((λ e. absurd (cc), λ k. tt), h.1)
char_over c zero (KnownAttr k m ∷ olds) (new ∷ news) (Char d ∷ cells) h shape over = absurd shape.0
char_over c zero (KnownAttr k m ∷ olds) (new ∷ news) (Attr a ∷ cells) h shape over = absurd (cc)
char_over c (suc at) (old ∷ olds) (new ∷ news) (x ∷ cells) h shape over = (h.0, char_over c at olds news cells h.1 shape.1 over)

cell_over : (cell : Cell) (at : ℕ) (olds news : List Known) (cells : List Cell) → Pairwise Follows olds news → Pairwise Shaped olds cells → is_char cell ≡ true → is_char_at cells at ≡ true → Pairwise Follows olds (set news at (new_cell cell))
cell_over (Char c) at olds news cells h shape e over = char_over c at olds news cells h shape over
cell_over (Attr a) at olds news cells h shape e over = absurd (cc)

pub all_over : (more : List Store) (olds news : List Known) (cells : List Cell) → All (IsOverCharacter cells) more → Pairwise Follows olds news → Pairwise Shaped olds cells → Pairwise Follows olds (known_stored more news)
all_over [] olds news cells over h shape = h
all_over (store ∷ more) olds news cells over h shape =
    let here : IsOverCharacter cells store = All-head (IsOverCharacter cells) store more over in
    all_over more olds (set news store.at (new_cell store.cell)) cells (All-tail (IsOverCharacter cells) store more over)
    (cell_over store.cell store.at olds news cells h shape here.0 here.1) shape

-- where all characters were known they are so now
pub ahead_known : (olds news : List Known) (text : List ℕ) → Pairwise Follows olds news → known_ahead olds ≡ map Some text → (now : List ℕ) × (known_ahead news ≡ map Some now)
ahead_known [] [] text h e = ([], refl)
ahead_known [] (new ∷ news) text h e = absurd h
ahead_known (old ∷ olds) [] text h e = absurd h
ahead_known (KnownAttr k m ∷ olds) (KnownAttr b n ∷ news) text h e = ([], refl)
ahead_known (KnownAttr k m ∷ olds) (KnownChar slot fresh ∷ news) text h e = absurd h.0
ahead_known (KnownChar slot fresh ∷ olds) (KnownAttr b n ∷ news) text h e = absurd h.0
ahead_known (KnownChar slot fresh ∷ olds) (KnownChar t g ∷ news) [] h e = absurd (cc)
ahead_known (KnownChar slot fresh ∷ olds) (KnownChar t g ∷ news) (c ∷ text) h e =
    let was : slot ≡ Some c = cc in
    let ih = ahead_known olds news text h.1 (cc) in
    cases t (h.0.1 (subst IsKnown (sym was) tt)) ih
  where
    cases : (t : Option ℕ) → IsKnown t → (now : List ℕ) × (known_ahead news ≡ map Some now) → (now : List ℕ) × (t ∷ known_ahead news ≡ map Some now)
    cases None k ih = absurd k
    cases (Some d) k ih = (d ∷ ih.0, ap (λ (ks : List (Option ℕ)). Some d ∷ ks) ih.1)

old_is : (old new : Known) → Follows old new → OldIs old new
old_is old (KnownAttr b n) h = tt
old_is (KnownAttr k m) (KnownChar t g) h = absurd h
old_is (KnownChar slot fresh) (KnownChar t g) h = h.0

-- the fields from an address on are the first that a search finds there
abbrev pub FoundFrom : ℕ → List Belief → List Belief → Type 0
FoundFrom n bs rest = (place len : ℕ) → n ≤ place → fact_before bs place len ≡ fact_before rest place len

pub found_past : (n : ℕ) (bs : List Belief) (b : Belief) (rest : List Belief) → b.place ≡ n → FoundFrom n bs (b ∷ rest) → FoundFrom (n + 1) bs rest
found_past n bs b rest is h place len later =
    h place len (omega arith)
    ∙ ap (λ (t : Bool). if t && nat_eq b.length len then Some b.fact else fact_before rest place len) (ne_eqb b.place place λ e. absurd (omega arith))

pub found_here : (n : ℕ) (bs : List Belief) (b : Belief) (rest : List Belief) → b.place ≡ n → FoundFrom n bs (b ∷ rest) → fact_before bs n b.length ≡ Some b.fact
found_here n bs b rest is h =
    h n b.length (omega arith)
    ∙ ap (λ (t : Bool). if t && nat_eq b.length b.length then Some b.fact else fact_before rest n b.length) (eq-eqb b.place n is)
    ∙ ap (λ (t : Bool). if t then Some b.fact else fact_before rest n b.length) (eq-eqb b.length b.length refl)

all_still : (bs : List Belief) (whole : List Cell) (olds news : List Known) → All FieldIsExact bs → WasKnown bs olds → Pairwise Follows olds news
    → (n : ℕ) (cells : List Cell) (rest : List Belief) (ro rn : List Known) → Pairwise FieldMeets rest (fields_from whole n cells) → All IsExactIfProtected rest → Pairwise Shaped ro cells → Pairwise Follows ro rn → ro ≡ drop n olds
    → FoundFrom n bs rest → All IsExactIfProtected (beliefs_from bs news n rn)
all_still bs whole olds news exact was f n cells rest ro [] meets protected shape h is found = All-nil IsExactIfProtected
all_still bs whole olds news exact was f n cells rest [] (new ∷ rn) meets protected shape h is found = absurd h
all_still bs whole olds news exact was f n [] rest (old ∷ ro) (new ∷ rn) meets protected shape h is found = absurd shape
all_still bs whole olds news exact was f n (Char c ∷ cells) rest (KnownAttr k m ∷ ro) (new ∷ rn) meets protected shape h is found = absurd shape.0
all_still bs whole olds news exact was f n (Attr a ∷ cells) rest (KnownChar slot fresh ∷ ro) (new ∷ rn) meets protected shape h is found = absurd shape.0
all_still bs whole olds news exact was f n (Char c ∷ cells) rest (KnownChar slot fresh ∷ ro) (KnownAttr b m ∷ rn) meets protected shape h is found = absurd h.0
all_still bs whole olds news exact was f n (Attr a ∷ cells) rest (KnownAttr k m ∷ ro) (KnownChar t g ∷ rn) meets protected shape h is found = absurd h.0
all_still bs whole olds news exact was f n (Char c ∷ cells) rest (KnownChar slot fresh ∷ ro) (KnownChar t g ∷ rn) meets protected shape h is found =
    all_still bs whole olds news exact was f (n + 1) cells rest ro rn meets protected shape.1 h.1 (drop_tail n (KnownChar slot fresh) ro olds is) (λ place len later. found place len (omega arith))
all_still bs whole olds news exact was f n (Attr a ∷ cells) [] (KnownAttr k m ∷ ro) (KnownAttr x y ∷ rn) meets protected shape h is found = absurd meets
all_still bs whole olds news exact was f n (Attr a ∷ cells) (b ∷ rest) (KnownAttr k m ∷ ro) (KnownAttr x y ∷ rn) meets protected shape h is found =
    All-cons IsExactIfProtected (belief_after bs n x y (rn ++ news)) (beliefs_from bs news (n + 1) rn) one
    (all_still bs whole olds news exact was f (n + 1) cells rest ro rn meets.1 (All-tail IsExactIfProtected b rest protected) shape.1 h.1 (drop_tail n (KnownAttr k m) ro olds is) (found_past n bs b rest (sym meets.0.same_place) found))
  where
    one : x.protected ≡ true → IsExact (fact_after bs n (rn ++ news))
    one p =
        let same : b.attr ≡ x = sym meets.0.same_attr ∙ shape.0 ∙ h.0 in
        let text = All-head IsExactIfProtected b rest protected (ap (λ (z : Attribute). z.protected) same ∙ p) in
        let at : fact_before bs n b.length ≡ Some b.fact = found_here n bs b rest (sym meets.0.same_place) found in
        let ring : known_ahead (ro ++ olds) ≡ known_ahead (drop (n + 1) olds ++ olds) = ap (λ (ks : List Known). known_ahead (ks ++ olds)) (drop_tail n (KnownAttr k m) ro olds is) in
        let known : known_ahead (ro ++ olds) ≡ map Some text.0 = ring ∙ was n b.length b.fact at ∙ ap (known_chars b.length) text.1 in
        let follows : Pairwise Follows (ro ++ olds) (rn ++ news) = pairwise-append Follows ro rn olds news h.1 f in
        let now = ahead_known (ro ++ olds) (rn ++ news) text.0 follows known in
        field_put bs n (rn ++ news) (ro ++ olds) now.0 exact now.1 (pairwise_weaken Follows OldIs old_is (ro ++ olds) (rn ++ news) follows)
        (λ len fact e. ring ∙ was n len fact e)

-- on a screen with these fields
write_over : (wcc : Option Wcc) (orders : List Order) (bs : List Belief) (laid : List Known) (s : Screen) → All (IsOverCharacter s.cells) (stores (length s.cells) 0 orders) → Pairwise CellFits laid s.cells → Pairwise FieldMeets bs (fields s.cells)
    → WasKnown bs laid → All FieldIsExact bs → All IsExactIfProtected bs → All IsExactIfProtected (fields_of (after_write (length s.cells) wcc orders bs laid))
write_over wcc orders bs laid s over fits meets was exact protected =
    let size : ℕ = length s.cells in
    let olds : List Known = marks_off_if (resets wcc) laid in
    let news : List Known = known_after size wcc orders laid in
    let shape : Pairwise Shaped olds s.cells = all_shaped (resets wcc) laid s.cells fits in
    let follows : Pairwise Follows olds news = all_over (stores size 0 orders) olds olds s.cells over (follows_itself olds) shape in
    write_has IsExactIfProtected size wcc orders bs laid
    (all_still bs s.cells olds news exact (off_known (resets wcc) bs laid was) follows 0 s.cells bs olds news meets protected shape follows refl (λ place len later. refl))

write_protected : (wcc : Option Wcc) (orders : List Order) (shadow : Shadow) (s : Screen) → All (IsOverCharacter s.cells) (stores (length s.cells) 0 orders) → Meets shadow s
    → All FieldIsExact (fields_of shadow) → All IsExactIfProtected (fields_of shadow) → All IsExactIfProtected (fields_of (taken_write (length s.cells) wcc orders shadow))
write_protected wcc orders Shadow.NothingKnown s over meets exact protected = All-nil IsExactIfProtected
write_protected wcc orders (Shadow.Unformatted known) s over meets exact protected =
    write_over wcc orders [] (map old_char known) s over (bare_fits s.cells 0 known s.cells meets.0 meets.1) (subst (Pairwise FieldMeets []) (sym meets.0) tt)
    (λ place len fact e. absurd (cc)) exact protected
write_protected wcc orders (Shadow.Formatted bs) s over meets exact protected =
    write_over wcc orders bs (laid_out (length s.cells) bs) s over (laid_out_fits (length s.cells) s.cells bs refl meets.1 meets.0) meets.1
    (behind (length s.cells) s.cells bs refl meets.1 meets.0) exact protected

pub written_protected : WrittenStaysProtected
written_protected command shadow s is over meets exact protected = cases command.code is
  where
    cases : (code : CommandCode) → code ≡ Write → All IsExactIfProtected (fields_of (taken (length s.cells) (record command { code = code }) shadow))
    cases Write e = write_protected command.wcc command.orders shadow s over meets exact protected
    cases EraseWrite e = absurd (cc)
    cases EraseWriteAlternate e = absurd (cc)
    cases ReadBuffer e = absurd (cc)
    cases ReadModified e = absurd (cc)
    cases ReadModifiedAll e = absurd (cc)
    cases EraseAllUnprotected e = absurd (cc)

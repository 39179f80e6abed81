-- Where characters are stored in no unprotected field, none that is ahead of an unprotected attribute was just stored.
use Rattle.std.proofs.Common.{◌≡◌, ℕ, zero, suc, ◌+◌, true, false, List, [], ◌∷◌, ◌++◌, map, flat_map, set, drop, take, Option, Some, None, refl, ap, sym, subst, arith, ◌∙◌, All}
use Rattle.std.specs.Prelude.{⊤, ◌-◌}
use Rattle.std.specs.Option.{option_or}
use Rattle.std.proofs.lemmas.List.{take-append-drop}
use Rattle.std.proofs.lemmas.List.Elements.{All-head, All-tail, All-nil, All-cons, All-append, All-drop, All-take}
use Rattle.codes3270.specs.declared.attribute.Attr.{Attr as Attribute}
use Rattle.codes3270.specs.declared.attribute.Cell.{Cell}
use Rattle.codes3270.specs.declared.attribute.Cell.TheVariants.{Char, Attr}
use Rattle.datastream.specs.Screen.{is_char, is_char_at, last_attribute}
use Rattle.datastream.proofs.Fields.{option_or_assoc, option_or-none, last_attribute-append}
use Rattle.shadow.specs.declared.known.Known.{Known}
use Rattle.shadow.specs.declared.known.Known.TheVariants.{Attr as KnownAttr, Char as KnownChar}
use Rattle.shadow.specs.Belief.{Belief}
use Rattle.shadow.specs.AfterReadBuffer.{known_chars}
use Rattle.shadow.specs.Notes.{IsOutsideInput, IsOverProtected}
use Rattle.shadow.specs.Pairs.{Pairwise}
use Rattle.shadow.specs.Stores.{Store}
use Rattle.shadow.specs.Taken.{old_char, field_cells, first_place, laid_out, new_cell, known_stored, fresh_ahead}
use Rattle.shadow.proofs.ExactPainted.{Shaped}

-- what was just stored lies in no unprotected field; `over`: the attribute that governs the first cell
abbrev pub Closed : Option Attribute → List Cell → List Known → Type 0
Closed over [] [] = ⊤
Closed over [] (k ∷ known) = ⊥
Closed over (x ∷ cells) [] = ⊥
Closed over (Attr a ∷ cells) (KnownAttr b m ∷ known) = Closed (Some a) cells known
Closed over (Attr a ∷ cells) (KnownChar slot fresh ∷ known) = ⊥
Closed over (Char c ∷ cells) (KnownAttr b m ∷ known) = ⊥
Closed over (Char c ∷ cells) (KnownChar slot fresh ∷ known) = (fresh ≡ true → IsOutsideInput over) × Closed over cells known

pub closed-append : (over : Option Attribute) (xs ys : List Cell) (ss ts : List Known) → Closed over xs ss → Closed (option_or (last_attribute xs) over) ys ts → Closed over (xs ++ ys) (ss ++ ts)
closed-append over [] ys [] ts h k = k
closed-append over [] ys (s ∷ ss) ts h k = absurd h
closed-append over (x ∷ xs) ys [] ts h k = absurd h
closed-append over (Attr a ∷ xs) ys (KnownAttr b m ∷ ss) ts h k =
    closed-append (Some a) xs ys ss ts h (subst (λ (o : Option Attribute). Closed o ys ts) (option_or_assoc (last_attribute xs) (Some a) over) k)
closed-append over (Attr a ∷ xs) ys (KnownChar slot fresh ∷ ss) ts h k = absurd h
closed-append over (Char c ∷ xs) ys (KnownAttr b m ∷ ss) ts h k = absurd h
closed-append over (Char c ∷ xs) ys (KnownChar slot fresh ∷ ss) ts h k =
    (h.0, closed-append over xs ys ss ts h.1 (subst (λ (o : Option Attribute). Closed o ys ts) (option_or_assoc (last_attribute xs) None over) k))

pub not_fresh : (over : Option Attribute) → (IsOutsideInput over → ⊥) → (cells : List Cell) (known : List Known) → Closed over cells known → fresh_ahead known ≡ false
not_fresh over inside [] [] h = refl
not_fresh over inside [] (k ∷ known) h = absurd h
not_fresh over inside (x ∷ cells) [] h = absurd h
not_fresh over inside (Attr a ∷ cells) (KnownAttr b m ∷ known) h = refl
not_fresh over inside (Attr a ∷ cells) (KnownChar slot fresh ∷ known) h = absurd h
not_fresh over inside (Char c ∷ cells) (KnownAttr b m ∷ known) h = absurd h
not_fresh over inside (Char c ∷ cells) (KnownChar slot true ∷ known) h = absurd (inside (h.0 refl))
not_fresh over inside (Char c ∷ cells) (KnownChar slot false ∷ known) h = not_fresh over inside cells known h.1

-- ---- what was believed was stored before

abbrev pub IsStale : Known → Type 0
IsStale (KnownAttr a m) = ⊤
IsStale (KnownChar slot fresh) = fresh ≡ false

pub stale_chars : (known : List (Option ℕ)) → All IsStale (map old_char known)
stale_chars [] = All-nil IsStale
stale_chars (k ∷ known) = All-cons IsStale (old_char k) (map old_char known) refl (stale_chars known)

stale_fields : (bs : List Belief) → All IsStale (flat_map field_cells bs)
stale_fields [] = All-nil IsStale
stale_fields (b ∷ bs) =
    All-append IsStale (field_cells b) (flat_map field_cells bs)
    (All-cons IsStale (KnownAttr b.attr b.mdt) (map old_char (known_chars b.length b.fact)) tt (stale_chars (known_chars b.length b.fact)))
    (stale_fields bs)

pub stale_laid : (size : ℕ) (bs : List Belief) → All IsStale (laid_out size bs)
stale_laid size bs =
    let flat : List Known = flat_map field_cells bs in
    let n : ℕ = size - first_place bs in
    All-append IsStale (drop n flat) (take n flat) (All-drop IsStale n flat (stale_fields bs)) (All-take IsStale n flat (stale_fields bs))

pub closed_stale : (over : Option Attribute) (cells : List Cell) (known : List Known) → All IsStale known → Pairwise Shaped known cells → Closed over cells known
closed_stale over [] [] stale shape = tt
closed_stale over [] (k ∷ known) stale shape = absurd shape
closed_stale over (x ∷ cells) [] stale shape = absurd shape
closed_stale over (Attr a ∷ cells) (KnownAttr b m ∷ known) stale shape = closed_stale (Some a) cells known (All-tail IsStale (KnownAttr b m) known stale) shape.1
closed_stale over (Attr a ∷ cells) (KnownChar slot fresh ∷ known) stale shape = absurd shape.0
closed_stale over (Char c ∷ cells) (KnownAttr b m ∷ known) stale shape = absurd shape.0
closed_stale over (Char c ∷ cells) (KnownChar slot fresh ∷ known) stale shape =
    let is : fresh ≡ false = All-head IsStale (KnownChar slot fresh) known stale in
    ((λ e. absurd (cc)), closed_stale over cells known (All-tail IsStale (KnownChar slot fresh) known stale) shape.1)

-- ---- what is stored

char_closed : (c at : ℕ) (over : Option Attribute) (cells : List Cell) (known : List Known) → Closed over cells known → is_char_at cells at ≡ true → IsOutsideInput (option_or (last_attribute (take (suc at) cells)) over)
    → Closed over cells (set known at (new_cell (Char c)))
char_closed c at over [] [] h there outside = tt
char_closed c at over [] (k ∷ known) h there outside = absurd h
char_closed c at over (x ∷ cells) [] h there outside = absurd h
char_closed c zero over (Attr a ∷ cells) (k ∷ known) h there outside = absurd (cc)
char_closed c zero over (Char d ∷ cells) (KnownAttr b m ∷ known) h there outside = absurd h
char_closed c zero over (Char d ∷ cells) (KnownChar slot fresh ∷ known) h there outside = ((λ e. outside), h.1)
char_closed c (suc at) over (Attr a ∷ cells) (KnownAttr b m ∷ known) h there outside =
    char_closed c at (Some a) cells known h there (subst IsOutsideInput (option_or_assoc (last_attribute (take (suc at) cells)) (Some a) over) outside)
char_closed c (suc at) over (Attr a ∷ cells) (KnownChar slot fresh ∷ known) h there outside = absurd h
char_closed c (suc at) over (Char d ∷ cells) (KnownAttr b m ∷ known) h there outside = absurd h
char_closed c (suc at) over (Char d ∷ cells) (KnownChar slot fresh ∷ known) h there outside =
    (h.0, char_closed c at over cells known h.1 there (subst IsOutsideInput (option_or_assoc (last_attribute (take (suc at) cells)) None over) outside))

cell_closed : (cell : Cell) (at : ℕ) (over : Option Attribute) (cells : List Cell) (known : List Known) → Closed over cells known → is_char cell ≡ true → is_char_at cells at ≡ true → IsOutsideInput (option_or (last_attribute (take (suc at) cells)) over)
    → Closed over cells (set known at (new_cell cell))
cell_closed (Char c) at over cells known h e there outside = char_closed c at over cells known h there outside
cell_closed (Attr a) at over cells known h e there outside = absurd (cc)

-- the attribute over a cell, seen from address 0
turned : (t d : Option Attribute) → option_or t (option_or d t) ≡ option_or t d
turned None d = option_or-none d
turned (Some a) d = refl

over_is : (cells : List Cell) (n : ℕ) → option_or (last_attribute (take n cells)) (last_attribute cells) ≡ last_attribute (drop n cells ++ take n cells)
over_is cells n =
    let front : Option Attribute = last_attribute (take n cells) in
    let back : Option Attribute = last_attribute (drop n cells) in
    let all : last_attribute cells ≡ option_or back front = ap last_attribute (sym (take-append-drop n cells)) ∙ last_attribute-append (take n cells) (drop n cells) in
    ap (option_or front) all ∙ turned front back ∙ sym (last_attribute-append (drop n cells) (take n cells))

pub closed_stores : (more : List Store) (cells : List Cell) (known : List Known) → All (IsOverProtected cells) more → Closed (last_attribute cells) cells known → Closed (last_attribute cells) cells (known_stored more known)
closed_stores [] cells known over h = h
closed_stores (store ∷ more) cells known over h =
    let here : IsOverProtected cells store = All-head (IsOverProtected cells) store more over in
    let next : store.at + 1 ≡ suc store.at = omega arith in
    let outside : IsOutsideInput (option_or (last_attribute (take (suc store.at) cells)) (last_attribute cells)) =
    subst IsOutsideInput (sym (ap (λ (n : ℕ). option_or (last_attribute (take n cells)) (last_attribute cells)) (sym next) ∙ over_is cells (store.at + 1))) here.1 in
    closed_stores more cells (set known store.at (new_cell store.cell)) (All-tail (IsOverProtected cells) store more over)
    (cell_closed store.cell store.at (last_attribute cells) cells known h here.0.0 here.0.1 outside)

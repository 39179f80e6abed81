-- What keys keep, by place and by a walk; and what several keys keep one after another.
use Rattle.std.proofs.Common.{◌≡◌, ℕ, ◌+◌, ◌<◌, ◌||◌, Bool, true, false, cond, List, [], ◌∷◌, length, take, drop, get_or, Option, Some, None, arith, sym, ◌∙◌, ap, refl, suc, zero, subst}
use Rattle.std.specs.Prelude.{⊤}
use Rattle.std.proofs.lemmas.List.{length-map, take-append-drop, ext_get_or, get_or-map}
use Rattle.std.specs.Option.{option_or}
use Rattle.codes3270.specs.declared.attribute.Cell.{Cell}
use Rattle.codes3270.specs.declared.attribute.Cell.TheVariants.{Char, Attr}
use Rattle.codes3270.specs.declared.attribute.Attr.{Attr as Attribute}
use Rattle.datastream.specs.Screen.{attribute_in, last_attribute, attribute_over, protects, is_protected}
use Rattle.datastream.specs.Span.{is_within}
use Rattle.datastream.specs.Meaning.{erased, opened, open_unmodified}
use Rattle.datastream.specs.KeptByKeys.{Hold, hold_of, hold_under, CharHeld, AttrHeld, CellHeld, KeptByKeys, erased_input}
use Rattle.datastream.specs.HeldRound.{HeldFrom, HeldRound, erased_from, erased_round}
use Rattle.datastream.proofs.Fields.{last_attribute-append, option_or-none, option_or_assoc}
use Rattle.datastream.proofs.Places.{length-across, get_or-across}
use Rattle.datastream.proofs.Rounds.{is_within_all}

-- ---- from what holds at each place to a walk

-- the attribute over a cell, in a walk: the last one up to it, else the one before the first cell
abbrev walked : Option Attribute → List Cell → ℕ → Option Attribute
walked before cells place = option_or (last_attribute (take (place + 1) cells)) before

walked_past : (before : Option Attribute) (cell : Cell) (cells : List Cell) (place : ℕ) → walked before (cell ∷ cells) (suc place) ≡ walked (option_or (attribute_in cell) before) cells place
walked_past before cell cells place =
    let onward : suc place + 1 ≡ suc (place + 1) = omega arith in
    rw onward (option_or_assoc (last_attribute (take (place + 1) cells)) (attribute_in cell) before)

over_is_walked : (cells : List Cell) (place : ℕ) → attribute_over cells place ≡ walked (last_attribute cells) cells place
over_is_walked cells place =
    let front : Option Attribute = last_attribute (take (place + 1) cells) in
    let back : Option Attribute = last_attribute (drop (place + 1) cells) in
    let whole : last_attribute cells ≡ option_or back front =
    sym (ap last_attribute (take-append-drop (place + 1) cells)) ∙ last_attribute-append (take (place + 1) cells) (drop (place + 1) cells) in
    last_attribute-append (drop (place + 1) cells) (take (place + 1) cells) ∙ sym (ap (λ (o : Option Attribute). option_or front o) whole ∙ around front back)
  where
    around : (f b : Option Attribute) → option_or f (option_or b f) ≡ option_or f b
    around None b = option_or-none b
    around (Some x) b = refl

held_from : (erases : Bool) (before : Option Attribute) (lefts nows : List Cell) → length nows ≡ length lefts → ((place : ℕ) → place < length nows → CellHeld erases (walked before nows place) (get_or lefts place (Char 0)) (get_or nows place (Char 0))) → HeldFrom erases (hold_under erases before) lefts nows
held_from erases before [] [] same each = tt
held_from erases before [] (now ∷ nows) same each = absurd (omega arith)
held_from erases before (left ∷ lefts) [] same each = absurd (omega arith)
held_from erases before (Char left ∷ lefts) (Char now ∷ nows) same each = (
  each 0 (omega arith),
  held_from erases before lefts nows (omega arith)
      (λ place below. subst (λ (o : Option Attribute). CellHeld erases o (get_or lefts place (Char 0)) (get_or nows place (Char 0))) (walked_past before (Char now) nows place) (each (suc place) (omega arith))),
)
held_from erases before (Char left ∷ lefts) (Attr now ∷ nows) same each = each 0 (omega arith)
held_from erases before (Attr left ∷ lefts) (Char now ∷ nows) same each = each 0 (omega arith)
held_from erases before (Attr left ∷ lefts) (Attr now ∷ nows) same each = (
  each 0 (omega arith),
  held_from erases (Some now) lefts nows (omega arith)
      (λ place below. subst (λ (o : Option Attribute). CellHeld erases o (get_or lefts place (Char 0)) (get_or nows place (Char 0))) (walked_past before (Attr now) nows place) (each (suc place) (omega arith))),
)

pub held_round : (erases : Bool) (lefts nows : List Cell) → KeptByKeys erases lefts nows → HeldRound erases lefts nows
held_round erases lefts nows held =
    held_from erases (last_attribute nows) lefts nows held.same_length
    (λ place below. subst (λ (o : Option Attribute). CellHeld erases o (get_or lefts place (Char 0)) (get_or nows place (Char 0))) (over_is_walked nows place) (held.each place below))

-- ---- and back

held_length : (erases : Bool) (hold : Hold) (lefts nows : List Cell) → HeldFrom erases hold lefts nows → length nows ≡ length lefts
held_length erases hold [] [] held = refl
held_length erases hold [] (now ∷ nows) held = absurd held
held_length erases hold (left ∷ lefts) [] held = absurd held
held_length erases hold (Char left ∷ lefts) (Char now ∷ nows) held = ap (λ n. suc n) (held_length erases hold lefts nows held.1)
held_length erases hold (Char left ∷ lefts) (Attr now ∷ nows) held = absurd held
held_length erases hold (Attr left ∷ lefts) (Char now ∷ nows) held = absurd held
held_length erases hold (Attr left ∷ lefts) (Attr now ∷ nows) held = ap (λ n. suc n) (held_length erases (hold_of erases now) lefts nows held.1)

held_at : (erases : Bool) (before : Option Attribute) (lefts nows : List Cell) (place : ℕ) → HeldFrom erases (hold_under erases before) lefts nows → place < length nows → CellHeld erases (walked before nows place) (get_or lefts place (Char 0)) (get_or nows place (Char 0))
held_at erases before [] [] place held below = absurd (omega arith)
held_at erases before [] (now ∷ nows) place held below = absurd held
held_at erases before (left ∷ lefts) [] place held below = absurd held
held_at erases before (Char left ∷ lefts) (Attr now ∷ nows) place held below = absurd held
held_at erases before (Attr left ∷ lefts) (Char now ∷ nows) place held below = absurd held
held_at erases before (Char left ∷ lefts) (Char now ∷ nows) zero held below = held.0
held_at erases before (Attr left ∷ lefts) (Attr now ∷ nows) zero held below = held.0
held_at erases before (Char left ∷ lefts) (Char now ∷ nows) (suc place) held below =
    subst (λ (o : Option Attribute). CellHeld erases o (get_or lefts place (Char 0)) (get_or nows place (Char 0))) (sym (walked_past before (Char now) nows place)) (held_at erases before lefts nows place held.1 (omega arith))
held_at erases before (Attr left ∷ lefts) (Attr now ∷ nows) (suc place) held below =
    subst (λ (o : Option Attribute). CellHeld erases o (get_or lefts place (Char 0)) (get_or nows place (Char 0))) (sym (walked_past before (Attr now) nows place)) (held_at erases (Some now) lefts nows place held.1 (omega arith))

pub round_held : (erases : Bool) (lefts nows : List Cell) → HeldRound erases lefts nows → KeptByKeys erases lefts nows
round_held erases lefts nows held = record {
  same_length = held_length erases (hold_under erases (last_attribute nows)) lefts nows held;
  each = λ place below. subst (λ (o : Option Attribute). CellHeld erases o (get_or lefts place (Char 0)) (get_or nows place (Char 0))) (sym (over_is_walked nows place)) (held_at erases (last_attribute nows) lefts nows place held below);
}

-- ---- Erase Input

-- what Erase Input does to a cell
abbrev erased_cell : Bool → Cell → Cell
erased_cell protected cell = open_unmodified (cond protected cell (erased cell))

length-erased_from : (protected : Bool) (cells : List Cell) → length (erased_from protected cells) ≡ length cells
length-erased_from protected [] = refl
length-erased_from protected (Char byte ∷ cells) = ap (λ n. suc n) (length-erased_from protected cells)
length-erased_from protected (Attr attribute ∷ cells) = ap (λ n. suc n) (length-erased_from attribute.protected cells)

erased_char : (protected : Bool) (byte : ℕ) → Char (cond protected byte 0) ≡ erased_cell protected (Char byte)
erased_char true byte = refl
erased_char false byte = refl

attribute_erased : (attribute : Attribute) → Attr (record attribute { mdt = cond attribute.protected attribute.mdt false }) ≡ open_unmodified (Attr attribute)
attribute_erased attribute = by_kind attribute.protected refl
  where
    by_kind : (p : Bool) → attribute.protected ≡ p → Attr (record attribute { mdt = cond attribute.protected attribute.mdt false }) ≡ open_unmodified (Attr attribute)
    by_kind true e = rw e
    by_kind false e = rw e

erased_attribute : (protected : Bool) (attribute : Attribute) → Attr (record attribute { mdt = cond attribute.protected attribute.mdt false }) ≡ erased_cell protected (Attr attribute)
erased_attribute true attribute = attribute_erased attribute
erased_attribute false attribute = attribute_erased attribute

get_or-erased_from : (before : Option Attribute) (cells : List Cell) (place : ℕ) → place < length cells → get_or (erased_from (protects before) cells) place (Char 0) ≡ erased_cell (protects (walked before cells place)) (get_or cells place (Char 0))
get_or-erased_from before [] place below = absurd (omega arith)
get_or-erased_from before (Char byte ∷ cells) zero below = erased_char (protects before) byte
get_or-erased_from before (Attr attribute ∷ cells) zero below = erased_attribute attribute.protected attribute
get_or-erased_from before (Char byte ∷ cells) (suc place) below =
    rw (walked_past before (Char byte) cells place) (get_or-erased_from before cells place (omega arith))
get_or-erased_from before (Attr attribute ∷ cells) (suc place) below =
    rw (walked_past before (Attr attribute) cells place) (get_or-erased_from (Some attribute) cells place (omega arith))

pub erased_input_round : (cells : List Cell) → erased_input cells ≡ erased_round cells
erased_input_round cells =
    let size : ℕ = length cells in
    let rule : ℕ → Cell → Cell = λ at old. cond (is_protected cells at) old (erased old) in
    let long : length (opened 0 size cells) ≡ size = length-across 0 size rule cells in
    ext_get_or (Char 0) (erased_input cells) (erased_round cells)
    (length-map (opened 0 size cells) open_unmodified ∙ long ∙ sym (length-erased_from (protects (last_attribute cells)) cells))
    (λ place below.
    let inside : place < size = omega (arith, length-map (opened 0 size cells) open_unmodified) in
    let positive : 0 < size = omega arith in
    let within : is_within size 0 size place ≡ true = is_within_all size 0 place positive in
    let one : get_or (opened 0 size cells) place (Char 0) ≡ cond (is_protected cells place) (get_or cells place (Char 0)) (erased (get_or cells place (Char 0))) =
    rw within at (get_or-across 0 size rule cells place (Char 0) inside) in
    get_or-map open_unmodified (opened 0 size cells) place (Char 0) (Char 0) (omega arith)
    ∙ ap open_unmodified one
    ∙ ap (λ (o : Option Attribute). erased_cell (protects o) (get_or cells place (Char 0))) (over_is_walked cells place)
    ∙ sym (get_or-erased_from (last_attribute cells) cells place inside))

-- the attribute that Erase Input leaves
abbrev attribute_left : Attribute → Attribute
attribute_left attribute = record attribute { mdt = cond attribute.protected attribute.mdt false }

abbrev left_of : Option Attribute → Option Attribute
left_of None = None
left_of (Some attribute) = Some (attribute_left attribute)

last_left : (protected : Bool) (cells : List Cell) → last_attribute (erased_from protected cells) ≡ left_of (last_attribute cells)
last_left protected [] = refl
last_left protected (Char byte ∷ cells) =
    option_or-none (last_attribute (erased_from protected cells)) ∙ last_left protected cells ∙ ap left_of (sym (option_or-none (last_attribute cells)))
last_left protected (Attr attribute ∷ cells) =
    ap (λ (o : Option Attribute). option_or o (Some (attribute_left attribute))) (last_left attribute.protected cells) ∙ either (last_attribute cells)
  where
    either : (last : Option Attribute) → option_or (left_of last) (Some (attribute_left attribute)) ≡ left_of (option_or last (Some attribute))
    either None = refl
    either (Some other) = refl

char_erased : (before : Option Attribute) (byte : ℕ) → CharHeld (hold_under true (left_of before)) byte (cond (protects before) byte 0)
char_erased None byte = tt
char_erased (Some attribute) byte = by_bits attribute.protected attribute.mdt
  where
    by_bits : (p m : Bool) → CharHeld (cond p Hold.Same (cond (cond p m false) Hold.Free Hold.Null)) byte (cond p byte 0)
    by_bits true m = refl
    by_bits false m = refl

erased_held : (before : Option Attribute) (cells : List Cell) → HeldFrom true (hold_under true (left_of before)) cells (erased_from (protects before) cells)
erased_held before [] = tt
erased_held before (Char byte ∷ cells) = (char_erased before byte, erased_held before cells)
erased_held before (Attr attribute ∷ cells) = (
  (refl, λ p. rw p refl, λ p off none. absurd (cc)),
  erased_held (Some attribute) cells,
)

pub erase_input_holds : (cells : List Cell) → KeptByKeys true cells (erased_input cells)
erase_input_holds cells =
    rw (erased_input_round cells)
    (round_held true cells (erased_round cells)
    (rw (last_left (protects (last_attribute cells)) cells) (erased_held (last_attribute cells) cells)))

-- ---- nothing done

char_stays : (before : Option Attribute) (byte : ℕ) → CharHeld (hold_under false before) byte byte
char_stays None byte = tt
char_stays (Some attribute) byte = by_bits attribute.protected attribute.mdt
  where
    by_bits : (p m : Bool) → CharHeld (cond p Hold.Same (cond m Hold.Free Hold.Same)) byte byte
    by_bits true m = refl
    by_bits false true = tt
    by_bits false false = refl

all_stay : (before : Option Attribute) (cells : List Cell) → HeldFrom false (hold_under false before) cells cells
all_stay before [] = tt
all_stay before (Char byte ∷ cells) = (char_stays before byte, all_stay before cells)
all_stay before (Attr attribute ∷ cells) = ((refl, λ p. refl, λ p off none. off), all_stay (Some attribute) cells)

pub held_at_first : (cells : List Cell) → KeptByKeys false cells cells
held_at_first cells = round_held false cells cells (all_stay (last_attribute cells) cells)

-- ---- one after another

neither : (x y : Bool) → (x || y) ≡ false → (x ≡ false) × (y ≡ false)
neither true y e = cc
neither false y e = (refl, e)

-- what a later walk keeps of the field that an earlier one was in
abbrev Follows : Bool → Option Attribute → Option Attribute → Type 0
Follows more None None = ⊤
Follows more None (Some now) = ⊥
Follows more (Some mid) None = ⊥
Follows more (Some mid) (Some now) = AttrHeld more mid now

abbrev hold_by : Bool → Bool → Bool → Hold
hold_by erases protected mdt = cond protected Hold.Same (cond mdt Hold.Free (cond erases Hold.Null Hold.Same))

chars_by_bits : (erases more p m q n : Bool) → q ≡ p → (q ≡ false → n ≡ false → more ≡ false → m ≡ false) → (left mid now : ℕ) → CharHeld (hold_by erases p m) left mid → CharHeld (hold_by more q n) mid now → CharHeld (hold_by (erases || more) q n) left now
chars_by_bits erases more true m true n same off left mid now first second = second ∙ first
chars_by_bits erases more true m false n same off left mid now first second = cc
chars_by_bits erases more false m true n same off left mid now first second = cc
chars_by_bits erases more false m false true same off left mid now first second = tt
chars_by_bits true true false m false false same off left mid now first second = second
chars_by_bits false true false m false false same off left mid now first second = second
chars_by_bits erases false false true false false same off left mid now first second = let wrong : true ≡ false = off refl refl refl in cc
chars_by_bits true false false false false false same off left mid now first second = second ∙ first
chars_by_bits false false false false false false same off left mid now first second = second ∙ first

chars_follow : (erases more : Bool) (mid now : Option Attribute) → Follows more mid now → (x y z : ℕ) → CharHeld (hold_under erases mid) x y → CharHeld (hold_under more now) y z → CharHeld (hold_under (erases || more) now) x z
chars_follow erases more None None follows x y z first second = tt
chars_follow erases more None (Some now) follows x y z first second = absurd follows
chars_follow erases more (Some mid) None follows x y z first second = absurd follows
chars_follow erases more (Some mid) (Some now) follows x y z first second =
    chars_by_bits erases more mid.protected mid.mdt now.protected now.mdt (ap (λ (a : Attribute). a.protected) follows.0) follows.2 x y z first second

attributes_follow : (erases more : Bool) (left mid now : Attribute) → AttrHeld erases left mid → AttrHeld more mid now → AttrHeld (erases || more) left now
attributes_follow erases more left mid now first second =
    let same : now.protected ≡ mid.protected = ap (λ (a : Attribute). a.protected) second.0 in (
      second.0 ∙ first.0,
      λ p. second.1 p ∙ first.1 (sym same ∙ p),
      λ p off none. first.2 (sym same ∙ p) (second.2 p off (neither erases more none).1) (neither erases more none).0,
    )

walks_follow : (erases more : Bool) (mid now : Option Attribute) (lefts mids nows : List Cell) → Follows more mid now → HeldFrom erases (hold_under erases mid) lefts mids → HeldFrom more (hold_under more now) mids nows → HeldFrom (erases || more) (hold_under (erases || more) now) lefts nows
walks_follow erases more mid now [] [] [] follows first second = tt
walks_follow erases more mid now [] [] (z ∷ nows) follows first second = absurd second
walks_follow erases more mid now [] (y ∷ mids) nows follows first second = absurd first
walks_follow erases more mid now (x ∷ lefts) [] nows follows first second = absurd first
walks_follow erases more mid now (Char x ∷ lefts) (Attr y ∷ mids) nows follows first second = absurd first
walks_follow erases more mid now (Attr x ∷ lefts) (Char y ∷ mids) nows follows first second = absurd first
walks_follow erases more mid now (Char x ∷ lefts) (Char y ∷ mids) [] follows first second = absurd second
walks_follow erases more mid now (Attr x ∷ lefts) (Attr y ∷ mids) [] follows first second = absurd second
walks_follow erases more mid now (Char x ∷ lefts) (Char y ∷ mids) (Attr z ∷ nows) follows first second = absurd second
walks_follow erases more mid now (Attr x ∷ lefts) (Attr y ∷ mids) (Char z ∷ nows) follows first second = absurd second
walks_follow erases more mid now (Char x ∷ lefts) (Char y ∷ mids) (Char z ∷ nows) follows first second =
    (chars_follow erases more mid now follows x y z first.0 second.0, walks_follow erases more mid now lefts mids nows follows first.1 second.1)
walks_follow erases more mid now (Attr x ∷ lefts) (Attr y ∷ mids) (Attr z ∷ nows) follows first second =
    (attributes_follow erases more x y z first.0 second.0, walks_follow erases more (Some y) (Some z) lefts mids nows second.0 first.1 second.1)

last_follows : (more : Bool) (hold : Hold) (mids nows : List Cell) → HeldFrom more hold mids nows → Follows more (last_attribute mids) (last_attribute nows)
last_follows more hold [] [] held = tt
last_follows more hold [] (z ∷ nows) held = absurd held
last_follows more hold (y ∷ mids) [] held = absurd held
last_follows more hold (Char y ∷ mids) (Attr z ∷ nows) held = absurd held
last_follows more hold (Attr y ∷ mids) (Char z ∷ nows) held = absurd held
last_follows more hold (Char y ∷ mids) (Char z ∷ nows) held =
    rw (option_or-none (last_attribute mids), option_or-none (last_attribute nows)) (last_follows more hold mids nows held.1)
last_follows more hold (Attr y ∷ mids) (Attr z ∷ nows) held =
    either (last_attribute mids) (last_attribute nows) (last_follows more (hold_of more z) mids nows held.1)
  where
    either : (mid now : Option Attribute) → Follows more mid now → Follows more (option_or mid (Some y)) (option_or now (Some z))
    either None None follows = held.0
    either None (Some now) follows = absurd follows
    either (Some mid) None follows = absurd follows
    either (Some mid) (Some now) follows = follows

pub held_composes : (erases more : Bool) (lefts mids nows : List Cell) → KeptByKeys erases lefts mids → KeptByKeys more mids nows → KeptByKeys (erases || more) lefts nows
held_composes erases more lefts mids nows first second =
    let later : HeldRound more mids nows = held_round more mids nows second in
    round_held (erases || more) lefts nows
    (walks_follow erases more (last_attribute mids) (last_attribute nows) lefts mids nows
    (last_follows more (hold_under more (last_attribute nows)) mids nows later)
    (held_round erases lefts mids first) later)

-- Which attribute governs a cell.
use Rattle.std.proofs.Common.{◌≡◌, ℕ, ◌+◌, ◌-◌, ◌%◌, ◌<◌, List, [], ◌∷◌, ◌++◌, length, get_or, take, drop, Option, Some, None, arith, sym, ◌∙◌, ap, refl, inl, inr, suc, zero, true, false}
use Rattle.std.proofs.Math.Nat.{mod-eq_of_lt, mod_self, mod-lt}
use Rattle.std.proofs.lemmas.List.{take_more, drop_more, take_all, drop_all, append-nil}
use Rattle.std.proofs.lemmas.Bool.{cases_eq}
use Rattle.std.specs.Option.{option_or}
use Rattle.codes3270.specs.declared.attribute.Cell.{Cell}
use Rattle.codes3270.specs.declared.attribute.Cell.TheVariants.{Char, Attr}
use Rattle.codes3270.specs.declared.attribute.Attr.{Attr as Attribute}
use Rattle.datastream.specs.Screen.{attribute_in, last_attribute, attribute_over, ring, is_char, is_char_at, IsGoverned}
use Rattle.std.specs.List.{list_all}
use Rattle.datastream.proofs.Rounds.{round_once, back_to}

pub option_or_assoc : (a b c : Option Attribute) → option_or (option_or a b) c ≡ option_or a (option_or b c)
option_or_assoc None b c = refl
option_or_assoc (Some x) b c = refl

pub option_or-none : (a : Option Attribute) → option_or a None ≡ a
option_or-none None = refl
option_or-none (Some x) = refl

-- the later list has the last attribute, if it has any
pub last_attribute-append : (xs ys : List Cell) → last_attribute (xs ++ ys) ≡ option_or (last_attribute ys) (last_attribute xs)
last_attribute-append [] ys = sym (option_or-none (last_attribute ys))
last_attribute-append (x ∷ xs) ys =
    rw (last_attribute-append xs ys) (option_or_assoc (last_attribute ys) (last_attribute xs) (attribute_in x))

-- one cell more at the end
pub last_attribute_more : (cells : List Cell) (place : ℕ) (d : Cell) → place < length cells → last_attribute (take (place + 1) cells) ≡ option_or (attribute_in (get_or cells place d)) (last_attribute (take place cells))
last_attribute_more cells place d below =
    rw (take_more cells place d below) (last_attribute-append (take place cells) (get_or cells place d ∷ []))

pub around : (here front back : Option Attribute) → option_or (option_or here front) back ≡ option_or here (option_or front (option_or back here))
around None front back = rw (option_or-none back)
around (Some x) front back = refl

-- a cell that holds an attribute is governed by it, another by the last attribute before it, round the ring
pub attribute_over_is : (cells : List Cell) (place : ℕ) (d : Cell) → place < length cells → attribute_over cells place ≡ option_or (attribute_in (get_or cells place d)) (last_attribute (ring place cells))
attribute_over_is cells place d below =
    let here : Option Attribute = attribute_in (get_or cells place d) in
    let front : Option Attribute = last_attribute (take place cells) in
    let back : Option Attribute = last_attribute (drop (place + 1) cells) in
    let over : attribute_over cells place ≡ option_or (last_attribute (take (place + 1) cells)) back = last_attribute-append (drop (place + 1) cells) (take (place + 1) cells) in
    let more : last_attribute (take (place + 1) cells) ≡ option_or here front = last_attribute_more cells place d below in
    let before : last_attribute (ring place cells) ≡ option_or front (last_attribute (drop place cells)) = last_attribute-append (drop place cells) (take place cells) in
    let split : last_attribute (drop place cells) ≡ option_or back here = ap last_attribute (drop_more cells place d below) in
    over ∙ ap (λ (v : Option Attribute). option_or v back) more ∙ around here front back ∙ sym (ap (λ (v : Option Attribute). option_or here v) (before ∙ ap (λ (v : Option Attribute). option_or front v) split))

-- the whole ring, begun at the end, is the list
pub ring_all : (cells : List Cell) → ring (length cells) cells ≡ ring 0 cells
ring_all cells = rw (drop_all (length cells) cells (omega arith), take_all (length cells) cells (omega arith)) (sym (append-nil cells))

-- the cells before the next place are those up to this one
pub attribute_before_next : (cells : List Cell) (place : ℕ) → place < length cells → last_attribute (ring ((place + 1) % length cells) cells) ≡ attribute_over cells place
attribute_before_next cells place below =
    elim (cases_eq (place + 1) (length cells)) [
      | inl last ↦ rw (last, mod_self (length cells)) (sym (ap last_attribute (ring_all cells)))
      | inr inner ↦
          let lower : place + 1 < length cells = omega arith in
          rw (mod-eq_of_lt lower)
    ]

-- one place back, round the end
pub back_one : (at size : ℕ) → at < size → ((at + size - 1) % size + 1) % size ≡ at
back_one zero size below =
    let lower : zero + size - 1 < size = omega arith in
    rw (mod-eq_of_lt lower) (ap (λ (n : ℕ). n % size) (omega arith) ∙ mod_self size)
back_one (suc at) size below =
    let once : (suc at + size - 1) % size ≡ suc at + size - 1 - size = round_once (suc at + size - 1) size (omega arith) (omega arith) in
    let there : suc at + size - 1 - size + 1 ≡ suc at = omega arith in
    rw (once, there) (mod-eq_of_lt below)

pub back_more : (at size count : ℕ) → at < size → count < size → ((at + size - 1) % size + size - count) % size ≡ (at + size - suc count) % size
back_more zero size count below few =
    let lower : zero + size - 1 < size = omega arith in
    let under : zero + size - suc count < size = omega arith in
    let same : zero + size - 1 + size - count - size ≡ zero + size - suc count = omega arith in
    rw (mod-eq_of_lt lower)
    (round_once (zero + size - 1 + size - count) size (omega arith) (omega arith) ∙ same ∙ sym (mod-eq_of_lt under))
back_more (suc at) size count below few =
    let once : (suc at + size - 1) % size ≡ suc at + size - 1 - size = round_once (suc at + size - 1) size (omega arith) (omega arith) in
    let same : suc at + size - 1 - size + size - count ≡ suc at + size - suc count = omega arith in
    rw (once, same)

-- a character is governed as the cell before it is
pub attribute_over-char : (cells : List Cell) (at : ℕ) → at < length cells → is_char_at cells at ≡ true → attribute_over cells at ≡ attribute_over cells ((at + length cells - 1) % length cells)
attribute_over-char cells at below test =
    let size : ℕ = length cells in
    let positive : 0 < size = omega arith in
    let before : ℕ = (at + size - 1) % size in
    let before_below : before < size = mod-lt (at + size - 1) positive in
    let onward : last_attribute (ring at cells) ≡ attribute_over cells before =
    rw (back_one at size below) at (attribute_before_next cells before before_below) in
    attribute_over_is cells at (Char 0) below ∙ ap (λ (here : Option Attribute). option_or here (last_attribute (ring at cells))) (none_in (get_or cells at (Char 0)) test) ∙ onward
  where
    none_in : (cell : Cell) → is_char cell ≡ true → attribute_in cell ≡ None
    none_in (Char byte) e = refl
    none_in (Attr attribute) e = cc

-- The attribute that stands nearest before a cell, round the end, is the one that governs it.
pub attribute_over_nearest : (back : ℕ) (cells : List Cell) (at : ℕ) → at < length cells → back < length cells → is_char_at cells ((at + length cells - back) % length cells) ≡ false → ((nearer : ℕ) → nearer < back → is_char_at cells ((at + length cells - nearer) % length cells) ≡ true) → attribute_over cells at ≡ attribute_in (get_or cells ((at + length cells - back) % length cells) (Char 0))
attribute_over_nearest zero cells at below near there none =
    let here : (at + length cells - zero) % length cells ≡ at =
    round_once (at + length cells - zero) (length cells) (omega arith) (omega arith) ∙ omega arith in
    let test : is_char_at cells at ≡ false = rw here at there in
    rw here
    (attribute_over_is cells at (Char 0) below ∙ some_in (get_or cells at (Char 0)) (last_attribute (ring at cells)) test)
  where
    some_in : (cell : Cell) (other : Option Attribute) → is_char cell ≡ false → option_or (attribute_in cell) other ≡ attribute_in cell
    some_in (Char byte) other e = cc
    some_in (Attr attribute) other e = refl
attribute_over_nearest (suc back) cells at below near there none =
    let size : ℕ = length cells in
    let positive : 0 < size = omega arith in
    let before : ℕ = (at + size - 1) % size in
    let before_below : before < size = mod-lt (at + size - 1) positive in
    let here : (at + size - 0) % size ≡ at = round_once (at + size - 0) size (omega arith) (omega arith) ∙ omega arith in
    let test : is_char_at cells at ≡ true = rw here at (none 0 (omega arith)) in
    let far : (before + size - back) % size ≡ (at + size - suc back) % size = back_more at size back below (omega arith) in
    let there' : is_char_at cells ((before + size - back) % size) ≡ false = rw far there in
    let none' : (nearer : ℕ) → nearer < back → is_char_at cells ((before + size - nearer) % size) ≡ true =
    λ nearer lower. rw (back_more at size nearer below (omega arith)) (none (suc nearer) (omega arith)) in
    attribute_over-char cells at below test
    ∙ rw far at (attribute_over_nearest back cells before before_below (omega arith) there' none')

pub attribute_over_governed : (cells : List Cell) (at attr : ℕ) → at < length cells → IsGoverned cells at attr → attribute_over cells at ≡ attribute_in (get_or cells attr (Char 0))
attribute_over_governed cells at attr below governed =
    let there : is_char_at cells ((at + length cells - governed.back) % length cells) ≡ false = rw (← governed.place) governed.there in
    rw governed.place (attribute_over_nearest governed.back cells at below governed.near there governed.none_nearer)

pub all_characters : (cells : List Cell) → ((place : ℕ) → place < length cells → is_char_at cells place ≡ true) → list_all is_char cells ≡ true
all_characters [] each = refl
all_characters (Char byte ∷ cells) each = all_characters cells (λ place below. each (suc place) (omega arith))
all_characters (Attr attribute ∷ cells) each = let wrong : false ≡ true = each 0 (omega arith) in cc

-- no attribute within a whole round
pub all_characters_round : (cells : List Cell) (at : ℕ) → at < length cells → ((nearer : ℕ) → nearer < length cells → is_char_at cells ((at + length cells - nearer) % length cells) ≡ true) → list_all is_char cells ≡ true
all_characters_round cells at below each =
    all_characters cells (λ place inside.
    let positive : 0 < length cells = omega arith in
    rw (back_to (length cells) at place below inside) at (each ((at + length cells - place) % length cells) (mod-lt (at + length cells - place) positive)))

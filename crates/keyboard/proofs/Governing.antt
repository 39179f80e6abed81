-- Where the attribute stands that governs a cell.
use Rattle.std.proofs.Common.{◌≡◌, ℕ, ◌+◌, ◌-◌, ◌%◌, ◌<◌, ◌≤◌, Bool, true, false, not, List, [], ◌∷◌, length, get_or, slice_get, take, drop, ◌++◌, ◌&&◌, Some, None, arith, sym, ◌∙◌, ap, refl, suc, zero, inl, inr}
use Rattle.std.proofs.Math.Nat.{mod-eq_of_lt, mod-lt, mod_self, mod-add-mod}
use Rattle.std.proofs.lemmas.Bool.{cases_lt, cases_eq}
use Rattle.std.specs.List.{list_all, find}
use Rattle.std.proofs.lemmas.Option.{get_or_from_slice_get}
use Rattle.std.proofs.lemmas.List.{take-append-drop}
use Rattle.std.proofs.lemmas.List.Folds.{list_all-append}
use Rattle.codes3270.specs.declared.attribute.Cell.{Cell}
use Rattle.codes3270.specs.declared.attribute.Cell.TheVariants.{Char, Attr}
use Rattle.datastream.specs.Screen.{is_char, is_char_at, last_attribute, attribute_over, ring, IsGoverned}
use Rattle.datastream.proofs.Rounds.{round_once}
use Rattle.datastream.proofs.Fields.{all_characters_round}
use Rattle.keyboard.specs.Places.{governing_place, backward}
use Rattle.keyboard.proofs.Searches.{find_backward, find_backward_none, find_backward_some, find_backward_fails}

pub each_is_char : (cells : List Cell) → list_all is_char cells ≡ true → (place : ℕ) → is_char_at cells place ≡ true
each_is_char [] all place = refl
each_is_char (Char byte ∷ cells) all zero = refl
each_is_char (Char byte ∷ cells) all (suc place) = each_is_char cells all place
each_is_char (Attr attribute ∷ cells) all place = cc

pub governing_place_is : (cells : List Cell) (at attr : ℕ) → at < length cells → IsGoverned cells at attr → governing_place cells at ≡ Some attr
governing_place_is cells at attr below governed =
    by_distance governed.back governed.near governed.place governed.there governed.none_nearer
  where
    by_distance : (back : ℕ) → back < length cells → attr ≡ (at + length cells - back) % length cells → is_char_at cells attr ≡ false → ((nearer : ℕ) → nearer < back → is_char_at cells ((at + length cells - nearer) % length cells) ≡ true) → governing_place cells at ≡ Some attr
    by_distance zero near place there none =
        let here : (at + length cells - zero) % length cells ≡ at = round_once (at + length cells - zero) (length cells) (omega arith) (omega arith) ∙ omega arith in
        let same : attr ≡ at = place ∙ here in
        let test : is_char_at cells at ≡ false = rw same at there in
        rw (test, same)
    by_distance (suc back) near place there none =
        let here : (at + length cells - 0) % length cells ≡ at = round_once (at + length cells - 0) (length cells) (omega arith) (omega arith) ∙ omega arith in
        let test : is_char_at cells at ≡ true = rw here at (none 0 (omega arith)) in
        let found : is_char_at cells ((at + length cells - suc back) % length cells) ≡ false = rw (← place) there in
        rw (test, place)
        (find_backward (λ p. not (is_char_at cells p)) (length cells) at (suc back) (omega arith) (omega arith)
        (λ j some lower. ap not (none j lower)) (ap not found))

pub governing_place_none : (cells : List Cell) (at : ℕ) → list_all is_char cells ≡ true → governing_place cells at ≡ None
governing_place_none cells at all =
    rw (each_is_char cells all at)
    (find_backward_none (λ p. not (is_char_at cells p)) (length cells) at
    (λ j some few. ap not (each_is_char cells all ((at + length cells - j) % length cells))))

last_attribute_none : (cells : List Cell) → list_all is_char cells ≡ true → last_attribute cells ≡ None
last_attribute_none [] all = refl
last_attribute_none (Char byte ∷ cells) all = rw (last_attribute_none cells all)
last_attribute_none (Attr attribute ∷ cells) all = cc

all_in_part : (cells : List Cell) (count : ℕ) → list_all is_char cells ≡ true → list_all is_char (drop count cells ++ take count cells) ≡ true
all_in_part cells count all = rw (list_all-append is_char (drop count cells) (take count cells)) (both (list_all is_char (take count cells)) (list_all is_char (drop count cells)) (sym (list_all-append is_char (take count cells) (drop count cells)) ∙ ap (list_all is_char) (take-append-drop count cells) ∙ all))
  where
    both : (p q : Bool) → (p && q) ≡ true → (q && p) ≡ true
    both true q e = rw e
    both false q e = cc

pub attribute_over_none : (cells : List Cell) (at : ℕ) → list_all is_char cells ≡ true → attribute_over cells at ≡ None
attribute_over_none cells at all = last_attribute_none (ring (at + 1) cells) (all_in_part cells (at + 1) all)

pub read_cell : (cells : List Cell) (at : ℕ) (cell : Cell) → slice_get cells at ≡ Some cell → cell ≡ get_or cells at (Char 0)
read_cell cells at cell read = sym (get_or_from_slice_get cells at cell (Char 0) read)

not_true : (b : Bool) → not b ≡ true → b ≡ false
not_true true e = cc
not_true false e = refl

not_false : (b : Bool) → not b ≡ false → b ≡ true
not_false true e = refl
not_false false e = cc

-- a character's governing place, if there is one, governs it
pub governing_place_governs : (cells : List Cell) (at attr : ℕ) → at < length cells → is_char_at cells at ≡ true → governing_place cells at ≡ Some attr → IsGoverned cells at attr
governing_place_governs cells at attr below here found =
    let size : ℕ = length cells in
    let elsewhere : find (λ p. not (is_char_at cells p)) (backward size at) ≡ Some attr = rw here at found in
    let some : (k : ℕ) × (0 < k) × (k ≤ size) × (attr ≡ (at + size - k) % size) × (not (is_char_at cells attr) ≡ true) × ((j : ℕ) → 0 < j → j < k → not (is_char_at cells ((at + size - j) % size)) ≡ false) = find_backward_some (λ p. not (is_char_at cells p)) size at attr elsewhere in
    let there : is_char_at cells attr ≡ false = not_true (is_char_at cells attr) some.4 in
    record {
      back = some.0;
      near = elim (cases_lt some.0 size) [
        | inl lower ↦ lower
        | inr round ↦
            let whole : some.0 ≡ size = omega arith in
            let same : attr ≡ at = some.3 ∙ rw whole (ap (λ (n : ℕ). n % size) (omega arith) ∙ mod-eq_of_lt below) in
            let wrong : true ≡ false = sym (rw same here) ∙ there in
            cc
      ];
      place = some.3;
      there = there;
      none_nearer = λ nearer lower. elim (cases_lt 0 nearer) [
        | inl positive ↦ not_false (is_char_at cells ((at + size - nearer) % size)) (some.5 nearer positive lower)
        | inr zero_ ↦
            let none : nearer ≡ 0 = omega arith in
            let same : (at + size - 0) % size ≡ at = round_once (at + size - 0) size (omega arith) (omega arith) ∙ omega arith in
            rw (none, same) here
      ];
    }

-- where a character has no governing place, there is no attribute
pub governing_place_absent : (cells : List Cell) (at : ℕ) → at < length cells → is_char_at cells at ≡ true → governing_place cells at ≡ None → list_all is_char cells ≡ true
governing_place_absent cells at below here found =
    let size : ℕ = length cells in
    let elsewhere : find (λ p. not (is_char_at cells p)) (backward size at) ≡ None = rw here at found in
    all_characters_round cells at below
    (λ nearer lower. elim (cases_lt 0 nearer) [
      | inl positive ↦ not_false (is_char_at cells ((at + size - nearer) % size)) (find_backward_fails (λ p. not (is_char_at cells p)) size at elsewhere nearer positive (omega arith))
      | inr zero_ ↦
          let none : nearer ≡ 0 = omega arith in
          let same : (at + size - 0) % size ≡ at = round_once (at + size - 0) size (omega arith) (omega arith) ∙ omega arith in
          rw (none, same) here
    ])

-- cells with attributes in the same places are governed alike
pub governed_alike : (cells other : List Cell) (at attr : ℕ) → at < length cells → length other ≡ length cells → ((place : ℕ) → place < length cells → is_char_at other place ≡ is_char_at cells place) → IsGoverned cells at attr → IsGoverned other at attr
governed_alike cells other at attr below same alike governed =
    let positive : 0 < length cells = omega arith in
    let attr_below : attr < length cells = rw governed.place (mod-lt (at + length cells - governed.back) positive) in
    record {
      back = governed.back;
      near = rw same governed.near;
      place = rw same governed.place;
      there = alike attr attr_below ∙ governed.there;
      none_nearer = λ nearer lower. rw same (alike ((at + length cells - nearer) % length cells) (mod-lt (at + length cells - nearer) positive) ∙ governed.none_nearer nearer lower);
    }

-- one place on, and back one more
on_and_back : (at size back : ℕ) → at < size → back < size → ((at + 1) % size + size - suc back) % size ≡ (at + size - back) % size
on_and_back at size back below near =
    elim (cases_eq (at + 1) size) [
      | inl last ↦
          let left : ((at + 1) % size + size - suc back) % size ≡ size - suc back = rw (last, mod_self size) (ap (λ (n : ℕ). n % size) (omega arith) ∙ mod-eq_of_lt (omega arith)) in
          let right : (at + size - back) % size ≡ at + size - back - size = round_once (at + size - back) size (omega arith) (omega arith) in
          left ∙ omega arith ∙ sym right
      | inr inner ↦
          let lower : at + 1 < size = omega arith in
          let same : at + 1 + size - suc back ≡ at + size - back = omega arith in
          rw (mod-eq_of_lt lower, same)
    ]

governed_next : (cells : List Cell) (at attr : ℕ) → at < length cells → is_char_at cells ((at + 1) % length cells) ≡ true → IsGoverned cells at attr → IsGoverned cells ((at + 1) % length cells) attr
governed_next cells at attr below next governed =
    let size : ℕ = length cells in
    let back : ℕ = governed.back in
    let near : back < size = governed.near in
    let positive : 0 < size = omega arith in
    let next_below : (at + 1) % size < size = mod-lt (at + 1) positive in
    record {
      back = suc back;
      near = elim (cases_lt (suc back) size) [
        | inl lower ↦ lower
        | inr round ↦
            let same : at + size - back ≡ at + 1 = omega arith in
            let there : attr ≡ (at + 1) % size = rw same at governed.place in
            let wrong : true ≡ false = sym (rw there next) ∙ governed.there in
            cc
      ];
      place = governed.place ∙ sym (on_and_back at size back below near);
      there = governed.there;
      none_nearer = λ nearer lower. step nearer lower;
    }
  where
    step : (nearer : ℕ) → nearer < suc governed.back → is_char_at cells (((at + 1) % length cells + length cells - nearer) % length cells) ≡ true
    step zero lower =
        let positive : 0 < length cells = omega arith in
        let next_below : (at + 1) % length cells < length cells = mod-lt (at + 1) positive in
        let same : ((at + 1) % length cells + length cells - zero) % length cells ≡ (at + 1) % length cells = round_once ((at + 1) % length cells + length cells - zero) (length cells) (omega arith) (omega arith) ∙ omega arith in
        rw same next
    step (suc nearer) lower =
        let near : governed.back < length cells = governed.near in
        rw (on_and_back at (length cells) nearer below (omega arith)) (governed.none_nearer nearer (omega arith))

-- the characters that follow a governed one are governed alike
pub governed_along : (cells : List Cell) (at attr i : ℕ) → at < length cells → ((j : ℕ) → j ≤ i → is_char_at cells ((at + j) % length cells) ≡ true) → IsGoverned cells at attr → IsGoverned cells ((at + i) % length cells) attr
governed_along cells at attr zero below each governed =
    let none : at + 0 ≡ at = omega arith in
    rw (none, mod-eq_of_lt below) governed
governed_along cells at attr (suc i) below each governed =
    let size : ℕ = length cells in
    let positive : 0 < size = omega arith in
    let onward : (at + suc i) % size ≡ ((at + i) % size + 1) % size = sym (mod-add-mod (at + i) size 1 ∙ ap (λ (n : ℕ). n % size) (omega arith)) in
    rw onward
    (governed_next cells ((at + i) % size) attr (mod-lt (at + i) positive) (rw onward at (each (suc i) (omega arith)))
    (governed_along cells at attr i below (λ j lower. each j (omega arith)) governed))

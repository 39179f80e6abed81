-- What an edit makes of the field's text, and of no other.
use Rattle.std.proofs.Common.{◌≡◌, ℕ, ◌+◌, ◌-◌, ◌%◌, ◌<◌, ◌≤◌, ◌==◌, Bool, true, false, not, ◌&&◌, cond, List, [], ◌∷◌, ◌++◌, length, get_or, drop, Option, Some, None, option_map, arith, sym, ◌∙◌, ap, refl, suc, inl, inr, length-append, length-drop}
use Rattle.std.proofs.Math.Nat.{mod-lt}
use Rattle.std.specs.List.{list_all}
use Rattle.std.proofs.lemmas.List.{length-set, get_or-set_same, get_or-set_other, set_past, get_or_append_left, get_or-append_right, get_or-drop, ext_get_or}
use Rattle.std.proofs.lemmas.Bool.{cases_lt, cases_eq}
use Rattle.codes3270.specs.declared.attribute.Cell.{Cell}
use Rattle.codes3270.specs.declared.attribute.Cell.TheVariants.{Char, Attr}
use Rattle.datastream.specs.Screen.{Screen, is_char, is_char_at, ring, text_before_attribute}
use Rattle.datastream.specs.Meaning.{modified}
use Rattle.datastream.proofs.Rounds.{distance_at}
use Rattle.presentation.proofs.Texts.{length-ring}
use Rattle.keyboard.specs.Places.{governing_place}
use Rattle.keyboard.specs.Edits.{reach, text_from, laid, marked_at, rewritten, without_null}
use Rattle.keyboard.proofs.Texts.{text_below, length-laid, reach_cell, text_is_char, text_cell, text_length_is, length-text}
use Rattle.keyboard.proofs.Kept.{laid_within, laid_outside, laid_alike, modified_alike}

-- a mark changes no character
marked_char : (place : Option ℕ) (cells : List Cell) (at : ℕ) → is_char_at cells at ≡ true → get_or (marked_at place cells) at (Char 0) ≡ get_or cells at (Char 0)
marked_char None cells at here = refl
marked_char (Some place) cells at here = elim (cases_eq at place) [
  | inl same ↦ elim (cases_lt place (length cells)) [
    | inl lower ↦
        rw same (get_or-set_same cells place (modified (get_or cells place (Char 0))) (Char 0) lower
        ∙ kept (get_or cells place (Char 0)) (rw same at here))
    | inr past ↦ rw (set_past cells place (modified (get_or cells place (Char 0))) past)
  ]
  | inr apart ↦ get_or-set_other cells place at (modified (get_or cells place (Char 0))) (Char 0) apart
]
  where
    kept : (cell : Cell) → is_char cell ≡ true → modified cell ≡ cell
    kept (Char byte) e = refl
    kept (Attr attribute) e = cc

marked_alike : (place : Option ℕ) (cells : List Cell) (at : ℕ) → is_char_at (marked_at place cells) at ≡ is_char_at cells at
marked_alike None cells at = refl
marked_alike (Some place) cells at = elim (cases_eq at place) [
  | inl same ↦ elim (cases_lt place (length cells)) [
    | inl lower ↦
        rw same (ap is_char (get_or-set_same cells place (modified (get_or cells place (Char 0))) (Char 0) lower)
        ∙ modified_alike (get_or cells place (Char 0)))
    | inr past ↦ rw (set_past cells place (modified (get_or cells place (Char 0))) past)
  ]
  | inr apart ↦ ap is_char (get_or-set_other cells place at (modified (get_or cells place (Char 0))) (Char 0) apart)
]

pub length-marked : (place : Option ℕ) (cells : List Cell) → length (marked_at place cells) ≡ length cells
length-marked None cells = refl
length-marked (Some place) cells = length-set cells place (modified (get_or cells place (Char 0)))

-- lists with attributes in the same places reach as far, and their texts too
all_alike : (cells other : List Cell) → length other ≡ length cells → ((place : ℕ) → place < length cells → is_char_at other place ≡ is_char_at cells place) → list_all is_char other ≡ list_all is_char cells
all_alike [] [] same alike = refl
all_alike [] (o ∷ other) same alike = absurd (omega arith)
all_alike (c ∷ cells) [] same alike = absurd (omega arith)
all_alike (c ∷ cells) (o ∷ other) same alike =
    let first : is_char o ≡ is_char c = alike 0 (omega arith) in
    rw (first, all_alike cells other (omega arith) (λ place below. alike (suc place) (omega arith)))

reach_alike : (cells other : List Cell) (at : ℕ) → at < length cells → length other ≡ length cells → ((place : ℕ) → place < length cells → is_char_at other place ≡ is_char_at cells place) → length (reach other at) ≡ length (reach cells at)
reach_alike cells other at a same alike = by_test (list_all is_char cells) (list_all is_char other) (all_alike cells other same alike)
  where
    by_test : (p q : Bool) → q ≡ p → length (cond q (drop at other) (ring at other)) ≡ length (cond p (drop at cells) (ring at cells))
    by_test true true e = omega (arith, length-drop at other, length-drop at cells)
    by_test false false e = length-ring other at (omega arith) ∙ same ∙ sym (length-ring cells at (omega arith))
    by_test true false e = cc
    by_test false true e = cc

stops : (cells : List Cell) → length (text_before_attribute cells) < length cells → is_char_at cells (length (text_before_attribute cells)) ≡ false
stops [] below = absurd (omega arith)
stops (Char byte ∷ cells) below = stops cells (omega arith)
stops (Attr attribute ∷ cells) below = refl

text_stops : (cells : List Cell) (at : ℕ) → at < length cells → length (text_from cells at) < length (reach cells at) → is_char_at cells ((at + length (text_from cells at)) % length cells) ≡ false
text_stops cells at a below =
    sym (ap is_char (reach_cell cells at (length (text_from cells at)) (list_all is_char cells) a below)) ∙ stops (reach cells at) below

text_alike : (cells other : List Cell) (at : ℕ) → at < length cells → length other ≡ length cells → ((place : ℕ) → place < length cells → is_char_at other place ≡ is_char_at cells place) → length (text_from other at) ≡ length (text_from cells at)
text_alike cells other at a same alike =
    let positive : 0 < length cells = omega arith in
    let count : ℕ = length (text_from cells at) in
    let long : length (reach other at) ≡ length (reach cells at) = reach_alike cells other at a same alike in
    text_length_is other at count (rw same a) (rw long (length-text (reach cells at)))
    (λ j lower. rw same (alike ((at + j) % length cells) (mod-lt (at + j) positive) ∙ text_is_char cells at j a lower))
    (λ lower. rw same (alike ((at + count) % length cells) (mod-lt (at + count) positive) ∙ text_stops cells at a (rw long at lower)))

-- The text from the cursor on is the new one, and behind it what stood there.
pub text_rewritten : (text : List ℕ) (screen : Screen) → screen.cursor < length screen.cells → length text ≤ length (text_from screen.cells screen.cursor) → text_from (rewritten text screen).cells screen.cursor ≡ text ++ drop (length text) (text_from screen.cells screen.cursor)
text_rewritten text screen a few =
    ext_get_or 0 (text_from last at) (text ++ drop count old) (long_text ∙ omega (arith, length-append text (drop count old), length-drop count old))
    (λ i below. letter i (rw long_text at below))
  where
    at : ℕ
    at = screen.cursor

    cells : List Cell
    cells = screen.cells

    size : ℕ
    size = length screen.cells

    old : List ℕ
    old = text_from screen.cells screen.cursor

    count : ℕ
    count = length text

    new : List Cell
    new = laid screen.cursor (length text) text screen.cells

    last : List Cell
    last = marked_at (governing_place new screen.cursor) new

    long_new : length new ≡ length screen.cells
    long_new = length-laid screen.cursor (length text) text screen.cells

    long_last : length last ≡ length screen.cells
    long_last = length-marked (governing_place new screen.cursor) new ∙ long_new

    alike : (place : ℕ) → place < length screen.cells → is_char_at last place ≡ is_char_at screen.cells place
    alike place below = marked_alike (governing_place new screen.cursor) new place ∙ laid_alike screen.cursor (length text) text screen.cells a few place below

    long_text : length (text_from last screen.cursor) ≡ length (text_from screen.cells screen.cursor)
    long_text = text_alike screen.cells last screen.cursor a long_last alike

    letter : (i : ℕ) → i < length (text_from screen.cells screen.cursor) → get_or (text_from last screen.cursor) i 0 ≡ get_or (text ++ drop (length text) (text_from screen.cells screen.cursor)) i 0
    letter i below =
        let inside : i < length screen.cells = omega (arith, text_below screen.cells screen.cursor a) in
        let positive : 0 < length screen.cells = omega arith in
        let place : ℕ = (screen.cursor + i) % length screen.cells in
        let place_below : place < length screen.cells = mod-lt (screen.cursor + i) positive in
        let far : (place + length screen.cells - screen.cursor) % length screen.cells ≡ i = distance_at (length screen.cells) screen.cursor i a inside in
        let read : get_or last place (Char 0) ≡ Char (get_or (text_from last screen.cursor) i 0) =
        rw long_last at (text_cell last screen.cursor i (rw long_last a) (rw long_text below)) in
        let here : is_char_at new place ≡ true =
        laid_alike screen.cursor (length text) text screen.cells a few place place_below ∙ text_is_char screen.cells screen.cursor i a below in
        let kept : get_or last place (Char 0) ≡ get_or new place (Char 0) = marked_char (governing_place new screen.cursor) new place here in
        elim (cases_lt i (length text)) [
          | inl lower ↦
              let written : get_or new place (Char 0) ≡ Char (get_or text i 0) =
              rw far at (laid_within screen.cursor (length text) text screen.cells place (Char 0) place_below (rw far lower)) in
              let cell : Char (get_or (text_from last screen.cursor) i 0) ≡ Char (get_or text i 0) = sym read ∙ kept ∙ written in
              let same : get_or (text_from last screen.cursor) i 0 ≡ get_or text i 0 = cc in
              same ∙ sym (get_or_append_left text (drop (length text) old) 0 i lower)
          | inr upper ↦
              let stayed : get_or new place (Char 0) ≡ Char (get_or old i 0) =
              laid_outside screen.cursor (length text) text screen.cells place (Char 0) place_below (rw far upper) ∙ text_cell screen.cells screen.cursor i a below in
              let cell : Char (get_or (text_from last screen.cursor) i 0) ≡ Char (get_or old i 0) = sym read ∙ kept ∙ stayed in
              let same : get_or (text_from last screen.cursor) i 0 ≡ get_or old i 0 = cc in
              let there : length text + (i - length text) ≡ i = omega arith in
              same
              ∙ sym (get_or-append_right text (drop (length text) old) (length text) i 0 refl upper ∙ get_or-drop (length text) old (i - length text) 0 ∙ rw there)
        ]

-- A text that has a first null: it is taken out, and what lies before it moves up.
pub first_null_out : (y z : List ℕ) → list_all (λ byte. not (byte == 0)) y ≡ true → without_null (y ++ 0 ∷ z) ≡ Some (y ++ z)
first_null_out [] z none = refl
first_null_out (byte ∷ y) z none = by_test (byte == 0) (list_all (λ b. not (b == 0)) y) none (first_null_out y z)
  where
    by_test : (test others : Bool) → (not test && others) ≡ true → (others ≡ true → without_null (y ++ 0 ∷ z) ≡ Some (y ++ z)) → cond test (Some (y ++ 0 ∷ z)) (option_map (λ rest. byte ∷ rest) (without_null (y ++ 0 ∷ z))) ≡ Some (byte ∷ y ++ z)
    by_test true others e more = cc
    by_test false true e more = rw (more refl)
    by_test false false e more = cc

-- A text without a null has none to take out.
pub no_null_out : (text : List ℕ) → list_all (λ byte. not (byte == 0)) text ≡ true → without_null text ≡ None
no_null_out [] none = refl
no_null_out (byte ∷ text) none = by_test (byte == 0) (list_all (λ b. not (b == 0)) text) none (no_null_out text)
  where
    by_test : (test others : Bool) → (not test && others) ≡ true → (others ≡ true → without_null text ≡ None) → cond test (Some text) (option_map (λ rest. byte ∷ rest) (without_null text)) ≡ None
    by_test true others e more = cc
    by_test false true e more = rw (more refl)
    by_test false false e more = cc

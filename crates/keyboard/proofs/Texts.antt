-- A text in the cells of the ring.
use Rattle.std.proofs.Common.{◌≡◌, subst, not, ◌&&◌, ℕ, ◌+◌, ◌-◌, ◌%◌, ◌<◌, ◌≤◌, Bool, true, false, cond, List, [], ◌∷◌, ◌++◌, length, get_or, set, take, drop, arith, sym, ◌∙◌, ap, refl, suc, zero, inl, inr, length-append, length-drop, length-take-le, ◌==◌, Option, Some, None, Ok}
use Rattle.std.proofs.Math.Nat.{mod-lt, mod-eq_of_lt}
use Rattle.std.specs.List.{list_all}
use Rattle.std.proofs.lemmas.Bool.{cases_lt}
use Rattle.std.proofs.lemmas.List.{drop_more, get_or-drop, get_or_default, get_or-take, get_or_append_left, get_or-append_right, get_or_at, length_push}
use Rattle.std.proofs.lemmas.Bool.Decides.{nat_tests}
use Rattle.codes3270.specs.declared.attribute.Cell.{Cell}
use Rattle.codes3270.specs.declared.attribute.Cell.TheVariants.{Char, Attr}
use Rattle.datastream.specs.Screen.{Screen, is_char, is_char_at, ring, text_before_attribute, attribute_over, is_protected}
use Rattle.datastream.specs.Span.{is_within}
use Rattle.datastream.proofs.Rounds.{distance_at, at_distance}
use Rattle.datastream.proofs.Places.{across_more, across_none, get_or-across, length-across, by_place_from}
use Rattle.datastream.proofs.Texts.{get_or-ring, get_or-text}
use Rattle.presentation.proofs.Texts.{text_ends_at, length-ring}
use Rattle.presentation.specs.Sizes.{SizedScreen}
use Rattle.keyboard.specs.Edits.{reach, text_from, laid, without_null, deleted, marked_at, rewritten, changed, advanced, typed, typed_code, typed_before, with_room, wants_numbers, is_numeric_letter}
use Rattle.codes3270.specs.CodePage.{code_of}
use Rattle.keyboard.specs.Places.{governing_place, is_free_at}

-- what a cell of a text holds
abbrev pub letter_at : ℕ → ℕ → List ℕ → ℕ → Cell → Cell
letter_at at size text place old = Char (get_or text ((place + size - at) % size) 0)

pub length-text : (cells : List Cell) → length (text_before_attribute cells) ≤ length cells
length-text [] = omega arith
length-text (Char byte ∷ cells) = omega (arith, length-text cells)
length-text (Attr attribute ∷ cells) = omega arith

-- the text's first characters are in the cells, one more
pub laid_none : (at : ℕ) (text : List ℕ) (cells : List Cell) → laid at 0 text cells ≡ cells
laid_none at text cells = across_none at (letter_at at (length cells) text) cells

pub laid_more : (at count : ℕ) (text : List ℕ) (cells : List Cell) → at < length cells → count < length cells → set (laid at count text cells) ((at + count) % length cells) (Char (get_or text count 0)) ≡ laid at (count + 1) text cells
laid_more at count text cells a c =
    rw (distance_at (length cells) at count a c) at
    (across_more at count (letter_at at (length cells) text) cells (Char 0) a c)

pub length-laid : (at count : ℕ) (text : List ℕ) (cells : List Cell) → length (laid at count text cells) ≡ length cells
length-laid at count text cells = length-across at count (letter_at at (length cells) text) cells

-- the cells behind the text are as they were
pub laid_beyond : (at count i : ℕ) (text : List ℕ) (cells : List Cell) (d : Cell) → at < length cells → count ≤ i → i < length cells → get_or (laid at count text cells) ((at + i) % length cells) d ≡ get_or cells ((at + i) % length cells) d
laid_beyond at count i text cells d a c b =
    let size : ℕ = length cells in
    let place : ℕ = (at + i) % size in
    let positive : 0 < size = omega arith in
    let below : place < size = mod-lt (at + i) positive in
    let far : (place + size - at) % size ≡ i = distance_at size at i a b in
    let out : is_within size at count place ≡ false = grind (arith, nat_tests) in
    rw out at (get_or-across at count (letter_at at size text) cells place d below)

pub length-reach : (cells : List Cell) (at : ℕ) → at < length cells → length (reach cells at) ≤ length cells
length-reach cells at a = by_case (list_all is_char cells)
  where
    by_case : (test : Bool) → length (cond test (drop at cells) (ring at cells)) ≤ length cells
    by_case true = omega (arith, length-drop at cells)
    by_case false = omega (arith, length-ring cells at (omega arith))

-- the characters of the text from a cell on are what the cells hold
pub text_below : (cells : List Cell) (at : ℕ) → at < length cells → length (text_from cells at) ≤ length cells
text_below cells at a = by_case (list_all is_char cells)
  where
    by_case : (test : Bool) → length (text_before_attribute (cond test (drop at cells) (ring at cells))) ≤ length cells
    by_case true = omega (arith, length-text (drop at cells), length-drop at cells)
    by_case false = omega (arith, length-text (ring at cells), length-ring cells at (omega arith))

pub reach_cell : (cells : List Cell) (at i : ℕ) (test : Bool) → at < length cells → i < length (cond test (drop at cells) (ring at cells)) → get_or (cond test (drop at cells) (ring at cells)) i (Char 0) ≡ get_or cells ((at + i) % length cells) (Char 0)
reach_cell cells at i true a b =
    let inner : at + i < length cells = omega (arith, length-drop at cells) in
    rw (mod-eq_of_lt inner) (get_or-drop at cells i (Char 0))
reach_cell cells at i false a b = get_or-ring cells at i (Char 0) (omega arith) (omega (arith, length-ring cells at (omega arith)))

pub text_cell : (cells : List Cell) (at i : ℕ) → at < length cells → i < length (text_from cells at) → get_or cells ((at + i) % length cells) (Char 0) ≡ Char (get_or (text_from cells at) i 0)
text_cell cells at i a b =
    let within : i < length (reach cells at) = omega (arith, length-text (reach cells at)) in
    sym (reach_cell cells at i (list_all is_char cells) a within) ∙ get_or-text (reach cells at) i (Char 0) b

pub text_is_char : (cells : List Cell) (at i : ℕ) → at < length cells → i < length (text_from cells at) → is_char_at cells ((at + i) % length cells) ≡ true
text_is_char cells at i a b = rw (text_cell cells at i a b)

pub text_length_is : (cells : List Cell) (at i : ℕ) → at < length cells → i ≤ length (reach cells at) → ((j : ℕ) → j < i → is_char_at cells ((at + j) % length cells) ≡ true) → (i < length (reach cells at) → is_char_at cells ((at + i) % length cells) ≡ false) → length (text_from cells at) ≡ i
text_length_is cells at i a b each last =
    text_ends_at (reach cells at) i b
    (λ j lower. ap is_char (reach_cell cells at j (list_all is_char cells) a (omega arith)) ∙ each j lower)
    (λ lower. ap is_char (reach_cell cells at i (list_all is_char cells) a lower) ∙ last lower)

-- the same characters give the same cells
pub laid_same : (at count : ℕ) (text other : List ℕ) (cells : List Cell) → ((i : ℕ) → i < count → get_or text i 0 ≡ get_or other i 0) → laid at count text cells ≡ laid at count other cells
laid_same at count text other cells same =
    by_place_from _ cells (laid at count text cells) (length-laid at count text cells)
    (λ place d below.
    let far : ℕ = (place + length cells - at) % length cells in
    get_or-across at count (letter_at at (length cells) text) cells place d below
    ∙ elim (cases_lt far count) [
      | inl lower ↦ let within : is_within (length cells) at count place ≡ true = grind (arith, nat_tests) in rw (within, same far lower)
      | inr upper ↦ let out : is_within (length cells) at count place ≡ false = grind (arith, nat_tests) in rw out
    ])

-- characters behind the first `count` that are the ones of before
pub laid_rest : (at count : ℕ) (text : List ℕ) (cells : List Cell) → at < length cells → count ≤ length text → length text ≤ length (text_from cells at) → ((i : ℕ) → count ≤ i → i < length text → get_or text i 0 ≡ get_or (text_from cells at) i 0) → laid at (length text) text cells ≡ laid at count text cells
laid_rest at count text cells a c n same =
    by_place_from _ cells (laid at (length text) text cells) (length-laid at (length text) text cells)
    (λ place d below.
    let size : ℕ = length cells in
    let positive : 0 < size = omega arith in
    let far : ℕ = (place + size - at) % size in
    let far_below : far < size = mod-lt (place + size - at) positive in
    get_or-across at (length text) (letter_at at size text) cells place d below
    ∙ elim (cases_lt far count) [
      | inl lower ↦
          let within : is_within size at count place ≡ true = grind (arith, nat_tests) in
          let within' : is_within size at (length text) place ≡ true = grind (arith, nat_tests) in
          rw (within, within')
      | inr upper ↦
          let out : is_within size at count place ≡ false = grind (arith, nat_tests) in
          elim (cases_lt far (length text)) [
            | inl inner ↦
                let within : is_within size at (length text) place ≡ true = grind (arith, nat_tests) in
                let there : place ≡ (at + far) % size = at_distance size at far place a far_below below refl in
                let was : get_or cells ((at + far) % size) (Char 0) ≡ Char (get_or (text_from cells at) far 0) = text_cell cells at far a (omega arith) in
                let read : get_or cells place (Char 0) ≡ Char (get_or (text_from cells at) far 0) = rw (← there) at was in
                rw (out, within, same far upper inner) (sym read ∙ get_or_default cells place (Char 0) d below)
            | inr beyond ↦
                let out' : is_within size at (length text) place ≡ false = grind (arith, nat_tests) in
                rw (out, out')
          ]
    ])

-- the first null of a text, found character by character
pub null_at : (text : List ℕ) (count : ℕ) → count < length text → ((j : ℕ) → j < count → (get_or text j 0 == 0) ≡ false) → (get_or text count 0 == 0) ≡ true → without_null text ≡ Some (take count text ++ drop (count + 1) text)
null_at [] count below none here = absurd (omega arith)
null_at (byte ∷ text) zero below none here = rw here
null_at (byte ∷ text) (suc count) below none here =
    let first : (byte == 0) ≡ false = none 0 (omega arith) in
    let further : suc count + 1 ≡ suc (count + 1) = omega arith in
    rw (first, further, null_at text count (omega arith) (λ j lower. none (suc j) (omega arith)) here)

pub null_none : (text : List ℕ) → ((j : ℕ) → j < length text → (get_or text j 0 == 0) ≡ false) → without_null text ≡ None
null_none [] none = refl
null_none (byte ∷ text) none =
    let first : (byte == 0) ≡ false = none 0 (omega arith) in
    rw (first, null_none text (λ j lower. none (suc j) (omega arith)))

-- the cells behind those that were laid still hold characters of the text
pub laid_is_char : (at count i : ℕ) (text : List ℕ) (cells : List Cell) → at < length cells → count ≤ i → i < length (text_from cells at) → is_char_at (laid at count text cells) ((at + i) % length cells) ≡ true
laid_is_char at count i text cells a c b =
    let inside : i < length cells = omega (arith, text_below cells at a) in
    ap is_char (laid_beyond at count i text cells (Char 0) a c inside) ∙ text_is_char cells at i a b

pub laid_cell : (at count i : ℕ) (text : List ℕ) (cells : List Cell) → at < length cells → count ≤ i → i < length (text_from cells at) → get_or (laid at count text cells) ((at + i) % length cells) (Char 0) ≡ Char (get_or (text_from cells at) i 0)
laid_cell at count i text cells a c b =
    let inside : i < length cells = omega (arith, text_below cells at a) in
    laid_beyond at count i text cells (Char 0) a c inside ∙ text_cell cells at i a b

-- a text with a character in front of the first `count`, and without the one behind those
pub length-pushed : (byte count : ℕ) (text : List ℕ) → count < length text → length (byte ∷ take count text ++ drop (count + 1) text) ≡ length text
length-pushed byte count text b =
    omega (arith, length-append (take count text) (drop (count + 1) text), length-take-le count text (omega arith), length-drop (count + 1) text)

pushed_front : (byte count i : ℕ) (text : List ℕ) → count < length text → i < count + 1 → get_or (byte ∷ take count text ++ drop (count + 1) text) i 0 ≡ get_or (byte ∷ text) i 0
pushed_front byte count zero text b lower = refl
pushed_front byte count (suc i) text b lower =
    get_or_append_left (take count text) (drop (count + 1) text) 0 i (omega (arith, length-take-le count text (omega arith)))
    ∙ get_or-take count text i 0 (omega arith)

pushed_back : (byte count i : ℕ) (text : List ℕ) → count < length text → count + 1 ≤ i → get_or (byte ∷ take count text ++ drop (count + 1) text) i 0 ≡ get_or text i 0
pushed_back byte count zero text b upper = absurd (omega arith)
pushed_back byte count (suc i) text b upper =
    let there : count + 1 + (i - count) ≡ suc i = omega arith in
    get_or-append_right (take count text) (drop (count + 1) text) count i 0 (length-take-le count text (omega arith)) (omega arith)
    ∙ get_or-drop (count + 1) text (i - count) 0
    ∙ rw there

pub laid_pushed : (at byte count : ℕ) (cells : List Cell) → at < length cells → count < length (text_from cells at) → laid at (length (byte ∷ take count (text_from cells at) ++ drop (count + 1) (text_from cells at))) (byte ∷ take count (text_from cells at) ++ drop (count + 1) (text_from cells at)) cells ≡ laid at (count + 1) (byte ∷ text_from cells at) cells
laid_pushed at byte count cells a b =
    let text : List ℕ = text_from cells at in
    let pushed : List ℕ = byte ∷ take count text ++ drop (count + 1) text in
    let long : length pushed ≡ length text = length-pushed byte count text b in
    laid_rest at (count + 1) pushed cells a (omega arith) (omega arith) (λ i lower upper. pushed_back byte count i text b lower)
    ∙ laid_same at (count + 1) pushed (byte ∷ text) cells (λ i lower. pushed_front byte count i text b lower)

pub deleted_at : (text : List ℕ) (i : ℕ) → suc i < length text → get_or (deleted text) i 0 ≡ get_or text (suc i) 0
deleted_at [] i b = absurd (omega arith)
deleted_at (byte ∷ text) i b = get_or_append_left text (0 ∷ []) 0 i (omega arith)

pub deleted_last : (text : List ℕ) (n : ℕ) → length text ≡ suc n → get_or (deleted text) n 0 ≡ 0
deleted_last [] n e = absurd (omega arith)
deleted_last (byte ∷ text) n e = get_or_at text 0 [] 0 n (omega arith)

pub length-deleted : (text : List ℕ) → 0 < length text → length (deleted text) ≡ length text
length-deleted [] some = absurd (omega arith)
length-deleted (byte ∷ text) some = length_push text 0 ∙ omega arith

-- a cell with a character begins a text
pub text_some : (cells : List Cell) (at : ℕ) → at < length cells → is_char_at cells at ≡ true → 0 < length (text_from cells at)
text_some cells at a here = by_case (list_all is_char cells)
  where
    begun : (cell : Cell) (rest : List Cell) → is_char cell ≡ true → 0 < length (text_before_attribute (cell ∷ rest))
    begun (Char byte) rest e = omega arith
    begun (Attr attribute) rest e = cc

    by_case : (test : Bool) → 0 < length (text_before_attribute (cond test (drop at cells) (ring at cells)))
    by_case true = rw (drop_more cells at (Char 0) a) (begun (get_or cells at (Char 0)) (drop (at + 1) cells) here)
    by_case false = rw (drop_more cells at (Char 0) a) (begun (get_or cells at (Char 0)) (drop (at + 1) cells ++ take at cells) here)

-- the steps of an edit give the edit
pub rewritten_is : (text : List ℕ) (before between after : SizedScreen)
    → between ≡ record before { screen = record before.screen { cells = laid before.screen.cursor (length text) text before.screen.cells } }
    → after ≡ record between { screen = record between.screen { cells = marked_at (governing_place between.screen.cells between.screen.cursor) between.screen.cells } }
    → after ≡ record before { screen = rewritten text before.screen }
rewritten_is text before between after e f =
    let Marks : SizedScreen → Type 0 = λ s. after ≡ record s { screen = record s.screen { cells = marked_at (governing_place s.screen.cells s.screen.cursor) s.screen.cells } } in
    subst Marks e f

pub shown : {before after : SizedScreen} → before ≡ after → before.screen ≡ after.screen
shown e = ap (λ (sized : SizedScreen). sized.screen) e

-- a screen in the size of another
pub same_size : (before after : SizedScreen) (screen : Screen) → after ≡ record before { screen = screen } → after ≡ record before { screen = after.screen }
same_size before after screen e = e ∙ ap (λ (s : Screen). record before { screen = s }) (sym (shown e))

pub changed_is : (text : List ℕ) (before after : Screen) → is_free_at before.cells before.cursor ≡ true → after ≡ rewritten text before → changed text before ≡ Ok after
changed_is text before after free e = rw (free, e)

pub typed_is : (inserting : Bool) (letter byte : ℕ) (rest : List ℕ) (before after : Screen) → code_of letter ≡ Some byte → is_free_at before.cells before.cursor ≡ true → (wants_numbers (attribute_over before.cells before.cursor) && not (is_numeric_letter letter)) ≡ false → with_room inserting (text_from before.cells before.cursor) ≡ Some rest → after ≡ advanced (rewritten (byte ∷ rest) before) → typed inserting letter before ≡ Ok after
typed_is inserting letter byte rest before after code free kind room e =
    ap (λ (o : Option ℕ). typed_code inserting letter o before) code ∙ rw (free, kind) (ap (λ (o : Option (List ℕ)). typed_before byte o before) room ∙ rw e)

pub free_is_char : (cells : List Cell) (at : ℕ) → is_free_at cells at ≡ true → is_char_at cells at ≡ true
free_is_char cells at free = first (is_char_at cells at) (not (is_protected cells at)) free
  where
    first : (p q : Bool) → (p && q) ≡ true → p ≡ true
    first true q e = refl
    first false q e = cc

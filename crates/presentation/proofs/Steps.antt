-- Steps from attribute to attribute, over the characters between.
use Rattle.std.proofs.Common.{◌≡◌, ℕ, ◌+◌, ◌-◌, ◌%◌, ◌<◌, ◌≤◌, Bool, true, false, cond, List, [], ◌∷◌, ◌++◌, length, take, drop, set, get_or, map, Option, Some, refl, ap, sym, arith, ◌∙◌, suc, zero, inl, inr}
use Rattle.std.specs.Prelude.{nat_eq}
use Rattle.std.specs.List.{list_all, flat_map, prefix_len, position_from}
use Rattle.std.proofs.lemmas.Bool.{cases_eq, cases_lt, ne_eqb, eq-eqb}
use Rattle.std.proofs.lemmas.List.{append-nil, drop_more, drop_all, drop-drop, drop-map, get_or-drop, get_or-map, length-drop}
use Rattle.std.proofs.lemmas.List.Sums.{prefix_len_passes, prefix_len_stops, prefix_len-le-length}
use Rattle.std.proofs.lemmas.List.Folds.{prefix_len-append}
use Rattle.std.proofs.lemmas.Iterator.Adapters.{position_from-zero}
use Rattle.codes3270.specs.declared.attribute.Cell.{Cell}
use Rattle.codes3270.specs.declared.attribute.Cell.TheVariants.{Char, Attr}
use Rattle.datastream.specs.CellCodes.{code_in}
use Rattle.datastream.specs.Grammar.{start_field}
use Rattle.datastream.specs.Inbound.{cell_bytes}
use Rattle.datastream.specs.Meaning.{tab_stop, after_open_attribute}
use Rattle.datastream.specs.Screen.{is_char, is_char_at, is_open_attribute, field_text, places_from, text_before_attribute}
use Rattle.presentation.proofs.Texts.{text_ahead, length-text_before_attribute, text_before_attribute-append}

-- ---- what doesn't change from one cell to the next if it has a character

steps : {X : Type 0} (G : ℕ → X) (count from : ℕ) → ((i : ℕ) → i < count → G (from + i + 1) ≡ G (from + i)) → G (from + count) ≡ G from
steps G zero from same = let here : from + 0 ≡ from = omega arith in ap G here
steps G (suc count) from same =
    let there : from + suc count ≡ from + count + 1 = omega arith in
    ap G there ∙ same count (omega arith) ∙ steps G count from (λ i less. same i (omega (arith, less)))

pub to_attribute : {X : Type 0} (G : ℕ → X) (cells : List Cell) (from to : ℕ) → to ≡ from + prefix_len is_char (drop from cells) → to ≤ length cells
    → ((at : ℕ) → at < length cells → is_char_at cells at ≡ true → G (at + 1) ≡ G at) → G to ≡ G from
to_attribute G cells from to is within step =
    ap G is
    ∙ steps G (prefix_len is_char (drop from cells)) from (λ i less.
    step (from + i) (omega (arith, is, within, less))
    (ap is_char (sym (get_or-drop from cells i (Char 0))) ∙ prefix_len_passes is_char (drop from cells) i (Char 0) less))

-- the same place in cells that are said otherwise
pub found_in : (cells now : List Cell) → now ≡ cells → (from to : ℕ) → to ≡ from + prefix_len is_char (drop from now) → to ≤ length now → (to ≡ from + prefix_len is_char (drop from cells)) × (to ≤ length cells)
found_in cells now same from to is within = (
  is ∙ ap (λ (all : List Cell). from + prefix_len is_char (drop from all)) same,
  omega (arith, within, ap length same),
)

-- the first one found is an attribute
pub attribute_stands : (cells : List Cell) (from to : ℕ) → to ≡ from + prefix_len is_char (drop from cells) → to < length cells → is_char_at cells to ≡ false
attribute_stands cells from to is below =
    let short : prefix_len is_char (drop from cells) < length (drop from cells) = omega (arith, is, below, length-drop from cells) in
    ap (is_char_at cells) is ∙ ap is_char (sym (get_or-drop from cells (prefix_len is_char (drop from cells)) (Char 0))) ∙ prefix_len_stops is_char (drop from cells) (Char 0) short

-- an attribute isn't among the characters before the first
pub before_attribute : (cells : List Cell) (first attr : ℕ) → first ≡ 0 + prefix_len is_char (drop 0 cells) → is_char_at cells attr ≡ false → first ≤ attr
before_attribute cells first attr is stands = elim (cases_lt attr first) [
  | inl further ↦ absurd (let no : true ≡ false = sym (prefix_len_passes is_char cells attr (Char 0) (omega (arith, is, further))) ∙ stands in cc)
  | inr behind ↦ behind
]

-- ---- whether there is one

pub all_whole : (cells : List Cell) → prefix_len is_char cells ≡ length cells → list_all is_char cells ≡ true
all_whole [] whole = refl
all_whole (Char byte ∷ cells) whole = all_whole cells (omega (arith, whole))
all_whole (Attr attribute ∷ cells) whole = absurd (omega (arith, whole))

pub not_whole : (cells : List Cell) → prefix_len is_char cells < length cells → list_all is_char cells ≡ false
not_whole [] short = absurd (omega (arith, short))
not_whole (Char byte ∷ cells) short = not_whole cells (omega (arith, short))
not_whole (Attr attribute ∷ cells) short = refl

pub none_found : (cells : List Cell) (from to size : ℕ) → to ≡ from + prefix_len is_char (drop from cells) → to ≤ length cells → from ≤ length cells → size ≡ length cells → nat_eq to size ≡ list_all is_char (drop from cells)
none_found cells from to size is within order whole =
    let rest : List Cell = drop from cells in
    let long = length-drop from cells in
    elim (cases_eq to size) [
      | inl same ↦ eq-eqb to size same ∙ sym (all_whole rest (omega (arith, same, is, long, order, whole)))
      | inr apart ↦ ne_eqb to size apart ∙ sym (not_whole rest (omega (arith, apart, is, long, order, whole, within)))
    ]

-- ---- a change of attributes alone

module _ (change : Cell → Cell) (keeps : (code : ℕ) → change (Char code) ≡ Char code) where
  abbrev pub changed_from : List Cell → ℕ → List Cell
  changed_from cells at = take at cells ++ map change (drop at cells)

  kept_cell : (cell : Cell) → is_char cell ≡ true → change cell ≡ cell
  kept_cell (Char code) is = keeps code
  kept_cell (Attr attribute) is = cc

  step_suc : (cells : List Cell) (at : ℕ) → at < length cells → is_char_at cells at ≡ true → changed_from cells (suc at) ≡ changed_from cells at
  step_suc [] at below is = absurd (omega arith)
  step_suc (cell ∷ cells) zero below is = ap (λ (first : Cell). first ∷ map change cells) (sym (kept_cell cell is))
  step_suc (cell ∷ cells) (suc at) below is = ap (λ (rest : List Cell). cell ∷ rest) (step_suc cells at (omega arith) is)

  set_suc : (cells : List Cell) (at : ℕ) (cell : Cell) → at < length cells → cell ≡ get_or cells at cell → changed_from (set cells at (change cell)) (suc at) ≡ changed_from cells at
  set_suc [] at cell below is = absurd (omega arith)
  set_suc (first ∷ cells) zero cell below is = ap (λ (one : Cell). change one ∷ map change cells) is
  set_suc (first ∷ cells) (suc at) cell below is = ap (λ (rest : List Cell). first ∷ rest) (set_suc cells at cell (omega arith) is)

  -- over characters
  pub change_passed : (cells : List Cell) (from to : ℕ) → to ≡ from + prefix_len is_char (drop from cells) → to ≤ length cells → changed_from cells to ≡ changed_from cells from
  change_passed cells from to is within =
      to_attribute (changed_from cells) cells from to is within
      (λ at below here. let more : at + 1 ≡ suc at = omega arith in ap (changed_from cells) more ∙ step_suc cells at below here)

  -- over a cell that is changed
  pub change_stored : (cells : List Cell) (at : ℕ) (cell : Cell) → at < length cells → cell ≡ get_or cells at cell → changed_from (set cells at (change cell)) (at + 1) ≡ changed_from cells at
  change_stored cells at cell below is = let more : at + 1 ≡ suc at = omega arith in ap (changed_from (set cells at (change cell))) more ∙ set_suc cells at cell below is

-- ---- the first unprotected attribute

after_shifted : (at i size : ℕ) (cells : List Cell) → after_open_attribute (position_from is_open_attribute (i + 1) cells) at size ≡ after_open_attribute (position_from is_open_attribute i cells) (at + 1) size
after_shifted at i size [] = refl
after_shifted at i size (cell ∷ cells) = by_test (is_open_attribute cell) (after_shifted at (i + 1) size cells)
  where
    by_test : (test : Bool) → after_open_attribute (position_from is_open_attribute (i + 1 + 1) cells) at size ≡ after_open_attribute (position_from is_open_attribute (i + 1) cells) (at + 1) size
        → after_open_attribute (cond test (Some (i + 1)) (position_from is_open_attribute (i + 1 + 1) cells)) at size ≡ after_open_attribute (cond test (Some i) (position_from is_open_attribute (i + 1) cells)) (at + 1) size
    by_test true more = let same : at + (i + 1) + 1 ≡ at + 1 + i + 1 = omega arith in ap (λ (n : ℕ). n % size) same
    by_test false more = more

abbrev stop_of : List Cell → ℕ → ℕ → ℕ
stop_of ahead at size = after_open_attribute (position_from is_open_attribute 0 ahead) at size

tab_is : (cells : List Cell) (at : ℕ) → tab_stop cells at ≡ stop_of (drop at cells) at (length cells)
tab_is cells at = ap (λ (place : Option ℕ). after_open_attribute place at (length cells)) (position_from-zero is_open_attribute (drop at cells))

tab_first : (cells : List Cell) (at : ℕ) → at < length cells → tab_stop cells at ≡ stop_of (get_or cells at (Char 0) ∷ drop (at + 1) cells) at (length cells)
tab_first cells at below = tab_is cells at ∙ ap (λ (ahead : List Cell). stop_of ahead at (length cells)) (drop_more cells at (Char 0) below)

pub tab_step : (cells : List Cell) (at : ℕ) → at < length cells → is_open_attribute (get_or cells at (Char 0)) ≡ false → tab_stop cells (at + 1) ≡ tab_stop cells at
tab_step cells at below other =
    tab_is cells (at + 1)
    ∙ sym (after_shifted at 0 (length cells) (drop (at + 1) cells))
    ∙ sym (ap (λ (test : Bool). after_open_attribute (cond test (Some 0) (position_from is_open_attribute (0 + 1) (drop (at + 1) cells))) at (length cells)) other)
    ∙ sym (tab_first cells at below)

pub tab_here : (cells : List Cell) (at : ℕ) → at < length cells → is_open_attribute (get_or cells at (Char 0)) ≡ true → tab_stop cells at ≡ (at + 1) % length cells
tab_here cells at below is =
    let same : at + 0 + 1 ≡ at + 1 = omega arith in
    tab_first cells at below
    ∙ ap (λ (test : Bool). after_open_attribute (cond test (Some 0) (position_from is_open_attribute (0 + 1) (drop (at + 1) cells))) at (length cells)) is
    ∙ ap (λ (n : ℕ). n % length cells) same

pub tab_end : (cells : List Cell) (at : ℕ) → length cells ≤ at → tab_stop cells at ≡ 0
tab_end cells at end = tab_is cells at ∙ ap (λ (ahead : List Cell). stop_of ahead at (length cells)) (drop_all at cells end)

no_open : (cell : Cell) → is_char cell ≡ true → is_open_attribute cell ≡ false
no_open (Char code) is = refl
no_open (Attr attribute) is = cc

pub tab_passed : (cells : List Cell) (from to : ℕ) → to ≡ from + prefix_len is_char (drop from cells) → to ≤ length cells → tab_stop cells to ≡ tab_stop cells from
tab_passed cells from to is within = to_attribute (tab_stop cells) cells from to is within (λ at below here. tab_step cells at below (no_open (get_or cells at (Char 0)) here))

-- ---- addresses of attributes

module _ (passes : Cell → Bool) (none : (code : ℕ) → passes (Char code) ≡ false) where
  passes_none : (cell : Cell) → is_char cell ≡ true → passes cell ≡ false
  passes_none (Char code) is = none code
  passes_none (Attr attribute) is = cc

  pub places_passed : (cells : List Cell) (from to : ℕ) → to ≡ from + prefix_len is_char (drop from cells) → to ≤ length cells
      → places_from passes to (drop to cells) ≡ places_from passes from (drop from cells)
  places_passed cells from to is within =
      to_attribute (λ (at : ℕ). places_from passes at (drop at cells)) cells from to is within
      (λ at below here.
      sym (ap (places_from passes at) (drop_more cells at (Char 0) below)
      ∙ ap (λ (test : Bool). cond test (at ∷ places_from passes (at + 1) (drop (at + 1) cells)) (places_from passes (at + 1) (drop (at + 1) cells))) (passes_none (get_or cells at (Char 0)) here)))

pub place_first : (passes : Cell → Bool) (cells : List Cell) (at : ℕ) → at < length cells → passes (get_or cells at (Char 0)) ≡ true
    → places_from passes at (drop at cells) ≡ at ∷ places_from passes (at + 1) (drop (at + 1) cells)
place_first passes cells at below is =
    ap (places_from passes at) (drop_more cells at (Char 0) below)
    ∙ ap (λ (test : Bool). cond test (at ∷ places_from passes (at + 1) (drop (at + 1) cells)) (places_from passes (at + 1) (drop (at + 1) cells))) is

-- ---- texts, by codes

one_more : {A : Type 0} (k : ℕ) (x : A) (xs : List A) → take (1 + k) (x ∷ xs) ≡ x ∷ take k xs
one_more k x xs = let more : 1 + k ≡ suc k = omega arith in ap (λ (n : ℕ). take n (x ∷ xs)) more

one_less : {A : Type 0} (k : ℕ) (x : A) (xs : List A) → drop (1 + k) (x ∷ xs) ≡ drop k xs
one_less k x xs = let more : 1 + k ≡ suc k = omega arith in ap (λ (n : ℕ). drop n (x ∷ xs)) more

pub text_codes : (cells : List Cell) → text_before_attribute cells ≡ take (prefix_len is_char cells) (map code_in cells)
text_codes [] = refl
text_codes (Char code ∷ cells) = ap (λ (text : List ℕ). code ∷ text) (text_codes cells) ∙ sym (one_more (prefix_len is_char cells) code (map code_in cells))
text_codes (Attr attribute ∷ cells) = refl

pub run_bytes : (cells : List Cell) → flat_map cell_bytes cells ≡ take (prefix_len is_char cells) (map code_in cells) ++ flat_map cell_bytes (drop (prefix_len is_char cells) cells)
run_bytes [] = refl
run_bytes (Char code ∷ cells) =
    ap (λ (bytes : List ℕ). code ∷ bytes) (run_bytes cells)
    ∙ ap (λ (bytes : List ℕ). bytes ++ flat_map cell_bytes (drop (prefix_len is_char cells) cells)) (sym (one_more (prefix_len is_char cells) code (map code_in cells)))
    ∙ ap (λ (rest : List Cell). take (1 + prefix_len is_char cells) (code ∷ map code_in cells) ++ flat_map cell_bytes rest) (sym (one_less (prefix_len is_char cells) (Char code) cells))
run_bytes (Attr attribute ∷ cells) = refl

-- ---- a field

module _ (cells : List Cell) (attr next : ℕ) (below : attr < length cells) (stands : is_char_at cells attr ≡ false) (is : next ≡ attr + 1 + prefix_len is_char (drop (attr + 1) cells)) where
  abbrev back : List Cell
  back = drop (attr + 1) cells

  pub next_within : next ≤ length cells
  next_within = omega (arith, is, below, prefix_len-le-length is_char back, length-drop (attr + 1) cells)

  counted : length (field_text cells attr) ≡ prefix_len is_char (back ++ cells)
  counted = ap length (sym (text_ahead cells attr below stands)) ∙ length-text_before_attribute (back ++ cells)

  pub field_inside : next < length cells → length (field_text cells attr) ≡ next - attr - 1
  field_inside inner =
      let apart : nat_eq (prefix_len is_char back) (length back) ≡ false = ne_eqb (prefix_len is_char back) (length back) (λ same. omega (arith, same, is, inner, below, length-drop (attr + 1) cells)) in
      let few : prefix_len is_char back ≡ next - attr - 1 = omega (arith, is) in
      counted ∙ prefix_len-append is_char back cells
      ∙ ap (λ (test : Bool). cond test (length back + prefix_len is_char cells) (prefix_len is_char back)) apart ∙ few

  pub field_round : length cells ≤ next → (first : ℕ) → first ≡ 0 + prefix_len is_char (drop 0 cells) → length (field_text cells attr) ≡ length cells - attr - 1 + first
  field_round end first found =
      let whole : prefix_len is_char back ≡ length back = omega (arith, is, end, below, next_within, length-drop (attr + 1) cells) in
      let sum : length back + prefix_len is_char cells ≡ length cells - attr - 1 + first = omega (arith, found, length-drop (attr + 1) cells) in
      counted ∙ prefix_len-append is_char back cells
      ∙ ap (λ (test : Bool). cond test (length back + prefix_len is_char cells) (prefix_len is_char back)) (eq-eqb (prefix_len is_char back) (length back) whole) ∙ sum

  pub text_inside : next < length cells → field_text cells attr ≡ take (prefix_len is_char back) (map code_in back)
  text_inside inner =
      let short : prefix_len is_char back < length back = omega (arith, is, inner, below, length-drop (attr + 1) cells) in
      sym (text_ahead cells attr below stands) ∙ text_before_attribute-append back cells
      ∙ ap (λ (test : Bool). cond test (text_before_attribute back ++ text_before_attribute cells) (text_before_attribute back)) (not_whole back short)
      ∙ text_codes back

  pub text_round : length cells ≤ next → field_text cells attr ≡ take (prefix_len is_char back) (map code_in back) ++ take (prefix_len is_char cells) (map code_in cells)
  text_round end =
      let whole : prefix_len is_char back ≡ length back = omega (arith, is, end, below, next_within, length-drop (attr + 1) cells) in
      sym (text_ahead cells attr below stands) ∙ text_before_attribute-append back cells
      ∙ ap (λ (test : Bool). cond test (text_before_attribute back ++ text_before_attribute cells) (text_before_attribute back)) (all_whole back whole)
      ∙ ap (λ (text : List ℕ). text ++ text_before_attribute cells) (text_codes back)
      ∙ ap (λ (text : List ℕ). take (prefix_len is_char back) (map code_in back) ++ text) (text_codes cells)

-- ---- the bytes of a buffer

pub run_between : (cells : List Cell) (codes : List ℕ) (from to : ℕ) → codes ≡ map code_in cells → to ≡ from + prefix_len is_char (drop from cells)
    → flat_map cell_bytes (drop from cells) ≡ take (to - from) (drop from codes) ++ flat_map cell_bytes (drop to cells)
run_between cells codes from to are is =
    let k : ℕ = prefix_len is_char (drop from cells) in
    let count : k ≡ to - from = omega (arith, is) in
    run_bytes (drop from cells)
    ∙ ap (λ (bytes : List ℕ). take k bytes ++ flat_map cell_bytes (drop k (drop from cells))) (sym (drop-map code_in from cells) ∙ ap (drop from) (sym are))
    ∙ ap (λ (rest : List Cell). take k (drop from codes) ++ flat_map cell_bytes rest) (drop-drop k from cells ∙ ap (λ (n : ℕ). drop n cells) (sym is))
    ∙ ap (λ (n : ℕ). take n (drop from codes) ++ flat_map cell_bytes (drop to cells)) count

attribute_bytes : (cell : Cell) → is_char cell ≡ false → cell_bytes cell ≡ start_field ∷ code_in cell ∷ []
attribute_bytes (Char code) is = cc
attribute_bytes (Attr attribute) is = refl

pub attribute_between : (cells : List Cell) (codes : List ℕ) (at code : ℕ) → codes ≡ map code_in cells → at < length cells → is_char_at cells at ≡ false → code ≡ get_or codes at 0
    → flat_map cell_bytes (drop at cells) ≡ (start_field ∷ code ∷ []) ++ flat_map cell_bytes (drop (at + 1) cells)
attribute_between cells codes at code are below stands is =
    let cell : Cell = get_or cells at (Char 0) in
    let read : code_in cell ≡ code = sym (is ∙ ap (λ (all : List ℕ). get_or all at 0) are ∙ get_or-map code_in cells at (Char 0) 0 below) in
    ap (flat_map cell_bytes) (drop_more cells at (Char 0) below)
    ∙ ap (λ (bytes : List ℕ). bytes ++ flat_map cell_bytes (drop (at + 1) cells)) (attribute_bytes cell stands)
    ∙ ap (λ (n : ℕ). (start_field ∷ n ∷ []) ++ flat_map cell_bytes (drop (at + 1) cells)) read

-- ---- the codes of a field

pub field_codes_inside : (cells : List Cell) (codes : List ℕ) (attr next : ℕ) → codes ≡ map code_in cells → attr < length cells → is_char_at cells attr ≡ false
    → next ≡ attr + 1 + prefix_len is_char (drop (attr + 1) cells) → next < length cells → field_text cells attr ≡ take (next - (attr + 1)) (drop (attr + 1) codes)
field_codes_inside cells codes attr next are below stands is inner =
    let k : ℕ = prefix_len is_char (drop (attr + 1) cells) in
    let count : k ≡ next - (attr + 1) = omega (arith, is) in
    text_inside cells attr next below stands is inner
    ∙ ap (take k) (sym (drop-map code_in (attr + 1) cells) ∙ ap (drop (attr + 1)) (sym are))
    ∙ ap (λ (n : ℕ). take n (drop (attr + 1) codes)) count

pub field_codes_round : (cells : List Cell) (codes : List ℕ) (attr next first : ℕ) → codes ≡ map code_in cells → attr < length cells → is_char_at cells attr ≡ false
    → next ≡ attr + 1 + prefix_len is_char (drop (attr + 1) cells) → length cells ≤ next → first ≡ 0 + prefix_len is_char (drop 0 cells)
    → field_text cells attr ≡ take (next - (attr + 1)) (drop (attr + 1) codes) ++ take (first - 0) (drop 0 codes)
field_codes_round cells codes attr next first are below stands is end found =
    let k : ℕ = prefix_len is_char (drop (attr + 1) cells) in
    let count : k ≡ next - (attr + 1) = omega (arith, is) in
    let front : prefix_len is_char cells ≡ first - 0 = omega (arith, found) in
    text_round cells attr next below stands is end
    ∙ ap (λ (text : List ℕ). take k text ++ take (prefix_len is_char cells) (map code_in cells)) (sym (drop-map code_in (attr + 1) cells) ∙ ap (drop (attr + 1)) (sym are))
    ∙ ap (λ (n : ℕ). take n (drop (attr + 1) codes) ++ take (prefix_len is_char cells) (map code_in cells)) count
    ∙ ap (λ (all : List ℕ). take (next - (attr + 1)) (drop (attr + 1) codes) ++ take (prefix_len is_char cells) all) (sym are)
    ∙ ap (λ (n : ℕ). take (next - (attr + 1)) (drop (attr + 1) codes) ++ take n codes) front

pub field_codes_front : (cells : List Cell) (codes : List ℕ) (attr next : ℕ) → codes ≡ map code_in cells → attr < length cells → is_char_at cells attr ≡ false
    → next ≡ attr + 1 + prefix_len is_char (drop (attr + 1) cells) → (rest : List ℕ) × (field_text cells attr ≡ take (next - (attr + 1)) (drop (attr + 1) codes) ++ rest)
field_codes_front cells codes attr next are below stands is = elim (cases_lt next (length cells)) [
  | inl inner ↦ ([], field_codes_inside cells codes attr next are below stands is inner ∙ sym (append-nil (take (next - (attr + 1)) (drop (attr + 1) codes))))
  | inr end ↦ (
    take (0 + prefix_len is_char (drop 0 cells) - 0) (drop 0 codes),
    field_codes_round cells codes attr next (0 + prefix_len is_char (drop 0 cells)) are below stands is end refl,
  )
]

-- the text of a screen without fields
pub text_of_all : (cells : List Cell) → list_all is_char cells ≡ true → text_before_attribute cells ≡ map code_in cells
text_of_all [] is = refl
text_of_all (Char code ∷ cells) is = ap (λ (text : List ℕ). code ∷ text) (text_of_all cells is)
text_of_all (Attr attribute ∷ cells) is = cc

-- The cells of a screen, as they are kept: a code and a bit for each.
use Rattle.std.proofs.Common.{◌≡◌, ℕ, zero, suc, ◌+◌, ◌-◌, ◌<◌, ◌≤◌, Bool, true, false, not, List, [], ◌∷◌, ◌++◌, length, take, drop, set, get_or, map, replicate, refl, ap, sym, arith, ◌∙◌, if◌then◌else◌}
use Rattle.std.specs.Prelude.{nat_eq}
use Rattle.std.specs.List.{prefix_len}
use Rattle.std.proofs.lemmas.Bool.{ne_eqb, eq-eqb}
use Rattle.std.proofs.lemmas.Bool.Decides.{nat_tests}
use Rattle.std.proofs.lemmas.List.{get_or-drop, get_or_default, length-drop, length-take-le, take-map, drop-map, map-append, map-set}
use Rattle.codes3270.specs.Attribute.{attr_of}
use Rattle.codes3270.specs.declared.attribute.Cell.{Cell}
use Rattle.codes3270.specs.declared.attribute.Cell.TheVariants.{Char, Attr}
use Rattle.codes3270.proofs.RoundTrips.{attr_read_back}
use Rattle.datastream.specs.CellBits.{has_bit, is_within, kept}
use Rattle.datastream.specs.CellCodes.{cell_of, code_in}
use Rattle.datastream.specs.Screen.{is_char}
use Rattle.datastream.proofs.Keeping.{kept_at, kept_set, kept_all, length_kept}
use Rattle.presentation.specs.Kept.{cell_by}
use Rattle.presentation.specs.Runs.{placed}

-- ---- parts of what is kept

module _ (f g : ℕ → ℕ → Cell) where
  pub kept_alike : (at : ℕ) (codes : List ℕ) → ((j code : ℕ) → at ≤ j → g j code ≡ f j code) → kept g at codes ≡ kept f at codes
  kept_alike at [] same = refl
  kept_alike at (code ∷ codes) same =
      ap (λ (cell : Cell). cell ∷ kept g (at + 1) codes) (same at code (omega arith))
      ∙ ap (λ (cells : List Cell). f at code ∷ cells) (kept_alike (at + 1) codes (λ j other later. same j other (omega (arith, later))))

  pub kept_front : (at count : ℕ) (codes : List ℕ) → ((j code : ℕ) → at ≤ j → j < at + count → g j code ≡ f j code) → kept g at (take count codes) ≡ take count (kept f at codes)
  kept_front at zero codes same = refl
  kept_front at (suc count) [] same = refl
  kept_front at (suc count) (code ∷ codes) same =
      ap (λ (cell : Cell). cell ∷ kept g (at + 1) (take count codes)) (same at code (omega arith) (omega arith))
      ∙ ap (λ (cells : List Cell). f at code ∷ cells) (kept_front (at + 1) count codes (λ j other later before. same j other (omega (arith, later)) (omega (arith, before))))

  pub kept_back : (at count : ℕ) (codes : List ℕ) → ((j code : ℕ) → at + count ≤ j → g j code ≡ f j code) → kept g (at + count) (drop count codes) ≡ drop count (kept f at codes)
  kept_back at zero codes same =
      let here : at + 0 ≡ at = omega arith in
      ap (λ (n : ℕ). kept g n codes) here ∙ kept_alike at codes (λ j code later. same j code (omega (arith, later)))
  kept_back at (suc count) [] same = refl
  kept_back at (suc count) (code ∷ codes) same =
      let further : at + suc count ≡ (at + 1) + count = omega arith in
      ap (λ (n : ℕ). kept g n (drop count codes)) further ∙ kept_back (at + 1) count codes (λ j other later. same j other (omega (arith, later)))

pub kept_append : (f : ℕ → ℕ → Cell) (at : ℕ) (xs ys : List ℕ) → kept f at (xs ++ ys) ≡ kept f at xs ++ kept f (at + length xs) ys
kept_append f at [] ys = let here : at ≡ at + 0 = omega arith in ap (λ (n : ℕ). kept f n ys) here
kept_append f at (x ∷ xs) ys =
    let further : (at + 1) + length xs ≡ at + length (x ∷ xs) = omega arith in
    ap (λ (cells : List Cell). f at x ∷ cells) (kept_append f (at + 1) xs ys ∙ ap (λ (n : ℕ). kept f (at + 1) xs ++ kept f n ys) further)

pub kept_text : (attributes : List ℕ) (at : ℕ) (text : List ℕ) → ((j : ℕ) → at ≤ j → j < at + length text → has_bit attributes j ≡ false) → kept (cell_by attributes) at text ≡ map Char text
kept_text attributes at [] clear = refl
kept_text attributes at (code ∷ text) clear =
    ap (λ (bit : Bool). cell_of bit code ∷ kept (cell_by attributes) (at + 1) text) (clear at (omega arith) (omega arith))
    ∙ ap (λ (cells : List Cell). Char code ∷ cells) (kept_text attributes (at + 1) text (λ j later before. clear j (omega (arith, later)) (omega (arith, before))))

-- ---- a cell, and its code and its bit

pub cell_again : (cell : Cell) → cell_of (not (is_char cell)) (code_in cell) ≡ cell
cell_again (Char code) = refl
cell_again (Attr attribute) = ap Attr (attr_read_back attribute)

char_bit : (bit : Bool) (code : ℕ) → is_char (cell_of bit code) ≡ not bit
char_bit true code = refl
char_bit false code = refl

map_code_chars : (text : List ℕ) → map code_in (map Char text) ≡ text
map_code_chars [] = refl
map_code_chars (code ∷ text) = ap (λ (codes : List ℕ). code ∷ codes) (map_code_chars text)

map_code_nulls : (count : ℕ) → map code_in (replicate count (Char 0)) ≡ replicate count 0
map_code_nulls zero = refl
map_code_nulls (suc count) = ap (λ (codes : List ℕ). 0 ∷ codes) (map_code_nulls count)

-- ---- what is read

module _ (attributes codes : List ℕ) (now : List Cell) (view : kept (cell_by attributes) 0 codes ≡ now) where
  pub size : length now ≡ length codes
  size = sym (ap length view) ∙ length_kept (cell_by attributes) 0 codes

  pub cell_read : (at : ℕ) (d : Cell) → at < length codes → get_or now at d ≡ cell_of (has_bit attributes at) (get_or codes at 0)
  cell_read at d inside =
      ap (λ (cells : List Cell). get_or cells at d) (sym view) ∙ kept_at (cell_by attributes) codes at (get_or codes at 0) d inside (get_or_default codes at 0 (get_or codes at 0) inside)

  pub character_read : (at : ℕ) (d : Cell) → at < length codes → is_char (get_or now at d) ≡ not (has_bit attributes at)
  character_read at d inside = ap is_char (cell_read at d inside) ∙ char_bit (has_bit attributes at) (get_or codes at 0)

  -- an attribute
  pub attribute_bit : (at : ℕ) → at < length codes → is_char (get_or now at (Char 0)) ≡ false → has_bit attributes at ≡ true
  attribute_bit at inside holds = by_bit (has_bit attributes at) (sym (character_read at (Char 0) inside) ∙ holds)
    where
      by_bit : (bit : Bool) → not bit ≡ false → bit ≡ true
      by_bit true is = refl
      by_bit false is = cc

  pub attribute_read : (at : ℕ) → at < length codes → is_char (get_or now at (Char 0)) ≡ false → get_or now at (Char 0) ≡ Attr (attr_of (get_or codes at 0))
  attribute_read at inside holds = cell_read at (Char 0) inside ∙ ap (λ (bit : Bool). cell_of bit (get_or codes at 0)) (attribute_bit at inside holds)

  -- the first attribute from an address on
  pub first_read : (n from to : ℕ) → length codes ≡ n → from ≤ to → to ≤ n → ((at : ℕ) → from ≤ at → at < to → has_bit attributes at ≡ false) → (to < n → has_bit attributes to ≡ true)
      → to ≡ from + prefix_len is_char (drop from now)
  first_read n from to even later within clear set =
      let k : ℕ = to - from in
      let there : from + k ≡ to = omega arith in
      let is = stretch (drop from now) k (omega (arith, size, length-drop from now))
      (λ i low. ap is_char (get_or-drop from now i (Char 0)) ∙ character_read (from + i) (Char 0) (omega arith) ∙ ap not (clear (from + i) (omega arith) (omega arith)))
      (λ low. ap is_char (get_or-drop from now k (Char 0)) ∙ character_read (from + k) (Char 0) (omega (arith, size, length-drop from now)) ∙ ap (λ (n : ℕ). not (has_bit attributes n)) there ∙ ap not (set (omega (arith, size, length-drop from now)))) in
      omega arith
    where
      stretch : (cells : List Cell) (n : ℕ) → n ≤ length cells → ((i : ℕ) → i < n → is_char (get_or cells i (Char 0)) ≡ true) → (n < length cells → is_char (get_or cells n (Char 0)) ≡ false) → prefix_len is_char cells ≡ n
      stretch [] n few all here = omega arith
      stretch (Attr a ∷ cells) zero few all here = refl
      stretch (Char c ∷ cells) zero few all here = absurd (let no = here (omega arith) in cc)
      stretch (Attr a ∷ cells) (suc n) few all here = absurd (let no = all 0 (omega arith) in cc)
      stretch (Char c ∷ cells) (suc n) few all here =
          let more = stretch cells n (omega arith) (λ i low. all (suc i) (omega arith)) (λ low. here (omega arith)) in
          omega arith

-- ---- what is stored

-- nulls everywhere
pub nulls_kept : (count : ℕ) (attributes codes : List ℕ) → codes ≡ replicate count 0 → ((at : ℕ) → at < count → has_bit attributes at ≡ false) → kept (cell_by attributes) 0 codes ≡ replicate count (Char 0)
nulls_kept count attributes codes are clear =
    ap (kept (cell_by attributes) 0) are
    ∙ kept_all (cell_by attributes) 0 count 0 (Char 0) (λ j later before. ap (λ (bit : Bool). cell_of bit 0) (clear j (omega (arith, before))))

pub nulls_coded : (count : ℕ) (attributes codes : List ℕ) → codes ≡ replicate count 0 → ((at : ℕ) → at < count → has_bit attributes at ≡ false) → map code_in (kept (cell_by attributes) 0 codes) ≡ codes
nulls_coded count attributes codes are clear = ap (map code_in) (nulls_kept count attributes codes are clear) ∙ map_code_nulls count ∙ sym are

module _ (attributes codes : List ℕ) (now : List Cell) (view : kept (cell_by attributes) 0 codes ≡ now) (attributes_ codes_ : List ℕ) where
  -- one cell
  pub set_kept : (at : ℕ) (cell : Cell) → codes_ ≡ set codes at (code_in cell) → ((other : ℕ) → has_bit attributes_ other ≡ (if nat_eq other at then not (is_char cell) else has_bit attributes other))
      → kept (cell_by attributes_) 0 codes_ ≡ set now at cell
  set_kept at cell are bits =
      ap (kept (cell_by attributes_) 0) are
      ∙ kept_set (cell_by attributes) (cell_by attributes_) codes at (code_in cell) cell
      (λ j other apart. ap (λ (bit : Bool). cell_of bit other) (bits j ∙ ap (λ (t : Bool). if t then not (is_char cell) else has_bit attributes j) (ne_eqb j at apart)))
      (ap (λ (bit : Bool). cell_of bit (code_in cell)) (bits at ∙ ap (λ (t : Bool). if t then not (is_char cell) else has_bit attributes at) (eq-eqb at at refl)) ∙ cell_again cell)
      ∙ ap (λ (cells : List Cell). set cells at cell) view

  -- characters
  pub put_kept : (from : ℕ) (text : List ℕ) → from + length text ≤ length codes → codes_ ≡ take from codes ++ (text ++ drop (from + length text) codes)
      → ((other : ℕ) → has_bit attributes_ other ≡ (if is_within from (from + length text) other then false else has_bit attributes other))
      → kept (cell_by attributes_) 0 codes_ ≡ placed from text now
  put_kept from text room are bits =
      let to : ℕ = from + length text in
      let back : List ℕ = drop to codes in
      let front : length (take from codes) ≡ from = length-take-le from codes (omega (arith, room)) in
      let outside = λ (j code : ℕ) (apart : is_within from to j ≡ false). ap (λ (bit : Bool). cell_of bit code) (bits j ∙ ap (λ (t : Bool). if t then false else has_bit attributes j) apart) in
      let first = kept_front (cell_by attributes) (cell_by attributes_) 0 from codes (λ j code later before. outside j code (not_inside from to j (λ x y. omega (arith, before)))) in
      let last = kept_back (cell_by attributes) (cell_by attributes_) 0 to codes (λ j code later. outside j code (not_inside from to j (λ x y. omega (arith, later, y)))) in
      let middle = kept_text attributes_ from text (λ j later before. bits j ∙ ap (λ (t : Bool). if t then false else has_bit attributes j) (inside from to j later before)) in
      let sum : 0 + to ≡ from + length text = omega arith in
      ap (kept (cell_by attributes_) 0) are
      ∙ kept_append (cell_by attributes_) 0 (take from codes) (text ++ back)
      ∙ ap (λ (n : ℕ). kept (cell_by attributes_) 0 (take from codes) ++ kept (cell_by attributes_) (0 + n) (text ++ back)) front
      ∙ ap (λ (n : ℕ). kept (cell_by attributes_) 0 (take from codes) ++ kept (cell_by attributes_) n (text ++ back)) (zero_more from)
      ∙ ap (λ (cells : List Cell). kept (cell_by attributes_) 0 (take from codes) ++ cells) (kept_append (cell_by attributes_) from text back)
      ∙ ap (λ (n : ℕ). kept (cell_by attributes_) 0 (take from codes) ++ (kept (cell_by attributes_) from text ++ kept (cell_by attributes_) n back)) (sym sum)
      ∙ ap (λ (cells : List Cell). cells ++ (kept (cell_by attributes_) from text ++ kept (cell_by attributes_) (0 + to) back)) first
      ∙ ap (λ (cells : List Cell). take from (kept (cell_by attributes) 0 codes) ++ (cells ++ kept (cell_by attributes_) (0 + to) back)) middle
      ∙ ap (λ (cells : List Cell). take from (kept (cell_by attributes) 0 codes) ++ (map Char text ++ cells)) last
      ∙ ap (λ (cells : List Cell). placed from text cells) view
    where
      zero_more : (n : ℕ) → 0 + n ≡ n
      zero_more n = omega arith

      not_inside : (from to j : ℕ) → (from ≤ j → j < to → ⊥) → is_within from to j ≡ false
      not_inside from to j apart = grind (arith, nat_tests)

      inside : (from to j : ℕ) → from ≤ j → j < to → is_within from to j ≡ true
      inside from to j later before = grind (arith, nat_tests)

-- the codes of what is stored

pub set_coded : (now : List Cell) (codes : List ℕ) (at : ℕ) (cell : Cell) → map code_in now ≡ codes → map code_in (set now at cell) ≡ set codes at (code_in cell)
set_coded now codes at cell coded = map-set code_in now at cell ∙ ap (λ (all : List ℕ). set all at (code_in cell)) coded

pub put_coded : (now : List Cell) (codes : List ℕ) (from : ℕ) (text : List ℕ) → map code_in now ≡ codes → map code_in (placed from text now) ≡ take from codes ++ (text ++ drop (from + length text) codes)
put_coded now codes from text coded =
    let back : List Cell = drop (from + length text) now in
    map-append code_in (take from now) (map Char text ++ back)
    ∙ ap (λ (all : List ℕ). map code_in (take from now) ++ all) (map-append code_in (map Char text) back ∙ ap (λ (all : List ℕ). all ++ map code_in back) (map_code_chars text))
    ∙ ap (λ (all : List ℕ). all ++ (text ++ map code_in back)) (sym (take-map code_in from now))
    ∙ ap (λ (all : List ℕ). take from (map code_in now) ++ (text ++ all)) (sym (drop-map code_in (from + length text) now))
    ∙ ap (λ (all : List ℕ). take from all ++ (text ++ drop (from + length text) all)) coded

-- The list of the places of attributes: how it is built, and what changes leave it as it is.
use Rattle.std.proofs.Common.{◌≡◌, ℕ, ◌+◌, ◌-◌, ◌%◌, ◌<◌, ◌≤◌, not, Bool, true, false, cond, List, [], ◌∷◌, ◌++◌, get_or, set, map, replicate, length, ap, arith, sym, ◌∙◌, refl, suc, zero, inl, inr}
use Rattle.std.specs.List.{list_all}
use Rattle.std.proofs.Math.Nat.{mod-lt}
use Rattle.std.proofs.lemmas.Bool.{cases_lt}
use Rattle.std.proofs.lemmas.List.{drop_more, drop_all}
use Rattle.codes3270.specs.declared.attribute.Cell.{Cell}
use Rattle.codes3270.specs.declared.attribute.Cell.TheVariants.{Char, Attr}
use Rattle.codes3270.specs.Size.{cells_in}
use Rattle.datastream.specs.declared.command_code.CommandCode.{CommandCode}
use Rattle.datastream.specs.declared.command_code.CommandCode.TheVariants.{Write, EraseWrite, EraseWriteAlternate, ReadBuffer, ReadModified, ReadModifiedAll, EraseAllUnprotected}
use Rattle.datastream.specs.Grammar.{CommandParts, is_write}
use Rattle.datastream.specs.Screen.{Screen, is_char, is_char_at, is_protected, places_from, IsGoverned}
use Rattle.datastream.specs.Span.{is_within}
use Rattle.datastream.specs.Meaning.{by_place, opened, erased, modified, open_unmodified, unmodified, after_code, after_command}
use Rattle.datastream.proofs.Rounds.{back_to}
use Rattle.datastream.proofs.Fields.{all_characters}
use Rattle.datastream.proofs.FieldViews.{ascending}
use Rattle.presentation.specs.Places.{attribute_places}
use Rattle.presentation.specs.Index.{AreAscending, IsNearest, place_of}

abbrev pub attributes_from : ℕ → List Cell → List ℕ
attributes_from at cells = places_from (λ cell. not (is_char cell)) at cells

-- ---- built from cell to cell

pub attribute_places_more : (cells : List Cell) (place : ℕ) (d : Cell) → place < length cells → attribute_places cells place ≡ attributes_from place (get_or cells place d ∷ []) ++ attribute_places cells (place + 1)
attribute_places_more cells place d below = rw (drop_more cells place d below) (at_cell (is_char (get_or cells place d)))
  where
    at_cell : (test : Bool) → cond (not test) (place ∷ attribute_places cells (place + 1)) (attribute_places cells (place + 1)) ≡ cond (not test) (place ∷ []) [] ++ attribute_places cells (place + 1)
    at_cell true = refl
    at_cell false = refl

-- over characters none is listed
passed : (cells : List Cell) (at : ℕ) → is_char_at cells at ≡ true → attribute_places cells (at + 1) ≡ attribute_places cells at
passed cells at here = elim (cases_lt at (length cells)) [
  | inl below ↦ sym (attribute_places_more cells at (Char 0) below
      ∙ ap (λ (test : Bool). cond (not test) (at ∷ []) [] ++ attribute_places cells (at + 1)) here)
  | inr end ↦ ap (attributes_from (at + 1)) (drop_all (at + 1) cells (omega arith)) ∙ sym (ap (attributes_from at) (drop_all at cells end))
]

pub all_passed : (cells : List Cell) (from count : ℕ) → ((i : ℕ) → i < count → is_char_at cells (from + i) ≡ true) → attribute_places cells (from + count) ≡ attribute_places cells from
all_passed cells from zero characters = let here : from + 0 ≡ from = omega arith in ap (attribute_places cells) here
all_passed cells from (suc count) characters =
    let there : from + suc count ≡ from + count + 1 = omega arith in
    ap (attribute_places cells) there
    ∙ passed cells (from + count) (characters count (omega arith))
    ∙ all_passed cells from count (λ i less. characters i (omega (arith, less)))

-- an attribute is listed first
pub listed_first : (cells : List Cell) (at : ℕ) → at < length cells → is_char_at cells at ≡ false → attribute_places cells at ≡ at ∷ attribute_places cells (at + 1)
listed_first cells at below stands =
    attribute_places_more cells at (Char 0) below
    ∙ ap (λ (test : Bool). cond (not test) (at ∷ []) [] ++ attribute_places cells (at + 1)) stands

-- ---- left as it is by what makes no attribute of a character and no character of an attribute

alike : (at : ℕ) (p q : Bool) (xs ys : List ℕ) → p ≡ q → xs ≡ ys → cond (not p) (at ∷ xs) xs ≡ cond (not q) (at ∷ ys) ys
alike at p q xs ys same rest = rw (same, rest)

pub attributes_set : (from at : ℕ) (cells : List Cell) (new : Cell) → is_char new ≡ is_char (get_or cells at (Char 0)) → attributes_from from (set cells at new) ≡ attributes_from from cells
attributes_set from at [] new same = refl
attributes_set from zero (cell ∷ cells) new same = alike from (is_char new) (is_char cell) (attributes_from (from + 1) cells) (attributes_from (from + 1) cells) same refl
attributes_set from (suc at) (cell ∷ cells) new same =
    alike from (is_char cell) (is_char cell) (attributes_from (from + 1) (set cells at new)) (attributes_from (from + 1) cells) refl (attributes_set (from + 1) at cells new same)

pub attributes_map : (change : Cell → Cell) → ((cell : Cell) → is_char (change cell) ≡ is_char cell) → (from : ℕ) (cells : List Cell) → attributes_from from (map change cells) ≡ attributes_from from cells
attributes_map change keeps from [] = refl
attributes_map change keeps from (cell ∷ cells) =
    alike from (is_char (change cell)) (is_char cell) (attributes_from (from + 1) (map change cells)) (attributes_from (from + 1) cells) (keeps cell) (attributes_map change keeps (from + 1) cells)

pub attributes_by_place : (rule : ℕ → Cell → Cell) → ((at : ℕ) (cell : Cell) → is_char (rule at cell) ≡ is_char cell) → (from at : ℕ) (cells : List Cell) → attributes_from from (by_place rule at cells) ≡ attributes_from from cells
attributes_by_place rule keeps from at [] = refl
attributes_by_place rule keeps from at (cell ∷ cells) =
    alike from (is_char (rule at cell)) (is_char cell) (attributes_from (from + 1) (by_place rule (at + 1) cells)) (attributes_from (from + 1) cells) (keeps at cell) (attributes_by_place rule keeps (from + 1) (at + 1) cells)

pub modified_alike : (cell : Cell) → is_char (modified cell) ≡ is_char cell
modified_alike (Char byte) = refl
modified_alike (Attr attribute) = refl

open_unmodified_alike : (cell : Cell) → is_char (open_unmodified cell) ≡ is_char cell
open_unmodified_alike (Char byte) = refl
open_unmodified_alike (Attr attribute) = by_test attribute.protected
  where
    by_test : (test : Bool) → is_char (cond (not test) (unmodified (Attr attribute)) (Attr attribute)) ≡ false
    by_test true = refl
    by_test false = refl

erased_alike : (cell : Cell) → is_char (erased cell) ≡ is_char cell
erased_alike (Char byte) = refl
erased_alike (Attr attribute) = refl

either : (test : Bool) (x y : Cell) (kind : Bool) → is_char x ≡ kind → is_char y ≡ kind → is_char (cond test x y) ≡ kind
either true x y kind p q = p
either false x y kind p q = q

pub attributes_opened : (from count : ℕ) (cells : List Cell) → attributes_from 0 (opened from count cells) ≡ attributes_from 0 cells
attributes_opened from count cells =
    attributes_by_place (λ (at : ℕ) (old : Cell). cond (is_within (length cells) from count at) (cond (is_protected cells at) old (erased old)) old)
    (λ at old. either (is_within (length cells) from count at) (cond (is_protected cells at) old (erased old)) old (is_char old)
    (either (is_protected cells at) old (erased old) (is_char old) refl (erased_alike old)) refl)
    0 0 cells

-- Erase Input
pub attributes_erased : (cells : List Cell) → attributes_from 0 (map open_unmodified (opened 0 (length cells) cells)) ≡ attributes_from 0 cells
attributes_erased cells = attributes_map open_unmodified open_unmodified_alike 0 (opened 0 (length cells) cells) ∙ attributes_opened 0 (length cells) cells

-- any command but a write
pub attributes_left : (command : CommandParts) (screen : Screen) → is_write command.code ≡ false → attributes_from 0 (after_command command screen).cells ≡ attributes_from 0 screen.cells
attributes_left command screen = by_code command.code
  where
    by_code : (code : CommandCode) → is_write code ≡ false → attributes_from 0 (after_code code (cells_in command.size) command.wcc command.orders screen).cells ≡ attributes_from 0 screen.cells
    by_code Write other = cc
    by_code EraseWrite other = cc
    by_code EraseWriteAlternate other = cc
    by_code EraseAllUnprotected other = attributes_erased screen.cells
    by_code ReadBuffer other = refl
    by_code ReadModified other = refl
    by_code ReadModifiedAll other = refl

pub attributes_nulls : (from count : ℕ) → attributes_from from (replicate count (Char 0)) ≡ []
attributes_nulls from zero = refl
attributes_nulls from (suc count) = attributes_nulls (from + 1) count

-- ---- what is listed, and what isn't

not_before : (from : ℕ) (cells : List Cell) (k : ℕ) → k < length (attributes_from from cells) → from ≤ get_or (attributes_from from cells) k 0
not_before from [] k below = absurd (omega arith)
not_before from (Char byte ∷ cells) k below = omega (arith, not_before (from + 1) cells k below)
not_before from (Attr attribute ∷ cells) zero below = omega arith
not_before from (Attr attribute ∷ cells) (suc k) below =
    let lower : k < length (attributes_from (from + 1) cells) = omega arith in
    omega (arith, not_before (from + 1) cells k lower)

not_behind : (from : ℕ) (cells : List Cell) (k : ℕ) → k < length (attributes_from from cells) → get_or (attributes_from from cells) k 0 < from + length cells
not_behind from [] k below = absurd (omega arith)
not_behind from (Char byte ∷ cells) k below = omega (arith, not_behind (from + 1) cells k below)
not_behind from (Attr attribute ∷ cells) zero below = omega arith
not_behind from (Attr attribute ∷ cells) (suc k) below =
    let lower : k < length (attributes_from (from + 1) cells) = omega arith in
    omega (arith, not_behind (from + 1) cells k lower)

-- a listed place holds an attribute
holds_from : (from : ℕ) (cells : List Cell) (k at : ℕ) → k < length (attributes_from from cells) → get_or (attributes_from from cells) k 0 ≡ from + at → is_char_at cells at ≡ false
holds_from from [] k at below is = absurd (omega arith)
holds_from from (Char byte ∷ cells) k zero below is = absurd (omega (arith, not_before (from + 1) cells k below))
holds_from from (Char byte ∷ cells) k (suc at) below is = holds_from (from + 1) cells k at below (omega arith)
holds_from from (Attr attribute ∷ cells) zero zero below is = refl
holds_from from (Attr attribute ∷ cells) zero (suc at) below is = absurd (omega arith)
holds_from from (Attr attribute ∷ cells) (suc k) zero below is =
    let lower : k < length (attributes_from (from + 1) cells) = omega arith in
    absurd (omega (arith, not_before (from + 1) cells k lower))
holds_from from (Attr attribute ∷ cells) (suc k) (suc at) below is = holds_from (from + 1) cells k at (omega arith) (omega arith)

-- each attribute is listed
listed_from : (from : ℕ) (cells : List Cell) (at : ℕ) → at < length cells → is_char_at cells at ≡ false → (k : ℕ) × (k < length (attributes_from from cells)) × (get_or (attributes_from from cells) k 0 ≡ from + at)
listed_from from [] at below attribute = absurd (omega arith)
listed_from from (Char byte ∷ cells) zero below attribute = cc
listed_from from (Char byte ∷ cells) (suc at) below attribute =
    let further = listed_from (from + 1) cells at (omega arith) attribute in
    (further.0, further.1, omega (arith, further.2))
listed_from from (Attr attr ∷ cells) zero below attribute = (0, omega arith, omega arith)
listed_from from (Attr attr ∷ cells) (suc at) below attribute =
    let further = listed_from (from + 1) cells at (omega arith) attribute in
    (suc further.0, omega (arith, further.1), omega (arith, further.2))

pub are_ascending : (cells : List Cell) → AreAscending (length cells) (attribute_places cells 0)
are_ascending cells = record {
  order = λ i j before below. ascending 0 cells i j 0 before below;
  within = λ i below. omega (arith, not_behind 0 cells i below);
}

pub place_holds : (cells : List Cell) (index : ℕ) → index < length (attribute_places cells 0) → is_char_at cells (place_of cells index) ≡ false
place_holds cells index below = holds_from 0 cells index (place_of cells index) below (omega arith)

pub place_listed : (cells : List Cell) (at : ℕ) → at < length cells → is_char_at cells at ≡ false → (index : ℕ) × (index < length (attribute_places cells 0)) × (place_of cells index ≡ at)
place_listed cells at below attribute = let there = listed_from 0 cells at below attribute in (there.0, there.1, omega (arith, there.2))

-- where none is listed there is none
pub none_listed : (cells : List Cell) → attribute_places cells 0 ≡ [] → list_all is_char cells ≡ true
none_listed cells none = all_characters cells (λ place below. by_test place below (is_char_at cells place) refl)
  where
    by_test : (place : ℕ) → place < length cells → (test : Bool) → is_char_at cells place ≡ test → test ≡ true
    by_test place below true is = refl
    by_test place below false is =
        let there = place_listed cells place below is in
        let none_there : there.0 < 0 = rw none at there.1 in
        absurd (omega arith)

-- the nearest one before an address governs the cell there
pub nearest_governs : (cells : List Cell) (at index : ℕ) → at < length cells → IsNearest (length cells) (attribute_places cells 0) at index → IsGoverned cells at (place_of cells index)
nearest_governs cells at index inside nearest =
    let size : ℕ = length cells in
    let place : ℕ = place_of cells index in
    let below : place < size = (are_ascending cells).within index nearest.listed in
    record {
      back = (at + size - place) % size;
      near = mod-lt (at + size - place) (omega arith);
      place = sym (back_to size at place inside below);
      there = place_holds cells index nearest.listed;
      none_nearer = λ nearer closer. by_test nearer closer (is_char_at cells ((at + size - nearer) % size)) refl;
    }
  where
    by_test : (nearer : ℕ) → nearer < (at + length cells - place_of cells index) % length cells → (test : Bool) → is_char_at cells ((at + length cells - nearer) % length cells) ≡ test → test ≡ true
    by_test nearer closer true is = refl
    by_test nearer closer false is =
        let size : ℕ = length cells in
        let other : ℕ = (at + size - nearer) % size in
        let positive : 0 < size = omega arith in
        let inner : nearer < size = omega (arith, mod-lt (at + size - place_of cells index) positive) in
        let below : other < size = mod-lt (at + size - nearer) positive in
        let there = place_listed cells other below is in
        let back : (at + size - other) % size ≡ nearer = back_to size at nearer inside inner in
        let least : (at + size - place_of cells index) % size ≤ (at + size - place_of cells there.0) % size = nearest.nearest there.0 there.1 in
        let least_there : (at + size - place_of cells index) % size ≤ nearer = rw (there.2, back) at least in
        absurd (omega arith)

-- a screen with an attribute is formatted
pub formatted : (cells : List Cell) (at : ℕ) → at < length cells → is_char_at cells at ≡ false → list_all is_char cells ≡ false
formatted [] at below attribute = absurd (omega arith)
formatted (Char byte ∷ cells) zero below attribute = cc
formatted (Char byte ∷ cells) (suc at) below attribute = formatted cells at (omega arith) attribute
formatted (Attr attr ∷ cells) at below attribute = refl

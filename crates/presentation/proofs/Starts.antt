-- The first start, as a walk with the cell before finds it.
use Rattle.std.proofs.Common.{◌≡◌, ℕ, ◌+◌, ◌-◌, ◌<◌, ◌≤◌, true, false, List, [], ◌∷◌, length, get_or, take, drop, zip, position, cond, Option, Some, None, arith, sym, ◌∙◌, ap, refl, suc}
use Rattle.std.specs.List.{position_from, prefix_len}
use Rattle.std.proofs.lemmas.List.{drop_more, drop_all, get_or_default, get_or-drop}
use Rattle.std.proofs.lemmas.List.Sums.{prefix_len_passes}
use Rattle.std.proofs.lemmas.Iterator.Adapters.{position_from-zero}
use Rattle.codes3270.specs.declared.attribute.Cell.{Cell}
use Rattle.codes3270.specs.declared.attribute.Cell.TheVariants.{Char, Attr}
use Rattle.datastream.specs.Screen.{is_char, is_char_at, ring}
use Rattle.datastream.specs.Meaning.{is_start}
use Rattle.presentation.specs.Places.{starts_at}

abbrev pub start_from : Cell → ℕ → List Cell → Option ℕ
start_from before place [] = None
start_from before place (cell ∷ cells) = cond (is_start (before, cell)) (Some place) (start_from cell (place + 1) cells)

pub position_from-zip : (before : Cell) (place : ℕ) (cells : List Cell) → position_from is_start place (zip (before ∷ cells) cells) ≡ start_from before place cells
position_from-zip before place [] = refl
position_from-zip before place (cell ∷ cells) =
    ap (λ (rest : Option ℕ). cond (is_start (before, cell)) (Some place) rest) (position_from-zip cell (place + 1) cells)

-- a list zipped with a longer one
pub zip-take : (xs ys : List Cell) → zip (take (length ys) xs) ys ≡ zip xs ys
zip-take [] [] = refl
zip-take [] (y ∷ ys) = refl
zip-take (x ∷ xs) [] = refl
zip-take (x ∷ xs) (y ∷ ys) = ap (λ (rest : List (Cell × Cell)). (x, y) ∷ rest) (zip-take xs ys)

take-cons : (m n : ℕ) (x : Cell) (xs : List Cell) → m ≡ suc n → take m (x ∷ xs) ≡ x ∷ take n xs
take-cons m n x xs same = rw same

pub zip-ring : (cells : List Cell) (d : Cell) → 0 < length cells → zip (ring (length cells - 1) cells) cells ≡ zip (get_or cells (length cells - 1) d ∷ cells) cells
zip-ring cells d some =
    let last : ℕ = length cells - 1 in
    let below : last < length cells = omega arith in
    let ending : ring last cells ≡ get_or cells last d ∷ take last cells =
    rw (drop_more cells last d below, drop_all (last + 1) cells (omega arith)) in
    let cut : take (length cells) (get_or cells last d ∷ cells) ≡ get_or cells last d ∷ take last cells =
    take-cons (length cells) last (get_or cells last d) cells (omega arith) in
    ap (λ (front : List Cell). zip front cells) (ending ∙ sym cut) ∙ zip-take (get_or cells last d ∷ cells) cells

pub first_start_is : (cells : List Cell) (d : Cell) → 0 < length cells → position is_start (zip (ring (length cells - 1) cells) cells) ≡ start_from (get_or cells (length cells - 1) d) 0 cells
first_start_is cells d some =
    rw (zip-ring cells d some)
    (position_from-zero is_start (zip (get_or cells (length cells - 1) d ∷ cells) cells) ∙ position_from-zip (get_or cells (length cells - 1) d) 0 cells)

-- ---- from attribute to attribute

not_behind : (before cell : Cell) → is_char before ≡ true → is_start (before, cell) ≡ false
not_behind (Char code) cell is = refl
not_behind (Attr attribute) cell is = cc

-- no start is behind a character
pub none_between : (cells : List Cell) (from to : ℕ) → to ≡ from + prefix_len is_char (drop from cells) → (place : ℕ) → from < place → place ≤ to → starts_at cells place ≡ false
none_between cells from to is place behind before =
    let i : ℕ = place - 1 - from in
    let there : from + i ≡ place - 1 = omega (arith, behind) in
    let character : is_char_at cells (place - 1) ≡ true =
    ap (is_char_at cells) (sym there) ∙ ap is_char (sym (get_or-drop from cells i (Char 0))) ∙ prefix_len_passes is_char (drop from cells) i (Char 0) (omega (arith, is, behind, before)) in
    not_behind (get_or cells (place - 1) (Char 0)) (get_or cells place (Char 0)) character

pub start_read : (cells : List Cell) (at : ℕ) (before cell : Cell) → at + 1 < length cells → before ≡ get_or cells at before → cell ≡ get_or cells (at + 1) cell
    → is_start (before, cell) ≡ starts_at cells (at + 1)
start_read cells at before cell below before_is cell_is =
    let back : at ≡ at + 1 - 1 = omega arith in
    let first : before ≡ get_or cells (at + 1 - 1) (Char 0) =
    before_is ∙ get_or_default cells at before (Char 0) (omega (arith, below)) ∙ ap (λ (n : ℕ). get_or cells n (Char 0)) back in
    let second : cell ≡ get_or cells (at + 1) (Char 0) = cell_is ∙ get_or_default cells (at + 1) cell (Char 0) below in
    ap (λ (one : Cell). is_start (one, cell)) first ∙ ap (λ (one : Cell). is_start (get_or cells (at + 1 - 1) (Char 0), one)) second

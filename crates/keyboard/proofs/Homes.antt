-- Home goes where Tab goes from the last cell, and Tab where Home goes if no start is left up to the last cell.
use Rattle.std.proofs.Common.{◌≡◌, ℕ, ◌+◌, ◌-◌, ◌%◌, ◌<◌, ◌≤◌, Bool, true, false, cond, List, [], ◌∷◌, length, get_or, zip, position, Option, Some, None, arith, sym, ◌∙◌, ap, refl, suc, zero, inl, inr}
use Rattle.std.specs.List.{position_from}
use Rattle.std.proofs.Math.Nat.{mod-eq_of_lt, mod-lt}
use Rattle.std.proofs.lemmas.Bool.{cases_lt}
use Rattle.std.proofs.lemmas.List.Quantifiers.{position-Some}
use Rattle.std.proofs.lemmas.Iterator.Adapters.{position_from-zero}
use Rattle.std.proofs.lemmas.Slice.Zip.{length-zip, get_or-zip}
use Rattle.codes3270.specs.declared.attribute.Cell.{Cell}
use Rattle.codes3270.specs.declared.attribute.Cell.TheVariants.{Char}
use Rattle.datastream.specs.Screen.{ring}
use Rattle.datastream.specs.Meaning.{home, is_start, place_or_first}
use Rattle.datastream.proofs.Rounds.{round_once}
use Rattle.datastream.proofs.Texts.{get_or-ring}
use Rattle.keyboard.specs.Places.{is_start_at, next_start}
use Rattle.keyboard.proofs.Searches.{first_onward, none_onward}
use Rattle.presentation.specs.Places.{IsFirstStart, starts_at}
use Rattle.presentation.proofs.Texts.{length-ring}

none_from : (passes : Cell × Cell → Bool) (from : ℕ) (pairs : List (Cell × Cell)) → position_from passes from pairs ≡ None → (d : Cell × Cell) (i : ℕ) → i < length pairs → passes (get_or pairs i d) ≡ false
none_from passes from [] e d i below = absurd (omega arith)
none_from passes from (pair ∷ pairs) e d zero below = by_test (passes pair) e
  where
    by_test : (test : Bool) → cond test (Some from) (position_from passes (from + 1) pairs) ≡ None → test ≡ false
    by_test true e = cc
    by_test false e = refl
none_from passes from (pair ∷ pairs) e d (suc i) below =
    by_test (passes pair) e (λ rest. none_from passes (from + 1) pairs rest d i (omega arith))
  where
    by_test : (test : Bool) → cond test (Some from) (position_from passes (from + 1) pairs) ≡ None → (position_from passes (from + 1) pairs ≡ None → passes (get_or pairs i d) ≡ false) → passes (get_or pairs i d) ≡ false
    by_test true e more = cc
    by_test false e more = more e

-- each cell beside the one before it
abbrev pairs_of : List Cell → List (Cell × Cell)
pairs_of cells = zip (ring (length cells - 1) cells) cells

long_pairs : (cells : List Cell) → 0 < length cells → length (pairs_of cells) ≡ length cells
long_pairs cells some =
    let same : length (ring (length cells - 1) cells) ≡ length cells = length-ring cells (length cells - 1) (omega arith) in
    length-zip (ring (length cells - 1) cells) cells ∙ omega arith

start_pair : (cells : List Cell) (i : ℕ) → i < length cells → is_start (get_or (pairs_of cells) i (Char 0, Char 0)) ≡ is_start_at cells i
start_pair cells i below =
    let size : ℕ = length cells in
    let long : length (ring (size - 1) cells) ≡ size = length-ring cells (size - 1) (omega arith) in
    let there : size - 1 + i ≡ i + size - 1 = omega arith in
    let before : get_or (ring (size - 1) cells) i (Char 0) ≡ get_or cells ((i + size - 1) % size) (Char 0) =
    rw there at (get_or-ring cells (size - 1) i (Char 0) (omega arith) below) in
    ap is_start (get_or-zip (ring (size - 1) cells) cells i (Char 0, Char 0) (omega arith) below)
    ∙ ap (λ (cell : Cell). is_start (cell, get_or cells i (Char 0))) before

-- a distance from the last cell
from_last : (size i : ℕ) → i < size → (size - 1 + suc i) % size ≡ i
from_last size i below = round_once (size - 1 + suc i) size (omega arith) (omega arith) ∙ omega arith

pub home_is : (cells : List Cell) → 0 < length cells → home cells ≡ next_start cells (length cells - 1)
home_is cells some = by_place (position is_start (pairs_of cells)) refl
  where
    start_at : (distance : ℕ) → 0 < distance → distance ≤ length cells → is_start (get_or (pairs_of cells) (distance - 1) (Char 0, Char 0)) ≡ is_start_at cells ((length cells - 1 + distance) % length cells)
    start_at zero positive few = absurd (omega arith)
    start_at (suc i) positive few =
        let same : suc i - 1 ≡ i = omega arith in
        rw (same, from_last (length cells) i (omega arith)) (start_pair cells i (omega arith))

    by_place : (found : Option ℕ) → position is_start (pairs_of cells) ≡ found → place_or_first found ≡ next_start cells (length cells - 1)
    by_place None e =
        sym (none_onward (is_start_at cells) (length cells) (length cells - 1)
        (λ distance positive few.
        sym (start_at distance positive few)
        ∙ none_from is_start 0 (pairs_of cells) (sym (position_from-zero is_start (pairs_of cells)) ∙ e) (Char 0, Char 0) (distance - 1) (omega (arith, long_pairs cells some))))
    by_place (Some place) e =
        let found : (place < length (pairs_of cells)) × (is_start (get_or (pairs_of cells) place (Char 0, Char 0)) ≡ true) × ((k : ℕ) → k < place → is_start (get_or (pairs_of cells) k (Char 0, Char 0)) ≡ false) = position-Some is_start (pairs_of cells) place (Char 0, Char 0) e in
        let below : place < length cells = omega (arith, found.0, long_pairs cells some) in
        let here : is_start_at cells ((length cells - 1 + suc place) % length cells) ≡ true =
        rw (from_last (length cells) place below) (sym (start_pair cells place below) ∙ found.1) in
        sym (from_last (length cells) place below)
        ∙ sym (first_onward (is_start_at cells) (length cells) (length cells - 1) (suc place) (omega arith) (omega arith)
        (λ nearer positive lower. sym (start_at nearer positive (omega arith)) ∙ found.2 (nearer - 1) (omega arith)) here)

-- ---- Tab

same_start : (cells : List Cell) (place : ℕ) → 0 < place → place < length cells → is_start_at cells place ≡ starts_at cells place
same_start cells place some below =
    let back : (place + length cells - 1) % length cells ≡ place - 1 = round_once (place + length cells - 1) (length cells) (omega arith) (omega arith) ∙ omega arith in
    ap (λ (before : ℕ). is_start (get_or cells before (Char 0), get_or cells place (Char 0))) back

pub start_found : (cells : List Cell) (at start : ℕ) → IsFirstStart cells at start → start ≡ next_start cells at
start_found cells at start first =
    let k : ℕ = start - at in
    let sum : at + k ≡ start = omega (arith, first.after) in
    let there : (at + k) % length cells ≡ start = ap (λ (n : ℕ). n % length cells) sum ∙ mod-eq_of_lt first.within in
    sym there
    ∙ sym (first_onward (is_start_at cells) (length cells) at k (omega (arith, first.after)) (omega (arith, first.within))
    (λ nearer some less.
    let inner : at + nearer < length cells = omega (arith, sum, less, first.within) in
    ap (is_start_at cells) (mod-eq_of_lt inner) ∙ same_start cells (at + nearer) (omega (arith, some)) inner ∙ first.none_nearer (at + nearer) (omega (arith, some)) (omega (arith, sum, less)))
    (ap (is_start_at cells) there ∙ same_start cells start (omega (arith, first.after)) first.within ∙ first.there))

pub home_round : (cells : List Cell) (at : ℕ) → at < length cells → ((place : ℕ) → at < place → place < length cells → starts_at cells place ≡ false) → home cells ≡ next_start cells at
home_round cells at below none = by_place (position is_start (pairs_of cells)) refl
  where
    by_place : (found : Option ℕ) → position is_start (pairs_of cells) ≡ found → place_or_first found ≡ next_start cells at
    by_place None e =
        sym (none_onward (is_start_at cells) (length cells) at
        (λ distance positive few.
        let place : ℕ = (at + distance) % length cells in
        let inside : place < length cells = mod-lt (at + distance) (omega (arith, below)) in
        sym (start_pair cells place inside)
        ∙ none_from is_start 0 (pairs_of cells) (sym (position_from-zero is_start (pairs_of cells)) ∙ e) (Char 0, Char 0) place (omega (arith, inside, long_pairs cells (omega (arith, below))))))
    by_place (Some place) e =
        let found : (place < length (pairs_of cells)) × (is_start (get_or (pairs_of cells) place (Char 0, Char 0)) ≡ true) × ((k : ℕ) → k < place → is_start (get_or (pairs_of cells) k (Char 0, Char 0)) ≡ false) = position-Some is_start (pairs_of cells) place (Char 0, Char 0) e in
        let inside : place < length cells = omega (arith, found.0, long_pairs cells (omega (arith, below))) in
        let is : is_start_at cells place ≡ true = sym (start_pair cells place inside) ∙ found.1 in
        let before : place ≤ at = elim (cases_lt at place) [
          | inl further ↦ absurd (let no : false ≡ true = sym (none place further inside) ∙ sym (same_start cells place (omega (arith, further)) inside) ∙ is in cc)
          | inr nigh ↦ nigh
        ] in
        let k : ℕ = length cells + place - at in
        let sum : at + k ≡ length cells + place = omega (arith, below) in
        let there : (at + k) % length cells ≡ place =
        ap (λ (n : ℕ). n % length cells) sum ∙ round_once (length cells + place) (length cells) (omega arith) (omega (arith, inside)) ∙ omega arith in
        sym there
        ∙ sym (first_onward (is_start_at cells) (length cells) at k (omega (arith, below)) (omega (arith, before))
        (λ nearer positive less. elim (cases_lt (at + nearer) (length cells)) [
          | inl inner ↦ ap (is_start_at cells) (mod-eq_of_lt inner) ∙ same_start cells (at + nearer) (omega (arith, positive)) inner ∙ none (at + nearer) (omega (arith, positive)) inner
          | inr outer ↦
              let past : (at + nearer) % length cells ≡ at + nearer - length cells = round_once (at + nearer) (length cells) outer (omega (arith, below, inside, sum, less)) in
              ap (is_start_at cells) past
              ∙ sym (start_pair cells (at + nearer - length cells) (omega (arith, outer, sum, less, inside)))
              ∙ found.2 (at + nearer - length cells) (omega (arith, outer, sum, less))
        ])
        (ap (is_start_at cells) there ∙ is))

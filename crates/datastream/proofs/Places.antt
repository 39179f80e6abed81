-- A change of each cell by its place.
use Rattle.std.proofs.Common.{◌≡◌, ℕ, ◌+◌, ◌-◌, ◌%◌, ◌<◌, true, false, eqb, cond, List, [], ◌∷◌, length, get_or, set, replicate, arith, sym, ◌∙◌, ap, refl, add-zero, suc, zero, inl, inr}
use Rattle.std.proofs.lemmas.List.{ext_get_or, get_or-set_same, get_or-set_other, length-set, get_or_default, get_or-replicate, length-replicate}
use Rattle.std.proofs.lemmas.Bool.{cases_eq}
use Rattle.codes3270.specs.declared.attribute.Cell.{Cell}
use Rattle.codes3270.specs.declared.attribute.Cell.TheVariants.{Char}
use Rattle.datastream.specs.Span.{is_within}
use Rattle.datastream.specs.Meaning.{by_place, across, filled}
use Rattle.datastream.proofs.Rounds.{is_within_more, is_within_none, is_within_all, distance_at}
use Rattle.std.proofs.Math.Nat.{mod-lt}
use Rattle.std.proofs.lemmas.Bool.Decides.{nat_tests}

pub length-by_place : (rule : ℕ → Cell → Cell) (at : ℕ) (cells : List Cell) → length (by_place rule at cells) ≡ length cells
length-by_place rule at [] = refl
length-by_place rule at (cell ∷ cells) = ap (λ n. suc n) (length-by_place rule (at + 1) cells)

-- each cell is the rule's, at its place
pub get_or-by_place : (rule : ℕ → Cell → Cell) (at : ℕ) (cells : List Cell) (place : ℕ) (d : Cell) → place < length cells → get_or (by_place rule at cells) place d ≡ rule (at + place) (get_or cells place d)
get_or-by_place rule at [] place d below = absurd (omega arith)
get_or-by_place rule at (cell ∷ cells) zero d below = rw add-zero
get_or-by_place rule at (cell ∷ cells) (suc place) d below =
    let there : at + 1 + place ≡ at + suc place = omega arith in
    rw (← there) (get_or-by_place rule (at + 1) cells place d (omega arith))

-- a list is what a rule makes of another, where it is so at each place
pub by_place_from : (rule : ℕ → Cell → Cell) (old new : List Cell) → length new ≡ length old → ((place : ℕ) (d : Cell) → place < length old → get_or new place d ≡ rule place (get_or old place d)) → new ≡ by_place rule 0 old
by_place_from rule old new same each =
    ext_get_or (Char 0) new (by_place rule 0 old) (same ∙ sym (length-by_place rule 0 old))
    (λ place below.
    let within : place < length old = omega arith in
    let start : 0 + place ≡ place = omega arith in
    each place (Char 0) within ∙ sym (rw start at (get_or-by_place rule 0 old place (Char 0) within)))

pub length-across : (from count : ℕ) (rule : ℕ → Cell → Cell) (cells : List Cell) → length (across from count rule cells) ≡ length cells
length-across from count rule cells = length-by_place _ 0 cells

pub get_or-across : (from count : ℕ) (rule : ℕ → Cell → Cell) (cells : List Cell) (place : ℕ) (d : Cell) → place < length cells → get_or (across from count rule cells) place d ≡ cond (is_within (length cells) from count place) (rule place (get_or cells place d)) (get_or cells place d)
get_or-across from count rule cells place d below =
    let start : 0 + place ≡ place = omega arith in
    rw start at (get_or-by_place (λ at old. cond (is_within (length cells) from count at) (rule at old) old) 0 cells place d below)

-- an empty span changes nothing
pub across_none : (from : ℕ) (rule : ℕ → Cell → Cell) (cells : List Cell) → across from 0 rule cells ≡ cells
across_none from rule cells =
    sym (by_place_from _ cells cells refl
    (λ place d below. rw (is_within_none (length cells) from place)))

-- the place behind a span isn't changed yet
pub get_or-across_end : (from count : ℕ) (rule : ℕ → Cell → Cell) (cells : List Cell) (d : Cell) → from < length cells → count < length cells → get_or (across from count rule cells) ((from + count) % length cells) d ≡ get_or cells ((from + count) % length cells) d
get_or-across_end from count rule cells d f c =
    let size : ℕ = length cells in
    let place : ℕ = (from + count) % size in
    let positive : 0 < size = omega arith in
    let below : place < size = mod-lt (from + count) positive in
    let far : (place + size - from) % size ≡ count = distance_at size from count f c in
    let out : is_within size from count place ≡ false = grind (arith, nat_tests) in
    rw out at (get_or-across from count rule cells place d below)

-- one more place at the end of the span
pub across_more : (from count : ℕ) (rule : ℕ → Cell → Cell) (cells : List Cell) (d : Cell) → from < length cells → count < length cells → set (across from count rule cells) ((from + count) % length cells) (rule ((from + count) % length cells) (get_or cells ((from + count) % length cells) d)) ≡ across from (count + 1) rule cells
across_more from count rule cells d f c =
    let target : ℕ = (from + count) % length cells in
    let new : Cell = rule target (get_or cells target d) in
    let done : List Cell = across from count rule cells in
    by_place_from _ cells (set done target new) (length-set done target new ∙ length-across from count rule cells)
    (λ place e below.
    rw (is_within_more (length cells) from count place f c below)
    (elim (cases_eq place target) [
      | inl same ↦
          let within : target < length done = rw (length-across from count rule cells) (rw (← same) below) in
          let stored : get_or (set done target new) target e ≡ new = get_or-set_same done target new e within in
          let read : get_or cells target d ≡ get_or cells target e = get_or_default cells target d e (rw (← same) below) in
          let test : eqb place target ≡ true = grind (arith, nat_tests) in
          rw (test, same, stored, read)
      | inr apart ↦
          let kept : get_or (set done target new) place e ≡ get_or done place e = get_or-set_other done target place new e apart in
          let was : get_or done place e ≡ cond (is_within (length cells) from count place) (rule place (get_or cells place e)) (get_or cells place e) = get_or-across from count rule cells place e below in
          let test : eqb place target ≡ false = grind (arith, nat_tests) in
          rw test (kept ∙ was)
    ]))

-- a span of all places
pub filled_all : (from : ℕ) (new : Cell) (cells : List Cell) → filled from (length cells) new cells ≡ replicate (length cells) new
filled_all from new cells =
    sym (by_place_from _ cells (replicate (length cells) new) (length-replicate (length cells) new)
    (λ place d below.
    let positive : 0 < length cells = omega arith in
    rw (is_within_all (length cells) from place positive) (get_or-replicate (length cells) place new d below)))

-- Searches for a start, cell by cell round the end, that carry the cell before along.
use Rattle.std.proofs.Common.{◌≡◌, ℕ, zero, suc, ◌+◌, ◌-◌, ◌%◌, ◌<◌, ◌≤◌, List, length, get_or, arith, ap, ◌∙◌, inl, inr}
use Rattle.std.proofs.Math.Nat.{mod-add-mod, mod-eq-sub-mod, mod-eq_of_lt}
use Rattle.std.proofs.lemmas.Bool.{cases_lt}
use Rattle.codes3270.specs.declared.attribute.Cell.{Cell}
use Rattle.codes3270.specs.declared.attribute.Cell.TheVariants.{Char}
use Rattle.datastream.specs.Meaning.{is_start}
use Rattle.datastream.proofs.Rounds.{round_once}
use Rattle.keyboard.specs.Places.{is_start_at}

-- the cell before the next one
before_next : (size place : ℕ) → place < size → ((place + 1) % size + size - 1) % size ≡ place
before_next size place below = elim (cases_lt (place + 1) size) [
  | inl low ↦
      let there : (place + 1) % size ≡ place + 1 = mod-eq_of_lt low in
      let back : place + 1 + size - 1 ≡ place + size = omega arith in
      rw (there, back) (round_once (place + size) size (omega arith) (omega arith) ∙ omega arith)
  | inr high ↦
      let there : (place + 1) % size ≡ 0 = round_once (place + 1) size high (omega arith) ∙ omega arith in
      let back : 0 + size - 1 ≡ place = omega arith in
      rw (there, back) (mod-eq_of_lt below)
]

pub start_at_next : (cells : List Cell) (place next : ℕ) (before cell : Cell) → place < length cells → next ≡ (place + 1) % length cells
    → before ≡ get_or cells place (Char 0) → cell ≡ get_or cells next (Char 0) → is_start (before, cell) ≡ is_start_at cells next
start_at_next cells place next before cell below there before_is cell_is =
    rw (before_is, cell_is, there, before_next (length cells) place below)

pub start_at : (cells : List Cell) (place ahead : ℕ) (before cell : Cell) → ahead ≡ (place + length cells - 1) % length cells
    → before ≡ get_or cells ahead (Char 0) → cell ≡ get_or cells place (Char 0) → is_start (before, cell) ≡ is_start_at cells place
start_at cells place ahead before cell there before_is cell_is = rw (before_is, cell_is, there)

-- a walk backwards, round the end at most once and a step
pub back_at : (size at back : ℕ) → back ≤ size → (at + size + size - back) % size ≡ (at + size - back) % size
back_at size at back few =
    let once : at + size + size - back - size ≡ at + size - back = omega arith in
    mod-eq-sub-mod (omega arith) ∙ ap (λ (n : ℕ). n % size) once

pub back_more : (size at back place : ℕ) → back < size + size → place ≡ (at + size + size - back) % size → (place + size - 1) % size ≡ (at + size + size - (back + 1)) % size
back_more zero at back place few there = absurd (omega arith)
back_more (suc size) at back place few there =
    let far : ℕ = at + suc size + suc size - back in
    let one : place + suc size - 1 ≡ place + size = omega arith in
    let past : far + size - suc size ≡ at + suc size + suc size - (back + 1) = omega arith in
    ap (λ (n : ℕ). n % suc size) one ∙ ap (λ (n : ℕ). (n + size) % suc size) there ∙ mod-add-mod far (suc size) size
    ∙ mod-eq-sub-mod (omega arith) ∙ ap (λ (n : ℕ). n % suc size) past

-- The nearest of ascending places before an address, as a binary search finds it.
use Rattle.std.proofs.Common.{◌≡◌, ℕ, ◌+◌, ◌-◌, ◌%◌, ◌<◌, ◌≤◌, List, length, get_or, Option, Some, None, Ok, Err, arith, inl, inr}
use Rattle.std.specs.Option.{SomeIff, IfSome}
use Rattle.std.proofs.lemmas.Bool.{cases_lt, cases_eq}
use Rattle.std.proofs.lemmas.List.Sorted.{searched}
use Rattle.std.specs.List.Sorted.{IsBinarySearchResult}
use Rattle.std.specs.Ordering.{nat_cmp}
use Rattle.datastream.proofs.Rounds.{behind_ahead, behind_round}
use Rattle.presentation.specs.Index.{AreAscending, IsCountUpTo, IsFirstFrom, IsNearest}

-- what holds of the value that is there, if there is one
pub if_some : (P : Type 0) (Q : ℕ → Type 0) (v : ℕ) (o : Option ℕ) → SomeIff o P v → (P → Q v) → IfSome o Q
if_some P Q v None some holds = tt
if_some P Q v (Some x) some holds = rw some.1 (holds some.0)

pub rising : (size : ℕ) (places : List ℕ) → AreAscending size places → (i j : ℕ) → i ≤ j → j < length places → get_or places i 0 ≤ get_or places j 0
rising size places ascending i j le below = elim (cases_eq i j) [
  | inl same ↦ rw same (omega arith)
  | inr apart ↦ omega (arith, ascending.order i j (omega arith) below)
]

-- ---- how many are up to an address

pub counted_here : (size : ℕ) (places : List ℕ) (at number : ℕ) → AreAscending size places → number < length places → get_or places number 0 ≤ at → (number + 1 < length places → at < get_or places (number + 1) 0)
    → IsCountUpTo places at (number + 1)
counted_here size places at number ascending listed before next = record {
  few = omega (arith, listed);
  up_to = λ index lower. omega (arith, rising size places ascending index number (omega (arith, lower)) listed, before);
  behind = λ index upper below. omega (arith, rising size places ascending (number + 1) index upper below, next (omega (arith, upper, below)));
}

pub counted_found : (size : ℕ) (places : List ℕ) (at number : ℕ) → AreAscending size places → IsBinarySearchResult (λ y. nat_cmp y at) places (Ok number) → IsCountUpTo places at (number + 1)
counted_found size places at number ascending found =
    let here = searched places at (Ok number) found (rising size places ascending) in
    counted_here size places at number ascending here.0 (omega (arith, here.1))
    (λ below. omega (arith, here.1, ascending.order number (number + 1) (omega arith) below))

pub counted_missed : (size : ℕ) (places : List ℕ) (at count : ℕ) → AreAscending size places → IsBinarySearchResult (λ y. nat_cmp y at) places (Err count) → IsCountUpTo places at count
counted_missed size places at count ascending found =
    let gap = searched places at (Err count) found (rising size places ascending) in
    record {
      few = gap.0;
      up_to = λ index lower. omega (arith, gap.1 index lower);
      behind = λ index upper below. gap.2 index upper below;
    }

-- the first from an address on
pub first_of_all : (places : List ℕ) (at : ℕ) → at ≡ 0 → IsFirstFrom places at 0
first_of_all places at is = record {
  before = λ index lower below. absurd (omega (arith, lower));
  from = λ index upper below. omega (arith, is);
}

pub first_counted : (places : List ℕ) (at first : ℕ) → 0 < at → IsCountUpTo places (at - 1) first → IsFirstFrom places at first
first_counted places at first some count = record {
  before = λ index lower below. omega (arith, some, count.up_to index lower);
  from = λ index upper below. omega (arith, some, count.behind index upper below);
}

-- ---- the nearest

-- all places lie behind the address: the last is the nearest, round the end
pub nearest_is_last : (size : ℕ) (places : List ℕ) (at : ℕ) → at < size → AreAscending size places → IsCountUpTo places at 0 → 0 < length places → IsNearest size places at (length places - 1)
nearest_is_last size places at inside ascending count some =
    let last : ℕ = length places - 1 in
    record {
      listed = omega arith;
      nearest = λ other below.
          let far : (at + size - get_or places last 0) % size ≡ at + size - get_or places last 0 = behind_round size (get_or places last 0) at (count.behind last (omega arith) (omega arith)) (ascending.within last (omega arith)) in
          let further : (at + size - get_or places other 0) % size ≡ at + size - get_or places other 0 = behind_round size (get_or places other 0) at (count.behind other (omega arith) below) (ascending.within other below) in
          rw (far, further) (omega (arith, rising size places ascending other last (omega arith) (omega arith)));
    }

-- some are up to it: the last of these is the nearest
pub nearest_is_before : (size : ℕ) (places : List ℕ) (at count : ℕ) → at < size → AreAscending size places → IsCountUpTo places at count → 0 < count → IsNearest size places at (count - 1)
nearest_is_before size places at count inside ascending is some =
    let index : ℕ = count - 1 in
    let place : ℕ = get_or places index 0 in
    let before : place ≤ at = is.up_to index (omega arith) in
    let near : (at + size - place) % size ≡ at - place = behind_ahead size place at before inside in
    record {
      listed = omega (arith, is.few);
      nearest = λ other below. rw near (elim (cases_lt other count) [
        | inl lower ↦
            let far : (at + size - get_or places other 0) % size ≡ at - get_or places other 0 = behind_ahead size (get_or places other 0) at (is.up_to other lower) inside in
            rw far (omega (arith, rising size places ascending other index (omega arith) (omega (arith, is.few))))
        | inr upper ↦
            let within : get_or places other 0 < size = ascending.within other below in
            let far : (at + size - get_or places other 0) % size ≡ at + size - get_or places other 0 = behind_round size (get_or places other 0) at (is.behind other upper below) within in
            rw far (omega arith)
      ]);
    }

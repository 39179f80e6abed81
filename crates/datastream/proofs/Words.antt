-- Bits of a row, word by word.
use Rattle.std.proofs.Common.{◌≡◌, ℕ, suc, ◌+◌, ◌-◌, ◌*◌, ◌^◌, ◌/◌, ◌%◌, ◌<◌, ◌≤◌, Bool, true, false, not, ◌&&◌, List, length, set, get_or, refl, ap, sym, arith, ◌∙◌, inl, inr, if◌then◌else◌}
use Rattle.std.specs.Prelude.{nat_eq, nat_lt, min, max, bit_and, bit_or}
use Rattle.std.specs.Int.{bit_at, bit_not, w64, trailing_zeros}
use Rattle.std.proofs.Math.Nat.{div-le_self, div-eq_of_lt-le}
use Rattle.std.proofs.lemmas.Bool.{cases_lt, lt-ltb, le-ltb}
use Rattle.std.proofs.lemmas.Bool.Decides.{nat_tests}
use Rattle.std.proofs.lemmas.List.{get_or-set_same, get_or-set_other}
use Rattle.std.proofs.lemmas.Nat.{shr-shr, leading_top}
use Rattle.std.specs.Int.Count.{count_leading_zeros}
use Rattle.std.proofs.lemmas.Nat.Bits.{bit_at-zero, bit_at-lt, bit_at_and, bit_at_or, bit_at_not, bit_at_ones, bit_at_ones_above, bit_at-trailing_zeros, bit_at_above}
use Rattle.datastream.specs.CellBits.{bit_of, has_bit, is_within}

-- ---- the bits of a word from one on

shifted : (n k i : ℕ) → bit_at (n / 2 ^ k) i ≡ bit_at n (k + i)
shifted n k i = ap (λ x. x % 2) (shr-shr n k i)

at_shifted : (n from place : ℕ) → from ≤ place → bit_at n place ≡ bit_at (n / 2 ^ from) (place - from)
at_shifted n from place later = let same : place ≡ from + (place - from) = omega arith in ap (bit_at n) same ∙ sym (shifted n from (place - from))

pub none_from : (n from : ℕ) → n / 2 ^ from ≡ 0 → (place : ℕ) → from ≤ place → place < 64 → bit_at n place ≡ 0
none_from n from e place later few = at_shifted n from place later ∙ ap (λ m. bit_at m (place - from)) e ∙ bit_at-zero (place - from)

abbrev pub IsLowest : ℕ → ℕ → ℕ → Type 0
IsLowest n from first = (from ≤ first) × (first < 64) × (bit_at n first ≡ 1) × ((place : ℕ) → from ≤ place → place < first → bit_at n place ≡ 0)

pub lowest_from : (n from : ℕ) → n < 2 ^ 64 → 0 < n / 2 ^ from → IsLowest n from (from + trailing_zeros w64 (n / 2 ^ from))
lowest_from n from few some =
    let m : ℕ = n / 2 ^ from in
    let t : ℕ = trailing_zeros w64 m in
    let low = bit_at-trailing_zeros w64 m some (omega (arith, div-le_self n (2 ^ from))) in
    let is : bit_at n (from + t) ≡ 1 = sym (shifted n from t) ∙ low.1 in (
      omega arith,
      elim (cases_lt (from + t) 64) [
        | inl less ↦ less
        | inr more ↦ absurd (let none = bit_at_above n 64 (from + t) few more in omega arith)
      ],
      is,
      λ place later before. at_shifted n from place later ∙ low.2 (place - from) (omega arith),
    )

-- ---- the highest bit of a word

abbrev pub IsHighest : ℕ → ℕ → Type 0
IsHighest n last = (last < 64) × (bit_at n last ≡ 1) × ((place : ℕ) → last < place → place < 64 → bit_at n place ≡ 0)

pub highest : (n : ℕ) → n < 2 ^ 64 → 0 < n → IsHighest n (63 - count_leading_zeros 64 n)
highest n few some =
    let top = leading_top 64 n some few in
    let last : ℕ = 63 - count_leading_zeros 64 n in
    let same : last ≡ top.0 = omega (arith, top.1) in
    let double : 2 ^ suc top.0 ≡ 2 ^ top.0 * 2 = pow_suc top.0 in
    let once : n / 2 ^ top.0 ≡ 1 = div-eq_of_lt-le (2 ^ top.0) (omega (arith, top.2)) (omega (arith, top.3, double)) in
    let is : bit_at n top.0 ≡ 1 = ap (λ (q : ℕ). q % 2) once in (
      omega (arith, same, top.1),
      ap (bit_at n) same ∙ is,
      λ place later low. bit_at_above n (suc top.0) place top.3 (omega (arith, same, later)),
    )
  where
    pow_suc : (k : ℕ) → 2 ^ suc k ≡ 2 ^ k * 2
    pow_suc k = omega arith

-- ---- runs of bits

by_order : (x other place : ℕ) → (other < place → x ≡ 1) → (place ≤ other → x ≡ 0) → x ≡ bit_of (nat_lt other place)
by_order x other place below above = elim (cases_lt other place) [
  | inl less ↦ below less ∙ sym (ap bit_of (lt-ltb other place less))
  | inr more ↦ above more ∙ sym (ap bit_of (le-ltb other place more))
]

pub some_ones : (place other : ℕ) → place ≤ 64 → bit_at ((2 ^ 64 - 1) / 2 ^ (64 - place)) other ≡ bit_of (nat_lt other place)
some_ones place other few =
    let k : ℕ = 64 - place in
    by_order (bit_at ((2 ^ 64 - 1) / 2 ^ k) other) other place
    (λ less. shifted (2 ^ 64 - 1) k other ∙ bit_at_ones 64 (k + other) (omega arith))
    (λ more. shifted (2 ^ 64 - 1) k other ∙ bit_at_ones_above 64 (k + other) (omega arith))

pub fewer_ones : (place other : ℕ) → place < 64 → bit_at ((2 ^ 64 - 1) / 2 ^ 1 / 2 ^ (63 - place)) other ≡ bit_of (nat_lt other place)
fewer_ones place other few =
    let k : ℕ = 63 - place in
    let same : 1 + k ≡ 64 - place = omega arith in
    ap (λ (n : ℕ). bit_at n other) (shr-shr (2 ^ 64 - 1) 1 k) ∙ ap (λ (j : ℕ). bit_at ((2 ^ 64 - 1) / 2 ^ j) other) same ∙ some_ones place other (omega arith)

run : (t f : Bool) → min (bit_of t) (1 - bit_of f) ≡ bit_of (not f && t)
run true true = refl
run true false = refl
run false true = refl
run false false = refl

set_to : (b : Bool) (x : ℕ) → x < 2 → max x (bit_of b) ≡ (if b then 1 else x)
set_to true x few = omega arith
set_to false x few = omega arith

cleared_to : (b : Bool) (x : ℕ) → x < 2 → min x (1 - bit_of b) ≡ (if b then 0 else x)
cleared_to true x few = omega arith
cleared_to false x few = omega arith

pub ones_within : (from to above below : ℕ) → below < 2 ^ 64 → ((i : ℕ) → i < 64 → bit_at above i ≡ bit_of (nat_lt i to)) → ((i : ℕ) → i < 64 → bit_at below i ≡ bit_of (nat_lt i from))
    → (i : ℕ) → i < 64 → bit_at (bit_and above (bit_not w64 below)) i ≡ bit_of (is_within from to i)
ones_within from to above below few is_above is_below i low =
    bit_at_and above (bit_not w64 below) i ∙ ap (min (bit_at above i)) (bit_at_not w64 below i few low)
    ∙ ap (λ (x : ℕ). min x (1 - bit_at below i)) (is_above i low) ∙ ap (λ (x : ℕ). min (bit_of (nat_lt i to)) (1 - x)) (is_below i low)
    ∙ run (nat_lt i to) (nat_lt i from)

pub run_set : (word ones from to : ℕ) → ((i : ℕ) → i < 64 → bit_at ones i ≡ bit_of (is_within from to i)) → (i : ℕ) → i < 64 → bit_at (bit_or word ones) i ≡ (if is_within from to i then bit_of true else bit_at word i)
run_set word ones from to is i low = bit_at_or word ones i ∙ ap (max (bit_at word i)) (is i low) ∙ set_to (is_within from to i) (bit_at word i) (bit_at-lt word i)

pub run_cleared : (word ones from to : ℕ) → ones < 2 ^ 64 → ((i : ℕ) → i < 64 → bit_at ones i ≡ bit_of (is_within from to i)) → (i : ℕ) → i < 64
    → bit_at (bit_and word (bit_not w64 ones)) i ≡ (if is_within from to i then bit_of false else bit_at word i)
run_cleared word ones from to fits is i low =
    bit_at_and word (bit_not w64 ones) i ∙ ap (min (bit_at word i)) (bit_at_not w64 ones i fits low) ∙ ap (λ (x : ℕ). min (bit_at word i) (1 - x)) (is i low)
    ∙ cleared_to (is_within from to i) (bit_at word i) (bit_at-lt word i)

-- ---- one word of a row

bit_is : (t b : Bool) (x : ℕ) → nat_eq (if t then bit_of b else x) 1 ≡ (if t then b else nat_eq x 1)
bit_is true true x = refl
bit_is true false x = refl
bit_is false b x = refl

moved : (index from to other : ℕ) → from ≤ to → index * 64 ≤ other → is_within (max from (index * 64) - index * 64) (min to (index * 64 + 64) - index * 64) (other - index * 64) ≡ (if nat_lt other (index * 64 + 64) then is_within from to other else false)
moved index from to other order later = grind (arith, nat_tests)

pub put_word : (words : List ℕ) (index word from to other : ℕ) (bit : Bool) → index < length words → from ≤ to → other / 64 ≡ index
    → ((i : ℕ) → i < 64 → bit_at word i ≡ (if is_within (max from (index * 64) - index * 64) (min to (index * 64 + 64) - index * 64) i then bit_of bit else bit_at (get_or words index 0) i))
    → has_bit (set words index word) other ≡ (if is_within from to other then bit else has_bit words other)
put_word words index word from to other bit inside order here is =
    let place : ℕ = other % 64 in
    let low : place < 64 = omega arith in
    let same : other - index * 64 ≡ place = omega arith in
    let before : other < index * 64 + 64 = omega arith in
    ap (λ (i : ℕ). nat_eq (bit_at (get_or (set words index word) i 0) place) 1) here
    ∙ ap (λ (w : ℕ). nat_eq (bit_at w place) 1) (get_or-set_same words index word 0 inside)
    ∙ ap (λ (x : ℕ). nat_eq x 1) (is place low)
    ∙ bit_is (is_within (max from (index * 64) - index * 64) (min to (index * 64 + 64) - index * 64) place) bit (bit_at (get_or words index 0) place)
    ∙ ap (λ (t : Bool). if t then bit else nat_eq (bit_at (get_or words index 0) place) 1)
    (ap (is_within (max from (index * 64) - index * 64) (min to (index * 64 + 64) - index * 64)) (sym same) ∙ moved index from to other order (omega arith) ∙ ap (λ (t : Bool). if t then is_within from to other else false) (lt-ltb other (index * 64 + 64) before))
    ∙ ap (λ (i : ℕ). if is_within from to other then bit else nat_eq (bit_at (get_or words i 0) place) 1) (sym here)

pub other_word : (words : List ℕ) (index word other : ℕ) → (other / 64 ≡ index → ⊥) → has_bit (set words index word) other ≡ has_bit words other
other_word words index word other apart = ap (λ (w : ℕ). nat_eq (bit_at w (other % 64)) 1) (get_or-set_other words index (other / 64) word 0 apart)

pub outside : (from to other : ℕ) (b c : Bool) → (is_within from to other ≡ true → ⊥) → (if is_within from to other then b else c) ≡ c
outside from to other b c apart = cases (is_within from to other) apart
  where
    cases : (t : Bool) → (t ≡ true → ⊥) → (if t then b else c) ≡ c
    cases true never = absurd (never refl)
    cases false never = refl

pub not_within : (from to other : ℕ) → (from ≤ other → other < to → ⊥) → is_within from to other ≡ false
not_within from to other apart = grind (arith, nat_tests)

-- a word of which the bits up to a place are kept
pub word_up_to : (word ones place : ℕ) → ((other : ℕ) → other < 64 → bit_at ones other ≡ bit_of (nat_lt other (place + 1)))
    → ((other : ℕ) → other < 64 → other ≤ place → bit_at (bit_and word ones) other ≡ bit_at word other)
    × ((other : ℕ) → other < 64 → place < other → bit_at (bit_and word ones) other ≡ 0)
word_up_to word ones place are = (
  λ other low before.
      bit_at_and word ones other
      ∙ ap (min (bit_at word other)) (are other low ∙ ap bit_of (lt-ltb other (place + 1) (omega (arith, before))))
      ∙ with_one (bit_at word other) (bit_at-lt word other),
  λ other low behind.
      bit_at_and word ones other
      ∙ ap (min (bit_at word other)) (are other low ∙ ap bit_of (le-ltb other (place + 1) (omega (arith, behind))))
      ∙ with_none (bit_at word other),
)
  where
    with_one : (x : ℕ) → x < 2 → min x 1 ≡ x
    with_one x few = omega (arith, few)

    with_none : (x : ℕ) → min x 0 ≡ 0
    with_none x = omega arith

-- cells up to a middle, and from there on
pub within_two : (from middle to other : ℕ) (bit old : Bool) → from ≤ middle → middle ≤ to
    → (if is_within middle to other then bit else if is_within from middle other then bit else old) ≡ (if is_within from to other then bit else old)
within_two from middle to other bit old low high = grind (arith, nat_tests)

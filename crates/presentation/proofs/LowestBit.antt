-- A word without its lowest bit: `n - 1` differs from `n` only up to that bit.
use Rattle.std.proofs.Common.{◌≡◌, ℕ, zero, suc, ◌-◌, ◌/◌, ◌%◌, ◌<◌, ap, sym, ◌∙◌, arith, inl, inr}
use Rattle.std.specs.Int.{bit_at}
use Rattle.std.specs.Prelude.{bit_and, min, nat_eq, if◌then◌else◌}
use Rattle.std.proofs.lemmas.Bool.{cases_lt, cases_eq, ne_eqb, eq-eqb}
use Rattle.std.proofs.lemmas.Nat.Bits.{bit_at_lowest, bit_at-suc, bit_at_and}

less_at : (place n : ℕ) → bit_at n place ≡ 1 → ((lower : ℕ) → lower < place → bit_at n lower ≡ 0) → bit_at (n - 1) place ≡ 0
less_at zero n is clear =
    let odd : n % 2 ≡ 1 = sym (bit_at_lowest n) ∙ is in
    let even : (n - 1) % 2 ≡ 0 = omega (arith, odd) in
    bit_at_lowest (n - 1) ∙ even
less_at (suc place) n is clear =
    let even : n % 2 ≡ 0 = sym (bit_at_lowest n) ∙ clear 0 (omega arith) in
    let half : (n - 1) / 2 ≡ n / 2 - 1 = omega (arith, even) in
    bit_at-suc (n - 1) place
    ∙ ap (λ (m : ℕ). bit_at m place) half
    ∙ less_at place (n / 2) (sym (bit_at-suc n place) ∙ is) (λ lower below. sym (bit_at-suc n lower) ∙ clear (suc lower) (omega (arith, below)))

less_above : (place n other : ℕ) → bit_at n place ≡ 1 → ((lower : ℕ) → lower < place → bit_at n lower ≡ 0) → place < other → bit_at (n - 1) other ≡ bit_at n other
less_above place n zero is clear above = absurd (omega (arith, above))
less_above zero n (suc other) is clear above =
    let odd : n % 2 ≡ 1 = sym (bit_at_lowest n) ∙ is in
    let half : (n - 1) / 2 ≡ n / 2 = omega (arith, odd) in
    bit_at-suc (n - 1) other ∙ ap (λ (m : ℕ). bit_at m other) half ∙ sym (bit_at-suc n other)
less_above (suc place) n (suc other) is clear above =
    let even : n % 2 ≡ 0 = sym (bit_at_lowest n) ∙ clear 0 (omega arith) in
    let half : (n - 1) / 2 ≡ n / 2 - 1 = omega (arith, even) in
    bit_at-suc (n - 1) other
    ∙ ap (λ (m : ℕ). bit_at m other) half
    ∙ less_above place (n / 2) other (sym (bit_at-suc n place) ∙ is) (λ lower below. sym (bit_at-suc n lower) ∙ clear (suc lower) (omega (arith, below))) (omega (arith, above))
    ∙ sym (bit_at-suc n other)

none_left : (x : ℕ) → min x 0 ≡ 0
none_left x = omega arith

none_right : (x : ℕ) → min 0 x ≡ 0
none_right x = omega arith

both : (x : ℕ) → min x x ≡ x
both x = omega arith

pub lowest_cleared : (n place : ℕ) → bit_at n place ≡ 1 → ((lower : ℕ) → lower < place → bit_at n lower ≡ 0)
    → (other : ℕ) → bit_at (bit_and n (n - 1)) other ≡ (if nat_eq other place then 0 else bit_at n other)
lowest_cleared n place is clear other = elim (cases_eq other place) [
  | inl same ↦
      let there : bit_at (n - 1) other ≡ 0 = ap (bit_at (n - 1)) same ∙ less_at place n is clear in
      rw (eq-eqb other place same) (bit_at_and n (n - 1) other ∙ ap (min (bit_at n other)) there ∙ none_left (bit_at n other))
  | inr apart ↦ rw (ne_eqb other place apart) (bit_at_and n (n - 1) other ∙ elim (cases_lt other place) [
    | inl lower ↦ ap (λ (bit : ℕ). min bit (bit_at (n - 1) other)) (clear other lower) ∙ none_right (bit_at (n - 1) other) ∙ sym (clear other lower)
    | inr higher ↦ ap (min (bit_at n other)) (less_above place n other is clear (omega (arith, higher, apart))) ∙ both (bit_at n other)
  ])
]

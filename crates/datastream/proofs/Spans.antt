-- Spans by steps.
use Rattle.std.proofs.Common.{◌≡◌, ◌≢◌, ◌↔◌, ℕ, ◌+◌, ◌-◌, ◌%◌, ◌<◌, ◌≤◌, true, arith, sym, ◌∙◌, ap, refl, zero, suc, inl, inr}
use Rattle.std.proofs.Math.Nat.{mod-eq_of_lt, mod-lt, mod_self, add-mod_right}
use Rattle.std.proofs.lemmas.Bool.{cases_eq}
use Rattle.std.proofs.lemmas.Bool.Decides.{nat_tests}
use Rattle.datastream.specs.Span.{distance, is_within}
use Rattle.datastream.proofs.Rounds.{at_distance, distance_at}

reached : (size from count at : ℕ) → from < size → at < size → is_within size from count at ≡ true → (step : ℕ) × (step < count) × (at ≡ (from + step) % size)
reached size from count at f a within =
    let positive : 0 < size = omega arith in
    let step : ℕ = (at + size - from) % size in
    let near : step < count = grind (arith, nat_tests) in
    (step, near, at_distance size from step at f (mod-lt (at + size - from) positive) a refl)

covered : (size from count at : ℕ) → from < size → count ≤ size → (step : ℕ) × (step < count) × (at ≡ (from + step) % size) → is_within size from count at ≡ true
covered size from count at f c way =
    let near : way.0 < count = way.1 in
    let far : (at + size - from) % size ≡ way.0 = rw way.2 (distance_at size from way.0 f (omega arith)) in
    grind (arith, nat_tests)

pub spans_are_steps : (size from count at : ℕ) → from < size → at < size → count ≤ size → (is_within size from count at ≡ true) ↔ ((step : ℕ) × (step < count) × (at ≡ (from + step) % size))
spans_are_steps size from count at f a c = (reached size from count at f a, covered size from count at f c)

-- the same address: once round
round : (size from : ℕ) → from < size → distance size from from ≡ size
round size from f = grind (arith, nat_tests)

-- another address
ahead : (size from stop : ℕ) → from ≢ stop → distance size from stop ≡ (stop + size - from) % size
ahead size from stop apart = grind (arith, nat_tests)

steps_to : (size from stop fewer : ℕ) → from < size → fewer < size → (from + fewer) % size ≡ stop → (stop + size - from) % size ≡ fewer
steps_to size from stop fewer f below there = rw (← there) (distance_at size from fewer f below)

pub distances_lead : (size from stop : ℕ) → from < size → stop < size → (0 < distance size from stop) × (distance size from stop ≤ size) × ((from + distance size from stop) % size ≡ stop) × ((fewer : ℕ) → 0 < fewer → fewer < distance size from stop → (from + fewer) % size ≡ stop → ⊥)
distances_lead size from stop f s =
    let positive : 0 < size = omega arith in
    elim (cases_eq from stop) [
      | inl same ↦
          let count : distance size from stop ≡ size = rw (← same) (round size from f) in
          let back : (from + size) % size ≡ stop = add-mod_right from size ∙ mod-eq_of_lt f ∙ same in
          rw count (
            positive,
            omega arith,
            back,
            λ fewer some few there.
                let none : (stop + size - from) % size ≡ fewer = steps_to size from stop fewer f few there in
                let whole : stop + size - from ≡ size = omega arith in
                let zero_ : fewer ≡ 0 = sym none ∙ ap (λ (n : ℕ). n % size) whole ∙ mod_self size in
                absurd (omega arith),
          )
      | inr apart ↦
          let far : ℕ = (stop + size - from) % size in
          let count : distance size from stop ≡ far = ahead size from stop apart in
          let near : far < size = mod-lt (stop + size - from) positive in
          let there : stop ≡ (from + far) % size = at_distance size from far stop f near s refl in
          let some : 0 < far = far_positive far apart there in
          rw count (
            some,
            omega arith,
            sym there,
            λ fewer few less leads.
                let same : far ≡ fewer = steps_to size from stop fewer f (omega arith) leads in
                absurd (omega arith),
          )
    ]
  where
    far_positive : (n : ℕ) → from ≢ stop → stop ≡ (from + n) % size → 0 < n
    far_positive zero apart there = absurd (apart (sym (there ∙ ap (λ (n : ℕ). n % size) (omega arith) ∙ mod-eq_of_lt f)))
    far_positive (suc n) apart there = omega arith

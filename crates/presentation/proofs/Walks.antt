-- A walk round the end, address by address.
use Rattle.std.proofs.Common.{◌≡◌, ℕ, ◌+◌, ◌%◌, ◌<◌, ap, sym, ◌∙◌, add-zero, add_assoc}
use Rattle.std.proofs.Math.Nat.{mod-eq_of_lt, mod-add-mod}

pub start_of : (from size : ℕ) → from < size → from ≡ (from + 0) % size
start_of from size below = sym (rw add-zero (mod-eq_of_lt below))

pub next_of : (from step place size : ℕ) → place ≡ (from + step) % size → (place + 1) % size ≡ (from + (step + 1)) % size
next_of from step place size there =
    ap (λ (at : ℕ). (at + 1) % size) there ∙ mod-add-mod (from + step) size 1 ∙ ap (λ (n : ℕ). n % size) (add_assoc from step 1)

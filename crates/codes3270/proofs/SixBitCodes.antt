-- Each code of a six-bit value is one of the sixty-four codes.
use Rattle.std.proofs.Common.{◌≡◌, ℕ, ◌<◌, true, refl}
use Rattle.codes3270.proofs.Tables.{passes_at}
use Rattle.codes3270.specs.SixBit.{six_bit_code, is_six_bit_code}

pub code_is_graphic : (value : ℕ) → value < 64 → is_six_bit_code (six_bit_code value) ≡ true
unfolding is_six_bit_code
code_is_graphic value below = passes_at (λ v. is_six_bit_code (six_bit_code v)) 64 value refl below

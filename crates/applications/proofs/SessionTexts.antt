-- The text of a session's name.
use Rattle.std.proofs.Common.{◌≡◌, ℕ, ◌-◌, ◌^◌, ◌++◌, ◌∙◌, List, false, [], length, replicate, append-nil, ap, arith}
use Rattle.std.specs.Fmt.{char_count, format_spec, padded_integral, radix_digits}
use Rattle.applications.specs.SessionNames.{boot_text}

-- what `{:016x}` writes
pub padded_is : (boot : ℕ) → padded_integral (format_spec 32 0 4 16 (2 ^ 64 - 1)) false [] (radix_digits 16 false boot) ≡ boot_text boot
unfolding padded_integral char_count
padded_is boot =
    let numeral : List ℕ = radix_digits 16 false boot in
    let zeros : 16 - length numeral - 0 - 0 ≡ 16 - length numeral = omega arith in
    ap (λ (count : ℕ). replicate {A = ℕ} count 48 ++ (numeral ++ [])) zeros ∙ ap (λ (digits : List ℕ). replicate {A = ℕ} (16 - length numeral) 48 ++ digits) (append-nil numeral)

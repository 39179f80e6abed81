-- What the digits of a port are.
use Rattle.std.proofs.Common.{◌≡◌, ℕ, Bool, false, ◌==◌, zero, suc, ◌+◌, ◌*◌, ◌<◌, ◌≤◌, List, [], ◌∷◌, length, take, get_or, decimal, sym, ap, ◌∙◌, arith, inl, inr, lit≤, eq-eqb}
use Rattle.std.specs.Bool.{Decides}
use Rattle.std.proofs.lemmas.Bool.{cases_lt}
use Rattle.std.proofs.lemmas.List.{take_all}
use Rattle.std.proofs.lemmas.Fmt.{decimal_is_IsNumeral, decimal_digit, first_decimal, decimal-digits_value}
use Rattle.std.proofs.lemmas.Str.Parse.{numerals_by_value, tells_digits, digits_value-take-le}
use Rattle.std.proofs.lemmas.Int.Digits.{digits_more, digits_value_more}
use Rattle.std.specs.Char.{digit_value}
use Rattle.std.specs.Str.Parse.{AllDigits, IsNumeral, digits_value}
use Rattle.service_wire.specs.HeaderLine.{IsPort}

pub digits_of_port : (text : List ℕ) (port : ℕ) → IsPort text port → IsNumeral 10 text × (digits_value 10 text ≡ port)
digits_of_port text port h = rw h.spelled (decimal_is_IsNumeral port (omega (arith, h.fits)))

pub no_heading_zero : (text : List ℕ) → 1 < length text → get_or text 0 0 ≡ 48 → (port : ℕ) → ¬ (IsPort text port)
no_heading_zero text long begins port h =
    elim (cases_lt port 10) [
      | inl small ↦ absurd (omega (arith, long, ap length (h.spelled ∙ decimal_digit port small)))
      | inr large ↦
          let first = first_decimal port (omega arith) (omega (arith, h.fits)) in
          let same : get_or (decimal port) 0 0 ≡ 48 = ap (λ t. get_or t 0 0) (sym h.spelled) ∙ begins in
          omega (arith, first, same)
    ]

all_digits_at : (text : List ℕ) (i : ℕ) → AllDigits 10 text → i < length text → digit_value (get_or text i 0) < 10
all_digits_at [] i all inside = absurd (omega arith)
all_digits_at (c ∷ cs) zero all inside = all.0
all_digits_at (c ∷ cs) (suc i) all inside = all_digits_at cs i all.1 (omega arith)

pub no_other_byte : (text : List ℕ) (i byte : ℕ) → i < length text → byte ≡ get_or text i 0 → ¬ (digit_value byte < 10) → (port : ℕ) → ¬ (IsPort text port)
no_other_byte text i byte inside read other port h = other (rw read (all_digits_at text i (digits_of_port text port h).0.1 inside))

pub not_large : (text : List ℕ) (i value : ℕ) → value ≡ digits_value 10 (take i text) → 65535 < value → (port : ℕ) → ¬ (IsPort text port)
not_large text i value is large port h =
    omega (arith, h.fits, (digits_of_port text port h).1, digits_value-take-le 10 text i (lit≤ tt))

pub not_empty : (text : List ℕ) → length text ≡ 0 → (port : ℕ) → ¬ (IsPort text port)
not_empty text empty port h = omega (arith, (digits_of_port text port h).0.0)

pub port_is : (text : List ℕ) (value : ℕ) → AllDigits 10 text → 0 < length text → (get_or text 0 0 ≡ 48 → length text ≡ 1) → value ≡ digits_value 10 text → value ≤ 65535 → IsPort text value
port_is text value all some alone is fits = record {
  fits = omega arith;
  spelled = rw is (sym (decimal-digits_value (numerals_by_value _ tells_digits) text all some alone (omega arith)));
}

pub one_more : (s : List ℕ) (i value byte digit : ℕ) → i < length s → AllDigits 10 (take i s) → value ≡ digits_value 10 (take i s) → byte ≡ get_or s i 0 → (digit_value byte < 10) × (digit ≡ digit_value byte) → AllDigits 10 (take (i + 1) s) × (value * 10 + digit ≡ digits_value 10 (take (i + 1) s))
one_more s i value byte digit inside all is read h =
    (digits_more 10 s i inside all (rw (← read) h.0), rw (digits_value_more 10 s i inside, ← read, ← is, h.1))

pub port_read : (text : List ℕ) (value i : ℕ) (empty heads : Bool) → empty ≡ (length text == 0) → empty ≡ false → Decides heads ((1 < length text) × (get_or text 0 0 ≡ 48)) → heads ≡ false → length text ≤ i → AllDigits 10 (take i text) → value ≡ digits_value 10 (take i text) → value ≤ 65535 → IsPort text value
port_read text value i empty heads tested some heading alone end all is fits =
    let whole : take i text ≡ text = take_all i text end in
    let nonempty : 0 < length text = elim (cases_lt 0 (length text)) [
      | inl more ↦ more
      | inr none ↦ absurd (let test = eq-eqb (length text) 0 (omega arith) in cc)
    ] in
    let one : get_or text 0 0 ≡ 48 → length text ≡ 1 = λ begins.
    elim (cases_lt 1 (length text)) [
      | inl long ↦ absurd (let test = heading.1 (long, begins) in cc)
      | inr short ↦ omega arith
    ] in
    port_is text value (rw whole at all) nonempty one (rw whole at is) fits

-- Which codes characters have.
use Rattle.std.proofs.Common.{◌≡◌, ◌<◌, ◌≤◌, ◌+◌, ℕ, Option, Some, None, arith, refl, option_map}
use Rattle.std.specs.Prelude.{◌==◌}
use Rattle.std.specs.List.{position}
use Rattle.std.proofs.lemmas.List.Quantifiers.{position-Some}
use Rattle.std.proofs.lemmas.Option.{same_Some}
use Rattle.codes3270.specs.CodePage.{characters, code_of}

coded_at : (o : Option ℕ) (code count : ℕ) → option_map (λ place. 0x40 + place) o ≡ Some code → ((place : ℕ) → o ≡ Some place → place < count) → (0x40 ≤ code) × (code < 0x40 + count)
coded_at None code count is below = cc
coded_at (Some place) code count is below =
    let inside : place < count = below place refl in
    let same : 0x40 + place ≡ code = same_Some _ _ is in
    (omega arith, omega arith)

pub code_in_range : (code character : ℕ) → code_of character ≡ Some code → (0x40 ≤ code) × (code ≤ 0xFE)
code_in_range code character is =
    let range : (0x40 ≤ code) × (code < 0x40 + 191) = coded_at (position (λ c. c == character) characters) code 191 is (λ place found. (position-Some (λ c. c == character) characters place 0 found).0) in
    (range.0, omega arith)

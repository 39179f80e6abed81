-- A control sequence is one keystroke.
use Rattle.std.proofs.Common.{◌≡◌, ◌≢◌, ℕ, Bool, ◌||◌, true, false, not, List, [], ◌∷◌, ◌++◌, take, refl, arith}
use Rattle.std.specs.Prelude.{◌==◌}
use Rattle.std.specs.Int.{IsInRange}
use Rattle.std.specs.List.{AllByRecursion}
use Rattle.std.proofs.lemmas.Bool.{false≢true}
use Rattle.std.proofs.lemmas.Bool.Decides.{nat_tests}
use Rattle.tty.specs.KeyForms.{completes, may_continue}
use Rattle.tty.specs.KeyReading.{grown}
use Rattle.tty.proofs.Single.{is_single}

-- the bytes kept of a control sequence: its first byte after CSI is no `[` and no `M`
abbrev begins_plain : List ℕ → Bool
begins_plain [] = false
begins_plain (first ∷ rest) = not (first == 0x5B || first == 0x4D)

single_more : (kept : List ℕ) (byte : ℕ) (bytes : List ℕ) → may_continue kept byte ≡ true → completes kept byte ≡ false
    → is_single (grown kept byte) bytes ≡ true → is_single kept (byte ∷ bytes) ≡ true
single_more kept byte [] goes more rest = absurd (false≢true rest)
single_more kept byte (next ∷ bytes) goes more rest = rw (goes, more, rest) refl

last_after : (kept : List ℕ) (last : ℕ) → begins_plain kept ≡ true → IsInRange 0x40 0x7E last → is_single (0x1B ∷ 0x5B ∷ kept) (last ∷ []) ≡ true
last_after [] last plain range = absurd cc
last_after (first ∷ rest) last plain range = grind (arith, nat_tests)

single_after : (kept parameters : List ℕ) (last : ℕ) → begins_plain kept ≡ true → AllByRecursion (IsInRange 0x20 0x3F) parameters → IsInRange 0x40 0x7E last
    → is_single (0x1B ∷ 0x5B ∷ kept) (parameters ++ last ∷ []) ≡ true
single_after kept [] last plain all range = last_after kept last plain range
single_after [] (byte ∷ parameters) last plain all range = absurd cc
single_after (first ∷ rest) (byte ∷ parameters) last plain all range =
    let byte_range : IsInRange 0x20 0x3F byte = all.0 in
    let goes : may_continue (0x1B ∷ 0x5B ∷ first ∷ rest) byte ≡ true = grind (arith, nat_tests) in
    let more : completes (0x1B ∷ 0x5B ∷ first ∷ rest) byte ≡ false = grind (arith, nat_tests) in
    single_more (0x1B ∷ 0x5B ∷ first ∷ rest) byte (parameters ++ last ∷ []) goes more
    (single_after (first ∷ take 9 (rest ++ byte ∷ [])) parameters last plain all.1 range)

pub single_csi : (parameters : List ℕ) (last : ℕ) → AllByRecursion (IsInRange 0x20 0x3F) parameters → IsInRange 0x40 0x7E last
    → (parameters ≡ [] → (last ≢ 0x5B) × (last ≢ 0x4D)) → is_single [] (0x1B ∷ 0x5B ∷ (parameters ++ last ∷ [])) ≡ true
single_csi [] last all range other =
    let plain = other refl in
    let first : last ≢ 0x5B = plain.0 in
    let second : last ≢ 0x4D = plain.1 in
    grind (arith, nat_tests)
single_csi (byte ∷ parameters) last all range other =
    let byte_range : IsInRange 0x20 0x3F byte = all.0 in
    let more : completes (0x1B ∷ 0x5B ∷ []) byte ≡ false = grind (arith, nat_tests) in
    let goes : may_continue (0x1B ∷ 0x5B ∷ []) byte ≡ true = grind (arith, nat_tests) in
    let plain : begins_plain (byte ∷ []) ≡ true = grind (arith, nat_tests) in
    single_more (0x1B ∷ 0x5B ∷ []) byte (parameters ++ last ∷ []) goes more (single_after (byte ∷ []) parameters last plain all.1 range)

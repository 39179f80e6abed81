-- Bytes that are one keystroke: each goes on, and the last one alone completes it.
use Rattle.std.proofs.Common.{◌≡◌, ℕ, ◌+◌, ◌≤◌, Bool, true, false, ◌&&◌, not, List, [], ◌∷◌, ◌++◌, length, take, refl, ap, sym, ◌∙◌, append_assoc, append-nil, arith}
use Rattle.std.proofs.lemmas.Bool.{and_parts, false≢true, not-true}
use Rattle.std.proofs.lemmas.List.{length-append, take_all, take-append-le}
use Rattle.tty.specs.KeySequences.{meaning}
use Rattle.tty.specs.KeyForms.{may_continue, completes}
use Rattle.tty.specs.KeyReading.{Reading, grown, joined, read_byte, read_bytes}
use Rattle.tty.specs.KeyLaws.{one}

abbrev pub is_single : List ℕ → List ℕ → Bool
is_single kept [] = false
is_single kept (byte ∷ []) = may_continue kept byte && completes kept byte
is_single kept (byte ∷ next ∷ bytes) = (may_continue kept byte && not (completes kept byte)) && is_single (grown kept byte) (next ∷ bytes)

-- all bytes after those kept
abbrev pub all_grown : List ℕ → List ℕ → List ℕ
all_grown kept [] = kept
all_grown kept (byte ∷ bytes) = all_grown (grown kept byte) bytes

read_last : (kept : List ℕ) (byte : ℕ) → may_continue kept byte ≡ true → completes kept byte ≡ true → read_byte kept byte ≡ one (meaning (grown kept byte))
read_last kept byte goes last = rw (goes, last) refl

read_more : (kept : List ℕ) (byte : ℕ) → may_continue kept byte ≡ true → completes kept byte ≡ false
    → read_byte kept byte ≡ record { keystrokes = []; kept = grown kept byte }
read_more kept byte goes more = rw (goes, more) refl

pub single_read : (kept bytes : List ℕ) → is_single kept bytes ≡ true → read_bytes kept bytes ≡ one (meaning (all_grown kept bytes))
single_read kept [] is = absurd (false≢true is)
single_read kept (byte ∷ []) is =
    let both = and_parts _ _ is in
    ap (λ (first : Reading). joined first (read_bytes first.kept [])) (read_last kept byte both.0 both.1)
single_read kept (byte ∷ next ∷ bytes) is =
    let both = and_parts _ _ is in
    let begins = and_parts _ _ both.0 in
    ap (λ (first : Reading). joined first (read_bytes first.kept (next ∷ bytes))) (read_more kept byte begins.0 (not-true _ begins.1))
    ∙ single_read (grown kept byte) (next ∷ bytes) both.1

-- as many bytes as are kept
pub all_kept : (kept bytes : List ℕ) → length kept + length bytes ≤ 12 → all_grown kept bytes ≡ kept ++ bytes
all_kept kept [] fits = sym (append-nil kept)
all_kept kept (byte ∷ bytes) fits =
    let room : length (kept ++ byte ∷ []) ≤ 12 = omega (arith, length-append kept (byte ∷ [])) in
    let same : grown kept byte ≡ kept ++ byte ∷ [] = take_all 12 _ room in
    ap (λ (now : List ℕ). all_grown now bytes) same
    ∙ all_kept (kept ++ byte ∷ []) bytes (omega (arith, length-append kept (byte ∷ [])))
    ∙ append_assoc kept (byte ∷ []) bytes

-- no byte more than are kept
pub full_stays : (kept : List ℕ) (byte : ℕ) → length kept ≡ 12 → kept ≡ grown kept byte
full_stays kept byte full = sym (take-append-le 12 kept (byte ∷ []) (omega (arith, full)) ∙ take_all 12 kept (omega (arith, full)))

-- the first byte stays
pub keeps_first : (first : ℕ) (rest bytes : List ℕ) → (more : List ℕ) × (all_grown (first ∷ rest) bytes ≡ first ∷ more)
keeps_first first rest [] = (rest, refl)
keeps_first first rest (byte ∷ bytes) = keeps_first first (take 11 (rest ++ byte ∷ [])) bytes

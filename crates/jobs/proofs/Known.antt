-- Known bytes of streams, one read or one write more at a time.
use Rattle.std.proofs.Common.{◌≡◌, ℕ, ◌+◌, ◌-◌, ◌≤◌, List, [], ◌∷◌, ◌++◌, length, take, drop, suc, zero, Option, None, Some, arith, ap, subst, ◌∙◌, sym}
use Rattle.std.specs.Io.KnownBytes.{Appends, Keeps}
use Rattle.std.proofs.lemmas.List.{take_all, length-drop}
use Rattle.std.proofs.KnownBytes.{Appends-trans}

take_on : (xs : List ℕ) (n m : ℕ) → n ≤ length xs → take (n + m) xs ≡ take n xs ++ take m (drop n xs)
take_on xs zero m within = let none : 0 + m ≡ m = omega arith in ap (λ k. take k xs) none
take_on [] (suc n) m within = absurd (omega arith)
take_on (x ∷ xs) (suc n) m within =
    let one_more : suc n + m ≡ suc (n + m) = omega arith in
    ap (λ k. take k (x ∷ xs)) one_more ∙ ap (λ (front : List ℕ). x ∷ front) (take_on xs n m (omega arith))

-- the bytes that are left
pub left_whole : (bytes : List ℕ) (taken : ℕ) → take (length bytes - taken) (drop taken bytes) ≡ drop taken bytes
left_whole bytes taken = take_all (length bytes - taken) (drop taken bytes) (let n = length-drop taken bytes in omega arith)

-- of the bytes that are left some more are written
pub taken_more : (a b c : Option (List ℕ)) (bytes : List ℕ) (taken count : ℕ) → taken ≤ length bytes → Appends a b (take taken bytes)
    → Appends b c (take count (take (length bytes - taken) (drop taken bytes))) → Appends a c (take (taken + count) bytes)
taken_more a b c bytes taken count within first second =
    let more : Appends b c (take count (drop taken bytes)) = subst (λ (left : List ℕ). Appends b c (take count left)) (left_whole bytes taken) second in
    subst (Appends a c) (sym (take_on bytes taken count within)) (Appends-trans a b c (take taken bytes) (take count (drop taken bytes)) first more)

pub within_more : (bytes : List ℕ) (taken count : ℕ) → taken ≤ length bytes → count ≤ length (take (length bytes - taken) (drop taken bytes)) → taken + count ≤ length bytes
within_more bytes taken count within left =
    let n = ap length (left_whole bytes taken) in let m = length-drop taken bytes in omega arith

-- nothing more is written
pub taken_still : (a b c : Option (List ℕ)) (bytes : List ℕ) → Appends a b bytes → Keeps b c → Appends a c bytes
taken_still None b c bytes before kept = tt
taken_still (Some old) None c bytes before kept = absurd before
taken_still (Some old) (Some now) None bytes before kept = absurd kept
taken_still (Some old) (Some now) (Some new) bytes before kept = kept ∙ before

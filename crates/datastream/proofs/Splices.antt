-- What is put between two places of a list.
use Rattle.std.proofs.Common.{◌≡◌, ℕ, ◌+◌, ◌-◌, ◌≤◌, List, ◌++◌, length, length-append, append_assoc, replicate, take, drop, ap, sym, arith, ◌∙◌}
use Rattle.std.proofs.lemmas.List.{length-replicate, length-take-le, length-drop, take_at, take-append-drop, take-append-le, drop-append-le}

-- it is put between the same places of the list's front
pub taken_between : (n from to : ℕ) (mid bytes : List ℕ) → from + length mid ≡ to → to ≤ n → n ≤ length bytes
    → take n (take from bytes ++ (mid ++ drop to bytes)) ≡ take from (take n bytes) ++ (mid ++ drop to (take n bytes))
taken_between n from to mid bytes there inside few =
    let front : List ℕ = take n bytes in
    let back : List ℕ = drop n bytes in
    let both : front ++ back ≡ bytes = take-append-drop n bytes in
    let long : length front ≡ n = length-take-le n bytes few in
    let first : take from bytes ≡ take from front = ap (take from) (sym both) ∙ take-append-le from front back (omega (arith, long, there, inside)) in
    let last : drop to bytes ≡ drop to front ++ back = ap (drop to) (sym both) ∙ drop-append-le to front back (omega (arith, long, inside)) in
    let whole : List ℕ = take from front ++ (mid ++ drop to front) in
    let size : length whole ≡ n =
    omega (arith, long, there, inside, length-append (take from front) (mid ++ drop to front), length-append mid (drop to front), length-take-le from front (omega (arith, long, there, inside)), length-drop to front) in
    ap (λ (bs : List ℕ). take n (bs ++ (mid ++ drop to bytes))) first
    ∙ ap (λ (bs : List ℕ). take n (take from front ++ (mid ++ bs))) last
    ∙ ap (λ (bs : List ℕ). take n (take from front ++ bs)) (sym (append_assoc mid (drop to front) back))
    ∙ ap (take n) (sym (append_assoc (take from front) (mid ++ drop to front) back))
    ∙ take_at whole back n size

-- nulls are put between the same places of the list's front
pub nulls_between : (n from to : ℕ) (bytes : List ℕ) → from ≤ to → to ≤ n → n ≤ length bytes
    → take n (take from bytes ++ (replicate (to - from) 0 ++ drop to bytes)) ≡ take from (take n bytes) ++ (replicate (to - from) 0 ++ drop to (take n bytes))
nulls_between n from to bytes order inside few =
    taken_between n from to (replicate (to - from) 0) bytes (omega (arith, order, length-replicate {A = ℕ} (to - from) 0)) inside few

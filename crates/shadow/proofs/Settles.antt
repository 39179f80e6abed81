-- Attributes told anew, from one to the next.
use Rattle.std.proofs.Common.{◌≡◌, ℕ, suc, ◌+◌, ◌-◌, ◌<◌, ◌≤◌, List, [], ◌∷◌, ◌++◌, length, map, replicate, take, drop, set, get_or, refl, ap, sym, arith, ◌∙◌, append_assoc, append-nil}
use Rattle.std.proofs.Math.Seq.{take-add, set-append_seam}
use Rattle.std.proofs.lemmas.List.{length-drop, length-map, length-take-le, map-append, replicate-append-replicate, take_more, take_all}
use Rattle.shadow.specs.declared.known.Known.{Known as KnownCell}
use Rattle.shadow.specs.declared.cell_belief.CellBelief.{CellBelief}
use Rattle.shadow.specs.declared.cell_belief.CellBelief.TheVariants.{Attr, Known, Unplaced, Unknown}
use Rattle.shadow.specs.declared.cell_belief.BeforeWrite.{BeforeWrite}
use Rattle.shadow.specs.InPlace.{chars_known}
use Rattle.shadow.specs.Since.{never, settled}
use Rattle.shadow.proofs.Changes.{past_kept}
use Rattle.shadow.proofs.Stretches.{drop_drop}

-- characters stay
chars_settled : (whole : List KnownCell) (before : List BeforeWrite) (ps : List CellBelief) (qs : List BeforeWrite) → length ps ≡ length qs → (let k = length (chars_known ps) in settled whole before ps qs ≡ take k ps ++ settled whole before (drop k ps) (drop k qs))
chars_settled whole before [] qs even = refl
chars_settled whole before (p ∷ ps) [] even = absurd (omega arith)
chars_settled whole before (Attr a m t ∷ ps) (q ∷ qs) even = refl
chars_settled whole before (Known c ∷ ps) (q ∷ qs) even = ap (λ (rs : List CellBelief). Known c ∷ rs) (chars_settled whole before ps qs (omega arith))
chars_settled whole before (Unplaced c ∷ ps) (q ∷ qs) even = ap (λ (rs : List CellBelief). Unplaced c ∷ rs) (chars_settled whole before ps qs (omega arith))
chars_settled whole before (Unknown ∷ ps) (q ∷ qs) even = ap (λ (rs : List CellBelief). Unknown ∷ rs) (chars_settled whole before ps qs (omega arith))

-- so the walk goes on at the next attribute
pub settled_passed : (whole : List KnownCell) (before : List BeforeWrite) (ps : List CellBelief) (qs : List BeforeWrite) (from to : ℕ) → length ps ≡ length qs → to ≡ from + length (chars_known (drop from ps))
    → take from ps ++ settled whole before (drop from ps) (drop from qs) ≡ take to ps ++ settled whole before (drop to ps) (drop to qs)
settled_passed whole before ps qs from to even is =
    let k : ℕ = length (chars_known (drop from ps)) in
    let rest : List CellBelief = settled whole before (drop k (drop from ps)) (drop k (drop from qs)) in
    ap (λ (rs : List CellBelief). take from ps ++ rs) (chars_settled whole before (drop from ps) (drop from qs) (omega (arith, length-drop from ps, length-drop from qs)))
    ∙ sym (append_assoc (take from ps) (take k (drop from ps)) rest)
    ∙ ap (λ (rs : List CellBelief). rs ++ rest) (sym (take-add from k ps))
    ∙ ap (λ (rs : List CellBelief). take (from + k) ps ++ settled whole before rs (drop k (drop from qs))) (drop_drop from k ps)
    ∙ ap (λ (rs : List BeforeWrite). take (from + k) ps ++ settled whole before (drop (from + k) ps) rs) (drop_drop from k qs)
    ∙ ap (λ (n : ℕ). take n ps ++ settled whole before (drop n ps) (drop n qs)) (sym is)

-- ---- what is kept of the places before one, and nothing yet of those behind

abbrev pub kept_to : ℕ → List CellBelief → ℕ → List BeforeWrite
kept_to n ps at = map past_kept (take at ps) ++ replicate (n - at) never

chars_never : (ps : List CellBelief) → map past_kept (take (length (chars_known ps)) ps) ≡ replicate (length (chars_known ps)) never
chars_never [] = refl
chars_never (Attr a m t ∷ ps) = refl
chars_never (Known c ∷ ps) = ap (λ (qs : List BeforeWrite). never ∷ qs) (chars_never ps)
chars_never (Unplaced c ∷ ps) = ap (λ (qs : List BeforeWrite). never ∷ qs) (chars_never ps)
chars_never (Unknown ∷ ps) = ap (λ (qs : List BeforeWrite). never ∷ qs) (chars_never ps)

pub kept_passed : (n : ℕ) (ps : List CellBelief) (from to : ℕ) → to ≡ from + length (chars_known (drop from ps)) → to ≤ n → kept_to n ps from ≡ kept_to n ps to
kept_passed n ps from to is few =
    let k : ℕ = length (chars_known (drop from ps)) in
    let front : List BeforeWrite = map past_kept (take from ps) in
    let rest : List BeforeWrite = replicate (n - to) never in
    let left : n - from ≡ k + (n - to) = omega arith in
    ap (λ (m : ℕ). front ++ replicate m never) left
    ∙ ap (λ (qs : List BeforeWrite). front ++ qs) (sym (replicate-append-replicate k (n - to) never) ∙ ap (λ (qs : List BeforeWrite). qs ++ rest) (sym (chars_never (drop from ps))))
    ∙ sym (append_assoc front (map past_kept (take k (drop from ps))) rest)
    ∙ ap (λ (qs : List BeforeWrite). qs ++ rest) (sym (map-append past_kept (take from ps) (take k (drop from ps))) ∙ ap (map past_kept) (sym (take-add from k ps) ∙ ap (λ (m : ℕ). take m ps) (sym is)))

pub kept_put : (n : ℕ) (ps : List CellBelief) (at : ℕ) (p : CellBelief) (q : BeforeWrite) → length ps ≡ n → at < n → p ≡ get_or ps at p → q ≡ past_kept p → set (kept_to n ps at) at q ≡ kept_to n ps (at + 1)
kept_put n ps at p q size low is_p is_q =
    let front : List BeforeWrite = map past_kept (take at ps) in
    let rest : List BeforeWrite = replicate (n - (at + 1)) never in
    let left : n - at ≡ suc (n - (at + 1)) = omega arith in
    let there : at ≡ length front = omega (arith, length-map (take at ps) past_kept, length-take-le at ps (omega arith)) in
    ap (λ (m : ℕ). set (front ++ replicate m never) at q) left
    ∙ ap (λ (i : ℕ). set (front ++ never ∷ rest) i q) there
    ∙ set-append_seam front never rest q
    ∙ sym (append_assoc front (q ∷ []) rest)
    ∙ ap (λ (qs : List BeforeWrite). qs ++ rest)
    (ap (λ (r : BeforeWrite). front ++ r ∷ []) (is_q ∙ ap past_kept is_p)
    ∙ sym (map-append past_kept (take at ps) (get_or ps at p ∷ [])) ∙ ap (map past_kept) (sym (take_more ps at p (omega arith))))

pub kept_whole : (n : ℕ) (ps : List CellBelief) (at : ℕ) → length ps ≡ n → n ≤ at → kept_to n ps at ≡ map past_kept ps
kept_whole n ps at size over =
    let none : n - at ≡ 0 = omega arith in
    ap (λ (m : ℕ). map past_kept (take at ps) ++ replicate m never) none ∙ append-nil (map past_kept (take at ps)) ∙ ap (map past_kept) (take_all at ps (omega arith))

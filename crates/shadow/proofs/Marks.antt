-- MDT is set off in the attributes alone.
use Rattle.std.proofs.Common.{◌≡◌, ℕ, zero, suc, ◌+◌, ◌<◌, List, [], ◌∷◌, ◌++◌, length, map, take, drop, set, get_or, refl, ap, sym, arith, ◌∙◌, append_assoc}
use Rattle.std.proofs.Math.Seq.{take-add}
use Rattle.shadow.specs.declared.cell_belief.CellBelief.{CellBelief}
use Rattle.shadow.specs.declared.cell_belief.CellBelief.TheVariants.{Attr, Known, Unplaced, Unknown}
use Rattle.shadow.specs.declared.cell_belief.TextKnowledge.{TextKnowledge}
use Rattle.shadow.specs.declared.mdt_state.MdtState.TheVariants.{Off}
use Rattle.shadow.specs.InPlace.{chars_known}
use Rattle.shadow.specs.PackedBeliefs.{with_head}
use Rattle.shadow.specs.Since.{place_off}
use Rattle.shadow.proofs.Stretches.{drop_drop}

-- characters stay
chars_off : (ps : List CellBelief) → (let k = length (chars_known ps) in map place_off ps ≡ take k ps ++ map place_off (drop k ps))
chars_off [] = refl
chars_off (Attr a m t ∷ ps) = refl
chars_off (Known c ∷ ps) = ap (λ (rs : List CellBelief). Known c ∷ rs) (chars_off ps)
chars_off (Unplaced c ∷ ps) = ap (λ (rs : List CellBelief). Unplaced c ∷ rs) (chars_off ps)
chars_off (Unknown ∷ ps) = ap (λ (rs : List CellBelief). Unknown ∷ rs) (chars_off ps)

-- so the walk goes on at the next attribute
pub off_passed : (ps : List CellBelief) (from to : ℕ) → to ≡ from + length (chars_known (drop from ps)) → take from ps ++ map place_off (drop from ps) ≡ take to ps ++ map place_off (drop to ps)
off_passed ps from to is =
    let k : ℕ = length (chars_known (drop from ps)) in
    let rest : List CellBelief = map place_off (drop k (drop from ps)) in
    ap (λ (rs : List CellBelief). take from ps ++ rs) (chars_off (drop from ps))
    ∙ sym (append_assoc (take from ps) (take k (drop from ps)) rest)
    ∙ ap (λ (rs : List CellBelief). rs ++ rest) (sym (take-add from k ps))
    ∙ ap (λ (rs : List CellBelief). take (from + k) ps ++ map place_off rs) (drop_drop from k ps)
    ∙ ap (λ (n : ℕ). take n ps ++ map place_off (drop n ps)) (sym is)

default_of : (ps : List CellBelief) (at : ℕ) (p : CellBelief) → at < length ps → p ≡ get_or ps at p → get_or ps at Unknown ≡ p
default_of [] at p low is = absurd (omega arith)
default_of (x ∷ ps) zero p low is = sym is
default_of (x ∷ ps) (suc at) p low is = default_of ps at p (omega arith) is

pub off_stored : (ps : List CellBelief) (at : ℕ) (p : CellBelief) (t : TextKnowledge) (new : List CellBelief) → p ≡ get_or ps at p → with_head Off t p ≡ place_off p → new ≡ set ps at (with_head Off t (get_or ps at Unknown)) → at < length ps
    → new ≡ set ps at (place_off p)
off_stored ps at p t new is off stored low =
    stored ∙ ap (λ (q : CellBelief). set ps at (with_head Off t q)) (default_of ps at p low is) ∙ ap (set ps at) off

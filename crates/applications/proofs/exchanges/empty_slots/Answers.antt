use Rattle.std.proofs.Common.{◌≡◌, ◌∙◌, ◌++◌, ◌∷◌, [], ℕ, List, None, Option, ap, arith, replicate, sym}
use Rattle.std.proofs.lemmas.Grind.{replicate_next}
use Rattle.applications.proofs.exchanges.empty_slots.Goals as goal

pub loop-preserved : goal.loop-preserved
loop-preserved g c =
    c.in_ok-push.ensures.items ∙ ap (λ (slots : List (Option g.row.T.Denot)). slots ++ None ∷ []) c.loop.invariant ∙ sym (replicate_next c.loop.counter None)

pub returns : goal.returns
returns g c =
    let whole : c.loop.counter ≡ 64 = omega arith in
    c.loop.invariant ∙ ap (λ (count : ℕ). replicate {A = Option g.row.T.Denot} count None) whole

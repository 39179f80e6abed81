use Rattle.std.proofs.Common.{◌≡◌, ◌∙◌, ◌++◌, ◌∷◌, [], ℕ, List, None, Option, ap, arith, replicate, sym}
use Rattle.std.proofs.lemmas.Grind.{replicate_next}
use Rattle.server.proofs.connection_info.none_for_each.Goals as goal

pub loop-preserved : goal.loop-preserved
loop-preserved g c =
    c.in_ok-push.ensures.items ∙ ap (λ (values : List (Option g.row.T.Denot)). values ++ None ∷ []) c.loop.invariant ∙ sym (replicate_next c.loop.counter None)

pub returns : goal.returns
returns g c =
    let whole : c.loop.counter ≡ 64 = omega arith in
    c.loop.invariant ∙ ap (λ (count : ℕ). replicate {A = Option g.row.T.Denot} count None) whole

use Rattle.std.proofs.Common.{◌≡◌, ◌∙◌, ◌++◌, ◌∷◌, [], ℕ, List, None, Option, ap, arith, replicate, sym}
use Rattle.std.proofs.lemmas.Grind.{replicate_next}
use Rattle.server.proofs.hosts.no_owners.Goals as goal

pub loop-preserved : goal.loop-preserved
loop-preserved c =
    c.in_ok-push.ensures.items ∙ ap (λ (owners : List (Option ℕ)). owners ++ None ∷ []) c.loop.invariant ∙ sym (replicate_next c.loop.counter None)

pub returns : goal.returns
returns c =
    let whole : c.loop.counter ≡ 64 = omega arith in
    c.loop.invariant ∙ ap (λ (count : ℕ). replicate {A = Option ℕ} count None) whole

use Rattle.std.proofs.Common.{◌∙◌, ◌&&◌, ◌+◌, ap, drop, Bool}
use Rattle.shadow.specs.InPlace.{beliefs_held}
use Rattle.shadow.specs.Settled.{are_settled}
use Rattle.shadow.proofs.Stretches.{fields_until}
use Rattle.shadow.proofs.queries.all_settled.Goals as goal

pub loop-place-init : goal.loop-place-init
loop-place-init c = ap are_settled (fields_until c.args.beliefs.now 0 c.attribute_from-place.result c.attribute_from-place.ensures.place)

pub loop-place-preserved : goal.loop-place-preserved
loop-place-preserved c =
    let whole = c.args.beliefs.now in
    let place = c.loop-place.place in
    let next = c.attribute_from-place-in-loop-place.result in
    c.loop-place.invariant ∙ c.is_settled_at.ensures
    ∙ ap (λ (t : Bool). t && are_settled (beliefs_held whole (place + 1) (drop (place + 1) whole))) c.if-not-is_settled_at.false
    ∙ ap are_settled (fields_until whole (place + 1) next c.attribute_from-place-in-loop-place.ensures.place)

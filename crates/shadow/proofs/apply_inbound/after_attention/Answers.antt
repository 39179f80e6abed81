use Rattle.std.proofs.Common.{◌≡◌, ◌∙◌, ◌+◌, ◌++◌, ◌-◌, ap, arith, subst, drop, take, List, ℕ}
use Rattle.shadow.specs.declared.cell_belief.CellBelief.{CellBelief}
use Rattle.shadow.specs.Filled.{Fill, fill_of, fill_after, change_of, front_filled}
use Rattle.shadow.proofs.Changing.{key_changed}
use Rattle.shadow.proofs.KeyWalks.{Between, begins, step, finished}
use Rattle.shadow.proofs.Walks.{head_changed}
use Rattle.shadow.proofs.apply_inbound.after_attention.Goals as goal

pub loop-place-init : goal.loop-place-init
loop-place-init c = record {
  within = omega (arith, c.attribute_from-place.ensures.within, c.len-cells.ensures.len);
  walked = begins c.args.beliefs.now c.attribute_from-place.result c.attribute_from-place.ensures.place;
}

pub loop-place-preserved : goal.loop-place-preserved
loop-place-preserved c =
    let whole = c.args.beliefs.now in
    let now = c.loop-place.beliefs in
    let at = c.loop-place.place in
    let held = c.attribute_at-held.result in
    let end = c.attribute_from-end.result in
    let f = fill_after c.loop-place.filled (fill_of c.loop-place.update) in
    let one = change_of c.key_change_of-one.result in
    let k = end - at - 1 in
    let there : at + 1 + k ≡ end = omega (arith, c.attribute_from-end.ensures.place) in
    let set_is = c.set_head.ensures ∙ head_changed now at held f one (omega (arith, c.loop-place.invariant.walked.size, c.len-cells.ensures.len)) c.attribute_at-held.ensures c.loop-place.invariant.walked.stands in
    let after = c.fill_between.ensures ∙ ap (λ (ps : List CellBelief). take (at + 1) ps ++ front_filled one.fill (drop (at + 1) ps)) set_is in
    let next = step whole f at k now c.fill_between.new.beliefs held one c.loop-place.invariant.walked (omega (arith, c.loop-place.invariant.walked.size, c.len-cells.ensures.len)) c.attribute_at-held.ensures c.key_change_of-one.ensures (omega (arith, c.attribute_from-end.ensures.place)) after in
    record {
      within = omega (arith, c.attribute_from-end.ensures.within, c.loop-place.invariant.walked.size, c.len-cells.ensures.len);
      walked = subst (λ (n : ℕ). Between whole (fill_after k one.fill) n c.fill_between.new.beliefs) there next;
    }

pub returns-clause-fields : goal.returns-clause-fields
returns-clause-fields c =
    let last = fill_after c.loop-place.filled (fill_of c.loop-place.update) in
    let all = c.fill_front.ensures ∙ ap (λ (g : Fill). front_filled g c.loop-place.beliefs) c.update_after.ensures
    ∙ finished c.args.beliefs.now last c.loop-place.place c.loop-place.beliefs c.loop-place.invariant.walked (omega (arith, c.len-cells.ensures.len)) in
    (key_changed c.args.beliefs.now c.fill_front.new.beliefs c.requires all).0

pub returns-clause-held : goal.returns-clause-held
returns-clause-held c =
    let last = fill_after c.loop-place.filled (fill_of c.loop-place.update) in
    let all = c.fill_front.ensures ∙ ap (λ (g : Fill). front_filled g c.loop-place.beliefs) c.update_after.ensures
    ∙ finished c.args.beliefs.now last c.loop-place.place c.loop-place.beliefs c.loop-place.invariant.walked (omega (arith, c.len-cells.ensures.len)) in
    (key_changed c.args.beliefs.now c.fill_front.new.beliefs c.requires all).1

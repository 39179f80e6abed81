use Rattle.std.proofs.Common.{◌∙◌, ap, sym, refl, arith, List, drop, ◌+◌}
use Rattle.shadow.specs.Since.{cells_written, settled}
use Rattle.shadow.specs.declared.cell_belief.CellBelief.{CellBelief}
use Rattle.shadow.proofs.Changes.{all_changed, settled_step}
use Rattle.shadow.proofs.Settles.{settled_passed}
use Rattle.shadow.proofs.apply_write.settle.Goals as goal

pub loop-at-init : goal.loop-at-init
loop-at-init c =
    let ps = c.args.beliefs.now in
    let qs = c.args.pasts.now in
    let ks = cells_written ps qs in
    record {
      size = refl;
      within = omega (arith, c.attribute_from-at.ensures.within, c.len-cells.ensures.len);
      cells = refl;
      settled_ = settled_passed ks qs ps qs 0 c.attribute_from-at.result (omega (arith, c.requires)) c.attribute_from-at.ensures.place;
    }

pub loop-at-preserved : goal.loop-at-preserved
loop-at-preserved c =
    let now = c.loop-at.beliefs in
    let qs = c.args.pasts.now in
    let ks = cells_written c.args.beliefs.now qs in
    let i = c.loop-at.at in
    let new = c.set.new.self in
    let step = settled_step ks now qs i c.settled_at-place.result (omega arith) (omega arith) c.loop-at.invariant.cells c.settled_at-place.ensures in
    record {
      size = omega arith;
      within = omega (arith, c.attribute_from-at-in-loop-at.ensures.within, c.set.ensures.size, c.loop-at.invariant.size, c.len-cells.ensures.len);
      cells = ap (λ (ps : List CellBelief). cells_written ps qs) c.set.ensures.beliefs ∙ step.0 ∙ c.loop-at.invariant.cells;
      settled_ = c.loop-at.invariant.settled_ ∙ step.1 ∙ rw c.set.ensures.beliefs refl
          ∙ settled_passed ks qs new qs (i + 1) c.attribute_from-at-in-loop-at.result (omega (arith, c.requires, c.set.ensures.size, c.loop-at.invariant.size)) c.attribute_from-at-in-loop-at.ensures.place;
    }

pub returns-clause-settled : goal.returns-clause-settled
returns-clause-settled c =
    let qs = c.args.pasts.now in
    let ks = cells_written c.args.beliefs.now qs in
    sym (c.loop-at.invariant.settled_ ∙ all_changed (λ (ps : List CellBelief). settled ks qs ps (drop c.loop-at.at qs)) c.loop-at.beliefs c.loop-at.at (omega arith) refl)

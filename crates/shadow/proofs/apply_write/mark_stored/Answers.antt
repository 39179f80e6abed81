use Rattle.std.proofs.Common.{◌∙◌, true, arith, inl, inr}
use Rattle.std.proofs.lemmas.Bool.{cases_eq}
use Rattle.std.proofs.lemmas.List.{length-set, get_or-set_other}
use Rattle.std.proofs.lemmas.Grind.{get_or-set_at}
use Rattle.shadow.specs.Since.{never}
use Rattle.shadow.specs.declared.cell_belief.BeforeWrite.{BeforeWrite}
use Rattle.shadow.proofs.StoredRuns.{marked_here}
use Rattle.shadow.proofs.apply_write.mark_stored.Goals as goal

pub loop-at-preserved : goal.loop-at-preserved
loop-at-preserved c =
    let now = c.loop-at.pasts in
    let before = c.loop-at.invariant in
    let i = c.loop-at.at in
    let new : BeforeWrite = record { knowledge = c.past_at.result.knowledge; fresh = true } in
    record {
      inside = λ at above below. elim (cases_eq at i) [
        | inl same ↦
            get_or-set_at now i at new never same (omega arith)
            ∙ marked_here now c.args.pasts.now at c.past_at.result (rw (← same) at c.past_at.ensures) (omega arith) (before.apart at (λ up down. omega arith))
        | inr other ↦ get_or-set_other now i at new never other ∙ before.inside at above (omega arith)
      ];
      apart = λ at away. get_or-set_other now i at new never (λ same. away (omega arith) (omega arith)) ∙ before.apart at (λ above below. away above (omega arith));
      size = length-set now i new ∙ before.size;
    }

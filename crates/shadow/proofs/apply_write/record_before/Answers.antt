use Rattle.std.proofs.Common.{◌≡◌, ◌∙◌, ◌-◌, ◌+◌, ℕ, ap, sym, subst, refl, arith, map, set, length, replicate, List}
use Rattle.std.proofs.lemmas.List.{length-set, length-replicate}
use Rattle.shadow.specs.Since.{Since, cells_written, never}
use Rattle.shadow.specs.declared.cell_belief.BeforeWrite.{BeforeWrite}
use Rattle.shadow.proofs.Changes.{past_kept, since_start, cells_start}
use Rattle.shadow.proofs.Settles.{kept_passed, kept_put, kept_whole}
use Rattle.shadow.proofs.apply_write.record_before.Goals as goal

pub loop-place-init : goal.loop-place-init
loop-place-init c =
    let ps = c.args.beliefs.now in
    let size : ℕ = length ps in
    let whole : size ≡ size - 0 = omega arith in
    record {
      within = omega (arith, c.attribute_from-place.ensures.within, c.len-cells.ensures.len);
      size = ap length c.requires ∙ length-replicate size never;
      kept = c.requires ∙ ap (λ (n : ℕ). replicate n never) whole ∙ kept_passed size ps 0 c.attribute_from-place.result c.attribute_from-place.ensures.place c.attribute_from-place.ensures.within;
    }

pub loop-place-preserved : goal.loop-place-preserved
loop-place-preserved c =
    let ps = c.args.beliefs.now in
    let size : ℕ = length ps in
    let i = c.loop-place.place in
    let next = c.attribute_from-place-in-loop-place in
    record {
      within = omega (arith, next.ensures.within, c.len-cells.ensures.len);
      size = length-set c.loop-place.pasts i c.past_of.result ∙ c.loop-place.invariant.size;
      kept = ap (λ (qs : List BeforeWrite). set qs i c.past_of.result) c.loop-place.invariant.kept
          ∙ kept_put size ps i c.get.result c.past_of.result refl (omega (arith, c.len-cells.ensures.len)) c.get.ensures c.past_of.ensures
          ∙ kept_passed size ps (i + 1) next.result next.ensures.place next.ensures.within;
    }

pub returns-clause-since : goal.returns-clause-since
returns-clause-since c =
    let ps = c.args.beliefs.now in
    let all : c.loop-place.pasts ≡ map past_kept ps = c.loop-place.invariant.kept ∙ kept_whole (length ps) ps c.loop-place.place refl (omega (arith, c.len-cells.ensures.len)) in
    subst (λ (qs : List BeforeWrite). Since ps ps qs) (sym all) (since_start ps)

pub returns-clause-cells : goal.returns-clause-cells
returns-clause-cells c =
    let ps = c.args.beliefs.now in
    let all : c.loop-place.pasts ≡ map past_kept ps = c.loop-place.invariant.kept ∙ kept_whole (length ps) ps c.loop-place.place refl (omega (arith, c.len-cells.ensures.len)) in
    ap (cells_written ps) all ∙ cells_start ps

use Rattle.std.proofs.Common.{◌≡◌, ◌∙◌, ap, sym, arith, map, refl, set, length, ◌+◌}
use Rattle.std.proofs.lemmas.List.{length-set}
use Rattle.shadow.specs.Since.{place_off}
use Rattle.shadow.proofs.Changes.{changed_here, all_changed}
use Rattle.shadow.proofs.Marks.{off_passed, off_stored}
use Rattle.shadow.proofs.apply_write.marks_off.Goals as goal

pub loop-place-init : goal.loop-place-init
loop-place-init c = record {
  off = off_passed c.args.beliefs.now 0 c.attribute_from-place.result c.attribute_from-place.ensures.place;
  size = refl;
  within = omega (arith, c.attribute_from-place.ensures.within, c.len-cells.ensures.len);
  stands = c.attribute_from-place.ensures.stands;
}

pub loop-place-preserved : goal.loop-place-preserved
loop-place-preserved c =
    let now = c.loop-place.beliefs in
    let i = c.loop-place.place in
    let new = c.set_head.new.self in
    let held = c.attribute_at.result in
    let is : new ≡ set now i (place_off held) = off_stored now i held c.knowledge_in-knowledge.result new c.attribute_at.ensures c.knowledge_in-knowledge.ensures c.set_head.ensures (omega arith) in
    let size : length new ≡ length now = ap length is ∙ length-set now i (place_off held) in
    record {
      off = c.loop-place.invariant.off
          ∙ changed_here (map place_off) (map place_off) now i held (place_off held) (omega arith) c.attribute_at.ensures refl
          ∙ rw (← is) refl
          ∙ off_passed new (i + 1) c.attribute_from-place-in-loop-place.result c.attribute_from-place-in-loop-place.ensures.place;
      size = size ∙ c.loop-place.invariant.size;
      within = omega (arith, c.attribute_from-place-in-loop-place.ensures.within, size, c.loop-place.invariant.size, c.len-cells.ensures.len);
      stands = c.attribute_from-place-in-loop-place.ensures.stands;
    }

pub returns-clause-marks : goal.returns-clause-marks
returns-clause-marks c =
    sym (c.loop-place.invariant.off ∙ all_changed (map place_off) c.loop-place.beliefs c.loop-place.place (omega (arith, c.loop-place.invariant.size, c.len-cells.ensures.len)) refl)

pub attribute_at-requires-clause-stands : goal.attribute_at-requires-clause-stands
attribute_at-requires-clause-stands c = c.loop-place.invariant.stands

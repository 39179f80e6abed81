use Rattle.std.proofs.Common.{◌≡◌, ◌∙◌, ◌+◌, ◌++◌, ◌&&◌, ◌||◌, not, ap, sym, arith, drop, length, ℕ, Bool, false, List}
use Rattle.datastream.specs.InboundFields.{Returned}
use Rattle.shadow.specs.Belief.{Belief}
use Rattle.shadow.specs.Filled.{is_possible, any_lost, contradicts_held, lost_held, text_came, came_behind}
use Rattle.shadow.specs.InPlace.{beliefs_held}
use Rattle.shadow.proofs.HeardSteps.{possible_step, lost_step, or_more}
use Rattle.shadow.proofs.Stretches.{fields_until}
use Rattle.shadow.proofs.apply_inbound.erased_if_possible.Goals as goal

pub loop-place-init : goal.loop-place-init
loop-place-init c =
    let whole = c.args.beliefs.now in
    let p = c.attribute_from-place.result in
    let start = fields_until whole 0 p c.attribute_from-place.ensures.place in
    record {
      stands = c.attribute_from-place.ensures.stands;
      possible = ap (λ (bs : List Belief). is_possible (length whole) bs c.args.returned) start ∙ ap (is_possible (length whole) (beliefs_held whole p (drop p whole))) (sym c.new-returned_cursor.ensures);
      lost = ap (λ (bs : List Belief). any_lost (length whole) bs c.args.returned) start ∙ ap (any_lost (length whole) (beliefs_held whole p (drop p whole))) (sym c.new-returned_cursor.ensures);
    }

pub loop-place-preserved : goal.loop-place-preserved
loop-place-preserved c =
    let whole = c.args.beliefs.now in
    let n = c.loop-place.place in
    let m = c.attribute_from-next.result in
    let held = c.attribute_at-held.result in
    let came = c.loop-place.returned_cursor in
    let ahead = drop (n + 1) whole ++ whole in
    let behind = came_behind (length whole) held n came in
    let here = c.attribute_at-held.ensures in
    let text = sym (c.take-text.ensures.text ∙ ap (λ (m : ℕ). text_came m held n came) c.len-cells.ensures.len) in
    let passed = fields_until whole (n + 1) m c.attribute_from-next.ensures.place in
    let can : contradicts_held held n ahead (text_came (length whole) held n came) ≡ false = ap (contradicts_held held n ahead) text ∙ sym c.contradicts.ensures ∙ c.if-contradicts.false in
    let lost : lost_held held n ahead (text_came (length whole) held n came) ≡ c.was_erased-erased.result = ap (lost_held held n ahead) text ∙ sym (c.was_erased-erased.ensures n ahead) in
    record {
      stands = c.attribute_from-next.ensures.stands;
      possible = c.loop-place.invariant.possible ∙ possible_step (length whole) whole n held came (omega arith) here
          ∙ ap (λ (t : Bool). not t && is_possible (length whole) (beliefs_held whole (n + 1) (drop (n + 1) whole)) behind) can
          ∙ ap (λ (bs : List Belief). is_possible (length whole) bs behind) passed
          ∙ ap (is_possible (length whole) (beliefs_held whole m (drop m whole))) (sym (c.take-text.ensures.left ∙ ap (λ (m : ℕ). came_behind m held n came) c.len-cells.ensures.len));
      lost = c.loop-place.invariant.lost
          ∙ ap (λ (t : Bool). c.loop-place.erased || t) (lost_step (length whole) whole n held came (omega arith) here
          ∙ ap (λ (t : Bool). t || any_lost (length whole) (beliefs_held whole (n + 1) (drop (n + 1) whole)) behind) lost
          ∙ ap (λ (bs : List Belief). c.was_erased-erased.result || any_lost (length whole) bs behind) passed
          ∙ ap (λ (rs : List Returned). c.was_erased-erased.result || any_lost (length whole) (beliefs_held whole m (drop m whole)) rs) (sym (c.take-text.ensures.left ∙ ap (λ (m : ℕ). came_behind m held n came) c.len-cells.ensures.len)))
          ∙ or_more (length whole) c.loop-place.erased c.was_erased-erased.result (any_lost (length whole) (beliefs_held whole m (drop m whole)) c.take-text.new.self);
    }

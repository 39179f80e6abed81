use Rattle.std.proofs.Common.{◌≡◌, ◌∙◌, ◌+◌, ◌++◌, ◌-◌, ap, sym, arith, subst, drop, length, ℕ, List}
use Rattle.datastream.specs.InboundFields.{Returned}
use Rattle.shadow.specs.Filled.{Fill, fill_after, change_of, text_came, came_behind, unreturned_at, long_change, front_filled}
use Rattle.shadow.proofs.Walks.{Between, begins, passed, finished, same_front}
use Rattle.shadow.proofs.apply_inbound.take_fields.Goals as goal

pub loop-place-init : goal.loop-place-init
loop-place-init c =
    let whole = c.args.beliefs.now in
    let first = c.attribute_from-place.result in
    let walked : Between c.args.erased whole Fill.Same first c.new-returned_cursor.result c.args.returned whole =
    subst (λ (came : List Returned). Between c.args.erased whole Fill.Same first came c.args.returned whole) (sym c.new-returned_cursor.ensures)
    (begins c.args.erased whole first c.args.returned c.attribute_from-place.ensures.place) in
    record {
      within = omega (arith, c.attribute_from-place.ensures.within, c.len-cells.ensures.len);
      update = Fill.Same;
      walked = walked;
      none = λ over. sym (same_front whole) ∙ finished c.args.erased whole Fill.Same first c.new-returned_cursor.result c.args.returned whole walked (omega (arith, over, c.len-cells.ensures.len));
    }

pub loop-place-preserved : goal.loop-place-preserved
loop-place-preserved c =
    let now = c.loop-place.beliefs in
    let at = c.loop-place.place in
    let held = c.attribute_at-held.result in
    let end = c.attribute_from-end.result in
    let one = change_of c.change_after-one.result in
    let is_one : one ≡ long_change c.args.erased held (unreturned_at held (drop (at + 1) now ++ now)) (text_came (length c.args.beliefs.now) held at c.loop-place.returned_cursor) =
    c.change_after-one.ensures ∙ ap (long_change c.args.erased held (unreturned_at held (drop (at + 1) now ++ now))) (c.take-text.ensures.text ∙ ap (λ (m : ℕ). text_came m held at c.loop-place.returned_cursor) c.len-cells.ensures.len) in
    record {
      within = omega (arith, c.attribute_from-end.ensures.within, c.loop-place.invariant.walked.size, c.len-cells.ensures.len);
      update = fill_after (end - at - 1) one.fill;
      walked = passed c.args.erased c.args.beliefs.now c.loop-place.invariant.update at end c.loop-place.returned_cursor c.take-text.new.self c.args.returned now c.set_head.new.self c.fill_between.new.beliefs held one
          c.loop-place.invariant.walked (omega (arith, c.loop-place.invariant.walked.size, c.len-cells.ensures.len)) c.attribute_at-held.ensures is_one c.attribute_from-end.ensures.place c.set_head.ensures c.fill_between.ensures (c.take-text.ensures.left ∙ ap (λ (m : ℕ). came_behind m held at c.loop-place.returned_cursor) c.len-cells.ensures.len);
      none = λ over. absurd (omega arith);
    }

pub returns-then-cells-end : goal.returns-then-cells-end
returns-then-cells-end c =
    let now = c.loop-place.beliefs in
    let at = c.loop-place.place in
    let held = c.attribute_at-held.result in
    let end = c.attribute_from-end.result in
    let one = change_of c.change_after-one.result in
    let is_one : one ≡ long_change c.args.erased held (unreturned_at held (drop (at + 1) now ++ now)) (text_came (length c.args.beliefs.now) held at c.loop-place.returned_cursor) =
    c.change_after-one.ensures ∙ ap (long_change c.args.erased held (unreturned_at held (drop (at + 1) now ++ now))) (c.take-text.ensures.text ∙ ap (λ (m : ℕ). text_came m held at c.loop-place.returned_cursor) c.len-cells.ensures.len) in
    let last = fill_after (end - at - 1) one.fill in
    let walked = passed c.args.erased c.args.beliefs.now c.loop-place.invariant.update at end c.loop-place.returned_cursor c.take-text.new.self c.args.returned now c.set_head.new.self c.fill_between.new.beliefs held one
    c.loop-place.invariant.walked (omega (arith, c.loop-place.invariant.walked.size, c.len-cells.ensures.len)) c.attribute_at-held.ensures is_one c.attribute_from-end.ensures.place c.set_head.ensures c.fill_between.ensures (c.take-text.ensures.left ∙ ap (λ (m : ℕ). came_behind m held at c.loop-place.returned_cursor) c.len-cells.ensures.len) in
    let size = c.loop-place.invariant.walked.size in
    c.fill_front.ensures ∙ ap (λ (g : Fill). front_filled g c.fill_between.new.beliefs) c.update_after.ensures
    ∙ finished c.args.erased c.args.beliefs.now last end c.take-text.new.self c.args.returned c.fill_between.new.beliefs walked (omega (arith, c.len-cells.ensures.len))

pub returns : goal.returns
returns c = c.loop-place.invariant.none (omega arith)

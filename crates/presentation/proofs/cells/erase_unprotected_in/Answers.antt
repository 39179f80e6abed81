use Rattle.std.proofs.Common.{◌≡◌, ◌+◌, ◌%◌, ◌<◌, ℕ, List, cond, length, get_or, sym, ◌∙◌, ap, arith}
use Rattle.codes3270.specs.declared.attribute.Cell.{Cell}
use Rattle.datastream.specs.Screen.{attribute_over, is_protected, last_attribute, ring}
use Rattle.datastream.specs.Meaning.{erased}
use Rattle.datastream.proofs.Places.{across_none, across_more, get_or-across_end, length-across}
use Rattle.datastream.proofs.Fields.{attribute_over_is, attribute_before_next}
use Rattle.presentation.proofs.Walks.{start_of, next_of}
use Rattle.presentation.proofs.cells.erase_unprotected_in.Goals as goal

pub loop-step-init : goal.loop-step-init
loop-step-init c =
    let cells = c.args.cells.now in
    let below : c.args.from < length cells = rw c.requires.size c.requires.from in
    record {
      so_far = sym (across_none c.args.from (λ (at : ℕ) (old : Cell). cond (is_protected cells at) old (erased old)) cells);
      place = start_of c.args.from (length cells) below;
      below = below;
      over = c.attribute_before-over.ensures;
    }

pub loop-step-preserved : goal.loop-step-preserved
loop-step-preserved c =
    let cells : List Cell = c.args.cells.now in
    let size = c.requires.size in
    let rule : ℕ → Cell → Cell = λ at old. cond (is_protected cells at) old (erased old) in
    let place : ℕ = c.loop-step.at in
    let there : place ≡ (c.args.from + c.loop-step._step) % length cells = c.loop-step.invariant.place in
    let at_place : c.get-place.result ≡ place = c.get-place.ensures.value in
    let from_below : c.args.from < length cells = rw size c.requires.from in
    let step_below : c.loop-step._step < length cells = rw size (omega (arith, c.requires.count)) in
    let below : place < length cells = c.loop-step.invariant.below in
    let old : Cell = c.get-cell.result in
    let read : old ≡ get_or cells place old =
    c.get-cell.ensures ∙ rw (at_place, there, c.loop-step.invariant.so_far) (get_or-across_end c.args.from c.loop-step._step rule cells old from_below step_below) in
    let over : c.or-over.result ≡ attribute_over cells place =
    rw (c.or-over.ensures, c.attribute.ensures, read, c.loop-step.invariant.over)
    (sym (attribute_over_is cells place old below)) in
    let next : c.next-at.result ≡ (place + 1) % length cells = rw size c.next-at.ensures.value in
    record {
      so_far =
          rw (c.set.ensures, c.opened_under.ensures, at_place, read, over, there, c.loop-step.invariant.so_far)
          (across_more c.args.from c.loop-step._step rule cells old from_below step_below);
      place = next ∙ next_of c.args.from c.loop-step._step place (length cells) there;
      below = rw size c.next-at.ensures.in_range;
      over = over ∙ sym (attribute_before_next cells place below) ∙ ap (λ (from : ℕ). last_attribute (ring from cells)) (sym next);
    }

pub get-cell-requires : goal.get-cell-requires
get-cell-requires c =
    let cells : List Cell = c.args.cells.now in
    let long = ap length c.loop-step.invariant.so_far ∙ length-across c.args.from c.loop-step._step (λ (at : ℕ) (old : Cell). cond (is_protected cells at) old (erased old)) cells in
    omega (arith, long, c.get-place.ensures.value, c.loop-step.invariant.below)

pub set-requires : goal.set-requires
set-requires c =
    let cells : List Cell = c.args.cells.now in
    let long = ap length c.loop-step.invariant.so_far ∙ length-across c.args.from c.loop-step._step (λ (at : ℕ) (old : Cell). cond (is_protected cells at) old (erased old)) cells in
    omega (arith, long, c.get-place.ensures.value, c.loop-step.invariant.below)

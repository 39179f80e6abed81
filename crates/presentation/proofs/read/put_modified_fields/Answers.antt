use Rattle.std.proofs.Common.{◌<◌, ◌+◌, ℕ, List, refl, length, sym, subst, arith}
use Rattle.std.specs.List.{flat_map}
use Rattle.std.proofs.lemmas.Result.{err_from_is_err_and}
use Rattle.codes3270.specs.declared.attribute.Cell.{Cell}
use Rattle.codes3270.specs.declared.attribute.Cell.TheVariants.{Char}
use Rattle.codes3270.proofs.Appendings.{IsAppending, appending_more, appending_stopped, appending_from}
use Rattle.datastream.specs.Inbound.{modified_field, is_modified}
use Rattle.datastream.specs.Screen.{places_from}
use Rattle.presentation.proofs.Steps.{places_passed, attribute_stands}
use Rattle.presentation.proofs.Texts.{places_from_more}
use Rattle.presentation.proofs.read.put_modified_fields.Goals as goal

pub loop-attr-init : goal.loop-attr-init
loop-attr-init c =
    let cells : List Cell = c.args.cells.now in
    let found = c.first_listed-attr.ensures in
    record {
      so_far =
          subst (λ (places : List ℕ). IsAppending c.args.out.now c.args.out.now (flat_map (modified_field cells) places) (flat_map (modified_field cells) (places_from is_modified 0 cells)))
          (sym (places_passed is_modified (λ code. refl) cells 0 c.first_listed-attr.result found.place found.within))
          (appending_from c.args.out.now (flat_map (modified_field cells) (places_from is_modified 0 cells)));
      within = found.within;
      stands = λ below. attribute_stands cells 0 c.first_listed-attr.result found.place below;
    }

pub returns-in_err-put_field_if_modified : goal.returns-in_err-put_field_if_modified
returns-in_err-put_field_if_modified c =
    let cells : List Cell = c.args.cells.now in
    let below : c.loop-attr.attr < length cells = omega (arith, c.loop-attr-test.true, c.len-count.ensures.len) in
    let failed = err_from_is_err_and c.from_residual.result c.from_residual.ensures.1 in
    let before = rw (places_from_more (modified_field cells) is_modified cells c.loop-attr.attr (Char 0) below) at c.loop-attr.invariant.so_far in
    rw failed.1 (appending_stopped _ _ _ _ _ _ _ _ before c.in_err-put_field_if_modified.ensures)

pub loop-attr-preserved : goal.loop-attr-preserved
loop-attr-preserved c =
    let cells : List Cell = c.args.cells.now in
    let attr : ℕ = c.loop-attr.attr in
    let below : attr < length cells = omega (arith, c.loop-attr-test.true, c.len-count.ensures.len) in
    let found = c.attribute_from-next.ensures in
    let before = rw (places_from_more (modified_field cells) is_modified cells attr (Char 0) below) at c.loop-attr.invariant.so_far in
    record {
      so_far =
          subst (λ (places : List ℕ). IsAppending c.args.out.now c.put_field_if_modified.new.out (flat_map (modified_field cells) places) (flat_map (modified_field cells) (places_from is_modified 0 cells)))
          (sym (places_passed is_modified (λ code. refl) cells (attr + 1) c.attribute_from-next.result found.place found.within))
          (appending_more _ _ _ _ _ _ _ before c.in_ok-put_field_if_modified.ensures);
      within = found.within;
      stands = λ inside. attribute_stands cells (attr + 1) c.attribute_from-next.result found.place inside;
    }

use Rattle.std.proofs.Common.{◌≡◌, ◌+◌, ◌%◌, ◌<◌, ◌∙◌, ℕ, List, false, true, length, get_or, ap, sym, arith}
use Rattle.std.proofs.lemmas.List.{get_or_default}
use Rattle.codes3270.specs.Size.{cells_in}
use Rattle.codes3270.specs.declared.attribute.Cell.{Cell}
use Rattle.codes3270.specs.declared.attribute.Cell.TheVariants.{Char}
use Rattle.datastream.specs.Meaning.{tab_stop}
use Rattle.datastream.specs.Screen.{is_open_attribute}
use Rattle.presentation.proofs.Steps.{tab_passed, tab_step, tab_here, tab_end}
use Rattle.presentation.proofs.cells.tab_stop_from.Goals as goal

pub loop-attr-init : goal.loop-attr-init
loop-attr-init c = record {
  so_far =
      tab_passed c.args.cells.now c.get.result c.attribute_from-attr.result c.attribute_from-attr.ensures.place c.attribute_from-attr.ensures.within
      ∙ ap (tab_stop c.args.cells.now) c.get.ensures.value;
  within = omega (arith, c.attribute_from-attr.ensures.within, c.len-count.ensures.len);
}

pub loop-attr-preserved : goal.loop-attr-preserved
loop-attr-preserved c =
    let cells : List Cell = c.args.cells.now in
    let attr : ℕ = c.loop-attr.attr in
    let found = c.attribute_from-attr-in-loop-attr.ensures in
    let below : attr < length cells = omega (arith, c.loop-attr-test.true, c.len-count.ensures.len) in
    let read : c.get-in-loop-attr.result ≡ get_or cells attr (Char 0) = c.get-in-loop-attr.ensures ∙ get_or_default cells attr c.get-in-loop-attr.result (Char 0) below in
    let other : is_open_attribute (get_or cells attr (Char 0)) ≡ false = ap is_open_attribute (sym read) ∙ sym c.is_unprotected_attribute.ensures ∙ c.if-is_unprotected_attribute.false in
    record {
      so_far = tab_passed cells (attr + 1) c.attribute_from-attr-in-loop-attr.result found.place found.within ∙ tab_step cells attr below other ∙ c.loop-attr.invariant.so_far;
      within = omega (arith, found.within, c.len-count.ensures.len);
    }

pub returns-then-is_unprotected_attribute-clause-value : goal.returns-then-is_unprotected_attribute-clause-value
returns-then-is_unprotected_attribute-clause-value c =
    let cells : List Cell = c.args.cells.now in
    let attr : ℕ = c.loop-attr.attr in
    let below : attr < length cells = omega (arith, c.loop-attr-test.true, c.len-count.ensures.len) in
    let read : c.get-in-loop-attr.result ≡ get_or cells attr (Char 0) = c.get-in-loop-attr.ensures ∙ get_or_default cells attr c.get-in-loop-attr.result (Char 0) below in
    let is : is_open_attribute (get_or cells attr (Char 0)) ≡ true = ap is_open_attribute (sym read) ∙ sym c.is_unprotected_attribute.ensures ∙ c.if-is_unprotected_attribute.true in
    let there : c.first.result + (attr + 1) ≡ attr + 1 = omega (arith, c.first.ensures) in
    c.forward.ensures.value ∙ ap (λ (n : ℕ). n % cells_in c.args.size) there ∙ ap (λ (n : ℕ). (attr + 1) % n) (sym c.requires.size) ∙ sym (tab_here cells attr below is) ∙ c.loop-attr.invariant.so_far

pub returns-clause-value : goal.returns-clause-value
returns-clause-value c =
    c.first-2.ensures ∙ sym (tab_end c.args.cells.now c.loop-attr.attr (omega (arith, c.loop-attr-test.false, c.len-count.ensures.len))) ∙ c.loop-attr.invariant.so_far

use Rattle.codes3270.specs.Size.{cells_in}
use Rattle.std.proofs.Common.{◌≡◌, ◌+◌, ◌-◌, ◌<◌, List, length, ap, sym, ◌∙◌, arith}
use Rattle.std.proofs.Math.Nat.{mod-eq_of_lt}
use Rattle.codes3270.specs.declared.attribute.Cell.{Cell}
use Rattle.presentation.specs.Sizes.{SizedScreen}
use Rattle.presentation.proofs.Printing.{glyphs_walked}
use Rattle.presentation.proofs.screen.Screen.glyphs.Goals as goal

pub returns : goal.returns
returns c =
    let cells : List Cell = c.args.self.now.screen.cells in
    let same : c.cells-cells.result.now ≡ cells = c.cells-cells.ensures.cells ∙ ap (λ (sized : SizedScreen). sized.screen.cells) c.self.view_is in
    let width : cells_in c.size.result ≡ length cells = ap cells_in c.size.ensures.size ∙ sym c.size.ensures.cells in
    let some : 0 < length cells = rw (← width) (omega (arith, c.backward-last.ensures.in_range)) in
    let from_zero : 0 + length cells - 1 ≡ length cells - 1 = omega arith in
    let back : c.backward-last.result ≡ length cells - 1 =
    c.backward-last.ensures.value ∙ rw (c.first.ensures, width, from_zero) (mod-eq_of_lt (omega (arith, some))) in
    let end : c.backward-last.result + 1 ≡ length cells = omega (arith, back, some) in
    rw (same, c.is_hidden-hidden.ensures, c.attribute_over.ensures) (glyphs_walked cells c.backward-last.result end)

use Rattle.std.proofs.Common.{◌≡◌, ◌<◌, ℕ, List, length, false, ap, ◌∙◌, sym, subst, arith}
use Rattle.codes3270.specs.declared.attribute.Cell.{Cell}
use Rattle.presentation.specs.Places.{IsFirstStart}
use Rattle.presentation.proofs.IndexedStarts.{home_found, home_none, starts_first}
use Rattle.presentation.proofs.screen.Screen.home.Goals as goal

pub returns-in-Some-clause-value : goal.returns-in-Some-clause-value
returns-in-Some-clause-value c =
    let cells : List Cell = c.args.self.now.screen.cells in
    let other : starts_first cells ≡ false = ap starts_first (sym c.cells.ensures.cells) ∙ sym c.is_start_first.ensures.start ∙ c.if-is_start_first.false in
    home_found cells c.in-Some.start other (subst (λ (at : ℕ). IsFirstStart cells at c.in-Some.start) c.first-2.ensures c.in-Some.ensures.first)

pub returns-in-None-clause-value : goal.returns-in-None-clause-value
returns-in-None-clause-value c =
    let cells : List Cell = c.args.self.now.screen.cells in
    let other : starts_first cells ≡ false = ap starts_first (sym c.cells.ensures.cells) ∙ sym c.is_start_first.ensures.start ∙ c.if-is_start_first.false in
    let some : 0 < length cells = subst (λ (all : List Cell). 0 < length all) c.cells.ensures.cells c.is_start_first.ensures.some in
    c.first-in-None.ensures
    ∙ sym (home_none cells some other (λ place later below. c.in-None.ensures.none place (omega (arith, later, c.first-2.ensures)) below))

use Rattle.std.proofs.Common.{List, ℕ, length, sym, subst, arith}
use Rattle.codes3270.specs.declared.attribute.Cell.{Cell}
use Rattle.presentation.specs.Places.{IsFirstStart, attribute_places}
use Rattle.presentation.specs.Index.{HaveNoStart, IsFirstFrom, IsFirstWithStart}
use Rattle.presentation.proofs.IndexedStarts.{none_behind, first_behind}
use Rattle.presentation.proofs.screen.Screen.start_behind.Goals as goal

pub returns-in_err-number-clause-none : goal.returns-in_err-number-clause-none
returns-in_err-number-clause-none c =
    let cells : List Cell = c.args.self.now.screen.cells in
    let from : ℕ = c.first_from-from.result in
    let first : IsFirstFrom (attribute_places cells 0) c.args.at from =
    subst (λ (places : List ℕ). IsFirstFrom places c.args.at from) c.places-attributes.ensures.value c.first_from-from.ensures in
    let none : HaveNoStart cells from (length (attribute_places cells 0)) =
    subst (λ (places : List ℕ). HaveNoStart cells from (length places)) c.places-attributes.ensures.value
    (subst (λ (all : List Cell). HaveNoStart all from (length c.places-attributes.result.now)) c.cells.ensures.cells c.in_err-number.ensures.none) in
    rw c.from_residual.ensures (none_behind cells c.args.at from first none)

pub field_start-requires-clause-within : goal.field_start-requires-clause-within
field_start-requires-clause-within c =
    let cells : List Cell = c.args.self.now.screen.cells in
    let is : IsFirstWithStart cells c.first_from-from.result c.in_ok-number.number =
    subst (λ (all : List Cell). IsFirstWithStart all c.first_from-from.result c.in_ok-number.number) c.cells.ensures.cells c.in_ok-number.ensures.first in
    omega (arith, is.within, c.places-attributes.ensures.size)

pub returns-clause-first : goal.returns-clause-first
returns-clause-first c =
    let cells : List Cell = c.args.self.now.screen.cells in
    let from : ℕ = c.first_from-from.result in
    let number : ℕ = c.in_ok-number.number in
    let first : IsFirstFrom (attribute_places cells 0) c.args.at from =
    subst (λ (places : List ℕ). IsFirstFrom places c.args.at from) c.places-attributes.ensures.value c.first_from-from.ensures in
    let is : IsFirstWithStart cells from number =
    subst (λ (all : List Cell). IsFirstWithStart all from number) c.cells.ensures.cells c.in_ok-number.ensures.first in
    subst (λ (start : ℕ). IsFirstStart cells c.args.at start) (sym c.field_start.ensures.start) (first_behind cells c.args.at from number first is)

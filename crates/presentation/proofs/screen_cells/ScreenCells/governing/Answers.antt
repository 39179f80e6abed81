use Rattle.std.proofs.Common.{◌≡◌, ◌-◌, ◌<◌, ℕ, true, List, length, Option, sym, subst, arith}
use Rattle.std.specs.Option.{IfSome, IfNone}
use Rattle.std.specs.List.{list_all}
use Rattle.codes3270.specs.declared.attribute.Cell.{Cell}
use Rattle.datastream.specs.Screen.{is_char, IsGoverned}
use Rattle.presentation.proofs.KeptCells.{size}
use Rattle.presentation.proofs.Governing.{IsLastTo, last_read, none_governs, one_governs, one_within}
use Rattle.presentation.proofs.screen_cells.ScreenCells.governing.Goals as goal

pub returns-clause-none : goal.returns-clause-none
returns-clause-none c =
    let i = c.self.inside.packed in
    let cells : List Cell = c.args.self.now in
    let same = size i.attributes i.codes cells c.self.view_is in
    let end : c.len-last.result - 1 ≡ length cells - 1 = omega (arith, c.len-last.ensures.len, same) in
    let first = last_read i.attributes i.codes cells c.self.view_is c.args.at c.requires c.attribute_to.result c.attribute_to.ensures.none c.attribute_to.ensures.last in
    let last = last_read i.attributes i.codes cells c.self.view_is (c.len-last.result - 1) (omega (arith, end, c.requires)) c.attribute_to-2.result c.attribute_to-2.ensures.none c.attribute_to-2.ensures.last in
    subst (λ (found : Option ℕ). IfNone found (list_all is_char cells ≡ true)) (sym c.or.ensures)
    (none_governs cells c.args.at c.requires c.attribute_to.result c.attribute_to-2.result first (subst (λ (to : ℕ). IsLastTo cells to c.attribute_to-2.result) end last))

pub returns-clause-governing : goal.returns-clause-governing
returns-clause-governing c =
    let i = c.self.inside.packed in
    let cells : List Cell = c.args.self.now in
    let same = size i.attributes i.codes cells c.self.view_is in
    let end : c.len-last.result - 1 ≡ length cells - 1 = omega (arith, c.len-last.ensures.len, same) in
    let first = last_read i.attributes i.codes cells c.self.view_is c.args.at c.requires c.attribute_to.result c.attribute_to.ensures.none c.attribute_to.ensures.last in
    let last = last_read i.attributes i.codes cells c.self.view_is (c.len-last.result - 1) (omega (arith, end, c.requires)) c.attribute_to-2.result c.attribute_to-2.ensures.none c.attribute_to-2.ensures.last in
    subst (λ (found : Option ℕ). IfSome found (λ attr. IsGoverned cells c.args.at attr)) (sym c.or.ensures)
    (one_governs cells c.args.at c.requires c.attribute_to.result c.attribute_to-2.result first (subst (λ (to : ℕ). IsLastTo cells to c.attribute_to-2.result) end last))

pub returns-clause-within : goal.returns-clause-within
returns-clause-within c =
    let i = c.self.inside.packed in
    let cells : List Cell = c.args.self.now in
    let same = size i.attributes i.codes cells c.self.view_is in
    let end : c.len-last.result - 1 ≡ length cells - 1 = omega (arith, c.len-last.ensures.len, same) in
    let first = last_read i.attributes i.codes cells c.self.view_is c.args.at c.requires c.attribute_to.result c.attribute_to.ensures.none c.attribute_to.ensures.last in
    let last = last_read i.attributes i.codes cells c.self.view_is (c.len-last.result - 1) (omega (arith, end, c.requires)) c.attribute_to-2.result c.attribute_to-2.ensures.none c.attribute_to-2.ensures.last in
    subst (λ (found : Option ℕ). IfSome found (λ attr. attr < length cells)) (sym c.or.ensures)
    (one_within cells c.args.at c.requires c.attribute_to.result c.attribute_to-2.result first (subst (λ (to : ℕ). IsLastTo cells to c.attribute_to-2.result) end last))

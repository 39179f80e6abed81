use Rattle.std.proofs.Common.{◌≡◌, ◌∙◌, ℕ, List, get_or, sym, subst, ap}
use Rattle.std.proofs.lemmas.List.{get_or_default}
use Rattle.codes3270.specs.declared.attribute.Cell.{Cell}
use Rattle.codes3270.specs.declared.attribute.Cell.TheVariants.{Char}
use Rattle.datastream.specs.Screen.{attribute_in, IsGoverned}
use Rattle.datastream.proofs.Fields.{attribute_over_governed}
use Rattle.presentation.proofs.FieldLists.{attribute_over-none}
use Rattle.presentation.proofs.cells.attribute_over.Goals as goal

pub returns-in_err-attr : goal.returns-in_err-attr
returns-in_err-attr c =
    let cells : List Cell = c.args.cells.now in
    c.from_residual.ensures ∙ sym (attribute_over-none cells c.args.at c.in_err-attr.ensures.none)

pub returns : goal.returns
returns c =
    let cells : List Cell = c.args.cells.now in
    let attr = c.in_ok-attr.attr in
    let read : c.get-2.result ≡ get_or cells attr (Char 0) = c.get-2.ensures ∙ get_or_default cells attr c.get-2.result (Char 0) c.in_ok-attr.ensures.within in
    let governed : IsGoverned cells c.args.at attr = subst (λ (at : ℕ). IsGoverned cells at attr) c.get.ensures.value c.in_ok-attr.ensures.governing in
    c.attribute.ensures ∙ ap attribute_in read ∙ sym (attribute_over_governed cells c.args.at attr c.requires governed)

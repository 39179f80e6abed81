use Rattle.std.proofs.Common.{◌∙◌, ap, sym, subst, ℕ, List}
use Rattle.codes3270.specs.Size.{cells_in}
use Rattle.codes3270.specs.declared.attribute.Cell.{Cell}
use Rattle.datastream.specs.Fields.{fields}
use Rattle.datastream.specs.InboundFields.{cells_sent}
use Rattle.shadow.specs.Belief.{Shadow, IsOfSize}
use Rattle.shadow.specs.InPlace.{beliefs_held}
use Rattle.shadow.specs.RuleBreaks.{first_break, rule_break}
use Rattle.shadow.proofs.Placed.{known_size}
use Rattle.shadow.proofs.RuleWalk.{broken_held}
use Rattle.shadow.proofs.shadow.Shadow.rule_break.Goals as goal

pub returns-in-Some : goal.returns-in-Some
returns-in-Some c =
    let places = c.in-Some.beliefs.now in
    let screen : List Cell = cells_sent c.args.inbound.now.parts in
    c.first_break.ensures
    ∙ ap (λ (cells : List Cell). first_break (beliefs_held places 0 places) (fields cells)) c.cells.ensures.cells
    ∙ sym (broken_held places screen)
    ∙ ap (λ (shadow : Shadow). rule_break shadow screen) (sym c.in-Some.ensures.0)

pub first_break-requires-clause-whole : goal.first_break-requires-clause-whole
first_break-requires-clause-whole c =
    let n : ℕ = cells_in c.args.inbound.now.size in
    c.cells.ensures.whole ∙ sym (known_size c.in-Some.beliefs.now n (subst (IsOfSize n) c.in-Some.ensures.0 c.requires.size))

use Rattle.std.proofs.Common.{ap, sym, ◌∙◌, arith, refl}
use Rattle.codes3270.specs.Size.{most_cells}
use Rattle.shadow.specs.Queries.{value_of}
use Rattle.std.specs.Prelude.{option_and_then, slice_get}
use Rattle.shadow.specs.Belief.{Belief}
use Rattle.shadow.specs.declared.cell_belief.CellBelief.TheVariants.{Known, Unplaced, Unknown}
use Rattle.shadow.proofs.Placed.{with_found, with_missed}
use Rattle.shadow.proofs.ShorterTexts.{few_within}
use Rattle.shadow.proofs.queries.value_held_at.Goals as goal

pub returns-in-Attr-clause-value : goal.returns-in-Attr-clause-value
returns-in-Attr-clause-value c =
    let index = c.args.index in
    c.character.ensures ∙ sym (ap (option_and_then (λ (b : Belief). slice_get (value_of b.fact) index)) (with_found c.args.place c.args.beliefs.now c.in-Attr.field-0 c.in-Attr.field-1 c.in-Attr.knowledge c.requires c.in-Attr.ensures))

pub returns-in-Attr-clause-few : goal.returns-in-Attr-clause-few
returns-in-Attr-clause-few c =
    few_within c.args.beliefs.now c.args.place c.in-Attr.field-0 c.in-Attr.field-1 c.in-Attr.knowledge c.args.index most_cells c.character.result
    c.requires c.in-Attr.ensures (omega (arith, c.len-cells.ensures.len, c.len-cells.ensures.few)) c.character.ensures

pub returns-in-Known-clause-value : goal.returns-in-Known-clause-value
returns-in-Known-clause-value c =
    let index = c.args.index in
    sym (ap (option_and_then (λ (b : Belief). slice_get (value_of b.fact) index)) (with_missed c.args.place c.args.beliefs.now (Known c.in-Known.field-0) refl c.requires c.in-Known.ensures))

pub returns-in-Unplaced-clause-value : goal.returns-in-Unplaced-clause-value
returns-in-Unplaced-clause-value c =
    let index = c.args.index in
    sym (ap (option_and_then (λ (b : Belief). slice_get (value_of b.fact) index)) (with_missed c.args.place c.args.beliefs.now (Unplaced c.in-Unplaced.field-0) refl c.requires c.in-Unplaced.ensures))

pub returns-in-Unknown-clause-value : goal.returns-in-Unknown-clause-value
returns-in-Unknown-clause-value c =
    let index = c.args.index in
    sym (ap (option_and_then (λ (b : Belief). slice_get (value_of b.fact) index)) (with_missed c.args.place c.args.beliefs.now Unknown refl c.requires c.in-Unknown.ensures))

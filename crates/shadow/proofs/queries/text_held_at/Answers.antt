use Rattle.std.proofs.Common.{◌≡◌, ◌<◌, ap, sym, subst, ◌∙◌, arith, refl, ◌+◌, ◌++◌, drop, length, List, ℕ, [], Option}
use Rattle.std.specs.Option.{option_map_or}
use Rattle.codes3270.specs.Size.{most_cells}
use Rattle.shadow.specs.Queries.{value_of}
use Rattle.shadow.specs.Belief.{Belief}
use Rattle.shadow.specs.FieldTexts.{text_in}
use Rattle.shadow.specs.InPlace.{fact_held}
use Rattle.shadow.specs.declared.cell_belief.CellBelief.TheVariants.{Known, Unplaced, Unknown}
use Rattle.shadow.proofs.Placed.{with_found, with_missed}
use Rattle.shadow.proofs.ShorterTexts.{value_within}
use Rattle.shadow.proofs.queries.text_held_at.Goals as goal

text_of : Option Belief → List ℕ
text_of known = option_map_or (λ belief. value_of belief.fact) known []

pub returns-in-Attr-clause-text : goal.returns-in-Attr-clause-text
unfolding text_of
returns-in-Attr-clause-text c =
    c.new.ensures ∙ ap (text_in c.text_places.result) c.ahead.ensures.beliefs ∙ c.text_places.ensures
    ∙ sym (ap text_of (with_found c.args.place c.args.beliefs.now c.in-Attr.field-0 c.in-Attr.field-1 c.in-Attr.knowledge c.requires c.in-Attr.ensures))

pub returns-in-Attr-clause-few : goal.returns-in-Attr-clause-few
returns-in-Attr-clause-few c =
    let cells = c.args.beliefs.now in
    let ahead = drop (c.args.place + 1) cells ++ cells in
    let short : length (value_of (fact_held c.in-Attr.knowledge ahead)) < length cells =
    value_within cells c.args.place c.in-Attr.field-0 c.in-Attr.field-1 c.in-Attr.knowledge c.requires c.in-Attr.ensures in
    let same : c.new.result ≡ value_of (fact_held c.in-Attr.knowledge ahead) =
    c.new.ensures ∙ ap (text_in c.text_places.result) c.ahead.ensures.beliefs ∙ c.text_places.ensures in
    subst (λ (text : List ℕ). length text < most_cells) (sym same) (omega (arith, short, c.len-cells.ensures.len, c.len-cells.ensures.few))

pub returns-in-Known-clause-text : goal.returns-in-Known-clause-text
unfolding text_of
returns-in-Known-clause-text c =
    c.none.ensures ∙ sym (ap text_of (with_missed c.args.place c.args.beliefs.now (Known c.in-Known.field-0) refl c.requires c.in-Known.ensures))

pub returns-in-Unplaced-clause-text : goal.returns-in-Unplaced-clause-text
unfolding text_of
returns-in-Unplaced-clause-text c =
    c.none-in-Unplaced.ensures ∙ sym (ap text_of (with_missed c.args.place c.args.beliefs.now (Unplaced c.in-Unplaced.field-0) refl c.requires c.in-Unplaced.ensures))

pub returns-in-Unknown-clause-text : goal.returns-in-Unknown-clause-text
unfolding text_of
returns-in-Unknown-clause-text c =
    c.none-in-Unknown.ensures ∙ sym (ap text_of (with_missed c.args.place c.args.beliefs.now Unknown refl c.requires c.in-Unknown.ensures))

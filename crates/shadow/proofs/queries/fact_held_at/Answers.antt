use Rattle.std.proofs.Common.{ap, sym, ◌∙◌, refl, Some}
use Rattle.shadow.specs.Queries.{kind_of}
use Rattle.std.specs.Prelude.{option_map}
use Rattle.shadow.specs.Belief.{Belief}
use Rattle.shadow.specs.declared.cell_belief.CellBelief.TheVariants.{Known, Unplaced, Unknown}
use Rattle.shadow.proofs.Placed.{with_found, with_missed}
use Rattle.shadow.proofs.queries.fact_held_at.Goals as goal

pub returns-in-Attr : goal.returns-in-Attr
returns-in-Attr c =
    ap Some c.kind.ensures ∙ sym (ap (option_map (λ (b : Belief). kind_of b.fact)) (with_found c.args.place c.args.beliefs.now c.in-Attr.field-0 c.in-Attr.field-1 c.in-Attr.knowledge c.requires c.in-Attr.ensures))

pub returns-in-Known : goal.returns-in-Known
returns-in-Known c =
    sym (ap (option_map (λ (b : Belief). kind_of b.fact)) (with_missed c.args.place c.args.beliefs.now (Known c.in-Known.field-0) refl c.requires c.in-Known.ensures))

pub returns-in-Unplaced : goal.returns-in-Unplaced
returns-in-Unplaced c =
    sym (ap (option_map (λ (b : Belief). kind_of b.fact)) (with_missed c.args.place c.args.beliefs.now (Unplaced c.in-Unplaced.field-0) refl c.requires c.in-Unplaced.ensures))

pub returns-in-Unknown : goal.returns-in-Unknown
returns-in-Unknown c =
    sym (ap (option_map (λ (b : Belief). kind_of b.fact)) (with_missed c.args.place c.args.beliefs.now Unknown refl c.requires c.in-Unknown.ensures))

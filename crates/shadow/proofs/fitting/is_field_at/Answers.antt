use Rattle.std.proofs.Common.{◌∙◌, ◌&&◌, ap, sym, refl, length, List, Bool, ℕ, nat_eq, ◌++◌, ◌+◌, drop}
use Rattle.shadow.specs.declared.cell_belief.CellBelief.{CellBelief}
use Rattle.shadow.specs.declared.cell_belief.CellBelief.TheVariants.{Known, Unplaced, Unknown}
use Rattle.shadow.specs.InPlace.{chars_known}
use Rattle.shadow.proofs.Placed.{field_found, field_missed}
use Rattle.shadow.proofs.fitting.is_field_at.Goals as goal

pub returns-then-same_attr : goal.returns-then-same_attr
returns-then-same_attr c =
    let whole = c.args.beliefs.now in
    let p = c.args.place in
    let count = c.args.count in
    ap (λ (n : ℕ). nat_eq n count) (c.count_chars.ensures ∙ ap (λ (ps : List CellBelief). length (chars_known ps)) c.ahead.ensures.beliefs)
    ∙ ap (λ (t : Bool). t && nat_eq (length (chars_known (drop (p + 1) whole ++ whole))) count) (sym (sym c.same_attr.ensures ∙ c.if-same_attr.true))
    ∙ sym (field_found p c.args.attr count whole c.in-Attr.there c.in-Attr.field-1 c.in-Attr.field-2 c.requires c.in-Attr.ensures)

pub returns-else-same_attr : goal.returns-else-same_attr
returns-else-same_attr c =
    let whole = c.args.beliefs.now in
    let p = c.args.place in
    let count = c.args.count in
    c.if-same_attr.false
    ∙ ap (λ (t : Bool). t && nat_eq (length (chars_known (drop (p + 1) whole ++ whole))) count) (sym (sym c.same_attr.ensures ∙ c.if-same_attr.false))
    ∙ sym (field_found p c.args.attr count whole c.in-Attr.there c.in-Attr.field-1 c.in-Attr.field-2 c.requires c.in-Attr.ensures)

pub returns-in-Known : goal.returns-in-Known
returns-in-Known c = sym (field_missed c.args.place c.args.attr c.args.count c.args.beliefs.now (Known c.in-Known.field-0) refl c.requires c.in-Known.ensures)

pub returns-in-Unplaced : goal.returns-in-Unplaced
returns-in-Unplaced c = sym (field_missed c.args.place c.args.attr c.args.count c.args.beliefs.now (Unplaced c.in-Unplaced.field-0) refl c.requires c.in-Unplaced.ensures)

pub returns-in-Unknown : goal.returns-in-Unknown
returns-in-Unknown c = sym (field_missed c.args.place c.args.attr c.args.count c.args.beliefs.now Unknown refl c.requires c.in-Unknown.ensures)

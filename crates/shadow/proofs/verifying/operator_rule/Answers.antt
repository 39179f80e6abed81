use Rattle.std.proofs.Common.{◌+◌, ◌++◌, ◌∙◌, ap, sym, refl, drop, Bool, if◌then◌else◌}
use Rattle.datastream.specs.Fields.{Field}
use Rattle.shadow.specs.Belief.{Belief}
use Rattle.shadow.specs.InPlace.{belief_held, chars_known, known_text}
use Rattle.shadow.specs.RuleBreaks.{input_rule, protected_rule}
use Rattle.shadow.specs.Since.{beliefs_of_cells}
use Rattle.shadow.proofs.verifying.operator_rule.Goals as goal

pub returns-then-attr : goal.returns-then-attr
returns-then-attr c =
    let field = c.in-Attr-Attr in
    let belief : Belief = belief_held c.args.place field.attr field.mdt field.knowledge (drop (c.args.place + 1) c.args.beliefs.now ++ c.args.beliefs.now) in
    let read : Field = record { place = c.args.place; attr = field.seen; text = known_text (chars_known (beliefs_of_cells c.args.rest.now ++ beliefs_of_cells c.args.whole.now)) } in
    rw (field.is-0, field.is-1)
    (c.protected_rule.ensures belief read refl refl ∙ ap (λ (p : Bool). if p then protected_rule belief read else input_rule belief read) (sym c.if-attr.true))

pub returns-else-attr : goal.returns-else-attr
returns-else-attr c =
    let field = c.in-Attr-Attr in
    let belief : Belief = belief_held c.args.place field.attr field.mdt field.knowledge (drop (c.args.place + 1) c.args.beliefs.now ++ c.args.beliefs.now) in
    let read : Field = record { place = c.args.place; attr = field.seen; text = known_text (chars_known (beliefs_of_cells c.args.rest.now ++ beliefs_of_cells c.args.whole.now)) } in
    rw (field.is-0, field.is-1)
    (c.input_rule.ensures field.attr ∙ ap (λ (p : Bool). if p then protected_rule belief read else input_rule belief read) (sym c.if-attr.false))

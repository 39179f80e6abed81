use Rattle.std.proofs.Common.{ap, sym, ◌∙◌}
use Rattle.datastream.specs.Inbound.{without_nulls}
use Rattle.shadow.specs.Queries.{field_at}
use Rattle.host_core.proofs.Knowing.{text_is_known, text_is_characters, text_there}
use Rattle.host_core.proofs.learning.characters_known.Goals as goal

pub returns-clause-text : goal.returns-clause-text
returns-clause-text c =
    text_is_known c.what_is_believed_can_be_stored.ensures.told c.args.shadow.now c.args.field.now c.attr-attr.result (without_nulls c.text.result) c.requires.stored c.attr-attr.ensures
    (sym (c.is_settled.ensures (field_at c.attr-attr.result c.args.shadow.now) c.fact.ensures) ∙ c.if-not-is_settled.false)
    (λ belief there. ap without_nulls (c.text.ensures.text ∙ text_there c.attr-attr.result c.args.shadow.now belief there))

pub returns-clause-characters : goal.returns-clause-characters
returns-clause-characters c =
    text_is_characters c.what_is_believed_can_be_stored.ensures.told c.args.shadow.now c.args.field.now (without_nulls c.text.result) c.requires.stored
    (text_is_known c.what_is_believed_can_be_stored.ensures.told c.args.shadow.now c.args.field.now c.attr-attr.result (without_nulls c.text.result) c.requires.stored c.attr-attr.ensures
    (sym (c.is_settled.ensures (field_at c.attr-attr.result c.args.shadow.now) c.fact.ensures) ∙ c.if-not-is_settled.false)
    (λ belief there. ap without_nulls (c.text.ensures.text ∙ text_there c.attr-attr.result c.args.shadow.now belief there)))

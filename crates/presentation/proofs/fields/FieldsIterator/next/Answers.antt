use Rattle.std.proofs.Common.{◌≡◌, ◌+◌, ◌<◌, List, ◌∷◌, length, get_or, drop, sym, ◌∙◌, ap, arith}
use Rattle.std.proofs.lemmas.List.{drop_more, get_or-map, length-map}
use Rattle.codes3270.specs.declared.attribute.Cell.{Cell}
use Rattle.presentation.specs.declared.fields.Field.{Field}
use Rattle.presentation.specs.Places.{attribute_places}
use Rattle.presentation.specs.Fields.{field_of, fields_from}
use Rattle.presentation.proofs.fields.FieldsIterator.next.Goals as goal

pub returns-then-self-field_count-clause-steps : goal.returns-then-self-field_count-clause-steps
returns-then-self-field_count-clause-steps c =
    let cells : List Cell = c.self.inside.screen.now.screen.cells in
    let number = c.self.inside.next in
    let listed : number < length (attribute_places cells 0) = rw (← c.field_count.ensures.count) c.if-self-field_count.true in
    let all : List Field = fields_from cells 0 in
    let below : number < length all = omega (arith, listed, length-map (attribute_places cells 0) (field_of cells)) in
    let here : get_or all number c.field_number-field.result ≡ c.field_number-field.result =
    get_or-map (field_of cells) (attribute_places cells 0) number 0 c.field_number-field.result listed ∙ sym c.field_number-field.ensures in
    sym c.self.view_is
    ∙ drop_more all number c.field_number-field.result below
    ∙ ap (λ (field : Field). field ∷ drop (number + 1) all) here

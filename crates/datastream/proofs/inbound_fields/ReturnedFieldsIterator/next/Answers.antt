use Rattle.std.proofs.Common.{◌≡◌, [], ◌∷◌, rules, arith, ◌-◌, subst, sym, length, take, drop, ℕ, List}
use Rattle.std.specs.List.{prefix_len}
use Rattle.codes3270.specs.Storable.{is_storable}
use Rattle.codes3270.specs.Size.{cells_in}
use Rattle.datastream.specs.declared.inbound_part.Form.TheVariants.{Modified}
use Rattle.datastream.specs.InboundReading.{parts_in}
use Rattle.datastream.specs.InboundFields.{returned}
use Rattle.datastream.proofs.InboundSlices.{three_up, next_field, next_field_as, no_field, from_start, none_before}
use Rattle.datastream.proofs.inbound_fields.ReturnedFieldsIterator.next.Goals as goal

pub returns-in_default-clause-steps : goal.returns-in_default-clause-steps
returns-in_default-clause-steps c =
    let text = c.self.inside.text.now in
    let ends : c.args.self.now ≡ [] = rw (← c.self.view_is) (no_field _ _ _ c.self.invariant.0 (from_start text c.self.invariant.1) (omega (arith, c.in_default.len_below))) in
    (ends, ends)

pub returns-in_default-addr_from_bytes-clause-steps : goal.returns-in_default-addr_from_bytes-clause-steps
returns-in_default-addr_from_bytes-clause-steps c =
    let text = c.self.inside.text.now in
    let is = three_up text c.in-len3-up.len_at_least in
    let step = next_field _ _ _ _ _ _ _ c.self.invariant.0 (from_start text c.self.invariant.1) is in
    absurd (c.in_default-addr_from_bytes.ensures step.in_range)

pub invariant_of-self : goal.invariant_of-self
invariant_of-self c =
    let text = c.self.inside.text.now in
    let is = three_up text c.in-len3-up.len_at_least in
    let step = next_field_as _ _ _ _ _ _ _ _ _ _ c.self.invariant.0 (from_start text c.self.invariant.1) is c.split_field.ensures.characters c.split_field.ensures.rest c.in-Ok.ensures.1 in
    (step.rest, subst (λ (others : List ℕ). prefix_len is_storable others ≡ 0) (sym c.split_field.ensures.rest) (none_before (take (length text - 3) (drop 3 text))))

pub returns-clause-steps : goal.returns-clause-steps
returns-clause-steps c =
    let text = c.self.inside.text.now in
    let is = three_up text c.in-len3-up.len_at_least in
    let step = next_field_as _ _ _ _ _ _ _ _ _ _ c.self.invariant.0 (from_start text c.self.invariant.1) is c.split_field.ensures.characters c.split_field.ensures.rest c.in-Ok.ensures.1 in
    rw (← c.self.view_is) step.returned_are

pub returns-clause-goes : goal.returns-clause-goes
returns-clause-goes c =
    let text = c.self.inside.text.now in
    let is = three_up text c.in-len3-up.len_at_least in
    let step = next_field_as _ _ _ _ _ _ _ _ _ _ c.self.invariant.0 (from_start text c.self.invariant.1) is c.split_field.ensures.characters c.split_field.ensures.rest c.in-Ok.ensures.1 in
    let steps : c.args.self.now ≡ record { first = c.in-Ok.first; text = c.split_field.result.0.now } ∷ returned (parts_in (cells_in c.self.inside.size) Modified c.split_field.result.1.now) = rw (← c.self.view_is) step.returned_are in
    search rules

use Rattle.std.proofs.Common.{◌≡◌, arith, sym, subst, All}
use Rattle.codes3270.specs.Size.{cells_in}
use Rattle.datastream.specs.declared.inbound_part.Form.TheVariants.{Modified}
use Rattle.datastream.specs.InboundReading.{parts_in}
use Rattle.datastream.specs.InboundFields.{returned, IsProperReturned}
use Rattle.datastream.proofs.InboundData.{inbound_proper}
use Rattle.datastream.proofs.InboundSlices.{few_fields}
use Rattle.datastream.proofs.InboundViews.{any_returned_proper}
use Rattle.datastream.proofs.inbound.Inbound.returned.Goals as goal

-- what the fields' bytes are, by the size that the value keeps
pub invariant_of-result : goal.invariant_of-result
invariant_of-result c = (rw (← c.self.view_is) at c.field_bytes.ensures.parts, c.field_bytes.ensures.start)

pub returns-clause-returned : goal.returns-clause-returned
returns-clause-returned c = rw (← c.self.view_is) (rw (← c.self.view_is) at c.field_bytes.ensures.fields)

pub returns-clause-proper : goal.returns-clause-proper
returns-clause-proper c =
    let size = cells_in c.self.inside.size in
    let fields : returned (parts_in size Modified c.field_bytes.result.now) ≡ returned (parts_in size c.self.inside.form c.self.inside.text.now) =
    rw (← c.self.view_is) at c.field_bytes.ensures.fields in
    rw (← c.self.view_is) (subst (λ fs. All (IsProperReturned size) fs) (sym fields) (any_returned_proper size c.self.inside.form _ (inbound_proper _ c.self.invariant.0)))

pub returns-clause-few : goal.returns-clause-few
returns-clause-few c =
    let size = cells_in c.self.inside.size in
    let fields : returned (parts_in size Modified c.field_bytes.result.now) ≡ returned (parts_in size c.self.inside.form c.self.inside.text.now) =
    rw (← c.self.view_is) at c.field_bytes.ensures.fields in
    few_fields size _ c.self.inside.form c.self.inside.text.now fields (omega arith)

pub returns-clause-sent : goal.returns-clause-sent
returns-clause-sent c = rw (← c.self.view_is) c.self.invariant.0

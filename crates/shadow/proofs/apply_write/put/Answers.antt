use Rattle.std.proofs.Common.{refl, true}
use Rattle.shadow.specs.declared.cell_belief.BeforeWrite.{BeforeWrite}
use Rattle.shadow.proofs.Changes.{cells_put, since_put}
use Rattle.shadow.proofs.apply_write.put.Goals as goal

pub returns-clause-cells : goal.returns-clause-cells
returns-clause-cells c =
    let q : BeforeWrite = record { knowledge = c.past_at.result.knowledge; fresh = true } in
    rw (c.set.ensures.beliefs, c.get-place.ensures.value, c.place_of.ensures) (cells_put c.args.beliefs.now c.args.pasts.now c.args.at c.args.cell q refl)

pub returns-clause-since : goal.returns-clause-since
returns-clause-since c = λ old since.
    rw (c.set.ensures.beliefs, c.get-place.ensures.value) (since_put old c.args.beliefs.now c.args.pasts.now c.args.at c.place_of.result c.past_at.result (rw c.get-place.ensures.value at c.past_at.ensures) since)

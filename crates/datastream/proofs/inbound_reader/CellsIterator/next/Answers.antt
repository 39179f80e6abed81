use Rattle.std.proofs.Common.{◌≡◌, [], ◌∷◌, rules}
use Rattle.codes3270.specs.Size.{cells_in}
use Rattle.datastream.specs.declared.inbound_part.Form.TheVariants.{Buffer}
use Rattle.datastream.specs.InboundReading.{parts_in}
use Rattle.datastream.specs.InboundFields.{cells_sent}
use Rattle.datastream.proofs.InboundSlices.{cells_step, cells_end}
use Rattle.datastream.proofs.inbound_reader.CellsIterator.next.Goals as goal

pub returns-in-Ok-clause-steps : goal.returns-in-Ok-clause-steps
returns-in-Ok-clause-steps c =
    let found = cells_step (cells_in c.self.inside.size) _ _ _ c.in-Ok.ensures in
    rw (c.cell.ensures, found.1) (rw (← c.self.view_is) found.2)

pub returns-in-Ok-clause-goes : goal.returns-in-Ok-clause-goes
returns-in-Ok-clause-goes c =
    let found = cells_step (cells_in c.self.inside.size) _ _ _ c.in-Ok.ensures in
    let step : c.args.self.now ≡ found.0 ∷ cells_sent (parts_in (cells_in c.self.inside.size) Buffer c.in-Ok.rest.now) = rw (← c.self.view_is) found.2 in
    rw (c.cell.ensures, found.1) (search rules)

pub returns-in-Err-clause-steps : goal.returns-in-Err-clause-steps
returns-in-Err-clause-steps c =
    let ends : c.args.self.now ≡ [] = rw (← c.self.view_is) (cells_end (cells_in c.self.inside.size) _ _ c.in-Err.ensures) in
    (ends, ends)

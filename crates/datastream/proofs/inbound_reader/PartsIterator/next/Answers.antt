use Rattle.std.proofs.Common.{◌≡◌, [], ◌∷◌, rules}
use Rattle.codes3270.specs.Size.{cells_in}
use Rattle.datastream.specs.InboundReading.{parts_in}
use Rattle.datastream.proofs.InboundSequences.{parts_in-next, parts_in-end}
use Rattle.datastream.proofs.inbound_reader.PartsIterator.next.Goals as goal

pub returns-in-Ok-clause-steps : goal.returns-in-Ok-clause-steps
returns-in-Ok-clause-steps c = rw (← c.self.view_is) (parts_in-next _ _ _ _ _ c.in-Ok.ensures)

pub returns-in-Ok-clause-goes : goal.returns-in-Ok-clause-goes
returns-in-Ok-clause-goes c =
    let step : c.args.self.now ≡ c.in-Ok.part ∷ parts_in (cells_in c.self.inside.size) c.self.inside.form c.in-Ok.rest.now = rw (← c.self.view_is) (parts_in-next _ _ _ _ _ c.in-Ok.ensures) in
    search rules

pub returns-in-Err-clause-steps : goal.returns-in-Err-clause-steps
returns-in-Err-clause-steps c =
    let ends : c.args.self.now ≡ [] = rw (← c.self.view_is) (parts_in-end _ _ _ _ c.in-Err.ensures) in
    (ends, ends)

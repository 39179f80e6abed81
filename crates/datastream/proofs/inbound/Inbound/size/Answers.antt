use Rattle.datastream.proofs.inbound.Inbound.size.Goals as goal

pub returns-clause-sent : goal.returns-clause-sent
returns-clause-sent c = rw (← c.self.view_is) c.self.invariant.0

use Rattle.datastream.proofs.command.Command.size.Goals as goal

pub returns-clause-encoded : goal.returns-clause-encoded
returns-clause-encoded c = rw (← c.self.view_is) c.self.invariant

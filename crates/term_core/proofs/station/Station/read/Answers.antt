use Rattle.term_core.proofs.station.Station.read.Goals as goal

pub returns-clause-found : goal.returns-clause-found
returns-clause-found c = rw (← c.size.ensures, ← c.alternate.ensures) c.read_command.ensures.found

pub returns-clause-read : goal.returns-clause-read
returns-clause-read c = rw (← c.size.ensures, ← c.alternate.ensures) c.read_command.ensures.size

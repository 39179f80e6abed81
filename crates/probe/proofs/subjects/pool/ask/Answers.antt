use Rattle.probe.proofs.subjects.pool.ask.Goals as goal

pub ask-requires : goal.ask-requires
ask-requires c = c.in-None.ensures.none

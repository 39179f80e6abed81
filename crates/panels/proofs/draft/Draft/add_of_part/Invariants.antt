use Rattle.panels.specs.Walk.{turn_in, AreFoundTo}
use Rattle.panels.proofs.draft.Draft.add_of_part.Given as goal

abbrev pub invariant-loop-fault : goal.invariant-loop-fault
invariant-loop-fault l = AreFoundTo (turn_in l.pass l.part l.fault-index) l.self l.found.items

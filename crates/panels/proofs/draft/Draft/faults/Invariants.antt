use Rattle.panels.specs.declared.fault.Location.TheVariants.{Top}
use Rattle.panels.specs.Walk.{turn_at, AreFoundTo}
use Rattle.panels.proofs.draft.Draft.faults.Given as goal

abbrev pub invariant-loop-pass : goal.invariant-loop-pass
invariant-loop-pass l = AreFoundTo (turn_at l.pass Top) l.self l.found.items

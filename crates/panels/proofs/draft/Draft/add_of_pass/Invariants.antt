use Rattle.panels.specs.declared.fault.Location.TheVariants.{Panel}
use Rattle.panels.specs.Walk.{turn_at, AreFoundTo}
use Rattle.panels.proofs.draft.Draft.add_of_pass.Given as goal

abbrev pub invariant-loop-panel : goal.invariant-loop-panel
invariant-loop-panel l = AreFoundTo (turn_at l.pass (Panel l.panel)) l.self l.found.items

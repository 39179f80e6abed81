use Rattle.panels.specs.declared.fault.Location.TheVariants.{Text, Field}
use Rattle.panels.specs.Walk.{turn_at, AreFoundTo}
use Rattle.panels.proofs.draft.Draft.add_of_panel.Given as goal

abbrev pub invariant-loop-text : goal.invariant-loop-text
invariant-loop-text l = AreFoundTo (turn_at l.pass (Text l.panel l.text)) l.self l.found.items

abbrev pub invariant-loop-field : goal.invariant-loop-field
invariant-loop-field l = AreFoundTo (turn_at l.pass (Field l.panel l.field)) l.self l.found.items

use Rattle.std.proofs.Common.{rules}
use Rattle.std.proofs.lemmas.List.Edits.{map_over_more}
use Rattle.panels.specs.Marked.{marked_panel}
use Rattle.panels.proofs.Marked.{all_marked, sound_marked}
use Rattle.panels.proofs.panel_set.PanelSet.mark_fields.Goals as goal

pub loop-panel-preserved : goal.loop-panel-preserved
loop-panel-preserved c = search (rules, map_over_more marked_panel)

pub invariant_of-self : goal.invariant_of-self
invariant_of-self c =
    let lent = c.deref_mut-panel-items in
    rw (all_marked marked_panel c.self.inside.panels.items lent.result.now c.loop-panel.panel-items c.loop-panel.panel-index c.self.inside.panels.len
    lent.ensures.value lent.ensures.len c.loop-panel.auto.panel-items c.loop-panel-test.false c.loop-panel.invariant)
    (sound_marked _ c.self.invariant)

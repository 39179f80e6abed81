use Rattle.std.proofs.Common.{rules}
use Rattle.std.proofs.lemmas.List.Edits.{map_over_more}
use Rattle.panels.specs.Marked.{marked_field}
use Rattle.panels.proofs.Marked.{all_marked, laid_out_marked}
use Rattle.panels.proofs.panel.Panel.mark_fields.Goals as goal

pub loop-field-preserved : goal.loop-field-preserved
loop-field-preserved c = search (rules, map_over_more marked_field)

pub invariant_of-self : goal.invariant_of-self
invariant_of-self c =
    let lent = c.deref_mut-field-items in
    rw (all_marked marked_field c.self.inside.fields.items lent.result.now c.loop-field.field-items c.loop-field.field-index c.self.inside.fields.len
    lent.ensures.value lent.ensures.len c.loop-field.auto.field-items c.loop-field-test.false c.loop-field.invariant)
    (laid_out_marked _ c.self.invariant)

use Rattle.std.proofs.Common.{◌≡◌, ◌<◌, ◌∙◌, refl, ap, sym, subst, ℕ, List, length, Some, arith}
use Rattle.std.specs.Prelude.{slice_get}
use Rattle.std.proofs.lemmas.Option.{slice_get-get_or}
use Rattle.panels.specs.declared.fault.Location.TheVariants.{Panel, Field}
use Rattle.panels.specs.Draft.{DraftItem, DraftPanel}
use Rattle.panels.specs.Faults.{copied_name_at, name_at}
use Rattle.panels.specs.Index.{IsIndexTo, part_named, noted}
use Rattle.panels.proofs.Indexing.{panel_step, name_step, copy_step, names_over, copies_over}
use Rattle.panels.proofs.index.name_indexes.Goals as goal

pub loop-field-init : goal.loop-field-init
loop-field-init c = (
  panel_step c.args.panels.now c.loop-panel.panel c.loop-panel.of_panels c.note.new.index c.index-panels-panel.result
      (slice_get-get_or c.args.panels.now c.loop-panel.panel c.index-panels-panel.result c.loop-panel-test.true ∙ ap Some (sym c.index-panels-panel.is))
      (subst (λ (draft : DraftPanel). (other : List ℕ) → part_named c.note.new.index other ≡ noted (part_named c.loop-panel.of_panels) (Some draft.name) (Panel c.loop-panel.panel) other)
      c.draft.view_is c.in_ok-note.ensures)
      c.loop-panel.invariant.0,
  c.loop-panel.invariant.1,
  c.loop-panel.invariant.2,
)

pub loop-field-preserved : goal.loop-field-preserved
loop-field-preserved c =
    let below : c.loop-field.field < length c.draft.inside.fields.items = omega (arith, c.loop-field-test.true, c.len-field-end.ensures) in
    let there : slice_get c.args.panels.now c.loop-panel.panel ≡ Some c.index-panels-panel.result =
    slice_get-get_or c.args.panels.now c.loop-panel.panel c.index-panels-panel.result c.loop-panel-test.true ∙ ap Some (sym c.index-panels-panel.is) in
    let inside : slice_get c.index-panels-panel.result.fields c.loop-field.field ≡ Some c.index-item.result.now =
    rw (← c.draft.view_is) (slice_get-get_or c.draft.inside.fields.items c.loop-field.field c.index-item.result.now below ∙ ap Some (sym c.index-item.ensures)) in (
      c.loop-field.invariant.0,
      name_step c.args.panels.now c.loop-panel.panel c.loop-field.field c.loop-field.of_fields c.note-in-loop-field.new.index c.index-panels-panel.result c.index-item.result.now
          there inside
          (subst (λ (item : DraftItem). (other : List ℕ) → part_named c.note-in-loop-field.new.index other ≡ noted (part_named c.loop-field.of_fields) (Some item.name) (Field c.loop-panel.panel c.loop-field.field) other)
          c.item.view_is
          (subst (λ name. (other : List ℕ) → part_named c.note-in-loop-field.new.index other ≡ noted (part_named c.loop-field.of_fields) (Some name) (Field c.loop-panel.panel c.loop-field.field) other)
          c.as_str.ensures.value c.in_ok-note-2.ensures))
          c.loop-field.invariant.1,
      copy_step c.args.panels.now c.loop-panel.panel c.loop-field.field c.loop-field.of_copies c.note-in-loop-field-2.new.index c.index-panels-panel.result c.index-item.result.now
          there inside
          (subst (λ name. (other : List ℕ) → part_named c.note-in-loop-field-2.new.index other ≡ noted (part_named c.loop-field.of_copies) name (Field c.loop-panel.panel c.loop-field.field) other)
          c.copied_name.ensures c.in_ok-note-3.ensures)
          c.loop-field.invariant.2,
    )

pub loop-panel-preserved : goal.loop-panel-preserved
loop-panel-preserved c =
    let whole : c.loop-field.field ≡ length c.draft.inside.fields.items = omega (arith, c.loop-field.auto.field-end, c.loop-field-test.false, c.len-field-end.ensures) in
    let seen : length c.draft.inside.fields.items ≡ length c.index-panels-panel.result.fields = rw (← c.draft.view_is) refl in
    let there : slice_get c.args.panels.now c.loop-panel.panel ≡ Some c.index-panels-panel.result =
    slice_get-get_or c.args.panels.now c.loop-panel.panel c.index-panels-panel.result c.loop-panel-test.true ∙ ap Some (sym c.index-panels-panel.is) in (
      c.loop-field.invariant.0,
      names_over c.args.panels.now c.index-panels-panel.result c.loop-panel.panel c.loop-field.of_fields there
          (subst (λ n. IsIndexTo name_at c.args.panels.now (Field c.loop-panel.panel n) c.loop-field.of_fields) (whole ∙ seen) c.loop-field.invariant.1),
      copies_over c.args.panels.now c.index-panels-panel.result c.loop-panel.panel c.loop-field.of_copies there
          (subst (λ n. IsIndexTo copied_name_at c.args.panels.now (Field c.loop-panel.panel n) c.loop-field.of_copies) (whole ∙ seen) c.loop-field.invariant.2),
    )

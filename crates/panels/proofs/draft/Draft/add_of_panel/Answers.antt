use Rattle.std.proofs.Common.{◌≡◌, ◌<◌, ap, length, arith}
use Rattle.std.specs.Prelude.{is_some}
use Rattle.panels.specs.Draft.{DraftPanel, DraftText}
use Rattle.panels.proofs.Building.{read_below}
use Rattle.panels.proofs.Turning.{panel_found, text_found, texts_found, field_found, fields_found, keys_found, no_text_from, no_field_from, field_there}
use Rattle.panels.proofs.draft.Draft.add_of_panel.Goals as goal

pub loop-field-init : goal.loop-field-init
loop-field-init c =
    let there = read_below _ c.args.self.now.panels c.args.panel c.index.result.now (ap (λ (draft : DraftText). draft.panels) c.self.view_is) c.requires.there c.index.ensures in
    let texts = ap (λ (draft : DraftPanel). length draft.texts) c.index-2.view_is in
    let whole : c.loop-text.text ≡ length c.index.result.now.texts = omega (arith, texts, c.len-text-end.ensures, c.loop-text-test.false, c.loop-text.auto.text-end) in
    texts_found c.args.pass c.args.panel _ c.args.self.now _ (no_text_from c.args.self.now c.index.result.now c.args.panel _ there whole) c.loop-text.invariant

pub add_of_part-requires-in-loop-field-clause-there : goal.add_of_part-requires-in-loop-field-clause-there
add_of_part-requires-in-loop-field-clause-there c =
    let there = read_below _ c.args.self.now.panels c.args.panel c.index.result.now (ap (λ (draft : DraftText). draft.panels) c.self.view_is) c.requires.there c.index.ensures in
    let fields = ap (λ (draft : DraftPanel). length draft.fields) c.index-2.view_is in
    let inside : c.loop-field.field < length c.index.result.now.fields = omega (arith, fields, c.len-field-end.ensures, c.loop-field-test.true) in
    field_there c.args.self.now.panels c.index.result.now c.args.panel c.loop-field.field there inside

pub loop-field-preserved : goal.loop-field-preserved
loop-field-preserved c = field_found c.args.pass c.args.panel c.loop-field.field c.args.self.now _ c.in_ok-add_of_part-3.ensures

pub add_of_part-requires-2-clause-there : goal.add_of_part-requires-2-clause-there
add_of_part-requires-2-clause-there c =
    let there = read_below _ c.args.self.now.panels c.args.panel c.index.result.now (ap (λ (draft : DraftText). draft.panels) c.self.view_is) c.requires.there c.index.ensures in
    ap is_some there

pub add_of_part-requires-2-clause-found : goal.add_of_part-requires-2-clause-found
add_of_part-requires-2-clause-found c =
    let there = read_below _ c.args.self.now.panels c.args.panel c.index.result.now (ap (λ (draft : DraftText). draft.panels) c.self.view_is) c.requires.there c.index.ensures in
    let fields = ap (λ (draft : DraftPanel). length draft.fields) c.index-2.view_is in
    let whole : c.loop-field.field ≡ length c.index.result.now.fields = omega (arith, fields, c.len-field-end.ensures, c.loop-field-test.false, c.loop-field.auto.field-end) in
    fields_found c.args.pass c.args.panel _ c.args.self.now _ (no_field_from c.args.self.now c.index.result.now c.args.panel _ there whole) c.loop-field.invariant

pub returns : goal.returns
returns c = keys_found c.args.pass c.args.panel c.args.self.now _ c.in_ok-add_of_part-4.ensures

pub loop-text-init : goal.loop-text-init
loop-text-init c = panel_found c.args.pass c.args.panel c.args.self.now _ c.in_ok-add_of_part.ensures

pub loop-text-preserved : goal.loop-text-preserved
loop-text-preserved c = text_found c.args.pass c.args.panel c.loop-text.text c.args.self.now _ c.in_ok-add_of_part-2.ensures

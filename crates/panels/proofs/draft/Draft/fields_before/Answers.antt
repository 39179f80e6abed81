use Rattle.std.proofs.Common.{◌≡◌, ◌∙◌, ap, Some, length, arith}
use Rattle.std.specs.Prelude.{slice_get}
use Rattle.std.proofs.lemmas.Option.{slice_get_within}
use Rattle.panels.specs.Draft.{DraftPanel, DraftText}
use Rattle.panels.proofs.Building.{read_before}
use Rattle.panels.proofs.Linking.{counted_more}
use Rattle.panels.proofs.Sound.{few_panels, few_fields, before_few}
use Rattle.panels.proofs.draft.Draft.fields_before.Goals as goal

pub overflow_add-count : goal.overflow_add-count
overflow_add-count c =
    let there : slice_get c.args.self.now.panels c.loop-panel.panel-index ≡ Some c.panel-item.result =
    read_before c.deref.result.now c.args.self.now.panels c.args.panel c.loop-panel.panel-index c.panel-item.result (c.deref.ensures.value ∙ ap (λ (draft : DraftText). draft.panels) c.self.view_is)
    c.requires.there c.loop-panel-test.true c.panel-item.is in
    let panels = few_panels c.args.self.now c.requires.faultless in
    let own = few_fields c.args.self.now c.panel-item.result c.loop-panel.panel-index c.requires.faultless there in
    let before = before_few c.args.self.now c.loop-panel.panel-index c.requires.faultless in
    let size : length c.panel.inside.fields.items ≡ length c.panel-item.result.fields = ap (λ (panel : DraftPanel). length panel.fields) c.panel.view_is in
    let below = slice_get_within c.args.self.now.panels c.loop-panel.panel-index c.panel-item.result there in
    omega arith

pub loop-panel-preserved : goal.loop-panel-preserved
loop-panel-preserved c =
    let there : slice_get c.args.self.now.panels c.loop-panel.panel-index ≡ Some c.panel-item.result =
    read_before c.deref.result.now c.args.self.now.panels c.args.panel c.loop-panel.panel-index c.panel-item.result (c.deref.ensures.value ∙ ap (λ (draft : DraftText). draft.panels) c.self.view_is)
    c.requires.there c.loop-panel-test.true c.panel-item.is in
    let more = counted_more c.args.self.now.panels c.loop-panel.panel-index c.panel-item.result there in
    let size : length c.panel.inside.fields.items ≡ length c.panel-item.result.fields = ap (λ (panel : DraftPanel). length panel.fields) c.panel.view_is in
    omega arith

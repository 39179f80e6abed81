use Rattle.std.proofs.Common.{◌≡◌, ◌∙◌, ap, sym, subst, Some, false}
use Rattle.std.specs.Prelude.{slice_get}
use Rattle.std.proofs.lemmas.Bool.{false≢true}
use Rattle.panels.specs.Defines.{IsTextOf}
use Rattle.panels.specs.Draft.{DraftItem, DraftPanel, draft_size}
use Rattle.panels.specs.Items.{IsExtentOf, is_on_screen}
use Rattle.panels.proofs.Building.{read_at, built_more}
use Rattle.panels.proofs.Linking.{text_in, text_on_screen}
use Rattle.panels.proofs.draft.Draft.texts.Goals as goal

pub loop-text-preserved-in_default : goal.loop-text-preserved-in_default
loop-text-preserved-in_default c =
    let there : slice_get c.args.panel.now.texts c.loop-text.text-index ≡ Some c.text-item.result =
    read_at c.deref-text-items.result.now c.args.panel.now.texts c.loop-text.text-index c.text-item.result (c.deref-text-items.ensures.value ∙ ap (λ (panel : DraftPanel). panel.texts) c.panel.view_is)
    c.loop-text-test.true c.text-item.is in
    absurd (false≢true (sym (subst (λ shape. is_on_screen shape c.text-item.result ≡ false) c.size-size.ensures c.in_default.ensures) ∙
    text_on_screen c.args.self.now c.args.panel.now c.loop-text.text-index c.text-item.result c.requires.faultless c.requires.there there))

pub content-requires-clause-is_text : goal.content-requires-clause-is_text
content-requires-clause-is_text c =
    let there : slice_get c.args.panel.now.texts c.loop-text.text-index ≡ Some c.text-item.result =
    read_at c.deref-text-items.result.now c.args.panel.now.texts c.loop-text.text-index c.text-item.result (c.deref-text-items.ensures.value ∙ ap (λ (panel : DraftPanel). panel.texts) c.panel.view_is)
    c.loop-text-test.true c.text-item.is in
    text_in c.args.self.now.panels c.args.panel.now c.loop-text.text-index c.text-item.result c.requires.there there

pub loop-text-preserved : goal.loop-text-preserved
loop-text-preserved c =
    let there : slice_get c.args.panel.now.texts c.loop-text.text-index ≡ Some c.text-item.result =
    read_at c.deref-text-items.result.now c.args.panel.now.texts c.loop-text.text-index c.text-item.result (c.deref-text-items.ensures.value ∙ ap (λ (panel : DraftPanel). panel.texts) c.panel.view_is)
    c.loop-text-test.true c.text-item.is in
    rw c.in_ok-push.ensures.items
    (built_more (λ i. IsTextOf (draft_size c.args.panel.now) c.args.self.now.panels) c.args.panel.now.texts c.loop-text.text-index c.loop-text.texts.items c.text-item.result _ there
    (record {
      extent = subst (λ shape. IsExtentOf shape c.text-item.result c.in-Some.extent) c.size-size.ensures c.in-Some.ensures.1;
      bright = ap (λ (item : DraftItem). item.bright) c.text.view_is;
      content = c.in_ok-content.ensures;
    }) c.loop-text.invariant)

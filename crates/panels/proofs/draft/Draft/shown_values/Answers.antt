use Rattle.std.proofs.Common.{◌≡◌, ◌+◌, ◌∙◌, ap, sym, subst, Some, length, false, arith}
use Rattle.std.specs.Prelude.{slice_get}
use Rattle.std.proofs.lemmas.Bool.{false≢true}
use Rattle.panels.specs.declared.panel.Content.TheVariants.{Show}
use Rattle.panels.specs.Defines.{IsShownOf, first_value}
use Rattle.panels.specs.Draft.{DraftItem, draft_size, values_of}
use Rattle.panels.specs.Items.{IsExtentOf, is_on_screen}
use Rattle.panels.proofs.Building.{AreBuilt, read_at, built_more, built_all}
use Rattle.panels.proofs.Dividing.{value_below}
use Rattle.panels.proofs.Linking.{first_value_few, value_on_screen}
use Rattle.panels.proofs.draft.Draft.shown_values.Goals as goal

pub loop-place-preserved-in_default : goal.loop-place-preserved-in_default
loop-place-preserved-in_default c =
    let there : slice_get (values_of c.args.panel.now) c.loop-place.place ≡ Some c.index-drafts-place.result =
    read_at c.value_drafts-drafts.result.now (values_of c.args.panel.now) c.loop-place.place c.index-drafts-place.result c.value_drafts-drafts.ensures c.loop-place-test.true c.index-drafts-place.is in
    absurd {A = AreBuilt (λ i. IsShownOf (draft_size c.args.panel.now) (first_value c.args.index c.args.self.now.panels c.args.panel.now + i)) (values_of c.args.panel.now) (c.loop-place.place + 1) c.loop-place.texts.items}
    (false≢true (sym (subst (λ shape. is_on_screen shape c.index-drafts-place.result ≡ false) c.size-size.ensures c.in_default.ensures) ∙
    value_on_screen c.args.self.now c.args.panel.now c.args.index c.loop-place.place c.index-drafts-place.result c.requires.faultless c.requires.there there))

pub overflow_add-first : goal.overflow_add-first
overflow_add-first c =
    let there : slice_get (values_of c.args.panel.now) c.loop-place.place ≡ Some c.index-drafts-place.result =
    read_at c.value_drafts-drafts.result.now (values_of c.args.panel.now) c.loop-place.place c.index-drafts-place.result c.value_drafts-drafts.ensures c.loop-place-test.true c.index-drafts-place.is in
    let below = value_below c.args.panel.now c.loop-place.place c.index-drafts-place.result there in
    let few = first_value_few c.args.self.now c.args.panel.now c.args.index c.requires.faultless c.requires.there in
    omega arith

pub loop-place-preserved : goal.loop-place-preserved
loop-place-preserved c =
    let there : slice_get (values_of c.args.panel.now) c.loop-place.place ≡ Some c.index-drafts-place.result =
    read_at c.value_drafts-drafts.result.now (values_of c.args.panel.now) c.loop-place.place c.index-drafts-place.result c.value_drafts-drafts.ensures c.loop-place-test.true c.index-drafts-place.is in
    rw c.in_ok-push.ensures.items
    (built_more (λ i. IsShownOf (draft_size c.args.panel.now) (first_value c.args.index c.args.self.now.panels c.args.panel.now + i)) (values_of c.args.panel.now) c.loop-place.place c.loop-place.texts.items c.index-drafts-place.result _ there
    (record {
      extent = subst (λ shape. IsExtentOf shape c.index-drafts-place.result c.in-Some.extent) c.size-size.ensures c.in-Some.ensures.1;
      bright = ap (λ (item : DraftItem). item.bright) c.value.view_is;
      content = ap (λ n. Show (n + c.loop-place.place)) c.first_value-first.ensures;
    }) c.loop-place.invariant)

pub returns : goal.returns
returns c =
    let size : length c.value_drafts-drafts.result.now ≡ length (values_of c.args.panel.now) = ap length c.value_drafts-drafts.ensures in
    let whole : c.loop-place.place ≡ length (values_of c.args.panel.now) = omega arith in
    built_all (λ i. IsShownOf (draft_size c.args.panel.now) (first_value c.args.index c.args.self.now.panels c.args.panel.now + i)) (values_of c.args.panel.now) c.loop-place.place c.loop-place.texts.items whole c.loop-place.invariant

use Rattle.std.proofs.Common.{◌≡◌, ◌+◌, ◌∙◌, ap, sym, subst, Some, length, false, arith}
use Rattle.std.specs.Prelude.{slice_get, chars}
use Rattle.std.proofs.lemmas.Bool.{false≢true}
use Rattle.std.proofs.lemmas.Option.{slice_get_within}
use Rattle.panels.specs.Characters.{codes_of}
use Rattle.panels.specs.Defines.{IsFieldOf, fields_before}
use Rattle.panels.specs.Draft.{DraftItem, draft_size, fields_of}
use Rattle.panels.specs.Items.{IsExtentOf, is_on_screen}
use Rattle.panels.proofs.Building.{AreBuilt, read_at, built_more, built_all}
use Rattle.panels.proofs.Dividing.{field_there}
use Rattle.panels.proofs.Linking.{field_on_screen, first_value_few}
use Rattle.panels.proofs.draft.Draft.fields.Goals as goal

pub loop-place-preserved-in_default : goal.loop-place-preserved-in_default
loop-place-preserved-in_default c =
    let there : slice_get (fields_of c.args.panel.now) c.loop-place.place ≡ Some c.index-drafts-place.result =
    read_at c.field_drafts-drafts.result.now (fields_of c.args.panel.now) c.loop-place.place c.index-drafts-place.result c.field_drafts-drafts.ensures c.loop-place-test.true c.index-drafts-place.is in
    absurd {A = AreBuilt (λ i. IsFieldOf (draft_size c.args.panel.now) (fields_before c.args.index c.args.self.now.panels + i)) (fields_of c.args.panel.now) (c.loop-place.place + 1) c.loop-place.fields.items}
    (false≢true (sym (subst (λ shape. is_on_screen shape c.index-drafts-place.result ≡ false) c.size-size.ensures c.in_default.ensures) ∙
    field_on_screen c.args.self.now c.args.panel.now c.args.index c.loop-place.place c.index-drafts-place.result c.requires.faultless c.requires.there there))

pub overflow_add-first : goal.overflow_add-first
overflow_add-first c =
    let there : slice_get (fields_of c.args.panel.now) c.loop-place.place ≡ Some c.index-drafts-place.result =
    read_at c.field_drafts-drafts.result.now (fields_of c.args.panel.now) c.loop-place.place c.index-drafts-place.result c.field_drafts-drafts.ensures c.loop-place-test.true c.index-drafts-place.is in
    let below = slice_get_within c.args.panel.now.fields c.loop-place.place c.index-drafts-place.result (field_there c.args.panel.now c.loop-place.place c.index-drafts-place.result there) in
    let few = first_value_few c.args.self.now c.args.panel.now c.args.index c.requires.faultless c.requires.there in
    omega arith

pub loop-place-preserved : goal.loop-place-preserved
loop-place-preserved c =
    let there : slice_get (fields_of c.args.panel.now) c.loop-place.place ≡ Some c.index-drafts-place.result =
    read_at c.field_drafts-drafts.result.now (fields_of c.args.panel.now) c.loop-place.place c.index-drafts-place.result c.field_drafts-drafts.ensures c.loop-place-test.true c.index-drafts-place.is in
    rw c.in_ok-push.ensures.items
    (built_more (λ i. IsFieldOf (draft_size c.args.panel.now) (fields_before c.args.index c.args.self.now.panels + i)) (fields_of c.args.panel.now) c.loop-place.place c.loop-place.fields.items c.index-drafts-place.result _ there
    (record {
      number = ap (λ n. n + c.loop-place.place) c.fields_before-first.ensures;
      name = c.in_ok-of_text.ensures ∙ c.as_str.ensures.value ∙ ap (λ (item : DraftItem). item.name) c.field.view_is;
      title = c.in_ok-of_text-2.ensures ∙ ap (λ title. codes_of (chars title)) c.title.ensures;
      extent = subst (λ shape. IsExtentOf shape c.index-drafts-place.result c.in-Some.extent) c.size-size.ensures c.in-Some.ensures.1;
      numeric = ap (λ (item : DraftItem). item.numeric) c.field.view_is;
      hidden = ap (λ (item : DraftItem). item.hidden) c.field.view_is;
      required = ap (λ (item : DraftItem). item.required) c.field.view_is;
      marked = ap (λ (item : DraftItem). item.marked) c.field.view_is;
      fill = c.in_ok-of_text-3.ensures ∙ ap (λ (item : DraftItem). codes_of (chars item.fill)) c.field.view_is;
    }) c.loop-place.invariant)

pub returns : goal.returns
returns c =
    let size : length c.field_drafts-drafts.result.now ≡ length (fields_of c.args.panel.now) = ap length c.field_drafts-drafts.ensures in
    let whole : c.loop-place.place ≡ length (fields_of c.args.panel.now) = omega arith in
    built_all (λ i. IsFieldOf (draft_size c.args.panel.now) (fields_before c.args.index c.args.self.now.panels + i)) (fields_of c.args.panel.now) c.loop-place.place c.loop-place.fields.items whole c.loop-place.invariant

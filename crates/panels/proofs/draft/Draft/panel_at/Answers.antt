use Rattle.std.proofs.Common.{◌≡◌, ◌∙◌, ap, subst, sym}
use Rattle.std.specs.Prelude.{All, IfSome, option_map}
use Rattle.panels.specs.Defines.{IsCursorBy}
use Rattle.panels.specs.Draft.{DraftPanel, draft_size}
use Rattle.panels.proofs.Leading.{targets_lead}
use Rattle.panels.proofs.Linking.{contained_at, cursor_given}
use Rattle.panels.proofs.Soundness.{is_laid_out}
use Rattle.panels.proofs.draft.Draft.panel_at.Goals as goal

pub cursor_of-requires : goal.cursor_of-requires
cursor_of-requires c =
    subst (λ fields. IfSome c.panel.inside.cursor (λ name. ¬ All (λ field. ¬ (field.name ≡ name.now)) fields)) (sym c.as_slice.ensures.value)
    (cursor_given (draft_size c.args.panel.now) c.args.self.now c.args.panel.now c.args.index c.panel.inside.cursor c.in_ok-fields.fields.items c.requires.faultless c.requires.there c.in_ok-fields.ensures
    (ap (λ (panel : DraftPanel). panel.cursor) c.panel.view_is))

pub targets-requires-clause-there : goal.targets-requires-clause-there
targets-requires-clause-there c = contained_at c.args.self.now.panels c.args.index c.args.panel.now c.requires.there

pub otherwise-requires-clause-there : goal.otherwise-requires-clause-there
otherwise-requires-clause-there c = contained_at c.args.self.now.panels c.args.index c.args.panel.now c.requires.there

pub invariant_of-result : goal.invariant_of-result
invariant_of-result c = is_laid_out c.args.self.now c.args.index c.args.panel.now _ c.requires.faultless c.requires.there
    (record {
      name = c.in_ok-of_text.ensures ∙ ap (λ (panel : DraftPanel). panel.name) c.panel.view_is;
      model = c.model.ensures;
      otherwise = c.otherwise.ensures;
      texts = c.in_ok-all_texts.ensures;
      fields = c.in_ok-fields.ensures;
      values = c.in_ok-values.ensures;
      cursor =
          subst (λ cursor. IsCursorBy cursor c.in_ok-fields.fields.items c.cursor_of.result) (ap (λ (panel : DraftPanel). panel.cursor) c.panel.view_is)
          (subst (λ fields. IsCursorBy (option_map (λ name. name.now) c.panel.inside.cursor) fields c.cursor_of.result) c.as_slice.ensures.value c.cursor_of.ensures);
      places = c.in_ok-targets.ensures.size;
      asked = c.in_ok-asked_keys.ensures;
      asked_at_connect = c.asks_at_connect.ensures;
      targets = targets_lead c.args.self.now.panels c.args.panel.now c.in_ok-targets.field-0.items c.in_ok-targets.ensures;
    })

pub returns : goal.returns
returns c = record {
  name = c.in_ok-of_text.ensures ∙ ap (λ (panel : DraftPanel). panel.name) c.panel.view_is;
  model = c.model.ensures;
  otherwise = c.otherwise.ensures;
  texts = c.in_ok-all_texts.ensures;
  fields = c.in_ok-fields.ensures;
  values = c.in_ok-values.ensures;
  cursor =
      subst (λ cursor. IsCursorBy cursor c.in_ok-fields.fields.items c.cursor_of.result) (ap (λ (panel : DraftPanel). panel.cursor) c.panel.view_is)
      (subst (λ fields. IsCursorBy (option_map (λ name. name.now) c.panel.inside.cursor) fields c.cursor_of.result) c.as_slice.ensures.value c.cursor_of.ensures);
  places = c.in_ok-targets.ensures.size;
  asked = c.in_ok-asked_keys.ensures;
  asked_at_connect = c.asks_at_connect.ensures;
  targets = targets_lead c.args.self.now.panels c.args.panel.now c.in_ok-targets.field-0.items c.in_ok-targets.ensures;
}

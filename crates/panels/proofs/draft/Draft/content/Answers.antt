use Rattle.std.proofs.Common.{◌≡◌, ◌∙◌, ◌+◌, ℕ, ap, sym, subst, rules, None, Some, arith}
use Rattle.std.specs.Prelude.{MatchOption}
use Rattle.panels.specs.declared.fault.Location.TheVariants as part
use Rattle.panels.specs.Draft.{DraftItem}
use Rattle.panels.specs.Faults.{NamesField, name_at}
use Rattle.panels.proofs.Linking.{number_few, found_or}
use Rattle.panels.proofs.Sound.{shown_is_there}
use Rattle.panels.proofs.draft.Draft.content.Goals as goal

no_text : (c : goal.After-fields_before) → c.args.text.now.text ≡ None
no_text c = search rules

at_field : (c : goal.After-fields_before) → name_at (part.Field c.unwrap_or-panel.result.0 c.unwrap_or-panel.result.1) c.args.self.now.panels ≡ Some c.args.text.now.show
at_field c =
    let panels = c.args.self.now.panels in
    let (p, i, there) = c.requires.is_text in
    let show : c.as_str.result.now ≡ c.args.text.now.show = c.as_str.ensures.value ∙ ap (λ (item : DraftItem). item.show) c.text.view_is in
    subst (λ (at : ℕ × ℕ). name_at (part.Field at.0 at.1) panels ≡ Some c.args.text.now.show) (sym c.unwrap_or-panel.ensures)
    (found_or (λ (at : ℕ × ℕ). (name_at (part.Field at.0 at.1) panels ≡ Some c.args.text.now.show) × NamesField c.args.text.now.show panels) (¬ NamesField c.args.text.now.show panels)
    c.field_named.result (0, 0) (shown_is_there c.args.self.now c.args.text.now p i c.requires.faultless there (no_text c))
    (subst (λ show. MatchOption c.field_named.result (¬ NamesField show panels) (λ at. (name_at (part.Field at.0 at.1) panels ≡ Some show) × NamesField show panels)) show c.field_named.ensures)).0

pub overflow_add-result : goal.overflow_add-result
overflow_add-result c =
    let small = number_few c.args.self.now c.unwrap_or-panel.result.0 c.unwrap_or-panel.result.1 c.args.text.now.show c.requires.faultless (at_field c) in
    omega arith

pub returns : goal.returns
returns c = (no_text c, (c.unwrap_or-panel.result.0, c.unwrap_or-panel.result.1, at_field c, ap (λ n. n + c.unwrap_or-panel.result.1) c.fields_before.ensures))

use Rattle.std.proofs.Common.{sym, ap, ◌∙◌}
use Rattle.std.specs.Prelude.{option_copied}
use Rattle.panels.proofs.Naming.{no_item, item_found, finds_field}
use Rattle.panels.proofs.draft.Draft.item_named.Goals as goal

pub returns-in_err-panel : goal.returns-in_err-panel
returns-in_err-panel c = rw (c.from_residual.ensures) (rw (← c.self.view_is) (no_item _ _ c.args.name.now c.self.invariant.fields_are (sym c.get.ensures.value ∙ ap option_copied c.in_err-panel.was)))

pub returns-in-Field : goal.returns-in-Field
returns-in-Field c = rw (← c.self.view_is) (item_found _ _ c.args.name.now c.in_ok-panel.field-0.now _ _ c.self.invariant.fields_are (sym c.get.ensures.value ∙ ap option_copied c.in_ok-panel.was) c.in-Field.is)

pub returns-in_default : goal.returns-in_default
returns-in_default c = λ named. finds_field _ _ c.args.name.now c.in_ok-panel.field-0.now c.self.invariant.fields_are (sym c.get.ensures.value ∙ ap option_copied c.in_ok-panel.was) c.in_default.not-Field

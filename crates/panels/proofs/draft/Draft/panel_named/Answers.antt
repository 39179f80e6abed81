use Rattle.std.proofs.Common.{sym, ap, ◌∙◌}
use Rattle.std.specs.Prelude.{option_copied}
use Rattle.panels.proofs.Naming.{no_panel, panel_found, finds_panel}
use Rattle.panels.proofs.draft.Draft.panel_named.Goals as goal

pub returns-in_err-panel : goal.returns-in_err-panel
returns-in_err-panel c = rw (c.from_residual.ensures) (rw (← c.self.view_is) (no_panel _ _ c.args.name.now c.self.invariant.panels_are (sym c.get.ensures.value ∙ ap option_copied c.in_err-panel.was)))

pub returns-in-Panel : goal.returns-in-Panel
returns-in-Panel c = rw (← c.self.view_is) (panel_found _ _ c.args.name.now c.in_ok-panel.field-0.now _ c.self.invariant.panels_are (sym c.get.ensures.value ∙ ap option_copied c.in_ok-panel.was) c.in-Panel.is)

pub returns-in_default : goal.returns-in_default
returns-in_default c = λ named. finds_panel _ _ c.args.name.now c.in_ok-panel.field-0.now c.self.invariant.panels_are (sym c.get.ensures.value ∙ ap option_copied c.in_ok-panel.was) c.in_default.not-Panel

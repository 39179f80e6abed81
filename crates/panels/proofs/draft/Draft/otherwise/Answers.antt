use Rattle.std.proofs.Common.{◌≡◌, ◌∙◌, Some, ap, sym}
use Rattle.std.specs.Prelude.{option_map}
use Rattle.panels.specs.Draft.{otherwise_of}
use Rattle.panels.proofs.Linking.{otherwise_found}
use Rattle.panels.proofs.draft.Draft.otherwise.Goals as goal

pub returns : goal.returns
returns c =
    let named : otherwise_of c.args.panel.now ≡ Some c.in_ok-otherwise.field-0.now = sym c.otherwise.ensures ∙ ap (option_map (λ name. name.now)) c.in_ok-otherwise.was in
    otherwise_found c.args.self.now c.args.panel.now c.in_ok-otherwise.field-0.now c.base_panel_named.result c.requires.faultless c.requires.there named c.base_panel_named.ensures

use Rattle.std.proofs.Common.{◌≡◌, ◌∙◌, None, Some, ap, sym, subst, rules, tests}
use Rattle.std.specs.Prelude.{find, option_copied, option_map}
use Rattle.std.proofs.lemmas.Iterator.{YieldsList-from_slice}
use Rattle.std.proofs.lemmas.Iterator.Search.{find_from_yields_List}
use Rattle.panels.specs.Defines.{IsTargetBy, text_at_key}
use Rattle.panels.specs.Draft.{DraftPanel}
use Rattle.panels.proofs.Linking.{Key, is_key, key_searched, target_found}
use Rattle.panels.proofs.draft.Draft.target.Goals as goal

pub returns-in_err-named : goal.returns-in_err-named
returns-in_err-named c =
    let first : option_copied c.find.result ≡ find (is_key c.args.key.now) c.deref.result.now =
    find_from_yields_List (is_key c.args.key.now) _ _ _ c.find.ensures.ran (YieldsList-from_slice c.deref.result.now cc) (λ x b q k. search (rules, tests)) in
    let found = key_searched c.args.key.now c.deref.result.now _ c.args.panel.now.keys c.find.result c.deref.ensures.value (ap (λ (panel : DraftPanel). panel.keys) c.panel.view_is) first in
    let none : text_at_key c.args.key.now c.args.panel.now.keys ≡ None = found ∙ ap (λ o. option_map (λ (key : Key). key.1.now) (option_copied o)) c.in_err-named.was in
    subst (λ name. IsTargetBy c.args.self.now.panels name c.from_residual.result) (sym none) c.from_residual.ensures

pub returns : goal.returns
returns c =
    let first : option_copied c.find.result ≡ find (is_key c.args.key.now) c.deref.result.now =
    find_from_yields_List (is_key c.args.key.now) _ _ _ c.find.ensures.ran (YieldsList-from_slice c.deref.result.now cc) (λ x b q k. search (rules, tests)) in
    let found = key_searched c.args.key.now c.deref.result.now _ c.args.panel.now.keys c.find.result c.deref.ensures.value (ap (λ (panel : DraftPanel). panel.keys) c.panel.view_is) first in
    let named : text_at_key c.args.key.now c.args.panel.now.keys ≡ Some c.in_ok-named.named.now.1.now =
    found ∙ ap (λ o. option_map (λ (key : Key). key.1.now) (option_copied o)) c.in_ok-named.was in
    target_found c.args.self.now c.args.panel.now c.args.key.now c.in_ok-named.named.now.1.now c.panel_named.result c.requires.faultless c.requires.there named c.panel_named.ensures

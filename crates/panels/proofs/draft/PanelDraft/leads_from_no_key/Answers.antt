use Rattle.std.proofs.Common.{rules, tests, ◌∙◌, ℕ, List}
use Rattle.std.specs.Prelude.{not}
use Rattle.std.proofs.lemmas.Iterator.{YieldsList-from_slice}
use Rattle.std.proofs.lemmas.Iterator.Search.{any_from_yields_List}
use Rattle.panels.specs.Keys.{is_key_name}
use Rattle.panels.proofs.Trees.{any_map}
use Rattle.panels.proofs.draft.PanelDraft.leads_from_no_key.Goals as goal

pub returns : goal.returns
returns c =
    let found = any_from_yields_List (λ key. not (is_key_name key.0.now)) _ _ _ c.any.ensures.ran (YieldsList-from_slice c.deref.result.now cc) (λ x b q k. search (rules, tests)) in
    let mapped = any_map (λ (key : List ℕ × List ℕ). not (is_key_name key.0)) (λ key. (key.0.now, key.1.now)) c.deref.result.now in
    rw (← c.self.view_is, ← c.deref.ensures.value) (found ∙ mapped)

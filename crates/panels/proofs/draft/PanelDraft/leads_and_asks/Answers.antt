use Rattle.std.proofs.Common.{rules, tests, ◌∙◌, ℕ, List, map}
use Rattle.std.specs.Prelude.{bytes_eq}
use Rattle.std.specs.List.{list_any}
use Rattle.std.proofs.lemmas.Iterator.{YieldsList-from_slice}
use Rattle.std.proofs.lemmas.Iterator.Search.{any_from_yields_List}
use Rattle.panels.proofs.Trees.{any_map}
use Rattle.panels.proofs.draft.PanelDraft.leads_and_asks.Goals as goal

pub returns : goal.returns
returns c =
    let asks : List (List ℕ) = map (λ name. name.now) c.self.inside.asks.items in
    let found = any_from_yields_List (λ key. list_any (bytes_eq key.0.now) asks) _ _ _ c.any.ensures.ran (YieldsList-from_slice c.deref.result.now cc) (λ x b q k. search (rules, tests)) in
    let mapped = any_map (λ (key : List ℕ × List ℕ). list_any (bytes_eq key.0) asks) (λ key. (key.0.now, key.1.now)) c.deref.result.now in
    rw (← c.self.view_is, ← c.deref.ensures.value) (found ∙ mapped)

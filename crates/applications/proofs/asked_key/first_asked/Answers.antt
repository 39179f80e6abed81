use Rattle.std.proofs.Common.{rules, ◌≡◌, ◌+◌, ◌∙◌, ap, sym, drop, ℕ, List, Option, Some}
use Rattle.std.specs.Option.{option_map_or}
use Rattle.codes3270.specs.declared.attention.Aid.{Aid}
use Rattle.applications.specs.AskedKeys.{first_asked}
use Rattle.applications.proofs.AskedKeys.{at_panel}
use Rattle.applications.proofs.asked_key.first_asked.Goals as goal

pub returns-in-Some : goal.returns-in-Some
returns-in-Some c =
    let panel = c.in_ok-panel.panel.now in
    let rest = first_asked (drop (c.loop-index.index + 1) c.args.panels.now.panels) in
    let name : c.as_str.result.now ≡ c.in_ok-panel.panel.now.name = search rules in
    ap (λ (text : List ℕ). Some (text, c.in-Some.key)) name
    ∙ ap (λ (found : Option Aid). option_map_or (λ key. Some (panel.name, key)) found rest) c.in-Some.ensures
    ∙ sym (at_panel c.args.panels.now.panels c.loop-index.index panel (sym c.in_ok-panel.ensures.panel)) ∙ c.loop-index.invariant

pub loop-index-preserved : goal.loop-index-preserved
loop-index-preserved c =
    let panel = c.in_ok-panel.panel.now in
    let rest = first_asked (drop (c.loop-index.index + 1) c.args.panels.now.panels) in
    ap (λ (found : Option Aid). option_map_or (λ key. Some (panel.name, key)) found rest) c.in-None.ensures
    ∙ sym (at_panel c.args.panels.now.panels c.loop-index.index panel (sym c.in_ok-panel.ensures.panel)) ∙ c.loop-index.invariant

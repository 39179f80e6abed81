use Rattle.std.proofs.Common.{◌≡◌, Some, ap, pos, sym, subst, ◌∙◌, ◌<◌, length, arith}
use Rattle.std.specs.Prelude.{slice_get}
use Rattle.std.proofs.lemmas.Bool.{false≢true}
use Rattle.std.proofs.lemmas.Option.{same_Some, slice_get_within}
use Rattle.panels.specs.Draft.{DraftPanel, DraftText}
use Rattle.panels.specs.Faults.{IsBasePanelNamed}
use Rattle.panels.proofs.Building.{read_at}
use Rattle.panels.proofs.Overlapping.{one_more}
use Rattle.panels.proofs.draft.Draft.base_panel_named.Goals as goal

pub loop-index-preserved : goal.loop-index-preserved
loop-index-preserved c =
    let there : slice_get c.args.self.now.panels c.loop-index.index ≡ Some c.index.result.now =
    read_at c.self.inside.panels.items c.args.self.now.panels c.loop-index.index c.index.result.now (ap (λ (draft : DraftText). draft.panels) c.self.view_is) (omega arith) c.index.ensures in
    one_more (λ j. ¬ IsBasePanelNamed c.args.self.now.panels c.args.name.now j) c.loop-index.index c.loop-index.invariant
    (λ (panel, at_i, two, named).
    let same : panel ≡ c.index.result.now = same_Some panel c.index.result.now (sym at_i ∙ there) in
    let own = subst (λ (panel : DraftPanel). (panel.model ≡ pos 2) × (panel.name ≡ c.args.name.now)) same (two, named) in
    false≢true (sym c.if-is_base_named.false ∙ c.is_base_named.ensures.1 own))

pub returns-then-is_base_named : goal.returns-then-is_base_named
returns-then-is_base_named c =
    let there : slice_get c.args.self.now.panels c.loop-index.index ≡ Some c.index.result.now =
    read_at c.self.inside.panels.items c.args.self.now.panels c.loop-index.index c.index.result.now (ap (λ (draft : DraftText). draft.panels) c.self.view_is) (omega arith) c.index.ensures in
    let own = c.is_base_named.ensures.0 c.if-is_base_named.true in
    (c.index.result.now, there, own.0, own.1)

pub returns : goal.returns
returns c = λ (p, is).
    let size : length c.self.inside.panels.items ≡ length c.args.self.now.panels = ap (λ (draft : DraftText). length draft.panels) c.self.view_is in
    let below : p < length c.args.self.now.panels = slice_get_within c.args.self.now.panels p is.0 is.1 in
    absurd (c.loop-index.invariant p (omega arith) is)

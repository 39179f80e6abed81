use Rattle.std.proofs.Common.{◌≡◌, ap, sym, subst, length, map, Some, arith}
use Rattle.std.specs.Prelude.{string_bytes, slice_get, MatchOption}
use Rattle.panels.specs.Defines.{Defines, IsPanelNamed, IsPanelOf}
use Rattle.panels.specs.Draft.{DraftText}
use Rattle.panels.specs.Faults.{NamesPanel}
use Rattle.panels.proofs.Building.{read_at, built_more, built_all, all_done}
use Rattle.panels.proofs.Linking.{found_or}
use Rattle.panels.proofs.Sound.{start_is_there}
use Rattle.panels.proofs.Soundness.{are_sound}
use Rattle.panels.proofs.draft.Draft.build.Goals as goal

defined : (c : goal.After-loop-index) → Defines c.args.self.now (record { start = c.unwrap_or-start.result; lus = map string_bytes c.loop-lu.lus.items; panels = c.loop-index.panels.items })
defined c =
    let size : length c.self.inside.panels.items ≡ length c.args.self.now.panels = ap (λ (draft : DraftText). length draft.panels) c.self.view_is in
    let whole : c.loop-index.index ≡ length c.args.self.now.panels = omega arith in
    record {
      start =
          subst (IsPanelNamed c.args.self.now.panels c.args.self.now.start) (sym c.unwrap_or-start.ensures)
          (found_or (IsPanelNamed c.args.self.now.panels c.args.self.now.start) (¬ NamesPanel c.args.self.now.start c.args.self.now.panels) c.panel_named.result 0
          (start_is_there c.args.self.now c.requires)
          (subst (λ name. MatchOption c.panel_named.result (¬ NamesPanel name c.args.self.now.panels) (IsPanelNamed c.args.self.now.panels name))
          (ap (λ (draft : DraftText). draft.start) c.self.view_is) c.panel_named.ensures));
      lus = all_done (λ lu. lu.now) c.args.self.now.lus (map string_bytes c.loop-lu.lus.items) c.deref-lu-items.result.now c.loop-lu.lu-index c.loop-lu-test.false c.loop-lu.invariant;
      panels = built_all (IsPanelOf c.args.self.now.panels) c.args.self.now.panels c.loop-index.index c.loop-index.panels.items whole c.loop-index.invariant;
    }

pub invariant_of-result : goal.invariant_of-result
invariant_of-result c =
    are_sound c.args.self.now (record { start = c.unwrap_or-start.result; lus = map string_bytes c.loop-lu.lus.items; panels = c.loop-index.panels.items }) c.requires (defined c)

pub returns : goal.returns
returns c = defined c

pub panel_at-requires-clause-there : goal.panel_at-requires-clause-there
panel_at-requires-clause-there c =
    read_at c.self.inside.panels.items c.args.self.now.panels c.loop-index.index c.index.result.now (ap (λ (draft : DraftText). draft.panels) c.self.view_is) (omega arith) c.index.ensures

pub loop-index-preserved : goal.loop-index-preserved
loop-index-preserved c =
    let there : slice_get c.args.self.now.panels c.loop-index.index ≡ Some c.index.result.now =
    read_at c.self.inside.panels.items c.args.self.now.panels c.loop-index.index c.index.result.now (ap (λ (draft : DraftText). draft.panels) c.self.view_is) (omega arith) c.index.ensures in
    rw c.in_ok-push-2.ensures.items
    (built_more (IsPanelOf c.args.self.now.panels) c.args.self.now.panels c.loop-index.index c.loop-index.panels.items c.index.result.now _ there c.in_ok-panel_at.ensures c.loop-index.invariant)

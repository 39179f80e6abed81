use Rattle.std.proofs.Common.{length, sym, subst, arith, rules}
use Rattle.std.proofs.lemmas.List.Sorted.{IsNonDecreasingBy-from_sort_by_key}
use Rattle.panel_check.specs.declared.report.Finding.{Finding}
use Rattle.panel_check.specs.Listed.{AreReported}
use Rattle.panel_check.proofs.Reporting.{all_reported, none_reported, reported_next}
use Rattle.panel_check.proofs.telling.report_in.Goals as goal

pub loop-cause-init : goal.loop-cause-init
loop-cause-init c =
    let empty = c.new-findings.ensures.items in
    (subst (AreReported 0 _ c.deref-cause-items.result.now) (sym empty) (none_reported _ c.deref-cause-items.result.now), λ is. empty)

pub loop-cause-preserved : goal.loop-cause-preserved
loop-cause-preserved c = (
  reported_next _ c.deref-cause-items.result.now c.loop-cause.findings.items _ c.loop-cause.cause-index _ c.loop-cause-test.true c.in_ok-tell.ensures.added c.in_ok-tell.ensures.told c.loop-cause.invariant.0 c.loop-cause.invariant.1,
  λ is. absurd (omega (arith, is)),
)

pub returns : goal.returns
returns c =
    let listed = c.deref-cause-items.result.now in
    let found = c.loop-cause.findings.items in
    let reported = all_reported _ listed found c.loop-cause.cause-index (omega (arith, c.loop-cause-test.false)) c.loop-cause.invariant.0 in (
      c.in_ok-causes.causes.items,
      found,
      c.in_ok-causes.ensures,
      subst (λ causes. AreReported (length causes) c.args.draft.now causes found) c.deref-cause-items.ensures.value reported,
      c.in_ok-sort_by_key.ensures.permutation,
      IsNonDecreasingBy-from_sort_by_key (λ (finding : Finding). finding.line) c.sort_by_key.new.self.items c.in_ok-sort_by_key.ensures.sorted (λ a r q k. search rules),
    )

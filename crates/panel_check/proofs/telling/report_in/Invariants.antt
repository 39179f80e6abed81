use Rattle.std.proofs.Common.{◌≡◌, []}
use Rattle.panel_check.specs.Listed.{AreReported}
use Rattle.panel_check.proofs.telling.report_in.Given as goal

abbrev pub invariant-loop-cause : goal.invariant-loop-cause
invariant-loop-cause l = AreReported l.cause-index l.draft l.cause-items l.findings.items × (l.cause-index ≡ 0 → l.findings.items ≡ [])

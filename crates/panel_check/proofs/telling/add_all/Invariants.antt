use Rattle.std.proofs.Common.{◌≤◌}
use Rattle.panel_check.specs.Listed.{AddsOf}
use Rattle.panel_check.specs.Report.{HasCause}
use Rattle.panel_check.proofs.telling.add_all.Given as goal

abbrev pub invariant-loop-said : goal.invariant-loop-said
invariant-loop-said l = AddsOf l.cause l.initial.findings.items l.findings.items × (1 ≤ l.said-index → HasCause l.cause l.findings.items)

use Rattle.std.proofs.Common.{◌≡◌, ◌++◌, drop, string_bytes}
use Rattle.std.specs.List.{flat_map}
use Rattle.panel_check.specs.Page.{finding_line}
use Rattle.panel_check.proofs.report.put_findings.Given as goal

abbrev pub invariant-loop-finding : goal.invariant-loop-finding
invariant-loop-finding l =
    string_bytes l.page ++ flat_map (finding_line l.name) (drop l.finding-index l.findings)
    ≡ string_bytes l.fn.page ++ flat_map (finding_line l.name) l.findings

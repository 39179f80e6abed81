use Rattle.std.proofs.Common.{subst}
use Rattle.std.proofs.lemmas.Result.{IfOk-weaker}
use Rattle.toml.specs.View.{table_view}
use Rattle.panel_check.specs.Listed.{AreFindingsOf}
use Rattle.panel_check.specs.Report.{IsReportOn}
use Rattle.panel_check.proofs.Reporting.{report_is}
use Rattle.panel_check.proofs.telling.report_on_tree.Goals as goal

pub returns : goal.returns
returns c = λ parsed.
    IfOk-weaker c.report_in.result (λ report. AreFindingsOf c.in_ok-draft.draft report.findings.items) (λ report. IsReportOn c.args.text.now report.findings.items) (λ report are.
    let given = subst (λ draft. AreFindingsOf draft report.findings.items) c.in_ok-draft.ensures are in
    report_is c.args.text.now (table_view c.args.top.now) parsed given.0 given.2 given.1 report.findings.items given.3 given.4 given.5) c.report_in.ensures

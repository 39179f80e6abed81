use Rattle.std.proofs.Common.{subst}
use Rattle.std.proofs.lemmas.Result.{IfOk-weaker}
use Rattle.panels.specs.PanelText.{panel_text}
use Rattle.panel_check.specs.Report.{AreInOrder, HasFirstCause, IsFaultlessIfAccepted, IsReportOn, ReportsFaults}
use Rattle.panel_check.proofs.report.check.Goals as goal

pub returns-clause-faults : goal.returns-clause-faults
returns-clause-faults c = IfOk-weaker c.report_on.result (λ report. IsReportOn c.split_input.result.0.now report.findings.items)
    (λ report. ReportsFaults (panel_text c.args.text.now) report.findings.items)
    (λ report is. subst (λ text. ReportsFaults text report.findings.items) c.split_input.ensures.panels is.faults) c.report_on.ensures

pub returns-clause-faultless : goal.returns-clause-faultless
returns-clause-faultless c = IfOk-weaker c.report_on.result (λ report. IsReportOn c.split_input.result.0.now report.findings.items)
    (λ report. IsFaultlessIfAccepted (panel_text c.args.text.now) report.findings.items)
    (λ report is. subst (λ text. IsFaultlessIfAccepted text report.findings.items) c.split_input.ensures.panels is.faultless) c.report_on.ensures

pub returns-clause-reason : goal.returns-clause-reason
returns-clause-reason c = IfOk-weaker c.report_on.result (λ report. IsReportOn c.split_input.result.0.now report.findings.items)
    (λ report. HasFirstCause (panel_text c.args.text.now) report.findings.items)
    (λ report is. subst (λ text. HasFirstCause text report.findings.items) c.split_input.ensures.panels is.reason) c.report_on.ensures

pub returns-clause-order : goal.returns-clause-order
returns-clause-order c = IfOk-weaker c.report_on.result (λ report. IsReportOn c.split_input.result.0.now report.findings.items)
    (λ report. AreInOrder report.findings.items) (λ report is. is.ordered) c.report_on.ensures

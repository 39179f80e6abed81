-- The report on a panel text (our profile).
use Rattle.std.specs.Prelude.{◌≡◌, ◌↔◌, ℕ, List, Bool, true, false, length, filter, All, Contains}
use Rattle.std.specs.List.Sorted.{IsNonDecreasingBy}
use Rattle.panel_check.specs.declared.report.Cause.{Cause}
use Rattle.panel_check.specs.declared.report.Cause.TheVariants as cause
use Rattle.panel_check.specs.declared.report.Finding.{Finding}
use Rattle.panel_check.specs.Causes.{IsFaultOf, IsStatedFaultOf}
use Rattle.panel_check.specs.Verdict.{IsAccepted, IsFirstCause}

-- whether a cause is a fault, and no warning
abbrev pub is_fault : Cause → Bool
is_fault cause.TextWraps = false
is_fault cause.FillNotNumeric = false
is_fault cause.NoKeyLeads = false
is_fault _ = true

abbrev pub fault_count : List Finding → ℕ
fault_count findings = length (filter (λ finding. is_fault finding.cause) findings)

abbrev pub HasCause : Cause → List Finding → Type 0
HasCause cause findings = (finding : Finding) × Contains findings finding × (finding.cause ≡ cause)

-- a report has each fault of the text whose value is in the text, and nothing but faults of the text and warnings
pub record ReportsFaults (text : List ℕ) (findings : List Finding) : Type 0 where
  pub each : (fault : Cause) → IsStatedFaultOf text fault → HasCause fault findings
  pub nothing_else : All (λ finding. is_fault finding.cause ≡ true → IsFaultOf text finding.cause) findings

-- holds if no fault is reported exactly if the readers accept the text
abbrev pub IsFaultlessIfAccepted : List ℕ → List Finding → Type 0
IsFaultlessIfAccepted text findings = (fault_count findings ≡ 0) ↔ IsAccepted text

-- holds if the report has the fault for which the readers refuse the text
abbrev pub HasFirstCause : List ℕ → List Finding → Type 0
HasFirstCause text findings = (cause : Cause) → IsFirstCause text cause → HasCause cause findings

-- holds if the findings are in the order of their lines
abbrev pub AreInOrder : List Finding → Type 0
AreInOrder findings = IsNonDecreasingBy (λ finding. finding.line) findings

pub record IsReportOn (text : List ℕ) (findings : List Finding) : Type 0 where
  pub faults : ReportsFaults text findings
  pub faultless : IsFaultlessIfAccepted text findings
  pub reason : HasFirstCause text findings
  pub ordered : AreInOrder findings

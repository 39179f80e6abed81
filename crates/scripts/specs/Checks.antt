-- How a run of `check` ends: what it read, what it printed, and its fault and exit status (our profile).
use Rattle.std.specs.Prelude.{◌≡◌, ◌==◌, ℕ, Bool, true, false, List, Option, Some, None, Result, Ok, Err}
use Rattle.panels.specs.PanelText.{panel_text}
use Rattle.panel_check.specs.Page.{report_text}
use Rattle.panel_check.specs.Report.{IsReportOn, fault_count}
use Rattle.panel_check.specs.declared.report.Report.{Report}
use Rattle.jobs.specs.Counting.{Input, Output, Untouched, Written, CutShort}
use Rattle.jobs.specs.Faults.{status_of}
use Rattle.jobs.specs.Runs.{IsSilent, NotRead, OnInput}
use Rattle.jobs.specs.declared.fault.Fault.{Fault}
use Rattle.jobs.specs.declared.fault.Fault.TheVariants.{InputNotRead, NoMemory, OutputFailed}

-- a report on the panel text of an input
pub record ReportOn (input : List ℕ) : Type 0 where
  pub report : Report
  pub is_on : IsReportOn (panel_text input) report.findings.items

-- Holds for the effect of printing the report, each line with the input's name; `clean`: it has no fault.
abbrev pub EndsReporting : Result Bool Fault → (name input : List ℕ) → (old new : Output) → Type 0
EndsReporting (Ok clean) name input old new = (on : ReportOn input)
    × (clean ≡ (fault_count on.report.findings.items == 0)) × Written old new (report_text name on.report)
EndsReporting (Err NoMemory) name input old new = Untouched old new
EndsReporting (Err OutputFailed) name input old new = (on : ReportOn input)
    × CutShort old new (report_text name on.report)
EndsReporting (Err _) name input old new = ⊥

-- Holds for the effect of a run that ends well, or by a fault. `Came bytes` holds if the reads gave these bytes.
abbrev pub HasCheckCause : (Came : List ℕ → Type 0) → Result Bool Fault → (name : List ℕ) → (in_old in_new : Input)
    (out_old out_new : Output) → Type 0
HasCheckCause Came (Err InputNotRead) name in_old in_new out_old out_new = NotRead in_old in_new
    × ((bytes : List ℕ) × Came bytes) × Untouched out_old out_new
HasCheckCause Came (Err NoMemory) name in_old in_new out_old out_new = ((bytes : List ℕ) × Came bytes)
    × Untouched out_old out_new
HasCheckCause Came ending name in_old in_new out_old out_new =
    OnInput Came in_old in_new (λ input. EndsReporting ending name input out_old out_new)

-- the fault that ends a run; None if it ends well
abbrev pub check_fault : Result Bool Fault → Option Fault
check_fault (Ok clean) = None
check_fault (Err fault) = Some fault

-- the exit status
abbrev pub check_status : Result Bool Fault → ℕ
check_status (Ok true) = 0
check_status (Ok false) = 1
check_status (Err fault) = status_of fault

-- holds for the end of a run
pub record IsCheckEnd (Came : List ℕ → Type 0) (name : List ℕ) (in_old in_new : Input)
    (out_old out_new faults_old faults_new : Output) (status : ℕ) : Type 0 where
  pub ending : Result Bool Fault
  pub has_cause : HasCheckCause Came ending name in_old in_new out_old out_new
  pub is_silent : IsSilent (check_fault ending) faults_old faults_new
  pub status_is : status ≡ check_status ending

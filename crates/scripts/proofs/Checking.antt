-- How a run of `check` ends, from the ends of its parts.
use Rattle.std.proofs.Common.{◌≡◌, refl, ap, subst, ◌∙◌, ℕ, List, Bool, Result, Ok, Err}
use Rattle.std.specs.Prelude.{◌==◌}
use Rattle.std.proofs.KnownBytes.{Keeps-refl}
use Rattle.panel_check.specs.Page.{report_text}
use Rattle.panels.specs.PanelText.{panel_text}
use Rattle.panel_check.specs.Report.{AreInOrder, HasFirstCause, IsFaultlessIfAccepted, ReportsFaults, fault_count}
use Rattle.panel_check.specs.declared.report.Report.{Report}
use Rattle.scripts.specs.Checks.{EndsReporting, HasCheckCause, ReportOn}
use Rattle.jobs.specs.Counting.{CutShort, Input, Output, Written}
use Rattle.jobs.specs.Runs.{IsInput, RefusesInput}
use Rattle.jobs.specs.declared.fault.Fault.{Fault}
use Rattle.jobs.specs.declared.fault.Fault.TheVariants.{InputNotRead, Panels, Pool, NotHex, NotUnderstood, NoMemory, SocketFailed, NotRandom, CannotListen, NotAnApplication, TurnsOver, OutputFailed, Live}

-- where there is no input nothing is written
pub unread : (Came : List ℕ → Type 0) (fault : Fault) (name : List ℕ) (in_old in_new : Input) (out : Output) → RefusesInput fault in_old in_new
    → ((bytes : List ℕ) × Came bytes) → HasCheckCause Came (Err fault) name in_old in_new out out
unread Came InputNotRead name in_old in_new out why came = (why, came, record { kept = Keeps-refl out.got; sound = refl })
unread Came (Panels fault) name in_old in_new out why came = absurd why
unread Came (Pool fault) name in_old in_new out why came = absurd why
unread Came (NotHex line) name in_old in_new out why came = absurd why
unread Came (NotUnderstood line) name in_old in_new out why came = absurd why
unread Came NoMemory name in_old in_new out why came = (came, record { kept = Keeps-refl out.got; sound = refl })
unread Came SocketFailed name in_old in_new out why came = absurd why
unread Came NotRandom name in_old in_new out why came = absurd why
unread Came (CannotListen address kind) name in_old in_new out why came = absurd why
unread Came (NotAnApplication reason) name in_old in_new out why came = absurd why
unread Came TurnsOver name in_old in_new out why came = absurd why
unread Came (Live fault) name in_old in_new out why came = absurd why
unread Came OutputFailed name in_old in_new out why came = absurd why

-- where there is one the run ends as its printing does
pub reported : (Came : List ℕ → Type 0) (ending : Result Bool Fault) (name : List ℕ) (in_old in_new : Input) (out_old out_new : Output) (input : List ℕ)
    → IsInput in_old in_new input → Came input → EndsReporting ending name input out_old out_new
    → HasCheckCause Came ending name in_old in_new out_old out_new
reported Came (Ok clean) name in_old in_new out_old out_new input is came ends = (input, is, came, ends)
reported Came (Err InputNotRead) name in_old in_new out_old out_new input is came ends = absurd ends
reported Came (Err (Panels fault)) name in_old in_new out_old out_new input is came ends = absurd ends
reported Came (Err (Pool fault)) name in_old in_new out_old out_new input is came ends = absurd ends
reported Came (Err (NotHex line)) name in_old in_new out_old out_new input is came ends = absurd ends
reported Came (Err (NotUnderstood line)) name in_old in_new out_old out_new input is came ends = absurd ends
reported Came (Err NoMemory) name in_old in_new out_old out_new input is came ends = ((input, came), ends)
reported Came (Err SocketFailed) name in_old in_new out_old out_new input is came ends = absurd ends
reported Came (Err NotRandom) name in_old in_new out_old out_new input is came ends = absurd ends
reported Came (Err (CannotListen address kind)) name in_old in_new out_old out_new input is came ends = absurd ends
reported Came (Err (NotAnApplication reason)) name in_old in_new out_old out_new input is came ends = absurd ends
reported Came (Err TurnsOver) name in_old in_new out_old out_new input is came ends = absurd ends
reported Came (Err (Live fault)) name in_old in_new out_old out_new input is came ends = absurd ends
reported Came (Err OutputFailed) name in_old in_new out_old out_new input is came ends = (input, is, came, ends)

-- ---- the report was printed, or its first bytes

module _ (name input bytes page : List ℕ) (report : Report) (old new : Output) (faults : ReportsFaults (panel_text input) report.findings.items)
    (faultless : IsFaultlessIfAccepted (panel_text input) report.findings.items) (reason : HasFirstCause (panel_text input) report.findings.items)
    (ordered : AreInOrder report.findings.items) (is : bytes ≡ page) (text : page ≡ report_text name report) where
  abbrev on : ReportOn input
  on = record { report = report; is_on = record { faults = faults; faultless = faultless; reason = reason; ordered = ordered } }

  pub whole : (count : ℕ) → count ≡ fault_count report.findings.items → Written old new bytes → EndsReporting (Ok (count == 0)) name input old new
  whole count counts written = (on, ap (λ (n : ℕ). n == 0) counts, subst (Written old new) (is ∙ text) written)

  pub in_part : CutShort old new bytes → EndsReporting (Err OutputFailed) name input old new
  in_part cut = (on, subst (CutShort old new) (is ∙ text) cut)

-- How a run of `script` or `show` ends: its page, its fault and its exit status (our profile).
use Rattle.std.specs.Prelude.{◌≡◌, ℕ, List, Option, Some, None}
use Rattle.scripts.specs.Pages.{IsPage}
use Rattle.jobs.specs.Counting.{Input, Output, Untouched, Written, CutShort}
use Rattle.jobs.specs.declared.fault.Fault.{Fault}
use Rattle.jobs.specs.declared.fault.Fault.TheVariants.{InputNotRead, Panels, Pool, NotHex, NotUnderstood, NoMemory, SocketFailed, NotRandom, CannotListen, NotAnApplication, TurnsOver, OutputFailed, Live}
use Rattle.scripts.specs.declared.page_job.PageJob.{PageJob}
use Rattle.scripts.specs.declared.page_job.PageJob.TheVariants.{Script, Show}
use Rattle.applications.specs.PanelHosts.{HasPanelFault, HasPoolFault}
use Rattle.panels.specs.PanelText.{panel_text}
use Rattle.scripts.specs.Scripts.{IsScriptPage}
use Rattle.jobs.specs.Runs.{IsSilent, NotRead, OnInput, status_after}

-- ---- the output

-- holds for the page of a job's input, and the number of the line that ends it, if any
abbrev pub IsPageBy : PageJob → (text page : List ℕ) → Option ℕ → Type 0
IsPageBy (Script serves) text page stopped = IsScriptPage serves text page stopped
IsPageBy (Show model) text page stopped = IsPage model text page stopped

-- holds if the whole page was written
pub record Writes (job : PageJob) (text : List ℕ) (old new : Output) (stopped : Option ℕ) : Type 0 where
  pub page : List ℕ
  pub is_page : IsPageBy job text page stopped
  pub written : Written old new page

-- holds if the first bytes of the page were written, and then the write failed
pub record WritesInPart (job : PageJob) (text : List ℕ) (old new : Output) : Type 0 where
  pub page : List ℕ
  pub stopped : Option ℕ
  pub is_page : IsPageBy job text page stopped
  pub cut_short : CutShort old new page

-- Holds for the effect of printing a page that ends well, or by a fault. If memory is refused or there is no world,
-- nothing is written.
abbrev pub EndsPrinting : PageJob → Option Fault → (text : List ℕ) (old new : Output) → Type 0
EndsPrinting job None text old new = Writes job text old new None
EndsPrinting job (Some InputNotRead) text old new = ⊥
EndsPrinting (Script serves) (Some (Panels fault)) text old new = HasPanelFault (panel_text text) fault
    × Untouched old new
EndsPrinting (Show model) (Some (Panels fault)) text old new = ⊥
EndsPrinting (Script serves) (Some (Pool fault)) text old new = HasPoolFault (panel_text text) fault × Untouched old new
EndsPrinting (Show model) (Some (Pool fault)) text old new = ⊥
EndsPrinting (Script serves) (Some (NotHex line)) text old new = ⊥
EndsPrinting (Show model) (Some (NotHex line)) text old new = Writes (Show model) text old new (Some line)
EndsPrinting (Script serves) (Some (NotUnderstood line)) text old new = Writes (Script serves) text old new (Some line)
EndsPrinting (Show model) (Some (NotUnderstood line)) text old new = ⊥
EndsPrinting job (Some NoMemory) text old new = Untouched old new
EndsPrinting job (Some SocketFailed) text old new = ⊥
EndsPrinting job (Some NotRandom) text old new = ⊥
EndsPrinting job (Some (CannotListen address kind)) text old new = ⊥
EndsPrinting job (Some (NotAnApplication why)) text old new = ⊥
EndsPrinting job (Some TurnsOver) text old new = ⊥
EndsPrinting job (Some (Live fault)) text old new = ⊥
EndsPrinting job (Some OutputFailed) text old new = WritesInPart job text old new

-- ---- the end of a run

-- holds for the effect of a run that ends well, or by a fault
abbrev pub HasCause : PageJob → (Came : List ℕ → Type 0) → Option Fault
    → (in_old in_new : Input) (out_old out_new : Output) → Type 0
HasCause job Came (Some InputNotRead) in_old in_new out_old out_new = NotRead in_old in_new
    × ((bytes : List ℕ) × Came bytes) × Untouched out_old out_new
HasCause job Came (Some NoMemory) in_old in_new out_old out_new = ((bytes : List ℕ) × Came bytes)
    × Untouched out_old out_new
HasCause job Came ending in_old in_new out_old out_new =
    OnInput Came in_old in_new (λ text. EndsPrinting job ending text out_old out_new)

-- holds for the end of a job's run
pub record IsEnd (job : PageJob) (Came : List ℕ → Type 0) (in_old in_new : Input)
    (out_old out_new faults_old faults_new : Output) (status : ℕ) : Type 0 where
  pub ending : Option Fault
  pub has_cause : HasCause job Came ending in_old in_new out_old out_new
  pub is_silent : IsSilent ending faults_old faults_new
  pub status_is : status ≡ status_after ending

-- How a run ends, from the ends of its parts.
use Rattle.std.proofs.Common.{ℕ, List, Option, None, Some, refl}
use Rattle.std.proofs.KnownBytes.{Keeps-refl}
use Rattle.jobs.specs.Counting.{Input, Output}
use Rattle.jobs.specs.Runs.{RefusesInput, IsInput}
use Rattle.scripts.specs.PageJobRuns.{EndsPrinting, HasCause}
use Rattle.jobs.specs.declared.fault.Fault.{Fault}
use Rattle.jobs.specs.declared.fault.Fault.TheVariants.{InputNotRead, Panels, Pool, NotHex, NotUnderstood, NoMemory, SocketFailed, NotRandom, CannotListen, NotAnApplication, TurnsOver, OutputFailed, Live}
use Rattle.scripts.specs.declared.page_job.PageJob.{PageJob}

-- where there is no input nothing is written
pub without_input : (job : PageJob) (Came : List ℕ → Type 0) (fault : Fault) (in_old in_new : Input) (out : Output) → RefusesInput fault in_old in_new
    → ((bytes : List ℕ) × Came bytes) → HasCause job Came (Some fault) in_old in_new out out
without_input job Came InputNotRead in_old in_new out why came = (why, came, record { kept = Keeps-refl out.got; sound = refl })
without_input job Came (Panels fault) in_old in_new out why came = absurd why
without_input job Came (Pool fault) in_old in_new out why came = absurd why
without_input job Came (NotHex line) in_old in_new out why came = absurd why
without_input job Came (NotUnderstood line) in_old in_new out why came = absurd why
without_input job Came NoMemory in_old in_new out why came = (came, record { kept = Keeps-refl out.got; sound = refl })
without_input job Came SocketFailed in_old in_new out why came = absurd why
without_input job Came NotRandom in_old in_new out why came = absurd why
without_input job Came (CannotListen address kind) in_old in_new out why came = absurd why
without_input job Came (NotAnApplication reason) in_old in_new out why came = absurd why
without_input job Came TurnsOver in_old in_new out why came = absurd why
without_input job Came (Live fault) in_old in_new out why came = absurd why
without_input job Came OutputFailed in_old in_new out why came = absurd why

-- where there is one the run ends as its printing does
pub with_input : (job : PageJob) (Came : List ℕ → Type 0) (ending : Option Fault) (in_old in_new : Input) (out_old out_new : Output) (text : List ℕ) → IsInput in_old in_new text
    → Came text → EndsPrinting job ending text out_old out_new → HasCause job Came ending in_old in_new out_old out_new
with_input job Came None in_old in_new out_old out_new text is came ends = (text, is, came, ends)
with_input job Came (Some InputNotRead) in_old in_new out_old out_new text is came ends = absurd ends
with_input job Came (Some (Panels fault)) in_old in_new out_old out_new text is came ends = (text, is, came, ends)
with_input job Came (Some (Pool fault)) in_old in_new out_old out_new text is came ends = (text, is, came, ends)
with_input job Came (Some (NotHex line)) in_old in_new out_old out_new text is came ends = (text, is, came, ends)
with_input job Came (Some (NotUnderstood line)) in_old in_new out_old out_new text is came ends = (text, is, came, ends)
with_input job Came (Some NoMemory) in_old in_new out_old out_new text is came ends = ((text, came), ends)
with_input job Came (Some SocketFailed) in_old in_new out_old out_new text is came ends = absurd ends
with_input job Came (Some NotRandom) in_old in_new out_old out_new text is came ends = absurd ends
with_input job Came (Some (CannotListen address kind)) in_old in_new out_old out_new text is came ends = absurd ends
with_input job Came (Some (NotAnApplication reason)) in_old in_new out_old out_new text is came ends = absurd ends
with_input job Came (Some TurnsOver) in_old in_new out_old out_new text is came ends = absurd ends
with_input job Came (Some (Live fault)) in_old in_new out_old out_new text is came ends = absurd ends
with_input job Came (Some OutputFailed) in_old in_new out_old out_new text is came ends = (text, is, came, ends)

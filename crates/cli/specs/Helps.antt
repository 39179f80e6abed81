-- How `help` and `version` end (our profile).
use Rattle.std.specs.Prelude.{◌≡◌, ◌⊎◌, ℕ}
use Rattle.jobs.specs.Counting.{Output, Untouched, more}
use Rattle.jobs.specs.Faults.{status_of}
use Rattle.jobs.specs.declared.fault.Fault.TheVariants.{OutputFailed}

-- holds if the status is 0 and no write failed, or if it is that of a failed output and the write failed
abbrev pub PrintsLine : (out_old out_new faults_old faults_new : Output) → (status : ℕ) → Type 0
PrintsLine out_old out_new faults_old faults_new status =
    ((status ≡ 0) × (out_new.failures ≡ out_old.failures) × Untouched faults_old faults_new)
    ⊎ ((status ≡ status_of OutputFailed) × (out_new.failures ≡ more out_old.failures 1))

-- How a turn ends by a fault.
use Rattle.std.proofs.Common.{◌≡◌, Bool, List, ℕ, Result, Ok, Err, inl, inr, ap, subst, sym, ◌∙◌}
use Rattle.std.specs.Prelude.{IfErr}
use Rattle.std.specs.declared.io.Error.{Error}
use Rattle.host_core.specs.declared.links.LinkRead.{LinkRead}
use Rattle.host_core.specs.declared.links.LinkRead.TheVariants as read
use Rattle.term_core.specs.State.{phase_of}
use Rattle.jobs.specs.Counting.{CutShort, Output}
use Rattle.jobs.specs.declared.fault.Fault.{Fault}
use Rattle.jobs.specs.declared.streams.Answer.{Answer}
use Rattle.operate.specs.LiveSessions.{AfterRead, BreaksTurnOver, FailsToTake, ReadsHost, ReadsKeys, Session, phase_result}

-- the phase after it was noted whether the terminal is bound
pub phase_after : {S K T : Type 0} (old new : Session S K T) (bound : Bool) (fault : Fault) → new ≡ record old { was_bound = bound }
    → Err fault ≡ phase_result (phase_of old.live.seat.terminal.link) → phase_result (phase_of new.live.seat.terminal.link) ≡ Err fault
phase_after old new bound fault is result = ap (λ s. phase_result (phase_of s.live.seat.terminal.link)) is ∙ sym result

-- a write to the tty that fails
pub written_fails : {S K T : Type 0} (seen : T → Output) (tty : T) (drawn : List ℕ) (old new : Session S K T) (result : Result Unit Fault) → tty ≡ old.tty
    → IfErr result (λ fault. (fault ≡ Fault.OutputFailed) × CutShort (seen tty) (seen new.tty) drawn)
    → IfErr result (λ fault. FailsToTake seen fault old new)
written_fails seen tty drawn old new (Ok done) same fails = tt
written_fails seen tty drawn old new (Err fault) same fails =
    inr (fails.0, drawn, subst (λ it. CutShort (seen it) (seen new.tty) drawn) same fails.1)

-- the tty stays when the connection and the keys are read
after_tty : {S K T : Type 0} (answer : LinkRead) (old new : Session S K T) → AfterRead answer old new → new.tty ≡ old.tty
after_tty (read.Got count) old new is = ap (λ s. s.tty) is
after_tty read.NotNow old new is = ap (λ s. s.tty) is
after_tty read.Ended old new loses = ap (λ s. s.tty) loses.rest
after_tty read.Failed old new loses = ap (λ s. s.tty) loses.rest

heard_tty : {S K T : Type 0} {gave : S → ℕ → List ℕ → Result ℕ Error → S → Type 0} {came : List ℕ} {old new : Session S K T}
    → ReadsHost gave came old new → new.tty ≡ old.tty
heard_tty {S} {K} {T} {gave} {came} {old} {new} r = after_tty r.answer (record old { socket = r.socket }) new r.after

-- a turn in which the bytes can't be taken or drawn
pub not_taken : {S K T : Type 0} {gave : S → ℕ → List ℕ → Result ℕ Error → S → Type 0} {took : S → List ℕ → Result ℕ Error → S → Type 0}
    {key_gave : K → ℕ → List ℕ → Answer → K → Type 0} {came typed : List ℕ} (seen : T → Output) (old heard keyed new : Session S K T)
    (fault : Fault) → ReadsHost gave came old heard → ReadsKeys key_gave typed heard keyed → FailsToTake seen fault keyed new
    → BreaksTurnOver gave took key_gave seen old new fault
not_taken seen old heard keyed new fault hears keys (inl is) = subst (BreaksTurnOver _ _ _ seen old new) (sym is) BreaksTurnOver.for_memory
not_taken seen old heard keyed new fault hears keys (inr cut) =
    subst (BreaksTurnOver _ _ _ seen old new) (sym cut.0)
    (BreaksTurnOver.at_tty cut.1 (subst (λ tty. CutShort (seen tty) (seen new.tty) cut.1) (ap (λ s. s.tty) keys.rest ∙ heard_tty hears) cut.2))

-- What a host believes of a command, by which numbers commands go, and which response answers one.
use Rattle.std.proofs.Common.{◌≡◌, ◌==◌, ℕ, Bool, true, false, Some, refl, ap, sym, ◌∙◌}
use Rattle.std.proofs.lemmas.Bool.{eqb-true}
use Rattle.datastream.specs.Grammar.{CommandParts}
use Rattle.tn3270e_msg.specs.declared.cause.Cause.TheVariants.{BadResponse}
use Rattle.host_core.specs.Acts.{Act}
use Rattle.host_core.specs.Answering.{BelievesNoSooner, BelievesNotesNoSooner, CommandsAreNumbered, NotesAreNumbered, number_of, OnlyItsResponse}
use Rattle.host_core.specs.Messages.{Verdict}
use Rattle.host_core.specs.Session.{Session, Pending}
use Rattle.host_core.specs.Takes.{HostStep, closed_by, if_answers, once_agreed, paint_verdict_came, quiet, refused, response_came, verdict_came}

pub believes_no_sooner : BelievesNoSooner
believes_no_sooner app conn Act.Read = refl
believes_no_sooner app conn (Act.Show panel message keep values) = refl

pub commands_are_numbered : CommandsAreNumbered
commands_are_numbered app conn Act.Read = record { carried = refl; awaited = refl; next = refl }
commands_are_numbered app conn (Act.Show panel message keep values) = record { carried = refl; awaited = refl; next = refl }

pub believes_notes_no_sooner : BelievesNotesNoSooner
believes_notes_no_sooner text conn = refl

pub notes_are_numbered : NotesAreNumbered
notes_are_numbered text conn = record { carried = refl; awaited = refl; next = refl }

differs : (number pending : ℕ) → (Some pending ≡ Some number → ⊥) → (number == pending) ≡ false
differs number pending other = by_test (number == pending) refl
  where
    by_test : (b : Bool) → (number == pending) ≡ b → b ≡ false
    by_test true e = absurd (other (ap Some (sym (eqb-true number pending e))))
    by_test false e = refl

no_answer : (number pending : ℕ) (step : HostStep) (conn : Session) → (Some pending ≡ Some number → ⊥) → if_answers (number == pending) step conn ≡ closed_by BadResponse conn
no_answer number pending step conn other = ap (λ b. if_answers b step conn) (differs number pending other)

answers : (number pending : ℕ) (command : CommandParts) (verdict : Verdict) (conn : Session) → (Some pending ≡ Some number → ⊥)
    → if_answers (number == pending) (verdict_came command verdict conn) conn ≡ closed_by BadResponse conn
answers number pending command verdict conn other = no_answer number pending (verdict_came command verdict conn) conn other

closes : (conn : Session) (number : ℕ) (verdict : Verdict) (pending : Pending) → (number_of pending ≡ Some number → ⊥) → response_came number verdict pending conn ≡ closed_by BadResponse conn
closes conn number verdict Pending.Nothing other = refl
closes conn number verdict (Pending.Writing pending command) other = no_answer number pending (paint_verdict_came command verdict conn) conn other
closes conn number verdict (Pending.Noting pending command) other = answers number pending command verdict conn other
closes conn number Verdict.Positive (Pending.Reading pending) other = refl
closes conn number Verdict.Negative (Pending.Reading pending) other = no_answer number pending (quiet (refused conn)) conn other

pub only_its_response : OnlyItsResponse
only_its_response pool conn number verdict agreed other =
    ap (λ b. once_agreed b (response_came number verdict conn.pending conn) conn) agreed ∙ closes conn number verdict conn.pending other

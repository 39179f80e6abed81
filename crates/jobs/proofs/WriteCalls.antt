-- Calls of a writer, one more at a time.
use Rattle.std.proofs.Common.{◌≡◌, ◌∙◌, ◌==◌, ◌<◌, ◌≤◌, ◌+◌, ◌-◌, ℕ, Bool, true, false, IsErr, List, Option, None, Some, Result, Ok, Err, drop, length, take, if◌then◌else◌, refl, subst, sym, add-one, arith}
use Rattle.std.proofs.lemmas.Bool.{true≢false}
use Rattle.std.proofs.lemmas.List.{append-nil}
use Rattle.std.specs.IoError.{error_kind}
use Rattle.std.specs.Io.{WritesAtMost}
use Rattle.std.specs.Io.KnownBytes.{Appends, Keeps, WriteAppends}
use Rattle.std.specs.declared.io.Error.{Error}
use Rattle.jobs.specs.RawCalls.{Calls, FailsToWrite, IsCalled, WritesAll, count_taken, is_interrupted}
use Rattle.jobs.specs.declared.streams.WriteFailed.{WriteFailed}
use Rattle.jobs.proofs.Known.{left_whole}

some_of_count : (none : Bool) (count more : ℕ) → (if none then None else Some count) ≡ Some more → count ≡ more
some_of_count true count more is = absurd (cc)
some_of_count false count more is = cc

some_of_error : (again : Bool) (more : ℕ) → (if again then Some 0 else None) ≡ Some more → more ≡ 0
some_of_error true more is = cc
some_of_error false more is = absurd (cc)

-- a call takes no more bytes than it is given
pub taken_within : (answer : Result ℕ Error) (bytes : List ℕ) (more : ℕ) → WritesAtMost answer bytes → count_taken answer ≡ Some more → more ≤ length bytes
taken_within (Ok count) bytes more within is =
    let same : count ≡ more = some_of_count (count == 0) count more is in subst (λ (n : ℕ). n ≤ length bytes) same within
taken_within (Err error) bytes more within is =
    let none : more ≡ 0 = some_of_error (is_interrupted (error_kind error)) more is in omega (arith, none)

nothing_more : (old new : Option (List ℕ)) (bytes : List ℕ) → Keeps old new → Appends old new (take 0 bytes)
nothing_more None new bytes kept = tt
nothing_more (Some now) None bytes kept = absurd kept
nothing_more (Some held) (Some still) bytes kept = kept ∙ sym (append-nil held)

-- and the writer then holds these
pub taken_held : (answer : Result ℕ Error) (bytes : List ℕ) (more : ℕ) (old new : Option (List ℕ)) → WriteAppends old new answer bytes → count_taken answer ≡ Some more
    → Appends old new (take more bytes)
taken_held (Ok count) bytes more old new appends is =
    subst (λ (n : ℕ). Appends old new (take n bytes)) (some_of_count (count == 0) count more is) appends
taken_held (Err error) bytes more old new kept is =
    subst (λ (n : ℕ). Appends old new (take n bytes)) (sym (some_of_error (is_interrupted (error_kind error)) more is)) (nothing_more old new bytes kept)

module _ {W : Type 0} (took : W → List ℕ → Result ℕ Error → W → Type 0) (bytes : List ℕ) (old : W) where
  -- a call with what is left
  pub called : (taken : ℕ) (mid : W) (answer : Result ℕ Error) (new : W) → taken < length bytes
      → took mid (take (length bytes - taken) (drop taken bytes)) answer new → IsCalled took mid bytes taken answer new
  called taken mid answer new left calls = record {
    left = left;
    called = subst (λ (rest : List ℕ). took mid rest answer new) (left_whole bytes taken) calls;
  }

  pub called_more : (count taken more : ℕ) (mid : W) (answer : Result ℕ Error) (new : W) → Calls took count old bytes taken mid
      → IsCalled took mid bytes taken answer new → count_taken answer ≡ Some more → Calls took (count + 1) old bytes (taken + more) new
  called_more count taken more mid answer new before now is =
      subst (λ (n : ℕ). Calls took n old bytes (taken + more) new) (sym (add-one count)) (mid, taken, more, answer, before, now, is, refl)

  pub failed : (result : Result Unit WriteFailed) (new : W) → IsErr result → FailsToWrite took old bytes new → WritesAll took old bytes result new
  failed (Ok done) new is fails = absurd (true≢false (sym is))
  failed (Err why) new is fails = fails

-- The answers of single calls of readers and writers, and what these mean to connections and streams (our profile).
use Rattle.std.specs.Prelude.{◌≡◌, ⊤, ◌==◌, ◌≤◌, ◌<◌, ◌+◌, ◌-◌, ◌^◌, ℕ, zero, suc, Bool, true, false, List, [], take, drop, length, Option, Some, None, Result, Ok, Err, if◌then◌else◌}
use Rattle.std.specs.IoError.{error_kind}
use Rattle.std.specs.Io.KnownBytes.{Appends, Consumes, IsAtEnd, Keeps}
use Rattle.std.specs.declared.io.Error.{Error}
use Rattle.std.specs.declared.io.ErrorKind.{ErrorKind}
use Rattle.std.specs.declared.io.ErrorKind.TheVariants.{WouldBlock, Interrupted}
use Rattle.host_core.specs.declared.links.LinkRead.{LinkRead}
use Rattle.host_core.specs.declared.links.LinkRead.TheVariants as read
use Rattle.host_core.specs.declared.links.LinkWrite.{LinkWrite}
use Rattle.host_core.specs.declared.links.LinkWrite.TheVariants as write
use Rattle.jobs.specs.declared.streams.Answer.{Answer}
use Rattle.jobs.specs.declared.streams.Answer.TheVariants as answer
use Rattle.jobs.specs.declared.streams.WriteFailed.{WriteFailed}

-- the bytes that a read put at the start of the buffer
abbrev pub bytes_read : Result ℕ Error → List ℕ → List ℕ
bytes_read (Ok count) buffer = take count buffer
bytes_read (Err error) buffer = []

-- ---- std's contracts of a call

-- Holds if a read into `room` bytes gave these of the bytes that the reader has left, if those are known. An error gave
-- none.
abbrev pub ReadsLeft : (old : Option (List ℕ)) → (room : ℕ) → (bytes : List ℕ) → Result ℕ Error
    → (new : Option (List ℕ)) → Type 0
ReadsLeft old room bytes (Ok count) new = (count ≤ room) × (length bytes ≡ count) × Consumes old new bytes
    × (count ≡ 0 → 0 < room → IsAtEnd new)
ReadsLeft old room bytes (Err error) new = (bytes ≡ []) × Keeps old new

-- Holds if a write took the first of these bytes, and the writer now has them, if its bytes are known. An error took
-- none.
abbrev pub WritesFront : (old : Option (List ℕ)) → (bytes : List ℕ) → Result ℕ Error → (new : Option (List ℕ)) → Type 0
WritesFront old bytes (Ok count) new = (count ≤ length bytes) × Appends old new (take count bytes)
WritesFront old bytes (Err error) new = Keeps old new

-- holds if a line was written, and the writer now has its text, if that is known; if it failed, it isn't known what was
-- written
abbrev pub WritesText : (old text : Option (List ℕ)) → Result Unit Error → (new : Option (List ℕ)) → Type 0
WritesText old None (Ok done) new = ⊤
WritesText old (Some text) (Ok done) new = Appends old new text
WritesText old text (Err error) new = ⊤

-- ---- connections

-- whether the error means only that the call did nothing and will be repeated
abbrev pub is_transient : ErrorKind → Bool
is_transient WouldBlock = true
is_transient Interrupted = true
is_transient _ = false

-- The meaning of the answer to a read of a connection, if the buffer has room: no bytes are the end.
abbrev pub link_read : Result ℕ Error → LinkRead
link_read (Ok count) = if count == 0 then read.Ended else read.Got count
link_read (Err error) = if is_transient (error_kind error) then read.NotNow else read.Failed

-- the meaning of the answer to a write of at least one byte
abbrev pub link_write : Result ℕ Error → LinkWrite
link_write (Ok count) = if count == 0 then write.NotNow else write.Took count
link_write (Err error) = if is_transient (error_kind error) then write.NotNow else write.Failed

-- ---- streams

-- whether the call was interrupted before it did anything
abbrev pub is_interrupted : ErrorKind → Bool
is_interrupted Interrupted = true
is_interrupted _ = false

-- The meaning of the answer to a read of a source, if the buffer has room: no bytes are the end.
abbrev pub answer_to_read : Result ℕ Error → Answer
answer_to_read (Ok count) = if count == 0 then answer.Ended else answer.Gave count
answer_to_read (Err error) = if is_interrupted (error_kind error) then answer.Interrupted else answer.Failed

-- holds if a reader is read once, and its answer has this meaning
pub record IsAnswered {R : Type 0} (gave : R → ℕ → List ℕ → Result ℕ Error → R → Type 0) (old : R) (room : ℕ)
    (bytes : List ℕ) (taken_for : Answer) (new : R) : Type 0 where
  pub given : Result ℕ Error
  pub called : gave old room bytes given new
  pub taken : taken_for ≡ answer_to_read given

-- ---- writes

-- How many bytes a write of at least one byte took: 0 if it was interrupted. None if it failed, or took none
-- without being interrupted.
abbrev pub count_taken : Result ℕ Error → Option ℕ
count_taken (Ok count) = if count == 0 then None else Some count
count_taken (Err error) = if is_interrupted (error_kind error) then Some 0 else None

-- the most calls of one write of all bytes
abbrev pub most_calls : ℕ
most_calls = 2 ^ 64 - 1

module _ {W : Type 0} (took : W → List ℕ → Result ℕ Error → W → Type 0) where
  -- Holds if a writer was called with the bytes after the first `taken`, at least one.
  pub record IsCalled (old : W) (bytes : List ℕ) (taken : ℕ) (answer : Result ℕ Error) (new : W) : Type 0 where
    pub left : taken < length bytes
    pub called : took old (drop taken bytes) answer new

  -- Holds if `count` calls of a writer, one after another, took the first `taken` bytes, and none of them failed.
  abbrev pub Calls : (count : ℕ) → W → List ℕ → (taken : ℕ) → W → Type 0
  Calls zero old bytes taken new = (taken ≡ 0) × (new ≡ old)
  Calls (suc count) old bytes taken new =
      (mid : W) × (before more : ℕ) × (answer : Result ℕ Error) × Calls count old bytes before mid
      × IsCalled mid bytes before answer new
      × (count_taken answer ≡ Some more) × (taken ≡ before + more)

  -- holds if all bytes were written
  pub record WritesWhole (old : W) (bytes : List ℕ) (new : W) : Type 0 where
    pub count : ℕ
    pub calls : Calls count old bytes (length bytes) new

  -- Holds if a write of all bytes fails: one call failed, after calls that took some of the first bytes; or there were
  -- too many calls.
  pub data FailsToWrite (old : W) (bytes : List ℕ) (new : W) : Type 0 where
    call_failed : (count taken : ℕ) (mid : W) (answer : Result ℕ Error) → Calls count old bytes taken mid
        → IsCalled mid bytes taken answer new
        → count_taken answer ≡ None → FailsToWrite old bytes new
    too_many_calls : (count taken : ℕ) → count ≡ most_calls → Calls count old bytes taken new
        → FailsToWrite old bytes new

  -- holds for a write of all bytes by calls of the writer
  abbrev pub WritesAll : W → List ℕ → Result Unit WriteFailed → W → Type 0
  WritesAll old bytes (Ok done) new = WritesWhole old bytes new
  WritesAll old bytes (Err failed) new = FailsToWrite old bytes new

-- holds if the result of a line's write is that of its one call: it fails exactly if the call returned an error
abbrev pub IsToldAs : Result Unit WriteFailed → Result Unit Error → Type 0
IsToldAs (Ok done) (Ok finished) = ⊤
IsToldAs (Ok done) (Err error) = ⊥
IsToldAs (Err failed) (Ok finished) = ⊥
IsToldAs (Err failed) (Err error) = ⊤

-- holds for a write of a line by one call of the writer
pub record WritesOneLine {W : Type 0} (took_line : W → Option (List ℕ) → Result Unit Error → W → Type 0) (old : W)
    (text : Option (List ℕ)) (result : Result Unit WriteFailed) (new : W) : Type 0 where
  pub answer : Result Unit Error
  pub called : took_line old text answer new
  pub told : IsToldAs result answer

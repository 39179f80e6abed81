-- The streams of a run: their bytes, if they are known, and the counts of reads, ends and failures (our profile).
use Rattle.std.specs.Prelude.{◌≡◌, ◌+◌, ◌-◌, ◌^◌, ◌<◌, ◌≤◌, ◌++◌, ◌∷◌, [], ⊤, ℕ, zero, suc, List, take, min, Option, None, Some, Result, Ok, Err}
use Rattle.std.specs.Io.KnownBytes.{Consumes, IsAtEnd, Appends, Keeps}
use Rattle.jobs.specs.declared.streams.Answer.{Answer}
use Rattle.jobs.specs.declared.streams.WriteFailed.{WriteFailed}
use Rattle.jobs.specs.declared.streams.Answer.TheVariants.{Gave, Ended, Interrupted, Failed}

-- a raised count; it stops at its greatest value, 2^64 - 1
abbrev pub more : ℕ → ℕ → ℕ
more count by = min (count + by) (2 ^ 64 - 1)

-- ---- a source

-- the size of the buffer of each read, in bytes
abbrev pub chunk_size : ℕ
chunk_size = 4096

-- a source: the bytes that later reads return, if they are known; the counts of reads, of ends found, and of failed
-- reads
pub record Input : Type 0 where
  pub left : Option (List ℕ)
  pub reads : ℕ
  pub ends : ℕ
  pub failures : ℕ

-- holds if a read gives at least one byte, and at most as many as there is room for
abbrev pub GivesWithin : Answer → ℕ → Type 0
GivesWithin (Gave count) room = (0 < count) × (count ≤ room)
GivesWithin Ended room = ⊤
GivesWithin Interrupted room = ⊤
GivesWithin Failed room = ⊤

-- holds if a read takes these of the bytes that are left; `buffer` is the buffer after the read
abbrev pub Gives : Answer → Option (List ℕ) → Option (List ℕ) → List ℕ → Type 0
Gives (Gave count) old new buffer = Consumes old new (take count buffer)
Gives Ended old new buffer = Keeps old new × IsAtEnd new
Gives Interrupted old new buffer = Keeps old new
Gives Failed old new buffer = Keeps old new

abbrev pub ends_after : Answer → ℕ → ℕ
ends_after Ended ends = more ends 1
ends_after _ ends = ends

abbrev pub failures_after : Answer → ℕ → ℕ
failures_after Failed failures = more failures 1
failures_after _ failures = failures

-- holds if a read is counted
pub record Counts (answer : Answer) (old new : Input) : Type 0 where
  pub reads : new.reads ≡ more old.reads 1
  pub ends : new.ends ≡ ends_after answer old.ends
  pub failures : new.failures ≡ failures_after answer old.failures

-- the bytes that a read gave
abbrev pub bytes_given : Answer → List ℕ → List ℕ
bytes_given (Gave count) buffer = take count buffer
bytes_given Ended buffer = []
bytes_given Interrupted buffer = []
bytes_given Failed buffer = []

-- Holds if `count` reads, one after another, each into a buffer of `room` bytes, give these bytes.
abbrev pub Reads : {I : Type 0} → (gave : I → ℕ → List ℕ → Answer → I → Type 0) → (room count : ℕ) → I → List ℕ
    → I → Type 0
Reads {I} gave room zero old bytes new = (bytes ≡ []) × (new ≡ old)
Reads {I} gave room (suc count) old bytes new =
    (mid : I) × (front back : List ℕ) × (answer : Answer) × Reads gave room count old front mid
    × gave mid room back answer new × (bytes ≡ front ++ back)

-- ---- a sink

-- a sink: the bytes that it has received, if they are known, and the count of failed writes
pub record Output : Type 0 where
  pub got : Option (List ℕ)
  pub failures : ℕ

-- holds if nothing was written
pub record Untouched (old new : Output) : Type 0 where
  pub kept : Keeps old.got new.got
  pub sound : new.failures ≡ old.failures

-- holds if these bytes were written, and nothing else
pub record Written (old new : Output) (bytes : List ℕ) : Type 0 where
  pub appended : Appends old.got new.got bytes
  pub sound : new.failures ≡ old.failures

-- holds if the first `count` bytes were written, and then the write failed
pub record CutShort (old new : Output) (bytes : List ℕ) : Type 0 where
  pub count : ℕ
  pub appended : Appends old.got new.got (take count bytes)
  pub failed : new.failures ≡ more old.failures 1

-- holds for the result of a write of all bytes
abbrev pub Writes : {E : Type 0} → Result Unit E → Output → Output → List ℕ → Type 0
Writes (Ok done) old new bytes = Written old new bytes
Writes (Err fault) old new bytes = CutShort old new bytes

-- holds for the result of a write of a text and a newline; if it fails, it isn't known what was written
abbrev pub WritesLine : {E : Type 0} → Result Unit E → Output → Output → Option (List ℕ) → Type 0
WritesLine (Ok done) old new None = new.failures ≡ old.failures
WritesLine (Ok done) old new (Some text) = Written old new (text ++ 10 ∷ [])
WritesLine (Err fault) old new text = new.failures ≡ more old.failures 1

-- Holds if a line with this text and newline, if the text is known, was handed to a sink by one call, whatever that
-- answered.
abbrev pub IsTold : {E : Type 0} → (told : E → Option (List ℕ) → Result Unit WriteFailed → E → Type 0)
    → Option (List ℕ) → (old new : E) → Type 0
IsTold told line old new = (answer : Result Unit WriteFailed) × told old line answer new

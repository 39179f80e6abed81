-- How a run ends: its input, its output, its fault and its exit status (our profile).
use Rattle.std.specs.Prelude.{◌≡◌, ◌<◌, ◌≤◌, ◌++◌, ◌∷◌, ◌⊎◌, [], ⊤, ℕ, List, length, Option, Some, None, Result, Ok, Err, IsUtf8}
use Rattle.std.specs.Io.KnownBytes.{Consumes, IsAtEnd}
use Rattle.jobs.specs.Faults.{status_of}
use Rattle.jobs.specs.Counting.{Input, Output, Reads, chunk_size, more, Untouched, Written}
use Rattle.jobs.specs.declared.streams.Answer.{Answer}
use Rattle.jobs.specs.declared.fault.Fault.{Fault}
use Rattle.jobs.specs.declared.fault.Fault.TheVariants.{InputNotRead, NoMemory}

-- the most bytes of an input
abbrev pub most_bytes : ℕ
most_bytes = 1048576

-- the most reads of an input, including the one that finds the end
abbrev pub most_reads : ℕ
most_reads = 65536

-- ---- the input

-- Holds if the input was read in `count` reads, each into a buffer of `chunk_size` bytes, and they gave these bytes.
pub record InPieces {I : Type 0} (gave : I → ℕ → List ℕ → Answer → I → Type 0) (old new : I)
    (bytes : List ℕ) : Type 0 where
  pub count : ℕ
  pub few : count ≤ most_reads
  pub reads : Reads gave chunk_size count old bytes new

-- holds if these bytes were read, up to the end, and no read failed
pub record ReadWhole (old new : Input) (bytes : List ℕ) : Type 0 where
  pub consumed : Consumes old.left new.left bytes
  pub at_end : IsAtEnd new.left
  pub ended : new.ends ≡ more old.ends 1
  pub sound : new.failures ≡ old.failures

-- holds if these bytes were read as an input: they are UTF-8, and not too many
pub record IsInput (old new : Input) (bytes : List ℕ) : Type 0 where
  pub read_whole : ReadWhole old new bytes
  pub within : length bytes ≤ most_bytes
  pub utf8 : IsUtf8 bytes

-- Holds if an input is refused: a read failed, the most reads found no end, there were too many bytes, or they aren't
-- UTF-8.
pub data NotRead (old new : Input) : Type 0 where
  read_failed : new.failures ≡ more old.failures 1 → NotRead old new
  too_many_reads : new.reads ≡ more old.reads most_reads → new.ends ≡ old.ends → new.failures ≡ old.failures
      → NotRead old new
  too_many_bytes : (bytes : List ℕ) → Consumes old.left new.left bytes → most_bytes < length bytes → NotRead old new
  no_text : (bytes : List ℕ) → ReadWhole old new bytes → (IsUtf8 bytes → ⊥) → NotRead old new

-- holds if an input is refused by this fault
abbrev pub RefusesInput : Fault → Input → Input → Type 0
RefusesInput InputNotRead old new = NotRead old new
RefusesInput NoMemory old new = ⊤
RefusesInput _ old new = ⊥

-- Holds if the input was read, and is a text with this property. `Came bytes` holds if the reads gave these bytes.
abbrev pub OnInput : (Came : List ℕ → Type 0) → Input → Input → (List ℕ → Type 0) → Type 0
OnInput Came old new Has = (text : List ℕ) × IsInput old new text × Came text × Has text

-- ---- the end of a run

-- the fault of a call; None if it succeeded
abbrev pub ending_of : Result Unit Fault → Option Fault
ending_of (Ok done) = None
ending_of (Err fault) = Some fault

-- holds if a line was written, or if the write failed
abbrev pub IsToldIn : Output → Output → List ℕ → Type 0
IsToldIn old new text = Written old new (text ++ 10 ∷ []) ⊎ (new.failures ≡ more old.failures 1)

-- holds if there is a fault, or if nothing is written to the output for faults
abbrev pub IsSilent : Option Fault → Output → Output → Type 0
IsSilent None old new = Untouched old new
IsSilent (Some fault) old new = ⊤

-- the exit status: 0 without a fault
abbrev pub status_after : Option Fault → ℕ
status_after None = 0
status_after (Some fault) = status_of fault

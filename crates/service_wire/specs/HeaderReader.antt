-- A reader of the header (our profile): its bytes are those received so far, while more are awaited.
use Rattle.std.specs.Prelude.{◌≡◌, ℕ, ◌+◌, ◌<◌, ◌≤◌, List, length, take, Option, Some, None, Result, Ok, Err}
use Rattle.service_wire.specs.Fronts.{Lacks}
use Rattle.service_wire.specs.Header.{IsAwaited, IsHeader}
use Rattle.service_wire.specs.declared.header_fault.HeaderFault.{HeaderFault}
use Rattle.service_wire.specs.declared.header.Header.{Header}

-- the bytes of the longest header
abbrev pub longest_header : ℕ
longest_header = 536

-- holds if any header that begins with these bytes has this many more, at least
pub record IsMissing (bytes : List ℕ) (count : ℕ) : Type 0 where
  pub some : 0 < count
  pub within : length bytes + count ≤ longest_header
  pub lacks : Lacks IsHeader bytes count

-- the reader's bytes after an answer: all that were received if more are awaited, else those before the call
abbrev pub received : Result (Option Header) HeaderFault → (before all : List ℕ) → List ℕ
received (Ok None) before all = all
received (Ok (Some header)) before all = before
received (Err why) before all = before

-- holds if the first bytes of the room are awaited ones
pub record IsHeld (room : List ℕ) (size : ℕ) : Type 0 where
  pub all : length room ≡ longest_header
  pub within : size ≤ longest_header
  pub awaited : IsAwaited (take size room)

-- A page: its socket, and its end of the WebSocket. What a read and a write of the socket do (our profile).
use Rattle.std.specs.Prelude.{◌≡◌, ◌⊎◌, ◌-◌, ◌==◌, not, ℕ, Bool, List, [], ◌++◌, length, drop, min, Result, if◌then◌else◌}
use Rattle.std.specs.declared.io.Error.{Error}
use Rattle.host_core.specs.declared.links.LinkRead.{LinkRead}
use Rattle.host_core.specs.declared.links.LinkRead.TheVariants as read
use Rattle.host_core.specs.declared.links.LinkWrite.{LinkWrite}
use Rattle.host_core.specs.declared.links.LinkWrite.TheVariants as write
use Rattle.jobs.specs.Counting.{chunk_size}
use Rattle.jobs.specs.Sockets.{IsReadOnce, IsWrittenOnce}
use Rattle.websocket.specs.Content.{Content, binary}
use Rattle.web_wire.specs.Frames.{frame_of}
use Rattle.web_wire.specs.Sockets.{SocketState, is_over, most_input}

-- a page: its socket, and its end of the WebSocket
pub record Link (B : Type 0) : Type 0 where
  pub socket : B
  pub frames : SocketState

-- whether bytes wait to be sent
abbrev pub has_output : {B : Type 0} → Link B → Bool
has_output link = not (length link.frames.output == 0)

-- how many bytes the next read may give
abbrev pub read_room : {B : Type 0} → Link B → ℕ
read_room link = min (most_input - length link.frames.input) chunk_size

-- holds for the input after a read that gave these bytes: they are added, unless memory is refused
abbrev pub IsTaken : LinkRead → List ℕ → SocketState → LinkRead → SocketState → Type 0
IsTaken (read.Got count) bytes old result new =
    ((result ≡ read.Got count) × (new ≡ record old { input = old.input ++ bytes }))
    ⊎ ((result ≡ read.Failed) × (new ≡ old))
IsTaken read.NotNow bytes old result new = (result ≡ read.NotNow) × (new ≡ old)
IsTaken read.Ended bytes old result new = (result ≡ read.Ended) × (new ≡ old)
IsTaken read.Failed bytes old result new = (result ≡ read.Failed) × (new ≡ old)

-- what is left of bytes after a write
abbrev pub left_after : LinkWrite → List ℕ → List ℕ
left_after (write.Took count) bytes = drop count bytes
left_after write.NotNow bytes = bytes
left_after write.Failed bytes = bytes

module _ {B : Type 0} where
  -- holds if a socket is read once, with room for `room` bytes, and what it gives is taken
  pub record ReadsPage (gave : B → ℕ → List ℕ → Result ℕ Error → B → Type 0) (room : ℕ) (old : B)
      (old_frames : SocketState) (result : LinkRead) (new : B) (new_frames : SocketState) : Type 0 where
    pub bytes : List ℕ
    pub answer : LinkRead
    pub once : IsReadOnce gave old room bytes answer new
    pub taken : IsTaken answer bytes old_frames result new_frames

  -- holds if the socket is read once, unless there is no room
  abbrev pub Receives : (gave : B → ℕ → List ℕ → Result ℕ Error → B → Type 0) → Link B → LinkRead → Link B → Type 0
  Receives gave old result new =
      ((read_room old ≡ 0) × (result ≡ read.NotNow) × (new ≡ old))
      ⊎ ReadsPage gave (read_room old) old.socket old.frames result new.socket new.frames

  -- holds if bytes are written to a socket once, and those that it took are dropped
  pub record WritesFront (took : B → List ℕ → Result ℕ Error → B → Type 0) (old : B) (bytes : List ℕ)
      (result : LinkWrite) (new : B) (left : List ℕ) : Type 0 where
    pub once : IsWrittenOnce took old bytes result new
    pub left_is : left ≡ left_after result bytes

  -- holds if the output is written to the socket once
  pub record WritesPage (took : B → List ℕ → Result ℕ Error → B → Type 0) (old : Link B) (result : LinkWrite)
      (new : Link B) : Type 0 where
    pub once : IsWrittenOnce took old.socket old.frames.output result new.socket
    pub dropped : new.frames ≡ record old.frames { output = left_after result old.frames.output }

  -- holds if the output is written to the socket once, unless there is none
  abbrev pub SendsPage : (took : B → List ℕ → Result ℕ Error → B → Type 0) → Link B → LinkWrite → Link B → Type 0
  SendsPage took old result new =
      ((old.frames.output ≡ []) × (result ≡ write.NotNow) × (new ≡ old)) ⊎ WritesPage took old result new

  -- the page that is sent a message; nothing is sent once the WebSocket is closed
  abbrev pub with_message : Content → Link B → Link B
  with_message content link = if is_over link.frames.stage then link else
      record link { frames = record link.frames { output = link.frames.output ++ frame_of content } }

  -- the page that is sent a drawing, as one binary message; nothing is sent if nothing is drawn
  abbrev pub with_drawing : List ℕ → Link B → Link B
  with_drawing drawing link = if length drawing == 0 then link else with_message (binary drawing) link

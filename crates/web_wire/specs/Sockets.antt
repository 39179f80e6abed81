-- The end of a WebSocket at the server: what it receives from a page, and what it sends (RFC 6455; which messages there
-- are: our profile).
use Rattle.std.specs.Prelude.{◌≡◌, ℕ, ◌+◌, ◌-◌, ◌≤◌, ◌⊎◌, Bool, true, false, nat_lt, List, [], ◌++◌, length, drop, Option, None, Some, Result, Ok, Err, if◌then◌else◌}
use Rattle.websocket.specs.declared.error.Error.{Error}
use Rattle.websocket.specs.declared.error.Error.TheVariants as error
use Rattle.websocket.specs.declared.protocol.frame.codec.FrameStatus.{FrameStatus}
use Rattle.websocket.specs.declared.protocol.frame.codec.FrameStatus.TheVariants.{Partial, Complete}
use Rattle.websocket.specs.declared.protocol.frame.coding.CloseCode.{CloseCode}
use Rattle.websocket.specs.declared.protocol.frame.coding.CloseCode.TheVariants as code
use Rattle.websocket.specs.declared.protocol.incomplete.MessageType.{MessageType}
use Rattle.websocket.specs.Content.{Content, text, binary, ping, pong, close}
use Rattle.websocket.specs.Connection.{Connection, Effect, read_step}
use Rattle.web_wire.specs.declared.opening.Opening.{Opening}
use Rattle.web_wire.specs.declared.received.Stage.{Stage}
use Rattle.web_wire.specs.declared.received.Stage.TheVariants.{AwaitsOpening, Open, Over}
use Rattle.web_wire.specs.declared.received.Closing.{Closing}
use Rattle.web_wire.specs.declared.received.Closing.TheVariants.{ByPage, BrokenRule, TooLong, NotText, NotOpened, TextInSession, Memory, Finished}
use Rattle.web_wire.specs.declared.received.Received.{Received}
use Rattle.web_wire.specs.declared.received.Received.TheVariants.{Waiting, Handled, Opened, Keys, Pong, Closed}
use Rattle.web_wire.specs.Frames.{connection_with, frame_of, reply_of}
use Rattle.web_wire.specs.Openings.{opening_of}

-- ---- the state, and its bounds

-- how far the session is; the message of which only some fragments were received; the bytes that were received and not
-- yet read; the bytes that are still to be sent
pub record SocketState : Type 0 where
  pub stage : Stage
  pub fragments : Option (MessageType × List ℕ)
  pub input : List ℕ
  pub output : List ℕ

abbrev pub most_input : ℕ
most_input = 8192

-- the most bytes that wait to be sent while frames are read
abbrev pub most_waiting : ℕ
most_waiting = 4096

-- the most bytes that wait to be sent, and how many of these are kept free for the close
abbrev pub most_output : ℕ
most_output = 131072

abbrev pub close_room : ℕ
close_room = 256

abbrev pub is_over : Stage → Bool
is_over AwaitsOpening = false
is_over Open = false
is_over Over = true

abbrev pub output_limit : Stage → ℕ
output_limit stage = if is_over stage then most_output else most_output - close_room

-- the message of which only some fragments were received; none once the socket is closed
abbrev pub fragments_at : Stage → Connection → Option (MessageType × List ℕ)
fragments_at stage connection = if is_over stage then None else connection.fragments

-- Holds for every socket: its connection is open until it is closed, and what waits is bounded.
pub record IsSocket (stage : Stage) (connection : Connection) (input output : List ℕ) : Type 0 where
  pub unless_over : is_over stage ≡ false → connection ≡ connection_with connection.fragments
  pub short_input : length input ≤ most_input
  pub short_output : length output ≤ output_limit stage

-- whether a message with a payload of this size is refused, since too many bytes would wait
abbrev pub is_full : (output : List ℕ) → (size : ℕ) → Bool
is_full output size = nat_lt (most_output - close_room) (length output + size + 10)

-- ---- closing

-- the close code for a reason (section 7.4.1)
abbrev pub close_code : Closing → CloseCode
close_code ByPage = code.Normal
close_code BrokenRule = code.Protocol
close_code TooLong = code.Size
close_code NotText = code.Invalid
close_code NotOpened = code.Policy
close_code TextInSession = code.Unsupported
close_code Memory = code.Error
close_code Finished = code.Normal

-- the close frame for a reason; none if the page has closed, since its frame is answered already
abbrev pub close_frame : Closing → List ℕ
close_frame ByPage = []
close_frame closing = frame_of (close (Some (close_code closing, [])))

-- Holds for the state after the socket was closed, with these bytes to be sent before. The close frame is left out only
-- if memory is refused.
pub record IsClosed (closing : Closing) (before : List ℕ) (state : SocketState) : Type 0 where
  pub over : state.stage ≡ Over
  pub no_fragments : state.fragments ≡ None
  pub no_input : state.input ≡ []
  pub output : (state.output ≡ before ++ close_frame closing) ⊎ (state.output ≡ before)

-- the reason for which an error of the protocol closes the socket
abbrev pub closing_of : Error → Closing
closing_of (error.Capacity _) = TooLong
closing_of error.Utf8 = NotText
closing_of error.OutOfMemory = Memory
closing_of _ = BrokenRule

-- ---- reading

abbrev pub opened_by : Option Opening → Received
opened_by None = Closed NotOpened
opened_by (Some opening) = Opened opening

-- what a message means: the first one opens, and after it binary messages are keys
abbrev pub meaning_of_text : Stage → List ℕ → Received
meaning_of_text Open words = Closed TextInSession
meaning_of_text _ words = opened_by (opening_of words)

abbrev pub meaning_of_binary : Stage → Received
meaning_of_binary Open = Keys
meaning_of_binary _ = Closed NotOpened

abbrev pub meaning_of : Stage → Content → Received
meaning_of stage (text words) = meaning_of_text stage words
meaning_of stage (binary bytes) = meaning_of_binary stage
meaning_of stage (ping bytes) = Handled
meaning_of stage (pong bytes) = Pong
meaning_of stage (close frame) = Closed ByPage

abbrev pub typed_by : Stage → List ℕ → List ℕ
typed_by Open bytes = bytes
typed_by _ bytes = []

-- the bytes of keys in a message
abbrev pub keys_in : Stage → Content → List ℕ
keys_in stage (binary bytes) = typed_by stage bytes
keys_in stage _ = []

-- what a frame means: one that doesn't end a message means nothing yet
abbrev pub frame_meaning : Stage → Option Content → Received
frame_meaning stage None = Handled
frame_meaning stage (Some content) = meaning_of stage content

abbrev pub frame_keys : Stage → Option Content → List ℕ
frame_keys stage None = []
frame_keys stage (Some content) = keys_in stage content

abbrev pub stage_after : Stage → Received → Stage
stage_after stage (Opened opening) = Open
stage_after stage _ = stage

-- holds for the state after a frame of `count` bytes
abbrev pub IsLeft : Received → SocketState → (count : ℕ) → Effect → SocketState → Type 0
IsLeft (Closed closing) old count effect new = IsClosed closing (old.output ++ reply_of effect.reply) new
IsLeft received old count effect new = new ≡ record {
  stage = stage_after old.stage received;
  fragments = effect.next.fragments;
  input = drop count old.input;
  output = old.output ++ reply_of effect.reply;
}

-- what a frame is received as, with its keys; Memory if there is no room for the keys
abbrev pub IsReceivedAs : Stage → Option Content → Received → (old_keys new_keys : List ℕ) → Type 0
IsReceivedAs stage message received old_keys new_keys =
    ((received ≡ frame_meaning stage message) × (new_keys ≡ old_keys ++ frame_keys stage message))
    ⊎ ((received ≡ Closed Memory) × (new_keys ≡ old_keys))

abbrev pub IsWaiting : SocketState → Received → (old_keys new_keys : List ℕ) → SocketState → Type 0
IsWaiting old received old_keys new_keys new = (received ≡ Waiting) × (new_keys ≡ old_keys) × (new ≡ old)

abbrev pub IsClosedFor : Closing → SocketState → Received → (old_keys new_keys : List ℕ) → SocketState
    → Type 0
IsClosedFor closing old received old_keys new_keys new =
    (received ≡ Closed closing) × (new_keys ≡ old_keys) × IsClosed closing old.output new

-- holds for what a step of the protocol is received as, and for the state after it
abbrev pub IsStep : Result (FrameStatus (ℕ × Effect)) Error → SocketState → Received
    → (old_keys new_keys : List ℕ) → SocketState → Type 0
IsStep (Ok (Partial _)) old received old_keys new_keys new = IsWaiting old received old_keys new_keys new
IsStep (Ok (Complete p)) old received old_keys new_keys new =
    IsReceivedAs old.stage p.1.message received old_keys new_keys × IsLeft received old p.0 p.1 new
IsStep (Err e) old received old_keys new_keys new = IsClosedFor (closing_of e) old received old_keys new_keys new

-- whether no frame is read: the socket is closed, or too many bytes wait to be sent
abbrev pub is_paused : SocketState → Bool
is_paused state = if is_over state.stage then true else nat_lt most_waiting (length state.output)

abbrev pub IsStepUnless : Bool → SocketState → Received → (old_keys new_keys : List ℕ) → SocketState → Type 0
IsStepUnless true old received old_keys new_keys new = IsWaiting old received old_keys new_keys new
IsStepUnless false old received old_keys new_keys new =
    IsStep (read_step (connection_with old.fragments) old.input) old received old_keys new_keys new
    ⊎ IsClosedFor Memory old received old_keys new_keys new

-- holds for one call that reads a frame: a step of the protocol, or memory was refused
abbrev pub IsRead : SocketState → Received → (old_keys new_keys : List ℕ) → SocketState → Type 0
IsRead old received old_keys new_keys new = IsStepUnless (is_paused old) old received old_keys new_keys new

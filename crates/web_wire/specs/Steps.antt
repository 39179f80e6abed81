-- What one read does to the parts of a socket, before the socket's stage follows it (RFC 6455; our profile).
use Rattle.std.specs.Prelude.{◌≡◌, ℕ, ◌≤◌, ◌⊎◌, Bool, true, false, List, ◌++◌, length, drop, Result, Ok, Err}
use Rattle.websocket.specs.declared.error.Error.{Error}
use Rattle.websocket.specs.declared.protocol.frame.codec.FrameStatus.{FrameStatus}
use Rattle.websocket.specs.declared.protocol.frame.codec.FrameStatus.TheVariants.{Partial, Complete}
use Rattle.websocket.specs.Connection.{Connection, Effect}
use Rattle.web_wire.specs.declared.received.Stage.{Stage}
use Rattle.web_wire.specs.declared.received.Closing.{Closing}
use Rattle.web_wire.specs.declared.received.Closing.TheVariants.{Memory}
use Rattle.web_wire.specs.declared.received.Received.{Received}
use Rattle.web_wire.specs.declared.received.Received.TheVariants.{Waiting, Handled, Opened, Keys, Pong, Closed}
use Rattle.web_wire.specs.Frames.{reply_of}
use Rattle.web_wire.specs.Sockets.{IsReceivedAs, closing_of}

-- the connection, the bytes that were received, those to be sent, and the bytes of keys
pub record ReadParts : Type 0 where
  pub connection : Connection
  pub input : List ℕ
  pub output : List ℕ
  pub keys : List ℕ

abbrev pub is_closed : Received → Bool
is_closed Waiting = false
is_closed Handled = false
is_closed (Opened opening) = false
is_closed Keys = false
is_closed Pong = false
is_closed (Closed closing) = true

-- holds if nothing was read
abbrev pub IsUnread : Received → (count : ℕ) → (old new : ReadParts) → Type 0
IsUnread received count old new = (received ≡ Waiting) × (count ≡ 0) × (new ≡ old)

-- holds if a frame of `count` bytes was read; it is unmasked in place
pub record IsFrameRead (stage : Stage) (received : Received) (count : ℕ) (effect : Effect) (old new : ReadParts)
    : Type 0 where
  pub meaning : IsReceivedAs stage effect.message received old.keys new.keys
  pub within : count ≤ length new.input
  pub rest : drop count new.input ≡ drop count old.input
  pub next : new.connection ≡ effect.next
  pub replied : new.output ≡ old.output ++ reply_of effect.reply

-- holds if the read failed for this reason
pub record IsReadFailed (closing : Closing) (received : Received) (old new : ReadParts) : Type 0 where
  pub reason : received ≡ Closed closing
  pub same_role : new.connection.role ≡ old.connection.role
  pub same_output : new.output ≡ old.output
  pub same_keys : new.keys ≡ old.keys

-- holds for a step of the protocol
abbrev pub IsStepRead : Result (FrameStatus (ℕ × Effect)) Error → Stage → Received → (count : ℕ)
    → (old new : ReadParts) → Type 0
IsStepRead (Ok (Partial _)) stage received count old new = IsUnread received count old new
IsStepRead (Ok (Complete p)) stage received count old new = (count ≡ p.0) × IsFrameRead stage received count p.1 old new
IsStepRead (Err e) stage received count old new = IsReadFailed (closing_of e) received old new

-- the same, or memory was refused
abbrev pub IsOneRead : Result (FrameStatus (ℕ × Effect)) Error → Stage → Received → (count : ℕ)
    → (old new : ReadParts) → Type 0
IsOneRead step stage received count old new = IsStepRead step stage received count old new
    ⊎ IsReadFailed Memory received old new

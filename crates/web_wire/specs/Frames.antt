-- The frames of both ends of a WebSocket (RFC 6455, sections 5 and 7).
use Rattle.std.specs.Prelude.{◌≡◌, ℕ, ◌^◌, ◌<◌, false, List, [], length, map, Option, None, Some, is_some, ⊤}
use Rattle.websocket.specs.declared.protocol.config.WebSocketConfig.{WebSocketConfig}
use Rattle.websocket.specs.declared.protocol.config.Role.TheVariants.{Server}
use Rattle.websocket.specs.declared.protocol.incomplete.MessageType.{MessageType}
use Rattle.websocket.specs.declared.protocol.state.WebSocketState.TheVariants.{Active}
use Rattle.websocket.specs.Content.{Content, close, content_opcode, content_payload, HasValidText, IsWithinLimit, FitsLimit}
use Rattle.websocket.specs.Connection.{Connection, Outgoing, is_server, whole_header}
use Rattle.websocket.specs.Frame.{encode_frame}
use Rattle.websocket.specs.FrameHeader.{IsMask}
use Rattle.websocket.specs.Stream.{Trace}

-- the most bytes of a message, and of a frame's payload
abbrev pub most_message : ℕ
most_message = 4096

abbrev pub limits : WebSocketConfig
limits = record {
  max_message_size = Some most_message;
  max_frame_size = Some most_message;
  accept_unmasked_frames = false;
}

-- the open connection of the server, with the message of which only some fragments were received
abbrev pub connection_with : Option (MessageType × List ℕ) → Connection
connection_with fragments = record { role = Server; state = Active; config = limits; fragments = fragments }

-- the frame that a server sends for a message: whole, and without a mask
abbrev pub frame_of : Content → List ℕ
frame_of content = encode_frame (whole_header (content_opcode content) None) (content_payload content)

-- the bytes of the reply that a frame calls for, if there is one
abbrev pub reply_of : Option Outgoing → List ℕ
reply_of None = []
reply_of (Some reply) = encode_frame (whole_header reply.opcode None) reply.payload

-- ---- messages that are sent, each as one frame

-- a message, and the mask of its frame
pub record Sent : Type 0 where
  pub content : Content
  pub mask : Option (List ℕ)

abbrev pub sent_frame : Sent → List ℕ
sent_frame sent = encode_frame (whole_header (content_opcode sent.content) sent.mask) (content_payload sent.content)

-- holds for each message but a close
abbrev pub IsNoClose : Content → Type 0
IsNoClose (close _) = ⊥
IsNoClose _ = ⊤

-- holds if the reader has to accept the message: it is no close, its text is UTF-8, it is within the reader's limits,
-- and it has a mask if, and only if, the reader is a server
pub record IsReadable (reader : Connection) (sent : Sent) : Type 0 where
  pub no_close : IsNoClose sent.content
  pub valid_text : HasValidText sent.content
  pub message_fits : IsWithinLimit reader.config.max_message_size sent.content
  pub frame_fits : FitsLimit reader.config.max_frame_size (content_payload sent.content)
  pub short : length (content_payload sent.content) < 2 ^ 63
  pub mask : IsMask sent.mask
  pub masked : is_some sent.mask ≡ is_server reader.role

-- what a reader got: the messages that its reads delivered, in order
abbrev pub messages_of : Trace → List (Option Content)
messages_of trace = map (λ effect. effect.message) trace.effects

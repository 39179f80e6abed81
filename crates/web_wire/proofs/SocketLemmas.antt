-- What the calls of a connection leave, in the words of specs/Sockets.
use Rattle.std.proofs.Common.{◌≡◌, ℕ, ◌+◌, ◌^◌, ◌<◌, ◌≤◌, false, List, [], ◌++◌, length, take, drop, Option, None, Some, sym, ap, ◌∙◌, inl, inr, arith, append-nil, length-append}
use Rattle.std.specs.Prelude.{◌⊎◌}
use Rattle.std.proofs.Math.Seq.{take-append_seam}
use Rattle.websocket.specs.declared.protocol.config.Role.TheVariants.{Server}
use Rattle.websocket.specs.declared.protocol.frame.coding.CloseCode.{CloseCode}
use Rattle.websocket.specs.declared.protocol.frame.coding.OpCode.{OpCode}
use Rattle.std.proofs.lemmas.Bool.Decides.{nat_tests}
use Rattle.websocket.specs.FrameHeader.{extended_len}
use Rattle.websocket.specs.Frame.{encode_frame}
use Rattle.websocket.specs.Content.{Content, close, content_opcode, content_payload}
use Rattle.websocket.specs.Connection.{Connection, IsMaskOf, Outgoing, Sends, whole_header}
use Rattle.websocket.proofs.FrameLemmas.{length-encode_frame}
use Rattle.web_wire.specs.declared.received.Stage.{Stage}
use Rattle.web_wire.specs.declared.received.Stage.TheVariants.{AwaitsOpening, Open, Over}
use Rattle.web_wire.specs.declared.received.Closing.{Closing}
use Rattle.web_wire.specs.declared.received.Closing.TheVariants.{ByPage, BrokenRule, TooLong, NotText, NotOpened, TextInSession, Memory, Finished}
use Rattle.web_wire.specs.Frames.{connection_with, frame_of, reply_of}
use Rattle.web_wire.specs.Sockets.{IsSocket, close_code, close_frame, is_over, output_limit}

unmasked : (mask : Option (List ℕ)) (reply : Outgoing) (old new : List ℕ) → IsMaskOf Server mask
    → new ≡ old ++ encode_frame (whole_header reply.opcode mask) reply.payload → new ≡ old ++ encode_frame (whole_header reply.opcode None) reply.payload
unmasked None reply old new masked is = is
unmasked (Some key) reply old new masked is = absurd (cc (masked.0))

-- what a server sends has no mask
pub replied : (reply : Option Outgoing) (old new : List ℕ) → Sends Server reply old new → new ≡ old ++ reply_of reply
replied None old new is = is ∙ sym (append-nil old)
replied (Some reply) old new sends = unmasked sends.0 reply old new sends.1 sends.2

extended_short : (n : ℕ) → extended_len n ≤ 8
extended_short n = grind (arith, nat_tests)

-- a header without a mask has at most 10 bytes
pub frame_length : (code : OpCode) (payload : List ℕ) → length payload < 2 ^ 63
    → length (encode_frame (whole_header code None) payload) ≤ length payload + 10
frame_length code payload short =
    let is = length-encode_frame (whole_header code None) payload (record { mask = tt; top_bit_clear = short }) in
    omega (arith, is, extended_short (length payload))

-- ---- frames

framed_length : (content : Content) → length (content_payload content) < 2 ^ 63 → length (frame_of content) ≤ length (content_payload content) + 10
framed_length content short = frame_length (content_opcode content) (content_payload content) short

close_frame_length : (code : CloseCode) → length (frame_of (close (Some (code, [])))) ≤ 12
close_frame_length code = framed_length (close (Some (code, []))) (omega arith)

pub close_length : (closing : Closing) → length (close_frame closing) ≤ 12
close_length ByPage = omega arith
close_length BrokenRule = close_frame_length (close_code BrokenRule)
close_length TooLong = close_frame_length (close_code TooLong)
close_length NotText = close_frame_length (close_code NotText)
close_length NotOpened = close_frame_length (close_code NotOpened)
close_length TextInSession = close_frame_length (close_code TextInSession)
close_length Memory = close_frame_length (close_code Memory)
close_length Finished = close_frame_length (close_code Finished)

-- what waits after a message that there is room for
pub still_within : (content : Content) (old new : List ℕ) → length old + length (content_payload content) + 10 ≤ 130816
    → new ≡ old ++ frame_of content → length new ≤ 130816
still_within content old new room is =
    omega (arith, ap length is, length-append old (frame_of content), framed_length content (omega (arith, room)), room)

-- ---- sockets

pub limit_of_open : (stage : Stage) (output : List ℕ) → is_over stage ≡ false → length output ≤ output_limit stage → length output ≤ 130816
limit_of_open AwaitsOpening output alive short = short
limit_of_open Open output alive short = short
limit_of_open Over output alive short = absurd (cc alive)

limit_at_least : (stage : Stage) → 130816 ≤ output_limit stage
limit_at_least AwaitsOpening = omega arith
limit_at_least Open = omega arith
limit_at_least Over = omega arith

-- a socket that is closed
pub closed_socket : (closing : Closing) (conn : Connection) (input before output : List ℕ) → length before ≤ 130816 → input ≡ []
    → (output ≡ before ++ close_frame closing) ⊎ (output ≡ before) → IsSocket Over conn input output
closed_socket closing conn input before output short none (inl is) = record {
  unless_over = λ alive. absurd (cc alive);
  short_input = omega (arith, ap length none);
  short_output = omega (arith, ap length is, length-append before (close_frame closing), close_length closing, short);
}
closed_socket closing conn input before output short none (inr is) = record {
  unless_over = λ alive. absurd (cc alive);
  short_input = omega (arith, ap length none);
  short_output = omega (arith, ap length is, short);
}

-- a socket that is open
pub open_socket : (stage : Stage) (conn : Connection) (input output : List ℕ) → conn ≡ connection_with conn.fragments → length input ≤ 8192
    → length output ≤ 130816 → IsSocket stage conn input output
open_socket stage conn input output still short_input short_output = record {
  unless_over = λ _. still;
  short_input = short_input;
  short_output = omega (arith, limit_at_least stage, short_output);
}

-- ---- a slice that was lent

-- all of a vector was lent as a slice, and has its bytes now
pub lent_all : (size : ℕ) (now old : List ℕ) → length now ≡ size → take size (now ++ drop (length now) old) ≡ now
lent_all size now old is = rw (sym is) (take-append_seam now (drop (length now) old))

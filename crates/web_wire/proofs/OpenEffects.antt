-- What a frame does to a connection that is open: it stays so unless the frame closes it, and the reply is short.
use Rattle.std.proofs.Common.{◌≡◌, ℕ, ◌≤◌, Bool, true, false, List, ◌++◌, length, Option, None, Some, IfSome, Result, Ok, Err, refl, inl, inr, arith}
use Rattle.std.proofs.lemmas.Bool.Decides.{leb_tells}
use Rattle.websocket.specs.declared.error.Error.{Error}
use Rattle.websocket.specs.declared.protocol.state.WebSocketState.TheVariants.{ClosedByPeer}
use Rattle.websocket.specs.declared.protocol.incomplete.MessageType.{MessageType}
use Rattle.websocket.specs.declared.protocol.incomplete.MessageType.TheVariants as kind
use Rattle.websocket.specs.declared.protocol.frame.coding.CloseCode.{CloseCode}
use Rattle.websocket.specs.declared.protocol.frame.coding.OpCode.{OpCode}
use Rattle.websocket.specs.declared.protocol.frame.coding.OpCode.TheVariants as op
use Rattle.websocket.specs.declared.protocol.frame.coding.Data.{Data}
use Rattle.websocket.specs.declared.protocol.frame.coding.Data.TheVariants.{Continue, Text, Binary}
use Rattle.websocket.specs.declared.protocol.frame.coding.Control.{Control}
use Rattle.websocket.specs.declared.protocol.frame.coding.Control.TheVariants.{Close, Ping, Pong}
use Rattle.websocket.specs.declared.protocol.frame.codec.FrameStatus.TheVariants.{Complete}
use Rattle.websocket.specs.Frame.{check_size}
use Rattle.websocket.specs.Text.{is_utf8}
use Rattle.websocket.specs.Content.{Content, text, binary, ping, pong, close}
use Rattle.websocket.specs.Connection.{Connection, Effect, can_write, decode_close, has_allowed_code, close_effect, on_close, on_short_control, on_control, complete_message, check_so_far, deliver, on_message_bytes, on_data_after, on_data, check_header, on_opcode, on_frame, read_step}
use Rattle.websocket.proofs.DecodeLemmas.{ltb_false, ltb_true}
use Rattle.websocket.proofs.StreamLemmas.{after_check_passed, TookFrame_from_read}

-- the connection after a frame that delivers this message
abbrev pub StaysOpen : Connection → Option Content → Connection → Type 0
StaysOpen conn None next = next ≡ record conn { fragments = next.fragments }
StaysOpen conn (Some (text _)) next = next ≡ record conn { fragments = None }
StaysOpen conn (Some (binary _)) next = next ≡ record conn { fragments = None }
StaysOpen conn (Some (ping _)) next = next ≡ conn
StaysOpen conn (Some (pong _)) next = next ≡ conn
StaysOpen conn (Some (close _)) next = next ≡ record conn { state = ClosedByPeer }

pub record IsOpenEffect (conn : Connection) (effect : Effect) : Type 0 where
  pub next : StaysOpen conn effect.message effect.next
  pub reply : IfSome effect.reply (λ reply. length reply.payload ≤ 125)

ok_is : {A : Type 0} {a b : A} → ◌≡◌ {A = Result A Error} (Ok a) (Ok b) → b ≡ a
ok_is e = cc e

-- ---- control frames

answered : (conn : Connection) (frame : Option (CloseCode × List ℕ)) (reply : List ℕ) → length reply ≤ 125 → IsOpenEffect conn (close_effect conn frame (Some reply) ClosedByPeer)
answered conn frame reply short = record { next = refl; reply = short }

closes : (conn : Connection) (payload : List ℕ) (frame : Option (CloseCode × List ℕ)) (allowed : Bool) (effect : Effect) → can_write conn.state ≡ true → has_allowed_code frame ≡ allowed → length payload ≤ 125 → on_close conn payload (Ok frame) ≡ Ok effect → IsOpenEffect conn effect
closes conn payload frame true effect active code short is = rw (ok_is is, active, code) (answered conn frame payload short)
closes conn payload frame false effect active code short is = rw (ok_is is, active, code) (answered conn _ _ (omega arith))

on_close_open : (conn : Connection) (payload : List ℕ) (r : Result (Option (CloseCode × List ℕ)) Error) (effect : Effect) → can_write conn.state ≡ true → length payload ≤ 125 → on_close conn payload r ≡ Ok effect → IsOpenEffect conn effect
on_close_open conn payload (Err e) effect active short is = absurd (cc is)
on_close_open conn payload (Ok frame) effect active short is = closes conn payload frame _ effect active refl short is

short_control_open : (conn : Connection) (control : Control) (payload : List ℕ) (effect : Effect) → can_write conn.state ≡ true → length payload ≤ 125 → on_short_control conn control payload ≡ Ok effect → IsOpenEffect conn effect
short_control_open conn Close payload effect active short is = on_close_open conn payload (decode_close payload) effect active short is
short_control_open conn Pong payload effect active short is = rw (ok_is is) (record { next = refl; reply = tt })
short_control_open conn Ping payload effect active short is = rw (ok_is is, active) (record { next = refl; reply = short })

on_control_open : (conn : Connection) (control : Control) (is_final : Bool) (payload : List ℕ) (effect : Effect) → can_write conn.state ≡ true → on_control conn control is_final payload ≡ Ok effect → IsOpenEffect conn effect
unfolding on_control
on_control_open conn control false payload effect active is = absurd (cc is)
on_control_open conn control true payload effect active is =
    elim (leb_tells (length payload) 125) [
      | inl p ↦ short_control_open conn control payload effect active p.1 (rw (ltb_false 125 (length payload) p.1) at is)
      | inr p ↦ absurd (cc (rw (ltb_true 125 (length payload) p.1) at is))
    ]

-- ---- data frames

text_open : (conn : Connection) (bs : List ℕ) (valid : Bool) (effect : Effect) → is_utf8 bs ≡ valid → deliver conn (complete_message kind.Text bs) ≡ Ok effect → IsOpenEffect conn effect
text_open conn bs false effect test is = absurd (cc (rw test at is))
text_open conn bs true effect test is = rw (ok_is (rw test at is)) (record { next = refl; reply = tt })

delivered_open : (conn : Connection) (type : MessageType) (bs : List ℕ) (effect : Effect) → deliver conn (complete_message type bs) ≡ Ok effect → IsOpenEffect conn effect
delivered_open conn kind.Text bs effect is = text_open conn bs _ effect refl is
delivered_open conn kind.Binary bs effect is = rw (ok_is is) (record { next = refl; reply = tt })

on_message_bytes_open : (conn : Connection) (type : MessageType) (is_final : Bool) (bs : List ℕ) (effect : Effect) → on_message_bytes conn type is_final bs ≡ Ok effect → IsOpenEffect conn effect
unfolding on_message_bytes
on_message_bytes_open conn type true bs effect is =
    delivered_open conn type bs effect (after_check_passed (check_size (length bs) conn.config.max_message_size) _ effect is)
on_message_bytes_open conn type false bs effect is =
    let kept = after_check_passed (check_so_far type bs) _ effect (after_check_passed (check_size (length bs) conn.config.max_message_size) _ effect is) in
    rw (ok_is kept) (record { next = refl; reply = tt })

on_data_after_open : (conn : Connection) (fragments : Option (MessageType × List ℕ)) (type : Data) (is_final : Bool) (payload : List ℕ) (effect : Effect) → on_data_after conn fragments type is_final payload ≡ Ok effect → IsOpenEffect conn effect
on_data_after_open conn None Continue is_final payload effect is = absurd (cc is)
on_data_after_open conn None Text is_final payload effect is = on_message_bytes_open conn kind.Text is_final payload effect is
on_data_after_open conn None Binary is_final payload effect is = on_message_bytes_open conn kind.Binary is_final payload effect is
on_data_after_open conn (Some p) Continue is_final payload effect is = on_message_bytes_open conn p.0 is_final (p.1 ++ payload) effect is
on_data_after_open conn (Some p) Text is_final payload effect is = absurd (cc is)
on_data_after_open conn (Some p) Binary is_final payload effect is = absurd (cc is)

on_opcode_open : (conn : Connection) (code : OpCode) (is_final : Bool) (payload : List ℕ) (effect : Effect) → can_write conn.state ≡ true → on_opcode conn code is_final payload ≡ Ok effect → IsOpenEffect conn effect
unfolding on_data
on_opcode_open conn (op.Control control) is_final payload effect active is = on_control_open conn control is_final payload effect active is
on_opcode_open conn (op.Data type) is_final payload effect active is = on_data_after_open conn conn.fragments type is_final payload effect is

-- ---- a read

pub open_effect : (conn : Connection) (bs : List ℕ) (p : ℕ × Effect) → can_write conn.state ≡ true → read_step conn bs ≡ Ok (Complete p) → IsOpenEffect conn p.1
unfolding on_frame
open_effect conn bs p active read =
    let took = TookFrame_from_read conn bs p read in
    on_opcode_open conn took.header.opcode took.header.is_final took.payload p.1 active (after_check_passed (check_header conn took.header) _ p.1 took.does)

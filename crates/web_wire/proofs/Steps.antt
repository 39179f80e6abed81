-- One read of a socket: from the clauses of a connection's read to the definitions, and on to the state after it.
use Rattle.std.proofs.Common.{◌≡◌, ℕ, ◌+◌, ◌≤◌, Bool, true, false, List, ◌++◌, length, drop, Option, None, Some, IfSome, Result, Ok, Err, refl, sym, ap, subst, ◌∙◌, inl, inr, arith, length-append}
use Rattle.std.specs.Prelude.{option_map, ◌⊎◌, nat_lt, if◌then◌else◌}
use Rattle.websocket.proofs.DecodeLemmas.{ltb_false}
use Rattle.websocket.specs.declared.error.Error.{Error}
use Rattle.websocket.specs.declared.protocol.config.Role.TheVariants.{Server}
use Rattle.websocket.specs.declared.protocol.context.Step.{Step}
use Rattle.websocket.specs.declared.protocol.frame.codec.FrameStatus.{FrameStatus}
use Rattle.websocket.specs.declared.protocol.frame.codec.FrameStatus.TheVariants.{Partial, Complete}
use Rattle.websocket.specs.Content.{Content, text, binary, ping, pong, close, received_content}
use Rattle.websocket.specs.Connection.{Connection, Effect, Outgoing, can_write, failed_connection, read_step}
use Rattle.websocket.specs.View.{GivesError, KeepsRest, ReadLeaves, Returns}
use Rattle.web_wire.specs.declared.received.Stage.{Stage}
use Rattle.web_wire.specs.declared.received.Stage.TheVariants.{AwaitsOpening, Open, Over}
use Rattle.web_wire.specs.declared.received.Closing.{Closing}
use Rattle.web_wire.specs.declared.received.Closing.TheVariants.{Memory}
use Rattle.web_wire.specs.declared.received.Received.{Received}
use Rattle.web_wire.specs.declared.received.Received.TheVariants.{Waiting, Handled, Opened, Keys, Pong, Closed}
use Rattle.web_wire.specs.Frames.{connection_with, reply_of}
use Rattle.web_wire.specs.Sockets.{IsClosed, IsClosedFor, IsLeft, IsRead, IsReceivedAs, IsStep, IsStepUnless, SocketState, closing_of, fragments_at, frame_meaning, is_over, stage_after}
use Rattle.web_wire.specs.Steps.{IsOneRead, IsReadFailed, IsStepRead, ReadParts, is_closed}
use Rattle.web_wire.proofs.OpenEffects.{StaysOpen, open_effect}
use Rattle.web_wire.proofs.SocketLemmas.{frame_length, replied}

abbrev Outcome : Type 0
Outcome = Result (FrameStatus (ℕ × Effect)) Error

-- ---- the connection after a read

role_after : (message : Option Content) (conn next : Connection) → conn.role ≡ Server → StaysOpen conn message next → next.role ≡ Server
role_after None conn next role is = rw is role
role_after (Some (text words)) conn next role is = rw is role
role_after (Some (binary bytes)) conn next role is = rw is role
role_after (Some (ping bytes)) conn next role is = rw is role
role_after (Some (pong bytes)) conn next role is = rw is role
role_after (Some (close frame)) conn next role is = rw is role

-- ---- what a read returned

pub partial_read : (step : Outcome) (stage : Stage) (n : ℕ) (before after : Connection) (old new old_out new_out keys : List ℕ)
    → Returns step new (Partial n) → ReadLeaves step before after old_out new_out → KeepsRest (Partial n) old new
    → IsStepRead step stage Waiting 0 (record { connection = before; input = old; output = old_out; keys = keys })
    (record { connection = after; input = new; output = new_out; keys = keys })
partial_read (Err e) stage n before after old new old_out new_out keys returns leaves rest = absurd returns
partial_read (Ok (Partial m)) stage n before after old new old_out new_out keys returns leaves rest = (refl, refl, rw (leaves.0, leaves.1, rest) refl)
partial_read (Ok (Complete p)) stage n before after old new old_out new_out keys returns leaves rest = absurd returns

pub complete_read : (step : Outcome) (stage : Stage) (received : Received) (found : Step) (before after : Connection) (old new old_out new_out old_keys new_keys : List ℕ)
    → before ≡ connection_with before.fragments → read_step before old ≡ step → length new ≡ length old
    → Returns step new (Complete found) → ReadLeaves step before after old_out new_out → KeepsRest (Complete found) old new
    → IsReceivedAs stage (option_map (received_content new) found.message) received old_keys new_keys
    → IsStepRead step stage received found.consumed (record { connection = before; input = old; output = old_out; keys = old_keys })
    (record { connection = after; input = new; output = new_out; keys = new_keys })
complete_read (Err e) stage received found before after old new old_out new_out old_keys new_keys still is same returns leaves rest meaning = absurd returns
complete_read (Ok (Partial m)) stage received found before after old new old_out new_out old_keys new_keys still is same returns leaves rest meaning = absurd (cc returns)
complete_read (Ok (Complete p)) stage received found before after old new old_out new_out old_keys new_keys still is same returns leaves rest meaning =
    let effect = open_effect before old p (ap (λ it. can_write it.state) still) is in
    let role : after.role ≡ Server = ap (λ it. it.role) leaves.0 ∙ role_after p.1.message before p.1.next (ap (λ it. it.role) still) effect.next in (
      returns.0,
      record {
        meaning = subst (λ message. IsReceivedAs stage message received old_keys new_keys) returns.1.0 meaning;
        within = omega (arith, rest.0, same);
        rest = rest.1;
        next = leaves.0;
        replied = replied p.1.reply old_out new_out (rw role at leaves.1);
      },
    )

pub failed_read : (step : Outcome) (stage : Stage) (e : Error) (before after : Connection) (old new old_out new_out keys : List ℕ)
    → GivesError step e → after ≡ failed_connection before → new_out ≡ old_out
    → IsOneRead step stage (Closed (closing_of e)) 0 (record { connection = before; input = old; output = old_out; keys = keys })
    (record { connection = after; input = new; output = new_out; keys = keys })
failed_read step stage e before after old new old_out new_out keys (inl memory) failed same =
    inr (record { reason = ap (λ why. Closed (closing_of why)) memory; same_role = rw failed refl; same_output = same; same_keys = refl })
failed_read step stage e before after old new old_out new_out keys (inr is) failed same =
    rw is (inl (record { reason = refl; same_role = rw failed refl; same_output = same; same_keys = refl }))

-- ---- bounds, and the connection after it

reply_length : (reply : Option Outgoing) → IfSome reply (λ found. length found.payload ≤ 125) → length (reply_of reply) ≤ 135
reply_length None short = omega arith
reply_length (Some found) short = omega (arith, frame_length found.opcode found.payload (omega (arith, short)), short)

-- what holds of the parts after a read of an open connection
pub record IsBoundedRead (received : Received) (old new : ReadParts) : Type 0 where
  pub short : length new.output ≤ length old.output + 135
  pub role : new.connection.role ≡ Server
  pub still_open : is_closed received ≡ false → new.connection ≡ connection_with new.connection.fragments

after_open : (stage : Stage) (message : Option Content) (conn next : Connection) → conn ≡ connection_with conn.fragments
    → is_closed (frame_meaning stage message) ≡ false → StaysOpen conn message next → next ≡ connection_with next.fragments
after_open stage None conn next still not is = rw is (ap {A = Connection} (λ it. record it { fragments = next.fragments }) still)
after_open stage (Some (text words)) conn next still not is = rw is (ap {A = Connection} (λ it. record it { fragments = None }) still)
after_open stage (Some (binary bytes)) conn next still not is = rw is (ap {A = Connection} (λ it. record it { fragments = None }) still)
after_open stage (Some (ping bytes)) conn next still not is = rw is still
after_open stage (Some (pong bytes)) conn next still not is = rw is still
after_open stage (Some (close frame)) conn next still not is = absurd (cc not)

not_closed : (stage : Stage) (message : Option Content) (received : Received) (old_keys new_keys : List ℕ) → IsReceivedAs stage message received old_keys new_keys
    → is_closed received ≡ false → is_closed (frame_meaning stage message) ≡ false
not_closed stage message received old_keys new_keys (inl is) not = rw (is.0) at not
not_closed stage message received old_keys new_keys (inr is) not = absurd (cc (rw (is.0) at not))

failed_bounded : (closing : Closing) (received : Received) (old new : ReadParts) → old.connection.role ≡ Server → IsReadFailed closing received old new → IsBoundedRead received old new
failed_bounded closing received old new role failed = record {
  short = rw (failed.same_output) (omega arith);
  role = failed.same_role ∙ role;
  still_open = λ not. absurd (cc (rw (failed.reason) at not));
}

step_bounded : (conn : Connection) (step : Outcome) (stage : Stage) (received : Received) (count : ℕ) (old new : ReadParts) → old.connection ≡ conn → conn ≡ connection_with conn.fragments
    → read_step conn old.input ≡ step → IsStepRead step stage received count old new → IsBoundedRead received old new
step_bounded conn (Ok (Partial n)) stage received count old new same still is read =
    rw (read.2) (record { short = omega arith; role = ap (λ it. it.role) (same ∙ still); still_open = λ _. rw same still })
step_bounded conn (Ok (Complete p)) stage received count old new same still is read =
    let effect = open_effect conn old.input p (ap (λ it. can_write it.state) still) is in
    let frame = read.1 in record {
      short = rw (frame.replied) (omega (arith, length-append old.output (reply_of p.1.reply), reply_length p.1.reply effect.reply));
      role = rw (frame.next) (role_after p.1.message conn p.1.next (ap (λ it. it.role) still) effect.next);
      still_open = λ not. rw (frame.next) (after_open stage p.1.message conn p.1.next still (not_closed stage p.1.message received old.keys new.keys frame.meaning not) effect.next);
    }
step_bounded conn (Err e) stage received count old new same still is read =
    failed_bounded (closing_of e) received old new (ap (λ it. it.role) (same ∙ still)) read

pub one_bounded : (stage : Stage) (received : Received) (count : ℕ) (old new : ReadParts) → old.connection ≡ connection_with old.connection.fragments
    → IsOneRead (read_step old.connection old.input) stage received count old new → IsBoundedRead received old new
one_bounded stage received count old new still (inl read) = step_bounded old.connection _ stage received count old new refl still refl read
one_bounded stage received count old new still (inr failed) = failed_bounded Memory received old new (ap (λ it. it.role) still) failed

-- ---- the state after it

abbrev pub state_with : Stage → ReadParts → SocketState
state_with stage parts = record { stage = stage; fragments = parts.connection.fragments; input = parts.input; output = parts.output }

left_open : (received : Received) (old : SocketState) (count : ℕ) (effect : Effect) (new : SocketState) → is_closed received ≡ false
    → new ≡ record { stage = stage_after old.stage received; fragments = effect.next.fragments; input = drop count old.input; output = old.output ++ reply_of effect.reply }
    → IsLeft received old count effect new
left_open Waiting old count effect new not is = is
left_open Handled old count effect new not is = is
left_open (Opened opening) old count effect new not is = is
left_open Keys old count effect new not is = is
left_open Pong old count effect new not is = is
left_open (Closed closing) old count effect new not is = absurd (cc not)

-- the state after a read that doesn't close
abbrev pub open_state : Stage → Received → (count : ℕ) → ReadParts → SocketState
open_state stage received count parts = record { stage = stage_after stage received; fragments = parts.connection.fragments; input = drop count parts.input; output = parts.output }

pub read_open : (step : Outcome) (stage : Stage) (received : Received) (count : ℕ) (old new : ReadParts) → is_closed received ≡ false → IsOneRead step stage received count old new
    → IsStep step (state_with stage old) received old.keys new.keys (open_state stage received count new)
read_open step stage received count old new not (inr failed) = absurd (cc (rw (failed.reason) at not))
read_open (Ok (Partial n)) stage received count old new not (inl read) = rw (read.0, read.1, read.2) (refl, refl, refl)
read_open (Ok (Complete p)) stage received count old new not (inl read) =
    let frame = read.1 in (frame.meaning, left_open received (state_with stage old) p.0 p.1 (open_state stage received count new) not (rw (frame.next, frame.replied, frame.rest, read.0) refl))
read_open (Err e) stage received count old new not (inl read) = absurd (cc (rw (read.reason) at not))

pub read_closed : (step : Outcome) (stage : Stage) (closing : Closing) (count : ℕ) (old new : ReadParts) (state : SocketState) → IsOneRead step stage (Closed closing) count old new
    → IsClosed closing new.output state
    → IsStep step (state_with stage old) (Closed closing) old.keys new.keys state ⊎ IsClosedFor Memory (state_with stage old) (Closed closing) old.keys new.keys state
read_closed step stage closing count old new state (inr failed) closed =
    let same : closing ≡ Memory = cc (failed.reason) in
    inr (failed.reason, failed.same_keys, rw (sym same, sym failed.same_output) closed)
read_closed (Ok (Partial n)) stage closing count old new state (inl read) closed = absurd (cc (read.0))
read_closed (Ok (Complete p)) stage closing count old new state (inl read) closed =
    let frame = read.1 in inl (frame.meaning, rw (sym frame.replied) closed)
read_closed (Err e) stage closing count old new state (inl read) closed =
    let same : closing ≡ closing_of e = cc (read.reason) in
    inl (read.reason, read.same_keys, rw (sym same, sym read.same_output) closed)

pub count_within : (step : Outcome) (stage : Stage) (received : Received) (count : ℕ) (old new : ReadParts) → is_closed received ≡ false → IsOneRead step stage received count old new
    → count ≤ length new.input
count_within step stage received count old new not (inr failed) = absurd (cc (rw (failed.reason) at not))
count_within (Ok (Partial n)) stage received count old new not (inl read) = omega (arith, read.1)
count_within (Ok (Complete p)) stage received count old new not (inl read) = read.1.within
count_within (Err e) stage received count old new not (inl read) = absurd (cc (rw (read.reason) at not))

-- ---- the contract of a read

-- a socket with these parts, as its callers see it
abbrev pub view_with : Stage → ReadParts → SocketState
view_with stage parts = record { stage = stage; fragments = fragments_at stage parts.connection; input = parts.input; output = parts.output }

alive_view : (stage : Stage) (parts : ReadParts) → is_over stage ≡ false → state_with stage parts ≡ view_with stage parts
alive_view AwaitsOpening parts alive = refl
alive_view Open parts alive = refl
alive_view Over parts alive = absurd (cc alive)

alive_fragments : (stage : Stage) (conn : Connection) → is_over stage ≡ false → conn.fragments ≡ fragments_at stage conn
alive_fragments AwaitsOpening conn alive = refl
alive_fragments Open conn alive = refl
alive_fragments Over conn alive = absurd (cc alive)

alive_after : (stage : Stage) (received : Received) → is_over stage ≡ false → is_over (stage_after stage received) ≡ false
alive_after stage Waiting alive = alive
alive_after stage Handled alive = alive
alive_after stage (Opened opening) alive = refl
alive_after stage Keys alive = alive
alive_after stage Pong alive = alive
alive_after stage (Closed closing) alive = alive

read_unless : (paused : Bool) (old : SocketState) (received : Received) (old_keys new_keys : List ℕ) (new : SocketState) → paused ≡ false
    → IsStep (read_step (connection_with old.fragments) old.input) old received old_keys new_keys new ⊎ IsClosedFor Memory old received old_keys new_keys new
    → IsStepUnless paused old received old_keys new_keys new
read_unless true old received old_keys new_keys new test is = absurd (cc test)
read_unless false old received old_keys new_keys new test is = is

paused_if : (over : Bool) (output : List ℕ) → over ≡ false → length output ≤ 4096 → (if over then true else nat_lt 4096 (length output)) ≡ false
paused_if true output alive short = absurd (cc alive)
paused_if false output alive short = ltb_false 4096 (length output) short

from_step : (stage : Stage) (received : Received) (old new : ReadParts) (state : SocketState) → is_over stage ≡ false → length old.output ≤ 4096 → old.connection ≡ connection_with old.connection.fragments
    → IsStep (read_step old.connection old.input) (state_with stage old) received old.keys new.keys state ⊎ IsClosedFor Memory (state_with stage old) received old.keys new.keys state
    → IsRead (view_with stage old) received old.keys new.keys state
from_step stage received old new state alive short still is =
    subst (λ (before : SocketState). IsRead before received old.keys new.keys state) (alive_view stage old alive)
    (read_unless _ (state_with stage old) received old.keys new.keys state (paused_if (is_over stage) old.output alive short)
    (subst (λ (conn : Connection). IsStep (read_step conn old.input) (state_with stage old) received old.keys new.keys state ⊎ IsClosedFor Memory (state_with stage old) received old.keys new.keys state) still is))

pub closed_read : (stage : Stage) (closing : Closing) (received : Received) (count : ℕ) (old new : ReadParts) (state : SocketState) → is_over stage ≡ false → length old.output ≤ 4096
    → old.connection ≡ connection_with old.connection.fragments → IsOneRead (read_step old.connection old.input) stage received count old new → received ≡ Closed closing
    → IsClosed closing new.output state → IsRead (view_with stage old) received old.keys new.keys state
closed_read stage closing received count old new state alive short still one is closed =
    subst (λ (it : Received). IsRead (view_with stage old) it old.keys new.keys state) (sym is)
    (from_step stage (Closed closing) old new state alive short still
    (read_closed (read_step old.connection old.input) stage closing count old new state
    (subst (λ (it : Received). IsOneRead (read_step old.connection old.input) stage it count old new) is one) closed))

pub open_read : (stage next : Stage) (received : Received) (count : ℕ) (old new : ReadParts) (input : List ℕ) → is_over stage ≡ false → length old.output ≤ 4096
    → old.connection ≡ connection_with old.connection.fragments → IsOneRead (read_step old.connection old.input) stage received count old new → is_closed received ≡ false
    → next ≡ stage_after stage received → input ≡ drop count new.input
    → IsRead (view_with stage old) received old.keys new.keys (record { stage = next; fragments = fragments_at next new.connection; input = input; output = new.output })
open_read stage next received count old new input alive short still one not next_is input_is =
    let found = from_step stage received old new (open_state stage received count new) alive short still (inl (read_open (read_step old.connection old.input) stage received count old new not one)) in
    let same : open_state stage received count new ≡ record { stage = next; fragments = fragments_at next new.connection; input = input; output = new.output } =
    ap (λ fragments. record (open_state stage received count new) { fragments = fragments }) (alive_fragments (stage_after stage received) new.connection (alive_after stage received alive))
    ∙ ap (λ (it : Stage). record { stage = it; fragments = fragments_at it new.connection; input = drop count new.input; output = new.output }) (sym next_is)
    ∙ ap (λ (it : List ℕ). record { stage = next; fragments = fragments_at next new.connection; input = it; output = new.output }) (sym input_is) in
    subst (λ (after : SocketState). IsRead (view_with stage old) received old.keys new.keys after) same found

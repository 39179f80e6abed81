-- What a call of `feed` returns (our profile).
use Rattle.std.specs.Prelude.{◌≡◌, ◌<◌, ◌≤◌, ◌+◌, ◌⊎◌, ℕ, List, take, length}
use Rattle.tn3270e_msg.specs.declared.cause.Fed.{Fed}
use Rattle.tn3270e_msg.specs.declared.cause.Stop.{Stop}
use Rattle.tn3270e_msg.specs.declared.cause.Stop.TheVariants.{Going, Memory, Closed as ClosedStop}
use Rattle.term_core.specs.State.{Terminal, Link, Detached, Attached, Closed}
use Rattle.term_core.specs.Bytes.{TakesBytes}
use Rattle.term_core.specs.Room.{reply_room}

abbrev pub IsAttached : Link → Type 0
IsAttached Detached = ⊥
IsAttached (Attached rest talk) = Unit {0}
IsAttached (Closed cause) = ⊥

-- holds if an output buffer of this capacity that holds these bytes has less room left than the largest reply takes
abbrev pub LacksReplyRoom : ℕ → List ℕ → Type 0
LacksReplyRoom room out = room < length out + reply_room

-- holds if feeding stops for this reason, with an output buffer of this capacity: at the end of the bytes, or at once
-- if the terminal isn't attached; before a byte, because the largest reply has no room; or because the terminal closed
-- the connection
abbrev pub StopsFor : ℕ → Stop → Terminal → List ℕ → ℕ → Terminal → Type 0
StopsFor room Going old bytes taken new = ((taken ≡ length bytes) × IsAttached new.link)
    ⊎ ((taken ≡ 0) × (old.link ≡ Detached))
StopsFor room Memory old bytes taken new = (taken < length bytes) × IsAttached new.link × LacksReplyRoom room new.out
StopsFor room (ClosedStop cause) old bytes taken new = new.link ≡ Closed cause

-- the terminal took the first `fed.taken` bytes; `room` is then the capacity of its output buffer
pub record Feeds (room : ℕ) (old : Terminal) (bytes : List ℕ) (fed : Fed) (new : Terminal) : Type 0 where
  pub few : fed.taken ≤ length bytes
  pub takes : TakesBytes old (take fed.taken bytes) new
  pub stops : StopsFor room fed.stop old bytes fed.taken new

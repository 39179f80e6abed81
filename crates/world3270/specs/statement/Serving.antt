-- A turn of serving a connection, as `serve_turn` of host_core promises it (`Serves`), is moves of
-- `EveryTerminalOverBytes` on that connection, and happens elsewhere for each other one; so that theorem holds at a host
-- that serves (our profile).
use Rattle.std.specs.Prelude.{◌≡◌, ◌≢◌, ◌∷◌, ◌++◌, ℕ, List, [], take}
use Rattle.lu_pool.specs.HolderLaws.{IsSound as IsSoundPool}
use Rattle.panels.specs.Panel.{AreSound}
use Rattle.host_core.specs.Application.{application_of}
use Rattle.host_core.specs.Feeds.{IsOpen}
use Rattle.host_core.specs.Serves.{Serves, taken_by}
use Rattle.host_core.specs.State.{Host, state_at}
use Rattle.host_core.specs.declared.links.LinkRead.{LinkRead}
use Rattle.host_core.specs.declared.links.LinkWrite.{LinkWrite}
use Rattle.host_core.specs.declared.serving.Served.{Served}
use Rattle.host_core.specs.declared.serving.Served.TheVariants.{Memory}
use Rattle.world3270.specs.model.TrackedTerminals.{TrackedTerminal}
use Rattle.world3270.specs.statement.EveryTerminal.{LinkWithReport}
use Rattle.world3270.specs.statement.EveryTerminalBytes.{BeginsOverBytes, IsElsewhere, IsHost, LeadTo, Moves, OverBytes, Pressed, RightOverBytes}

-- Holds if moves lead from the connection before a turn to the one after it. `unread`: bytes that the turn's read got
-- and the host didn't take. There are none unless the connection closed or memory was refused; nothing more is fed then.
pub record IsTurn (number : ℕ) (old new : OverBytes) (answer : Served) : Type 0 where
  pub unread : List ℕ
  pub states : List OverBytes
  pub lead : LeadTo (application_of old.host.panels) number states old (record new { up = unread ++ new.up })
  pub all_read : IsOpen (state_at number new.host) → answer ≢ Memory → unread ≡ []

-- Holds if moves lead from the begin to the connection; so the theorem over bytes holds of it.
pub record IsAfterMoves (number : ℕ) (lu : List ℕ) (begin : LinkWithReport) (old new : OverBytes) : Type 0 where
  pub states : List OverBytes
  pub lead : LeadTo (application_of old.host.panels) number states old new
  pub right : RightOverBytes (application_of old.host.panels) number lu begin states old new lead

module _ {L : Type 0} (gave : L → ℕ → ℕ → List ℕ → LinkRead → L → Type 0)
    (took : L → ℕ → List ℕ → LinkWrite → L → Type 0) where
  -- Holds if the connection's socket is two queues of bytes, `up` to the host and `down` to the terminal: a read gives
  -- the first bytes of `up`, and a write appends to `down` the first bytes of those that it is handed.
  pub record AreQueues (number : ℕ) (up down : L → List ℕ) : Type 0 where
    pub reads : (old new : L) (room : ℕ) (bytes : List ℕ) (got : LinkRead) → gave old number room bytes got new
        → (up old ≡ bytes ++ up new) × (down new ≡ down old)
    pub writes : (old new : L) (bytes : List ℕ) (wrote : LinkWrite) → took old number bytes wrote new
        → (down new ≡ down old ++ take (taken_by wrote) bytes) × (up new ≡ up old)

  -- the connection, with these queues under way
  abbrev pub over_queues : (up down : L → List ℕ) (host : Host) (links : L) (tracked : TrackedTerminal)
      (pressed : Pressed) → OverBytes
  over_queues up down host links tracked pressed =
      record { host = host; down = down links; up = up links; tracked = tracked; pressed = pressed }

  -- A turn of serving is moves on the connection that it serves.
  abbrev pub TurnsAreMoves : Type 0
  TurnsAreMoves = (number : ℕ) (up down : L → List ℕ) → AreQueues number up down
      → (old : Host) (links : L) (answer : Served) (new : Host) (left : L)
      → Serves gave took number old links answer new left → (tracked : TrackedTerminal) (pressed : Pressed)
      → IsTurn number (over_queues up down old links tracked pressed) (over_queues up down new left tracked pressed)
      answer

  -- For each other connection it happens elsewhere.
  abbrev pub TurnsAreElsewhere : Type 0
  TurnsAreElsewhere = (number other : ℕ) → other ≢ number
      → (old : Host) (links : L) (answer : Served) (new : Host) (left : L)
      → Serves gave took number old links answer new left → IsSoundPool old.pool → IsHost new → IsElsewhere other old new

  -- ---- many turns

  -- the host, with the sockets of its connections; the terminal on this one; and `pressed`, as in `OverBytes`
  pub record ServedState : Type 0 where
    pub host : Host
    pub links : L
    pub tracked : TrackedTerminal
    pub pressed : Pressed

  abbrev pub over_served : (up down : L → List ℕ) → ServedState → OverBytes
  over_served up down state = over_queues up down state.host state.links state.tracked state.pressed

  -- One step: a turn of serving for this connection, to which memory isn't refused; or any move.
  pub data Happens (number : ℕ) (up down : L → List ℕ) (old new : ServedState) : Type 0 where
    turns : (answer : Served) → answer ≢ Memory → Serves gave took number old.host old.links answer new.host new.links
        → new.tracked ≡ old.tracked → new.pressed ≡ old.pressed → Happens number up down old new
    moves : Moves (application_of old.host.panels) number (over_served up down old) (over_served up down new)
        → Happens number up down old new

  -- Holds if such steps lead from `old` through these states to `new`.
  abbrev pub Happen : ℕ → (up down : L → List ℕ) → List ServedState → ServedState → ServedState → Type 0
  Happen number up down [] old new = new ≡ old
  Happen number up down (next ∷ others) old new = Happens number up down old next × Happen number up down others next new

  -- From each begin of `EveryTerminalOverBytes`, after any moves, and then any turns of serving and any moves. (The begin
  -- lies within the turn in which the host agrees; the rest of that turn is moves.)
  abbrev pub EveryTerminalServed : Type 0
  EveryTerminalServed = (number : ℕ) (lu : List ℕ) (up down : L → List ℕ) → AreQueues number up down
      → (begin : OverBytes) (old new : ServedState) (before : List OverBytes) (states : List ServedState)
      → let app = application_of begin.host.panels in
      AreSound begin.host.panels → (begins : BeginsOverBytes app number lu begin)
      → LeadTo app number before begin (over_served up down old) → Happen number up down states old new
      → IsAfterMoves number lu begins.begin begin (over_served up down new)

-- A live terminal with its connection and its tty: what a turn reads, sends and writes (our profile).
use Rattle.std.specs.Prelude.{◌≡◌, ◌⊎◌, ◌==◌, ◌&&◌, ◌||◌, not, ℕ, Bool, true, false, List, [], length, None, Result, Ok, Err, drop}
use Rattle.std.specs.declared.io.Error.{Error}
use Rattle.host_core.specs.declared.links.LinkRead.{LinkRead}
use Rattle.host_core.specs.declared.links.LinkRead.TheVariants as read
use Rattle.host_core.specs.declared.links.LinkWrite.{LinkWrite}
use Rattle.host_core.specs.declared.links.LinkWrite.TheVariants as write
use Rattle.term_core.specs.State.{is_bound, lost, phase_of}
use Rattle.term_core.specs.declared.phase.TermPhase.{TermPhase}
use Rattle.term_core.specs.declared.phase.TermPhase.TheVariants as phase
use Rattle.jobs.specs.Counting.{CutShort, Output, Written, chunk_size}
use Rattle.jobs.specs.declared.fault.Fault.{Fault}
use Rattle.jobs.specs.declared.live_fault.LiveFault.{LiveFault}
use Rattle.operate.specs.Live.{Live, TakesTurn, Types}
use Rattle.jobs.specs.Sockets.{SocketSlot, Gives, Takes, emptied, has_taken}
use Rattle.jobs.specs.declared.streams.Answer.{Answer}

-- the live terminal after a write: the bytes that it took are dropped from the output
abbrev pub sent_by : LinkWrite → Live → Live
sent_by (write.Took count) live =
    record live {
      seat = record live.seat { terminal = record live.seat.terminal { out = drop count live.seat.terminal.out } };
    }
sent_by _ live = live

-- holds if the terminal has lost its connection
abbrev pub lost_live : Live → Live → Type 0
lost_live old new = (new.seat ≡ record old.seat { terminal = lost old.seat.terminal; typeahead = []; trouble = None })
    × (new.kept ≡ old.kept)

-- whether nothing was received or typed, and the tty shows the current screen
abbrev pub is_quiet : List ℕ → List ℕ → Bool → Bool
is_quiet came typed stale = length came == 0 && length typed == 0 && not stale

-- A session: the live terminal; its connection of type S, if there is one; the keys; the tty, and the bytes that must
-- still be written there; whether the tty may show another screen than the terminal's; and whether the terminal was
-- ever bound to an LU.
pub record Session (S K T : Type 0) : Type 0 where
  pub live : Live
  pub socket : SocketSlot S
  pub keys : K
  pub tty : T
  pub drawn : List ℕ
  pub stale : Bool
  pub was_bound : Bool

-- Holds if the terminal's output is written to its connection once.
pub record SendsOnce {S : Type 0} (took : S → List ℕ → Result ℕ Error → S → Type 0) (old new : Live)
    (socket_old socket_new : SocketSlot S) (sent : Bool) : Type 0 where
  pub answer : LinkWrite
  pub takes : Takes took socket_old old.seat.terminal.out answer socket_new
  pub live : new ≡ sent_by answer old
  pub moved : sent ≡ has_taken answer

-- how many bytes a read returned
abbrev pub got_count : LinkRead → ℕ
got_count (read.Got count) = count
got_count _ = 0

-- ---- the faults of a turn

-- the result if the connection is lost for this fault: it ends the run only if the terminal was never bound to an LU
abbrev pub loss_result : (was_bound : Bool) → Fault → Result Unit Fault
loss_result true fault = Ok tt
loss_result false fault = Err fault

-- the result after this answer to a read of the connection
abbrev pub read_result : (was_bound : Bool) → LinkRead → Result Unit Fault
read_result was_bound read.Ended = loss_result was_bound (Fault.Live LiveFault.HostEnded)
read_result was_bound read.Failed = loss_result was_bound Fault.SocketFailed
read_result was_bound (read.Got count) = Ok tt
read_result was_bound read.NotNow = Ok tt

-- the result of a turn after which the terminal is in this phase: it is a fault if the host rejected the request for an
-- LU, or if the terminal has closed the connection
abbrev pub phase_result : TermPhase → Result Unit Fault
phase_result (phase.Refused reason) = Err (Fault.Live (LiveFault.LuRefused reason))
phase_result (phase.Closed cause) = Err (Fault.Live (LiveFault.Closed cause))
phase_result phase.Idle = Ok tt
phase_result phase.Talking = Ok tt
phase_result (phase.Bound lu) = Ok tt

module _ {S K T : Type 0} where
  -- holds if the output is written once; nothing else changes
  pub record SendsOver (took : S → List ℕ → Result ℕ Error → S → Type 0) (old new : Session S K T)
      (moved : Bool) : Type 0 where
    pub sends : SendsOnce took old.live new.live old.socket new.socket moved
    pub rest : new ≡ record old { live = new.live; socket = new.socket }

  -- holds if the connection ended or failed, and the terminal has lost it
  pub record Loses (old new : Session S K T) : Type 0 where
    pub live : lost_live old.live new.live
    pub rest : new ≡ record old { live = new.live; socket = emptied old.socket; stale = true }

  -- holds for the session after this answer to a read of the connection
  abbrev pub AfterRead : LinkRead → (old new : Session S K T) → Type 0
  AfterRead read.Ended old new = Loses old new
  AfterRead read.Failed old new = Loses old new
  AfterRead _ old new = new ≡ old

  -- Holds if the connection is read once, and gives these bytes. If it ended or failed, the terminal has lost it.
  pub record ReadsHost (gave : S → ℕ → List ℕ → Result ℕ Error → S → Type 0) (came : List ℕ)
      (old new : Session S K T) : Type 0 where
    pub answer : LinkRead
    pub socket : SocketSlot S
    pub gives : Gives gave old.socket chunk_size came answer socket
    pub after : AfterRead answer (record old { socket = socket }) new

  -- Holds if the connection is read once, and ended or failed before the terminal was ever bound, with this fault.
  pub record FailsToHear (gave : S → ℕ → List ℕ → Result ℕ Error → S → Type 0) (fault : Fault)
      (old new : Session S K T) : Type 0 where
    pub answer : LinkRead
    pub came : List ℕ
    pub socket : SocketSlot S
    pub gives : Gives gave old.socket chunk_size came answer socket
    pub is : read_result old.was_bound answer ≡ Err fault
    pub after : AfterRead answer (record old { socket = socket }) new

  -- holds if a read of the keys fails
  pub record FailsToReadKeys (gave : K → ℕ → List ℕ → Answer → K → Type 0) (old new : Session S K T) : Type 0 where
    pub typed : List ℕ
    pub gives : gave old.keys chunk_size typed Answer.Failed new.keys
    pub rest : new ≡ record old { keys = new.keys }

  -- holds if the keys are read once, and give these bytes
  pub record ReadsKeys (gave : K → ℕ → List ℕ → Answer → K → Type 0) (typed : List ℕ)
      (old new : Session S K T) : Type 0 where
    pub answer : Answer
    pub gives : gave old.keys chunk_size typed answer new.keys
    pub rest : new ≡ record old { keys = new.keys }

  -- holds if nothing is drawn; a read without a byte may end an incomplete keystroke
  pub record Rests (typed : List ℕ) (old new : Session S K T) : Type 0 where
    pub types : Types typed old.live new.live
    pub rest : new ≡ record old { live = new.live }

  -- holds for a turn of the live terminal, whose drawing is appended to other bytes
  pub record Draws (came typed : List ℕ) (old new : Session S K T) (drawn_old drawn_new : List ℕ) : Type 0 where
    pub turned : TakesTurn came typed old.live new.live drawn_old drawn_new
    pub rest : new ≡ record old { live = new.live; stale = false }

  -- holds for the effect of the bytes received and the bytes typed, if the caller takes the drawing
  abbrev pub TakesBytes : (came typed : List ℕ) → (old new : Session S K T) → (drawn_old drawn_new : List ℕ) → Type 0
  TakesBytes came typed old new drawn_old drawn_new =
      ((is_quiet came typed (old.stale || old.live.seat.rings) ≡ true) × Rests typed old new × (drawn_new ≡ drawn_old))
      ⊎ ((is_quiet came typed (old.stale || old.live.seat.rings) ≡ false) × Draws came typed old new drawn_old drawn_new)

  -- Holds for a turn in which these bytes were typed: the connection is read once, the bytes are taken, the drawing is
  -- appended to other bytes, and the output is written to the connection once.
  pub record TakesTurnTyped (gave : S → ℕ → List ℕ → Result ℕ Error → S → Type 0)
      (took : S → List ℕ → Result ℕ Error → S → Type 0) (typed : List ℕ) (old new : Session S K T)
      (drawn_old drawn_new : List ℕ) : Type 0 where
    pub came : List ℕ
    pub heard : Session S K T
    pub hears : ReadsHost gave came old heard
    pub taken : Session S K T
    pub takes : TakesBytes came typed heard taken drawn_old drawn_new
    pub sent : Session S K T
    pub moved : Bool
    pub sends : SendsOver took taken sent moved
    pub noted : new ≡ record sent { was_bound = sent.was_bound || is_bound (phase_of sent.live.seat.terminal.link) }

  -- Holds if a turn in which these bytes were typed ends by this fault: the connection is lost before the terminal was
  -- ever bound; or memory is refused; or the turn is complete, and the terminal's phase is a fault.
  pub data BreaksTurnTyped (gave : S → ℕ → List ℕ → Result ℕ Error → S → Type 0)
      (took : S → List ℕ → Result ℕ Error → S → Type 0) (typed : List ℕ) (old new : Session S K T)
      (drawn_old drawn_new : List ℕ) : Fault → Type 0 where
    at_read : (fault : Fault) → FailsToHear gave fault old new
        → BreaksTurnTyped gave took typed old new drawn_old drawn_new fault
    for_memory : BreaksTurnTyped gave took typed old new drawn_old drawn_new Fault.NoMemory
    by_phase : (fault : Fault) → TakesTurnTyped gave took typed old new drawn_old drawn_new
        → phase_result (phase_of new.live.seat.terminal.link) ≡ Err fault
        → BreaksTurnTyped gave took typed old new drawn_old drawn_new fault

  module _ (seen : T → Output) where
    -- holds if all bytes to be drawn are written to the tty
    pub record WritesTty (old new : Session S K T) : Type 0 where
      pub written : Written (seen old.tty) (seen new.tty) old.drawn
      pub rest : new ≡ record old { tty = new.tty; drawn = [] }

    -- holds for a turn of the live terminal, after which the tty is drawn
    pub record Works (came typed : List ℕ) (old new : Session S K T) : Type 0 where
      pub drawn : List ℕ
      pub turned : TakesTurn came typed old.live new.live old.drawn drawn
      pub writes : WritesTty (record old { live = new.live; drawn = drawn; stale = false }) new

    -- holds if taking and drawing these bytes fails: for memory, or since the tty can't be written
    abbrev pub FailsToTake : Fault → (old new : Session S K T) → Type 0
    FailsToTake fault old new = (fault ≡ Fault.NoMemory)
        ⊎ ((fault ≡ Fault.OutputFailed) × (drawn : List ℕ) × CutShort (seen old.tty) (seen new.tty) drawn)

    -- holds for the effect of the bytes received and the bytes typed
    abbrev pub TakesInput : (came typed : List ℕ) → (old new : Session S K T) → Type 0
    TakesInput came typed old new =
        ((is_quiet came typed (old.stale || old.live.seat.rings) ≡ true) × Rests typed old new)
        ⊎ ((is_quiet came typed (old.stale || old.live.seat.rings) ≡ false) × Works came typed old new)

  -- Holds for a turn: the connection and the keys are read once, the bytes are taken, the tty is written, and the
  -- output is written to the connection once.
  pub record TakesTurnOver (gave : S → ℕ → List ℕ → Result ℕ Error → S → Type 0)
      (took : S → List ℕ → Result ℕ Error → S → Type 0)
      (key_gave : K → ℕ → List ℕ → Answer → K → Type 0) (seen : T → Output) (old new : Session S K T) : Type 0 where
    pub came : List ℕ
    pub heard : Session S K T
    pub hears : ReadsHost gave came old heard
    pub typed : List ℕ
    pub keyed : Session S K T
    pub keys : ReadsKeys key_gave typed heard keyed
    pub taken : Session S K T
    pub takes : TakesInput seen came typed keyed taken
    pub sent : Session S K T
    pub moved : Bool
    pub sends : SendsOver took taken sent moved
    pub noted : new ≡ record sent { was_bound = sent.was_bound || is_bound (phase_of sent.live.seat.terminal.link) }

  -- Holds if a turn ends by this fault: the connection is lost before the terminal was ever bound; or the keys can't be
  -- read, once the connection was; or the tty can't be written; or memory is refused; or the turn is complete, and the
  -- terminal's phase is a fault.
  pub data BreaksTurnOver (gave : S → ℕ → List ℕ → Result ℕ Error → S → Type 0)
      (took : S → List ℕ → Result ℕ Error → S → Type 0)
      (key_gave : K → ℕ → List ℕ → Answer → K → Type 0) (seen : T → Output)
      (old new : Session S K T) : Fault → Type 0 where
    at_read : (fault : Fault) → FailsToHear gave fault old new → BreaksTurnOver gave took key_gave seen old new fault
    at_keys : (came : List ℕ) (heard : Session S K T) → ReadsHost gave came old heard
        → FailsToReadKeys key_gave heard new → BreaksTurnOver gave took key_gave seen old new Fault.InputNotRead
    at_tty : (drawn : List ℕ) → CutShort (seen old.tty) (seen new.tty) drawn
        → BreaksTurnOver gave took key_gave seen old new Fault.OutputFailed
    for_memory : BreaksTurnOver gave took key_gave seen old new Fault.NoMemory
    by_phase : (fault : Fault) → TakesTurnOver gave took key_gave seen old new
        → phase_result (phase_of new.live.seat.terminal.link) ≡ Err fault
        → BreaksTurnOver gave took key_gave seen old new fault

-- The connections of a host over sockets (our profile): the socket of each connection number, and the effect of a read
-- and a write.
use Rattle.std.specs.Prelude.{◌≡◌, ◌<◌, ◌≤◌, ◌+◌, ◌-◌, ◌^◌, min, ◌&&◌, ◌||◌, ◌==◌, ⊤, ℕ, Bool, true, false, not, ltb, List, [], length, replicate, slice_index, slice_set, slice_index_or, Option, Some, None, is_some, Result}
use Rattle.std.specs.declared.io.Error.{Error}
use Rattle.host_core.specs.State.{most_connections}
use Rattle.host_core.specs.declared.links.LinkRead.{LinkRead}
use Rattle.host_core.specs.declared.links.LinkRead.TheVariants as read
use Rattle.host_core.specs.declared.links.LinkWrite.{LinkWrite}
use Rattle.host_core.specs.declared.links.LinkWrite.TheVariants as write
use Rattle.jobs.specs.RawCalls.{link_read, link_write}

-- The slot of a connection number: the socket, if there is a connection; the number of unsent bytes; how many of the
-- number's connections ended and failed; and the bytes received and sent on the last connection.
pub record SocketSlot (S : Type 0) : Type 0 where
  pub socket : Option S
  pub waiting : ℕ
  pub ends : ℕ
  pub failures : ℕ
  pub received : ℕ
  pub sent : ℕ

abbrev pub unused : {S : Type 0} → SocketSlot S
unused = record { socket = None; waiting = 0; ends = 0; failures = 0; received = 0; sent = 0 }

abbrev pub is_connected : {S : Type 0} → SocketSlot S → Bool
is_connected slot = is_some slot.socket

-- reads pause while more bytes than this are unsent
abbrev pub most_waiting : ℕ
most_waiting = 65536

-- whether reads are paused
abbrev pub is_held_back : ℕ → Bool
is_held_back waiting = ltb most_waiting waiting

-- whether there is a connection, reads aren't paused, and the buffer has room
abbrev pub may_be_read : {S : Type 0} → SocketSlot S → ℕ → Bool
may_be_read slot room = is_connected slot && not (is_held_back slot.waiting) && ltb 0 room

-- whether there is a connection, and there are bytes to send
abbrev pub may_be_written : {S : Type 0} → SocketSlot S → List ℕ → Bool
may_be_written slot bytes = is_connected slot && ltb 0 (length bytes)

-- ---- counts

-- the greatest value of a count
abbrev pub last_count : ℕ
last_count = 2 ^ 64 - 1

-- holds if a count rises by one, or if it is at its greatest value
abbrev pub Raises : Bool → ℕ → ℕ → Type 0
Raises true old new = (old < last_count) × (new ≡ old + 1)
Raises false old new = (old ≡ last_count) × (new ≡ old)

-- a count of bytes after more bytes; it stops at its greatest value
abbrev pub counted : (count more : ℕ) → ℕ
counted count more = min (count + more) last_count

-- ---- one call of a socket

-- holds for at least one byte, and at most as many as there is room for
abbrev pub IsValidReadCount : LinkRead → ℕ → Type 0
IsValidReadCount (read.Got count) room = (0 < count) × (count ≤ room)
IsValidReadCount read.NotNow room = ⊤
IsValidReadCount read.Ended room = ⊤
IsValidReadCount read.Failed room = ⊤

-- whether bytes begin with IAC (RFC 854)
abbrev pub begins_with_iac : List ℕ → Bool
begins_with_iac bytes = slice_index bytes 0 == 255

-- holds if the bytes of a read may be the first of a connection
abbrev pub MayBegin : LinkRead → List ℕ → Type 0
MayBegin (read.Got count) bytes = begins_with_iac bytes ≡ true
MayBegin read.NotNow bytes = ⊤
MayBegin read.Ended bytes = ⊤
MayBegin read.Failed bytes = ⊤

-- holds for at least one byte, and at most as many as the call was given
abbrev pub TookSome : LinkWrite → ℕ → Type 0
TookSome (write.Took count) given = (0 < count) × (count ≤ given)
TookSome write.NotNow given = ⊤
TookSome write.Failed given = ⊤

module _ {S : Type 0} where
  -- holds if a socket is read once, and its answer has this meaning
  pub record IsReadOnce (gave : S → ℕ → List ℕ → Result ℕ Error → S → Type 0) (old : S) (room : ℕ) (bytes : List ℕ)
      (link_result : LinkRead) (new : S) : Type 0 where
    pub answer : Result ℕ Error
    pub called : gave old room bytes answer new
    pub taken : link_result ≡ link_read answer

  -- Holds if a socket is read once, and `received` bytes came before. The read fails, too, if the first byte of the
  -- connection isn't IAC: a terminal agrees on TN3270E by options, each behind IAC (RFC 854).
  pub data IsTelnetRead (gave : S → ℕ → List ℕ → Result ℕ Error → S → Type 0) (received : ℕ) (old : S) (room : ℕ)
      (bytes : List ℕ) (link_result : LinkRead) (new : S) : Type 0 where
    reads : IsReadOnce gave old room bytes link_result new → (received ≡ 0 → MayBegin link_result bytes)
        → IsTelnetRead gave received old room bytes link_result new
    no_telnet : (came : List ℕ) (count : ℕ) → IsReadOnce gave old room came (read.Got count) new → received ≡ 0
        → begins_with_iac came ≡ false → bytes ≡ [] → link_result ≡ read.Failed
        → IsTelnetRead gave received old room bytes link_result new

  -- holds if a socket is written once, and its answer has this meaning
  pub record IsWrittenOnce (took : S → List ℕ → Result ℕ Error → S → Type 0) (old : S) (bytes : List ℕ)
      (link_result : LinkWrite) (new : S) : Type 0 where
    pub answer : Result ℕ Error
    pub called : took old bytes answer new
    pub taken : link_result ≡ link_write answer

  -- ---- a read

  -- holds if the socket of a slot is read once, into `room` bytes, and its answer has this meaning
  pub record ReadsSocket (gave : S → ℕ → List ℕ → Result ℕ Error → S → Type 0) (old : SocketSlot S) (room : ℕ)
      (bytes : List ℕ) (link_result : LinkRead) (new : SocketSlot S) : Type 0 where
    pub socket : S
    pub after : S
    pub has_socket : old.socket ≡ Some socket
    pub may : may_be_read old room ≡ true
    pub once : IsTelnetRead gave old.received socket room bytes link_result after
    pub keeps_socket : new.socket ≡ Some after

  -- Holds if a read gives nothing: the socket isn't read, has nothing now, or a count of ends or failures can't rise.
  pub data GivesNothing (gave : S → ℕ → List ℕ → Result ℕ Error → S → Type 0) (old : SocketSlot S) (room : ℕ)
      (new : SocketSlot S) : Type 0 where
    unread : may_be_read old room ≡ false → new.socket ≡ old.socket → GivesNothing gave old room new
    gives_not_now : ReadsSocket gave old room [] read.NotNow new → GivesNothing gave old room new
    end_uncounted : ReadsSocket gave old room [] read.Ended new → old.ends ≡ last_count → GivesNothing gave old room new
    failure_uncounted : ReadsSocket gave old room [] read.Failed new → old.failures ≡ last_count
        → GivesNothing gave old room new

  -- Holds for a read and the slot after it. The bytes received are counted; an end or a failure raises its own count.
  abbrev pub Gives : (gave : S → ℕ → List ℕ → Result ℕ Error → S → Type 0) → SocketSlot S → ℕ → List ℕ → LinkRead
      → SocketSlot S → Type 0
  Gives gave old room bytes (read.Got count) new = ReadsSocket gave old room bytes (read.Got count) new
      × (0 < count) × (length bytes ≡ count) × (new.waiting ≡ old.waiting) × (new.ends ≡ old.ends)
      × (new.failures ≡ old.failures)
      × (new.received ≡ counted old.received count) × (new.sent ≡ old.sent)
  Gives gave old room bytes read.NotNow new = GivesNothing gave old room new
      × (bytes ≡ []) × (new.waiting ≡ old.waiting) × (new.ends ≡ old.ends) × (new.failures ≡ old.failures)
      × (new.received ≡ old.received) × (new.sent ≡ old.sent)
  Gives gave old room bytes read.Ended new = ReadsSocket gave old room bytes read.Ended new
      × (bytes ≡ []) × (new.waiting ≡ old.waiting) × (new.ends ≡ old.ends + 1) × (new.failures ≡ old.failures)
      × (new.received ≡ old.received) × (new.sent ≡ old.sent)
  Gives gave old room bytes read.Failed new = ReadsSocket gave old room bytes read.Failed new
      × (bytes ≡ []) × (new.waiting ≡ old.waiting) × (new.ends ≡ old.ends) × (new.failures ≡ old.failures + 1)
      × (new.received ≡ old.received) × (new.sent ≡ old.sent)

  -- ---- a write

  -- holds if the socket of a slot is written once, and its answer has this meaning
  pub record WritesSocket (took : S → List ℕ → Result ℕ Error → S → Type 0) (old : SocketSlot S) (bytes : List ℕ)
      (link_result : LinkWrite) (new : SocketSlot S) : Type 0 where
    pub socket : S
    pub after : S
    pub has_socket : old.socket ≡ Some socket
    pub may : may_be_written old bytes ≡ true
    pub once : IsWrittenOnce took socket bytes link_result after
    pub keeps_socket : new.socket ≡ Some after

  -- Holds if a write takes nothing: the socket isn't written, takes nothing now, or the count of failures can't rise.
  pub data TakesNothing (took : S → List ℕ → Result ℕ Error → S → Type 0) (old : SocketSlot S) (bytes : List ℕ)
      (new : SocketSlot S) : Type 0 where
    unwritten : may_be_written old bytes ≡ false → new.socket ≡ old.socket → TakesNothing took old bytes new
    takes_not_now : WritesSocket took old bytes write.NotNow new → TakesNothing took old bytes new
    write_uncounted : WritesSocket took old bytes write.Failed new → old.failures ≡ last_count
        → TakesNothing took old bytes new

  -- Holds for a write and the slot after it. The bytes sent are counted; a failure raises its own count.
  abbrev pub Takes : (took : S → List ℕ → Result ℕ Error → S → Type 0) → SocketSlot S → List ℕ → LinkWrite
      → SocketSlot S → Type 0
  Takes took old bytes (write.Took count) new = WritesSocket took old bytes (write.Took count) new
      × (0 < count) × (count ≤ length bytes) × (new.waiting ≡ old.waiting) × (new.ends ≡ old.ends)
      × (new.failures ≡ old.failures)
      × (new.received ≡ old.received) × (new.sent ≡ counted old.sent count)
  Takes took old bytes write.NotNow new = TakesNothing took old bytes new
      × (new.waiting ≡ old.waiting) × (new.ends ≡ old.ends) × (new.failures ≡ old.failures)
      × (new.received ≡ old.received) × (new.sent ≡ old.sent)
  Takes took old bytes write.Failed new = WritesSocket took old bytes write.Failed new
      × (new.waiting ≡ old.waiting) × (new.ends ≡ old.ends) × (new.failures ≡ old.failures + 1)
      × (new.received ≡ old.received) × (new.sent ≡ old.sent)

-- ---- all numbers

-- the slots of all numbers, and whether a byte was read or written since that was last queried
pub record Sockets (S : Type 0) : Type 0 where
  pub slots : List (SocketSlot S)
  pub moved : Bool

module _ {S : Type 0} where
  abbrev pub slot_at : ℕ → Sockets S → SocketSlot S
  slot_at conn sockets = slice_index_or sockets.slots conn unused

  abbrev pub with_slot : ℕ → SocketSlot S → Sockets S → Sockets S
  with_slot conn slot sockets = record sockets { slots = slice_set sockets.slots conn slot }

  -- 64 numbers without connections
  abbrev pub new_sockets : Sockets S
  new_sockets = record { slots = replicate most_connections unused; moved = false }

  abbrev pub ends_at : ℕ → Sockets S → ℕ
  ends_at conn sockets = (slot_at conn sockets).ends

  abbrev pub failures_at : ℕ → Sockets S → ℕ
  failures_at conn sockets = (slot_at conn sockets).failures

  -- the slot once a connection begins or ends, or the number of unsent bytes is set; the counts of bytes stay after an
  -- end
  abbrev pub opened : S → SocketSlot S → SocketSlot S
  opened socket slot = record slot { socket = Some socket; waiting = 0; received = 0; sent = 0 }

  abbrev pub emptied : SocketSlot S → SocketSlot S
  emptied slot = record slot { socket = None; waiting = 0 }

  abbrev pub with_waiting : ℕ → SocketSlot S → SocketSlot S
  with_waiting waiting slot = record slot { waiting = waiting }

abbrev pub has_got : LinkRead → Bool
has_got (read.Got count) = true
has_got read.NotNow = false
has_got read.Ended = false
has_got read.Failed = false

abbrev pub has_taken : LinkWrite → Bool
has_taken (write.Took count) = true
has_taken write.NotNow = false
has_taken write.Failed = false

-- ---- a read and a write among all numbers

module _ {S : Type 0} where
  -- Holds for a read of a connection number, into `room` bytes: no other number changes.
  pub record GivesAt (gave : S → ℕ → List ℕ → Result ℕ Error → S → Type 0) (old : Sockets S) (conn room : ℕ)
      (bytes : List ℕ) (answer : LinkRead) (new : Sockets S) : Type 0 where
    pub gives : Gives gave (slot_at conn old) room bytes answer (slot_at conn new)
    pub moved : new.moved ≡ (old.moved || has_got answer)
    pub others : new.slots ≡ slice_set old.slots conn (slot_at conn new)

  -- holds for a write to a connection number: no other number changes
  pub record TakesAt (took : S → List ℕ → Result ℕ Error → S → Type 0) (old : Sockets S) (conn : ℕ) (bytes : List ℕ)
      (answer : LinkWrite) (new : Sockets S) : Type 0 where
    pub takes : Takes took (slot_at conn old) bytes answer (slot_at conn new)
    pub moved : new.moved ≡ (old.moved || has_taken answer)
    pub others : new.slots ≡ slice_set old.slots conn (slot_at conn new)

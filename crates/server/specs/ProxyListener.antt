-- A listener for connections from a proxy (our profile): each is held until its header of the PROXY protocol is
-- complete. Times are milliseconds of the server's time.
use Rattle.std.specs.Prelude.{◌≡◌, ◌≢◌, ◌≤◌, ◌<◌, ◌++◌, ◌⊎◌, ◌-◌, ℕ, zero, suc, Bool, true, false, nat_le, List, [], ◌∷◌, length, slice_index_or, slice_set, Option, Some, None, Result, Ok, Err, if◌then◌else◌}
use Rattle.std.specs.List.{remove}
use Rattle.std.specs.Option.{unwrap_or}
use Rattle.std.specs.declared.io.Error.{Error}
use Rattle.std.specs.declared.net.socket_addr.SocketAddr.{SocketAddr}
use Rattle.host_core.specs.declared.links.LinkRead.{LinkRead}
use Rattle.host_core.specs.declared.links.LinkRead.TheVariants as read
use Rattle.service_wire.specs.Header.{IsRefused, IsWholly}
use Rattle.service_wire.specs.HeaderReader.{IsMissing}
use Rattle.service_wire.specs.declared.header_fault.HeaderFault.{HeaderFault}
use Rattle.service_wire.specs.declared.header.Header.{Header}
use Rattle.service_events.specs.declared.notice.BadHeader.{BadHeader}
use Rattle.service_events.specs.declared.notice.BadHeader.TheVariants as bad
use Rattle.jobs.specs.Sockets.{IsReadOnce}
use Rattle.server.specs.declared.accepting.Accepted.{Accepted}
use Rattle.server.specs.declared.accepting.Arrival.{Arrival}
use Rattle.server.specs.declared.accepting.Arrival.TheVariants as arrival
use Rattle.server.specs.declared.proxy_listener.HeaderProgress.{HeaderProgress}
use Rattle.server.specs.declared.proxy_listener.HeaderProgress.TheVariants as progress
use Rattle.server.specs.declared.proxy_listener.ConnectionAwaitingHeader.{ConnectionAwaitingHeader}

-- the most connections that are held
abbrev pub most_held : ℕ
most_held = 64

-- how long a header may take
abbrev pub header_time : ℕ
header_time = 5000

abbrev pub is_late : (began now : ℕ) → Bool
is_late began now = nat_le header_time (now - began)

-- what the answer of a reader means
abbrev pub progress_of : Result (Option Header) HeaderFault → HeaderProgress
progress_of (Ok None) = progress.Moved
progress_of (Ok (Some header)) = progress.Complete header
progress_of (Err why) = progress.Bad (bad.Wrong why)

-- the client's address, or why the connection is closed; None if it is held on
abbrev pub outcome_of : HeaderProgress → (peer : SocketAddr) → (late : Bool) → Option (Result SocketAddr BadHeader)
outcome_of (progress.Complete header) peer late = Some (Ok (unwrap_or header.client peer))
outcome_of (progress.Bad why) peer late = Some (Err why)
outcome_of progress.Moved peer late = if late then Some (Err bad.Late) else None
outcome_of progress.Still peer late = if late then Some (Err bad.Late) else None

-- Holds if a read with this answer makes this of the bytes before and after it. Moved: more are awaited. A header is
-- complete if the bytes are a header, and nothing follows it.
abbrev pub LeadsTo : LinkRead → (before all : List ℕ) → HeaderProgress → (after : List ℕ) → Type 0
LeadsTo (read.Got count) before all progress.Moved after = after ≡ all
LeadsTo (read.Got count) before all (progress.Complete header) after = IsWholly all header × (after ≡ before)
LeadsTo (read.Got count) before all (progress.Bad (bad.Wrong why)) after = IsRefused all why × (after ≡ before)
LeadsTo read.NotNow before all progress.Still after = after ≡ before
LeadsTo read.Ended before all (progress.Bad bad.CutShort) after = after ≡ before
LeadsTo read.Failed before all (progress.Bad bad.CutShort) after = after ≡ before
LeadsTo answer before all came_to after = ⊥

module _ {S : Type 0} where
  abbrev pub newly_held : Accepted S → (now : ℕ) → ConnectionAwaitingHeader S
  newly_held accepted now = record { accepted = accepted; began = now; header = [] }

  -- Holds if a connection that was accepted is the last of the list, or is dropped, since memory is refused. What the
  -- listener refused is handed on.
  abbrev pub Holds : Arrival S → (now : ℕ) → List (ConnectionAwaitingHeader S) → Option (Arrival S)
      → List (ConnectionAwaitingHeader S) → Type 0
  Holds (arrival.Begun accepted) now old answer new =
      (answer ≡ None) × ((new ≡ old ++ newly_held accepted now ∷ []) ⊎ (new ≡ old))
  Holds (arrival.Refused peer why) now old answer new = (answer ≡ Some (arrival.Refused peer why)) × (new ≡ old)

  -- what is handed on of a connection that is no longer held
  abbrev pub arrival_of : Accepted S → Result SocketAddr BadHeader → Arrival S
  arrival_of accepted (Ok peer) = arrival.Begun (record { socket = accepted.socket; peer = peer })
  arrival_of accepted (Err why) = arrival.Refused accepted.peer why

  -- holds if a list has this element there
  pub record HasAt (index : ℕ) (held : List (ConnectionAwaitingHeader S))
      (one : ConnectionAwaitingHeader S) : Type 0 where
    pub inside : index < length held
    pub is_one : one ≡ slice_index_or held index one

  -- holds if a connection leaves the list, and is handed on
  abbrev pub Leaves : (index : ℕ) → Result SocketAddr BadHeader → List (ConnectionAwaitingHeader S) → Arrival S
      → List (ConnectionAwaitingHeader S) → Type 0
  Leaves index outcome old answer new = (one : ConnectionAwaitingHeader S) × HasAt index old one
      × (answer ≡ arrival_of one.accepted outcome) × (new ≡ remove old index)

-- `gave` relates a socket before a read, the room, the bytes, the answer, and the socket after it
module _ {S : Type 0} (gave : S → ℕ → List ℕ → Result ℕ Error → S → Type 0) where
  -- holds for one read of a held connection, of no more bytes than its header has
  pub record ReadsPart (old : ConnectionAwaitingHeader S) (came_to : HeaderProgress)
      (new : ConnectionAwaitingHeader S) : Type 0 where
    pub room : ℕ
    pub bytes : List ℕ
    pub answer : LinkRead
    pub missing : IsMissing old.header room
    pub reads : IsReadOnce gave old.accepted.socket room bytes answer new.accepted.socket
    pub leads : LeadsTo answer old.header (old.header ++ bytes) came_to new.header
    pub peer_stays : new.accepted.peer ≡ old.accepted.peer
    pub began_stays : new.began ≡ old.began

  -- holds for this many reads, after each of which more bytes are awaited
  unfoldable pub ReadsParts : (count : ℕ) → ConnectionAwaitingHeader S → ConnectionAwaitingHeader S → Type 0
  ReadsParts zero old new = new ≡ old
  ReadsParts (suc count) old new =
      (mid : ConnectionAwaitingHeader S) × ReadsParts count old mid × ReadsPart mid progress.Moved new

  -- holds for reads up to one after which no more bytes are awaited or there are none now
  pub data ReadsOn (old : ConnectionAwaitingHeader S) (came_to : HeaderProgress)
      (new : ConnectionAwaitingHeader S) : Type 0 where
    stops : (count : ℕ) (mid : ConnectionAwaitingHeader S) → ReadsParts count old mid → ReadsPart mid came_to new
        → came_to ≢ progress.Moved → ReadsOn old came_to new
    goes_on : (count : ℕ) → ReadsParts count old new → came_to ≡ progress.Still → ReadsOn old came_to new

  module _ (now : ℕ) where
    -- holds if the header of a held connection is read on, with this outcome
    abbrev pub ServesHeld : ConnectionAwaitingHeader S → Option (Result SocketAddr BadHeader)
        → ConnectionAwaitingHeader S → Type 0
    ServesHeld old outcome new = (came_to : HeaderProgress) × ReadsOn old came_to new
        × (outcome ≡ outcome_of came_to old.accepted.peer (is_late old.began now))

    -- holds if that is done with one of the list
    pub record ServesAt (index : ℕ) (old : List (ConnectionAwaitingHeader S)) (outcome : Option
        (Result SocketAddr BadHeader))
        (new : List (ConnectionAwaitingHeader S)) : Type 0 where
      pub one : ConnectionAwaitingHeader S
      pub after : ConnectionAwaitingHeader S
      pub there : HasAt index old one
      pub serves : ServesHeld one outcome after
      pub becomes : new ≡ slice_set old index after

    -- holds if one of the list is visited: its header is read on, and it leaves if it is no longer held
    pub data VisitsAt (index : ℕ) (old : List (ConnectionAwaitingHeader S)) (answer : Option (Arrival S))
        (new : List (ConnectionAwaitingHeader S)) : Type 0 where
      stays : ServesAt index old None new → answer ≡ None → VisitsAt index old answer new
      leaves : (outcome : Result SocketAddr BadHeader) (served : List (ConnectionAwaitingHeader S)) (one : Arrival S)
          → ServesAt index old (Some outcome) served → Leaves index outcome served one new → answer ≡ Some one
          → VisitsAt index old answer new

    -- holds if the first of the list, this many, are visited, and stay
    unfoldable pub AllStay : (count : ℕ) → List (ConnectionAwaitingHeader S) → List (ConnectionAwaitingHeader S)
        → Type 0
    AllStay zero old new = new ≡ old
    AllStay (suc count) old new =
        (mid : List (ConnectionAwaitingHeader S)) × AllStay count old mid × VisitsAt count mid None new

    -- holds if the list is visited from the first on, up to the first that leaves
    abbrev pub Looks : List (ConnectionAwaitingHeader S) → Option (Arrival S) → List (ConnectionAwaitingHeader S)
        → Type 0
    Looks old (Some one) new = (index : ℕ) × (mid : List (ConnectionAwaitingHeader S)) × AllStay index old mid
        × VisitsAt index mid (Some one) new
    Looks old None new = (count : ℕ) × AllStay count old new × ((length new ≤ count) ⊎ (count ≡ most_held))

    module _ {L : Type 0} (accepts : L → Option (Arrival S) → L → Type 0) where
      -- holds if the connection that waits at a listener is held, unless the most are held
      pub data TakesIn (listener : L) (old : List (ConnectionAwaitingHeader S)) (answer : Option (Arrival S))
          (later : L) (new : List (ConnectionAwaitingHeader S)) : Type 0 where
        full : most_held ≤ length old → answer ≡ None → later ≡ listener → new ≡ old
            → TakesIn listener old answer later new
        none_waits : accepts listener None later → answer ≡ None → new ≡ old → TakesIn listener old answer later new
        comes : (one : Arrival S) → length old < most_held → accepts listener (Some one) later
            → Holds one now old answer new → TakesIn listener old answer later new

      -- holds if it hands on what the listener refused, or the first of the list that leaves
      pub data HandsNext (listener : L) (old : List (ConnectionAwaitingHeader S)) (answer : Option (Arrival S))
          (later : L) (new : List (ConnectionAwaitingHeader S)) : Type 0 where
        refuses : (one : Arrival S) → TakesIn listener old (Some one) later new → answer ≡ Some one
            → HandsNext listener old answer later new
        looks : (held : List (ConnectionAwaitingHeader S)) → TakesIn listener old None later held
            → Looks held answer new
            → HandsNext listener old answer later new

      -- holds for the listener's own answer if it isn't proxied, else for the held ones
      abbrev pub HandsOn : (proxied : Bool) → L → List (ConnectionAwaitingHeader S) → Option (Arrival S) → L
          → List (ConnectionAwaitingHeader S) → Type 0
      HandsOn true listener old answer later new = HandsNext listener old answer later new
      HandsOn false listener old answer later new = accepts listener answer later × (new ≡ old)

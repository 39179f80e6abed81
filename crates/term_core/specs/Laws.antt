-- A terminal is one machine: its state, and what it sends, are a function of its earlier state and of the bytes,
-- however these are cut into pieces (our profile: RFC 854 knows no pieces).
use Rattle.std.specs.Prelude.{◌≡◌, ◌<◌, ◌≤◌, ℕ, List, [], ◌∷◌, ◌++◌, None, length}
use Rattle.keyboard.specs.declared.key.Key.{Key}
use Rattle.telnet_wire.specs.Items.{WireItem, sent_bytes}
use Rattle.telnet_wire.specs.Reading.{Rest, IsRest, Delivers}
use Rattle.tn3270e_msg.specs.TermTable.{Term}
use Rattle.tn3270e_msg.specs.Header.{record_limit}
use Rattle.tn3270e_msg.specs.declared.cause.Fed.{Fed}
use Rattle.tn3270e_msg.specs.declared.cause.Stop.TheVariants.{Memory}
use Rattle.term_core.specs.State.{Station, Terminal, Attached}
use Rattle.term_core.specs.Items.{TakesItem}
use Rattle.term_core.specs.Bytes.{TakesBytes, before_byte}
use Rattle.term_core.specs.Feeds.{Feeds}
use Rattle.term_core.specs.Presses.{LacksKeyRoom}
use Rattle.term_core.specs.Room.{out_room, spare_room}

-- After it has taken some bytes, a terminal can be in one state only.
abbrev pub OneOutcome : Type 0
OneOutcome = (old new other : Terminal) (bytes : List ℕ) → TakesBytes old bytes new → TakesBytes old bytes other
    → new ≡ other

-- If two pieces are taken one after the other, they can be taken as one.
abbrev pub PiecesCompose : Type 0
PiecesCompose = (old mid new : Terminal) (first second : List ℕ)
    → TakesBytes old first mid → TakesBytes mid second new → TakesBytes old (first ++ second) new

-- Bytes that are taken at once can be taken in any two pieces.
abbrev pub PiecesPart : Type 0
PiecesPart = (old new : Terminal) (first second : List ℕ)
    → TakesBytes old (first ++ second) new → (mid : Terminal) × TakesBytes old first mid × TakesBytes mid second new

-- holds if items are taken one after another and none closes the connection: `says` is sent, and `after` and `new` are
-- the negotiation and the station then, but for `took_write`
abbrev pub TakesItems : Term → Station → List WireItem → List WireItem → Term → Station → Type 0
TakesItems talk old [] says after new = (says ≡ []) × (after ≡ talk) × (before_byte new ≡ before_byte old)
TakesItems talk old (item ∷ items) says after new =
    (next : Term) × (mid : Station) × (some others : List WireItem)
    × TakesItem talk (before_byte old) item some None next mid × TakesItems next mid items others after new
    × (says ≡ some ++ others)

-- what bytes do to a terminal is what the items do to it that the bytes encode
pub record IsByItems (old : Terminal) (rest : Rest) (talk : Term) (bytes : List ℕ) (new : Terminal) (to : Rest)
    (after : Term) : Type 0 where
  pub items : List WireItem
  pub says : List WireItem
  pub delivers : Delivers record_limit rest bytes items to
  pub takes : TakesItems talk old.station items says after new.station
  pub sends : new.out ≡ old.out ++ sent_bytes says

-- Bytes that leave a terminal attached are decoded as items, and do what these do one after another.
abbrev pub BytesAreItems : Type 0
BytesAreItems = (old new : Terminal) (rest to : Rest) (talk after : Term) (bytes : List ℕ)
    → old.link ≡ Attached rest talk → IsRest record_limit rest → new.link ≡ Attached to after → TakesBytes old bytes new
    → IsByItems old rest talk bytes new to after

-- ---- memory (our profile)

-- A terminal with the room that `new` makes takes bytes until more than `spare_room` bytes wait to be sent. So if it
-- has nothing to send, it takes at least the bytes through its first reply.
abbrev pub FeedingHasRoom : Type 0
FeedingHasRoom = (room : ℕ) (old new : Terminal) (bytes : List ℕ) (fed : Fed)
    → out_room ≤ room → Feeds room old bytes fed new → fed.stop ≡ Memory → spare_room < length new.out

-- A terminal with that room lacks room for a key only if more than `spare_room` bytes wait to be sent.
abbrev pub KeysHaveRoom : Type 0
KeysHaveRoom = (room : ℕ) (key : Key) (old : Terminal) → out_room ≤ room → LacksKeyRoom room key old
    → spare_room < length old.out

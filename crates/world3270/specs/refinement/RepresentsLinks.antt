-- Queues and connections whose bytes represent messages: a connection over bytes still represents one
-- over messages after each step (our profile).
use Rattle.std.specs.Prelude.{◌≡◌, ◌||◌, ⊤, ℕ, Bool, true, false, List, [], ◌∷◌, ◌++◌, Option, Some, None}
use Rattle.host_core.specs.Application.{Application, application_of}
use Rattle.codes3270.specs.declared.size.Model.{Model}
use Rattle.panels.specs.Panel.{Panels}
use Rattle.std.specs.List.{AllByRecursion, list_any}
use Rattle.codes3270.specs.Size.{model_2, alternate_of}
use Rattle.world3270.specs.refinement.Sendable.{CanBeSent}
use Rattle.keyboard.specs.declared.key.Key.{Key}
use Rattle.shadow.specs.Pairs.{Pairwise}
use Rattle.telnet_wire.specs.Items.{WireItem, CanCome, sent_bytes}
use Rattle.telnet_wire.specs.Reading.{Rest, nothing, Delivers}
use Rattle.term_core.specs.Presses.{key_outcome}
use Rattle.tn3270e_msg.specs.Header.{record_limit}
use Rattle.host_core.specs.KeepAlive.{no_operation}
use Rattle.host_core.specs.Messages.{ToTerminal, ToHost}
use Rattle.host_core.specs.declared.terminals.Terminals.{Terminals}
use Rattle.host_core.specs.Session.{Session, new_conn}
use Rattle.world3270.specs.statement.Always.{is_refusal}
use Rattle.world3270.specs.model.Link.{Link, begun, sent, host_left, term_left, term_stepped}
use Rattle.world3270.specs.model.TrackedTerminals.{TrackedTerminal, TrackedTakesByte, TrackedTakes, newly_tracked, tracked_after_key}
use Rattle.world3270.specs.refinement.Represents.{RepresentsDown, RepresentsUp, BytesRepresent, ByteLink, LinkRepresents, LinkRepresentsBy, all_items, is_nop, without}
use Rattle.world3270.specs.refinement.RepresentsEnds.{IsOpen, MayCome, is_painted}
use Rattle.world3270.specs.model.Terminal.{TermEnd, took, key_came}
use Rattle.world3270.specs.model.World.{World}

-- ---- what is under way

-- An empty queue of bytes represents the empty list of messages.
abbrev pub NothingRepresents : {X : Type 0} → (List WireItem → List WireItem) → (WireItem → X → Type 0) → Type 0
NothingRepresents spoken Means = BytesRepresent spoken Means nothing [] []

-- A queue with new items appended represents its messages with new ones appended.
abbrev pub RepresentsCompose : {X : Type 0} → (List WireItem → List WireItem) → (WireItem → X → Type 0) → Type 0
RepresentsCompose {X} spoken Means = (rest : Rest) (bytes : List ℕ) (messages more : List X) (items : List WireItem)
    → BytesRepresent spoken Means rest bytes messages → AllByRecursion (CanCome record_limit) items
    → Pairwise Means (spoken items) more
    → BytesRepresent spoken Means rest (bytes ++ sent_bytes items) (messages ++ more)

-- A queue followed by bytes that spell whole items, in any spelling, represents the messages of both.
abbrev pub RepresentsJoin : {X : Type 0} → (List WireItem → List WireItem) → (WireItem → X → Type 0) → Type 0
RepresentsJoin {X} spoken Means = (rest : Rest) (bytes more : List ℕ) (messages others : List X)
    → BytesRepresent spoken Means rest bytes messages → BytesRepresent spoken Means nothing more others
    → BytesRepresent spoken Means rest (bytes ++ more) (messages ++ others)

-- The items represent the first messages, and the bytes `behind` represent the others.
pub record TakesSome {X : Type 0} (spoken : List WireItem → List WireItem) (Means : WireItem → X → Type 0) (mid : Rest)
    (behind : List ℕ) (items : List WireItem) (messages : List X) : Type 0 where
  pub taken : List X
  pub others : List X
  pub whole : messages ≡ taken ++ others
  pub each : Pairwise Means (spoken items) taken
  pub stands : BytesRepresent spoken Means mid behind others

-- If bytes are taken off the front of a queue, their items represent the first messages, and the bytes
-- after them represent the others.
abbrev pub RepresentsGoOn : {X : Type 0} → (List WireItem → List WireItem) → (WireItem → X → Type 0) → Type 0
RepresentsGoOn {X} spoken Means = (rest mid : Rest) (bytes behind : List ℕ) (items : List WireItem) (messages : List X)
    → BytesRepresent spoken Means rest (bytes ++ behind) messages → Delivers record_limit rest bytes items mid
    → TakesSome spoken Means mid behind items messages

-- ---- a connection at its begin

-- the host has offered TN3270E: DO TN3270E
abbrev pub begun_bytes : Terminals → Panels → Model → ℕ → Option (List ℕ) → ByteLink
begun_bytes serves panels model terminal wanted = record {
  lost = false;
  down = 255 ∷ 253 ∷ 40 ∷ [];
  up = [];
  host_here = true;
  host = new_conn serves (application_of panels);
  host_rest = nothing;
  term_here = Some terminal;
  tracked = newly_tracked model wanted;
}

abbrev pub BeginRepresents : Type 0
BeginRepresents = (serves : Terminals) (panels : Panels) (model : Model) (terminal : ℕ) (wanted : Option (List ℕ))
    → LinkRepresents (begun_bytes serves panels model terminal wanted)
    (begun (application_of panels) serves model terminal wanted)

-- ---- a connection, as its terminal goes on

-- after the terminal's output is put under way; on a lost connection it vanishes
abbrev pub handed_on : TrackedTerminal → ByteLink → ByteLink
handed_on tracked bytes =
    record bytes {
      up = sent bytes.lost bytes.up tracked.terminal.out;
      tracked = record tracked { terminal = record tracked.terminal { out = [] } };
    }

-- A connection represents one over messages after a key, if the screen that the key leaves can be sent.
abbrev pub PressRepresents : Type 0
PressRepresents = (key : Key) (bytes : ByteLink) (link : Link) (terminal : ℕ)
    → LinkRepresents bytes link → link.term_here ≡ Some terminal
    → CanBeSent link.term.display.size (key_outcome key bytes.tracked.terminal.station).screen
    → LinkRepresents (handed_on (tracked_after_key key bytes.tracked) bytes)
    (term_stepped (key_came key link.term) link.down link)

-- Holds if the terminal may take each of these messages when it arrives, and the negotiation isn't closed before,
-- between and after them.
abbrev pub MayComeAll : TermEnd → List ToTerminal → Type 0
MayComeAll end [] = IsOpen end.talk.talk.state
MayComeAll end (message ∷ messages) = IsOpen end.talk.talk.state × MayCome end message
    × MayComeAll (took end message).end messages

-- Holds if the terminal closes the connection for none of these messages.
abbrev pub NoneCloses : TermEnd → List ToTerminal → Type 0
NoneCloses end [] = ⊤
NoneCloses end (message ∷ messages) = ((took end message).closes ≡ None) × NoneCloses (took end message).end messages

-- Holds if the application's screen sizes are those of the 3278's models.
pub record HasTheSizes (app : Application) : Type 0 where
  pub begins : app.begins ≡ model_2
  pub alternate : (model : Model) → app.alternate model ≡ alternate_of model

-- On each connection the terminal may take each message under way when it arrives, and closes the connection for none.
abbrev pub WhatComesMayCome : Application → World → Type 0
WhatComesMayCome app world =
    HasTheSizes app → (number : ℕ) → let link = world.link number in MayComeAll link.term link.down
    × NoneCloses link.term link.down

-- after the terminal takes these messages, one by one; `others` are still under way
abbrev pub took_down : List ToTerminal → List ToTerminal → Link → Link
took_down [] others link = link
took_down (message ∷ messages) others link =
    took_down messages others (term_stepped (took link.term message) (messages ++ others) link)

-- after the terminal took bytes from the queue; `behind` are still under way
abbrev pub fed : TrackedTerminal → List ℕ → ByteLink → ByteLink
fed tracked behind bytes = record (handed_on tracked bytes) { down = behind }

-- Holds if the connection over bytes represents the one over messages after it has delivered some first messages down.
pub record CameDown (bytes : ByteLink) (link : Link) : Type 0 where
  pub taken : List ToTerminal
  pub others : List ToTerminal
  pub whole : link.down ≡ taken ++ others
  pub stands : LinkRepresents bytes (took_down taken others link)

-- Holds if the connection represents one over messages, with a terminal attached whose screen can be
-- sent, and the terminal may take each message under way to it and closes for none.
pub record IsReady (bytes : ByteLink) (link : Link) : Type 0 where
  pub stands : LinkRepresents bytes link
  pub terminal : ℕ
  pub here : link.term_here ≡ Some terminal
  pub may : MayComeAll link.term link.down
  pub none : NoneCloses link.term link.down
  pub sendable : CanBeSent link.term.display.size link.term.display.screen

-- A connection represents one over messages after any bytes that the terminal takes off its queue.
abbrev pub DownRepresents : Type 0
DownRepresents = (bytes : ByteLink) (link : Link) (front behind : List ℕ) (new : TrackedTerminal)
    → IsReady bytes link → bytes.down ≡ front ++ behind → TrackedTakes bytes.tracked front new
    → CameDown (fed new behind bytes) link

-- Holds if a terminal appended items to what it had to send, none of which rejects a command.
pub record SaysOnlyPositive (old new : TrackedTerminal) : Type 0 where
  pub says : List WireItem
  pub out : new.terminal.out ≡ old.terminal.out ++ sent_bytes says
  pub fit : AllByRecursion (CanCome record_limit) says
  pub sends : List ToHost
  pub said : Pairwise RepresentsUp says sends
  pub none : list_any is_refusal sends ≡ false

-- A terminal rejects no command, whether or not the host is attached.
abbrev pub DownIsNotRefused : Type 0
DownIsNotRefused = (bytes : ByteLink) (link : Link) (front behind : List ℕ) (new : TrackedTerminal)
    → IsReady bytes link → bytes.down ≡ front ++ behind → TrackedTakes bytes.tracked front new
    → SaysOnlyPositive bytes.tracked new

-- whether one of the messages is a paint that the terminal takes while it is bound
abbrev pub any_painted : TermEnd → List ToTerminal → Bool
any_painted end [] = false
any_painted end (message ∷ messages) = is_painted end message || any_painted (took end message).end messages

-- Holds if messages were delivered, and the byte marks a write exactly if such a paint is among them.
pub record CameMarked (bytes : ByteLink) (link : Link) : Type 0 where
  pub came : CameDown bytes link
  pub marked : bytes.tracked.terminal.station.took_write ≡ any_painted link.term came.taken

-- A byte marks a write exactly if it completes a paint and the terminal is bound.
abbrev pub BytesAreMarked : Type 0
BytesAreMarked = (bytes : ByteLink) (link : Link) (byte : ℕ) (behind : List ℕ) (new : TrackedTerminal)
    → IsReady bytes link → bytes.down ≡ byte ∷ behind → TrackedTakesByte bytes.tracked byte new
    → CameMarked (fed new behind bytes) link

-- ---- a connection, as its host goes on, and as it is lost

-- after the host's items are put under way; on a lost connection they vanish
abbrev pub said_down : Session → List WireItem → ByteLink → ByteLink
said_down conn items bytes = record bytes { host = conn; down = sent bytes.lost bytes.down (sent_bytes items) }

abbrev pub sent_down : Session → List ToTerminal → Link → Link
sent_down conn messages link = record link { host = conn; down = sent link.lost link.down messages }

-- A connection represents one over messages after the host sends items of which those that the terminal doesn't ignore
-- represent its messages.
abbrev pub ItemsAreSentBy : (List WireItem → List WireItem) → (WireItem → ToHost → Type 0) → (WireItem → Bool) → Type 0
ItemsAreSentBy heard Up ignored = (bytes : ByteLink) (link : Link) (conn : Session) (items : List WireItem)
    (messages : List ToTerminal)
    → LinkRepresentsBy heard Up ignored bytes link → AllByRecursion (CanCome record_limit) items
    → Pairwise RepresentsDown (without ignored items) messages
    → LinkRepresentsBy heard Up ignored (said_down conn items bytes) (sent_down conn messages link)

-- A connection represents one over messages after the host sends items that represent its messages.
abbrev pub HostSendsBy : (List WireItem → List WireItem) → (WireItem → ToHost → Type 0) → Type 0
HostSendsBy heard Up = (bytes : ByteLink) (link : Link) (conn : Session) (items : List WireItem)
    (messages : List ToTerminal)
    → LinkRepresentsBy heard Up is_nop bytes link → AllByRecursion (CanCome record_limit) items
    → Pairwise RepresentsDown items messages
    → LinkRepresentsBy heard Up is_nop (said_down conn items bytes) (sent_down conn messages link)

abbrev pub HostSends : Type 0
HostSends = HostSendsBy all_items RepresentsUp

-- A connection represents the same connection over messages after the host sends NOP.
abbrev pub NopRepresentsBy : (List WireItem → List WireItem) → (WireItem → ToHost → Type 0) → Type 0
NopRepresentsBy heard Up = (bytes : ByteLink) (link : Link) → LinkRepresentsBy heard Up is_nop bytes link
    → LinkRepresentsBy heard Up is_nop (said_down bytes.host (no_operation ∷ []) bytes) link

abbrev pub NopRepresents : Type 0
NopRepresents = NopRepresentsBy all_items RepresentsUp

-- Holds if the items represent the first messages to the host, and the others are still under way.
pub record CameUp (heard : List WireItem → List WireItem) (Up : WireItem → ToHost → Type 0) (ignored : WireItem → Bool)
    (bytes : ByteLink) (link : Link) (items : List WireItem) : Type 0 where
  pub taken : List ToHost
  pub others : List ToHost
  pub whole : link.up ≡ taken ++ others
  pub each : Pairwise Up (heard items) taken
  pub stands : LinkRepresentsBy heard Up ignored bytes (record link { up = others })

-- The items that arrive at the host represent the first messages, and the connection represents one with the others.
abbrev pub UpRepresentsBy : (List WireItem → List WireItem) → (WireItem → ToHost → Type 0) → (WireItem → Bool) → Type 0
UpRepresentsBy heard Up ignored = (bytes : ByteLink) (link : Link) (front behind : List ℕ) (items : List WireItem) (to : Rest)
    → LinkRepresentsBy heard Up ignored bytes link → link.host_here ≡ true → bytes.up ≡ front ++ behind
    → Delivers record_limit bytes.host_rest front items to
    → CameUp heard Up ignored (record bytes { host_rest = to; up = behind }) link items

abbrev pub UpRepresents : Type 0
UpRepresents = UpRepresentsBy all_items RepresentsUp is_nop

-- A connection represents one over messages after it is lost, and after an end leaves it.
abbrev pub LossRepresents : Type 0
LossRepresents = (bytes : ByteLink) (link : Link) → LinkRepresents bytes link
    → LinkRepresents (record bytes { lost = true }) (record link { lost = true })

abbrev pub HostLeaves : Type 0
HostLeaves = (bytes : ByteLink) (link : Link) → LinkRepresents bytes link
    → LinkRepresents (record bytes { lost = true; host_here = false }) (host_left link)

abbrev pub TermLeaves : Type 0
TermLeaves = (bytes : ByteLink) (link : Link) → LinkRepresents bytes link
    → LinkRepresents (record bytes { lost = true; term_here = None }) (term_left link)

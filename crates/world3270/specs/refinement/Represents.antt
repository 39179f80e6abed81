-- When bytes represent messages: the bytes under way in each direction spell the messages, one item
-- for each, apart from those that the receiver ignores, as NOP (RFC 854; RFC 1647, sections 8.1 and
-- 10.4; what is sent when is our profile).
use Rattle.std.specs.Prelude.{◌≡◌, ◌≢◌, ◌<◌, ◌^◌, ◌==◌, not, ℕ, Bool, true, false, List, [], filter, Option, Some}
use Rattle.presentation.specs.Sizes.{SizedScreen}
use Rattle.world3270.specs.refinement.Sendable.{IsSpeltFor}
use Rattle.codes3270.specs.Size.{ScreenSize, cells_in}
use Rattle.datastream.specs.Grammar.{CommandParts, IsCommand}
use Rattle.datastream.specs.InboundText.{IsInbound}
use Rattle.datastream.specs.Meaning.{after_command}
use Rattle.datastream.specs.Screen.{Screen}
use Rattle.datastream.specs.Wanted.{WantedScreen}
use Rattle.shadow.specs.Belief.{Shadow}
use Rattle.shadow.specs.Meets.{Meets}
use Rattle.shadow.specs.Paint.{paint}
use Rattle.shadow.specs.Painted.{plainly_painted}
use Rattle.shadow.specs.Pairs.{Pairwise}
use Rattle.telnet_wire.specs.Items.{WireItem, Record, Opt, Sub, Other}
use Rattle.telnet_wire.specs.Reading.{Rest, IsRest, nothing, Delivers}
use Rattle.tn3270e_msg.specs.Header.{Begins, record_limit, error_response, always_response}
use Rattle.tn3270e_msg.specs.TermTable.{Term}
use Rattle.term_core.specs.Says.{response, data_record}
use Rattle.term_core.specs.State.{Attached}
use Rattle.term_core.specs.declared.outcome.Outcome.{Outcome}
use Rattle.term_core.specs.declared.outcome.Outcome.TheVariants.{DeviceEnd}
use Rattle.host_core.specs.Messages.{ToTerminal, ToHost, Verdict}
use Rattle.host_core.specs.Says.{command_header, read_buffer_command}
use Rattle.tn3270e_msg.specs.Talk.{item_of}
use Rattle.host_core.specs.Session.{Session}
use Rattle.world3270.specs.model.Link.{Link}
use Rattle.world3270.specs.model.TrackedTerminals.{TrackedTerminal, ByteEnd, end_at}
use Rattle.world3270.specs.model.Terminal.{TermEnd, Display}

-- ---- one item down

-- Holds if the item is a record with ALWAYS-RESPONSE (RFC 1647, section 8.1) and the very command that paints the wanted
-- screen over the believed one. On every screen it leaves what that command leaves; on each one that meets the belief,
-- the wanted screen.
pub record IsPaint (item : WireItem) (number : ℕ) (wanted : WantedScreen) (believed : Shadow) : Type 0 where
  pub bytes : List ℕ
  pub body : List ℕ
  pub is_record : item ≡ Record bytes
  pub begins : Begins bytes (command_header always_response number) body
  pub encoded : IsSpeltFor wanted (paint (cells_in wanted.size) believed wanted) body
  pub paints : (screen : Screen) → Meets believed screen
      → after_command (paint (cells_in wanted.size) believed wanted) screen ≡ plainly_painted wanted screen

-- Holds if the item is a record with ERROR-RESPONSE and Read Buffer.
pub record IsRead (item : WireItem) (number : ℕ) : Type 0 where
  pub bytes : List ℕ
  pub body : List ℕ
  pub is_record : item ≡ Record bytes
  pub begins : Begins bytes (command_header error_response number) body
  pub encoded : (now alternate : ScreenSize) → IsCommand now alternate (read_buffer_command now) body

-- Holds if the item is a record with ALWAYS-RESPONSE and exactly this write, for a screen of its size.
pub record IsNoted (item : WireItem) (number : ℕ) (command : CommandParts) : Type 0 where
  pub bytes : List ℕ
  pub body : List ℕ
  pub is_record : item ≡ Record bytes
  pub begins : Begins bytes (command_header always_response number) body
  pub encoded : (alternate : ScreenSize) → IsCommand command.size alternate command body

-- Holds if an item to the terminal represents this message.
abbrev pub RepresentsDown : WireItem → ToTerminal → Type 0
RepresentsDown item (ToTerminal.TalksDown saying) = item ≡ item_of saying
RepresentsDown item (ToTerminal.Paint number wanted believed) = IsPaint item number wanted believed
RepresentsDown item (ToTerminal.ReadBuffer number) = IsRead item number
RepresentsDown item (ToTerminal.Note number command) = IsNoted item number command

-- ---- one item up

abbrev pub OutcomeIs : Verdict → Outcome → Type 0
OutcomeIs Verdict.Positive outcome = outcome ≡ DeviceEnd
OutcomeIs Verdict.Negative outcome = outcome ≢ DeviceEnd

-- Holds if an item to the host represents this message: data with any SEQ-NUMBER, a response with that of its command.
abbrev pub RepresentsUp : WireItem → ToHost → Type 0
RepresentsUp item (ToHost.TalksUp saying) = item ≡ item_of saying
RepresentsUp item (ToHost.Data parts) = (number : ℕ) × (body : List ℕ) × (item ≡ data_record number body)
    × IsInbound parts body
RepresentsUp item (ToHost.Response number verdict) =
    (outcome : Outcome) × (item ≡ response number outcome) × (number < 2 ^ 16) × OutcomeIs verdict outcome

-- ---- which items represent messages

-- whether an item is NOP, "no operation" (RFC 854, "TELNET Command Structure")
abbrev pub is_nop : WireItem → Bool
is_nop (Other code) = code == 241
is_nop (Record bytes) = false
is_nop (Opt verb code) = false
is_nop (Sub bytes) = false

-- the items but those that a receiver ignores
abbrev pub without : (WireItem → Bool) → List WireItem → List WireItem
without ignored items = filter (λ item. not (ignored item)) items

-- the items to a terminal that represent messages: all but NOPs
abbrev pub without_nops : List WireItem → List WireItem
without_nops = without is_nop

-- the items to the host of our terminal that represent messages: all
abbrev pub all_items : List WireItem → List WireItem
all_items items = items

-- ---- what is under way

-- Holds if the bytes represent these messages, for a receiver whose decoder holds `rest`. After `rest`
-- the bytes spell whole items; those that `spoken` selects represent the messages, one by one. `rest`
-- is the beginning of an item, within the decoder's limits.
pub record BytesRepresent {X : Type 0} (spoken : List WireItem → List WireItem) (Means : WireItem → X → Type 0)
    (rest : Rest) (bytes : List ℕ) (messages : List X) : Type 0 where
  pub is_rest : IsRest record_limit rest
  pub items : List WireItem
  pub delivers : Delivers record_limit rest bytes items nothing
  pub each : Pairwise Means (spoken items) messages

abbrev pub BytesDownBy : (WireItem → Bool) → Rest → List ℕ → List ToTerminal → Type 0
BytesDownBy ignored rest bytes messages = BytesRepresent (without ignored) RepresentsDown rest bytes messages

abbrev pub BytesDown : Rest → List ℕ → List ToTerminal → Type 0
BytesDown = BytesDownBy is_nop

abbrev pub BytesUp : Rest → List ℕ → List ToHost → Type 0
BytesUp rest bytes messages = BytesRepresent all_items RepresentsUp rest bytes messages

-- ---- a connection

-- One connection over bytes: the bytes under way in each direction; the host's end with what its decoder holds, and
-- whether the host is attached; which terminal is attached, if one is, and that terminal with its history.
pub record ByteLink : Type 0 where
  pub lost : Bool
  pub down : List ℕ
  pub up : List ℕ
  pub host_here : Bool
  pub host : Session
  pub host_rest : Rest
  pub term_here : Option ℕ
  pub tracked : TrackedTerminal

-- the screen of a display, with its model and size
abbrev pub sized : Display → SizedScreen
sized display = record { model = display.model; size = display.size; screen = display.screen }

-- Holds if negotiation, screen, keyboard and history are those of the end over messages.
pub record IsEnd (bytes : ByteEnd) (end : TermEnd) : Type 0 where
  pub talk_is : bytes.talk ≡ end.talk
  pub screen_is : bytes.station.screen ≡ sized end.display
  pub keyboard_is : bytes.station.keyboard ≡ end.display.keyboard
  pub last_restored_is : bytes.history.last_restored ≡ end.display.last_restored
  pub before_restored_is : bytes.history.before_restored ≡ end.display.before_restored
  pub erased_is : bytes.history.erased ≡ end.display.erased

-- Holds if the terminal is attached, its decoder holds `rest`, and its end is the end over messages.
pub record Holds (rest : Rest) (tracked : TrackedTerminal) (end : TermEnd) : Type 0 where
  pub talk : Term
  pub attached : tracked.terminal.link ≡ Attached rest talk
  pub is_end : IsEnd (end_at talk tracked) end

-- Holds if the host's end is the one over messages, and its decoder holds `rest`.
pub record HostRepresents (bytes : ByteLink) (link : Link) (rest : Rest) : Type 0 where
  pub host : bytes.host ≡ link.host
  pub rest_is : bytes.host_rest ≡ rest

-- Holds if the terminal's end is the one over messages, and the bytes to it represent the messages to it, apart from
-- items that it ignores. The terminal's own output counts as under way.
pub record TermRepresentsBy (ignored : WireItem → Bool) (bytes : ByteLink) (link : Link) : Type 0 where
  pub rest : Rest
  pub holds : Holds rest bytes.tracked link.term
  pub silent : bytes.tracked.terminal.out ≡ []
  pub down : BytesDownBy ignored rest bytes.down link.down

abbrev pub TermRepresents : ByteLink → Link → Type 0
TermRepresents = TermRepresentsBy is_nop

-- Holds if a connection over bytes represents one over messages. After `read`, the bytes under way to the host spell
-- the messages under way to it, also if the host has left: each item that `heard` selects represents one as `Up` says.
-- The terminal ignores the items `ignored`. While the host is attached, `read` is what its decoder holds. Nothing else is required of an end that has left, or of
-- what is under way to a terminal that has left: no step reads these.
pub record LinkRepresentsBy (heard : List WireItem → List WireItem) (Up : WireItem → ToHost → Type 0)
    (ignored : WireItem → Bool)
    (bytes : ByteLink) (link : Link) : Type 0 where
  pub lost : bytes.lost ≡ link.lost
  pub host_here : bytes.host_here ≡ link.host_here
  pub term_here : bytes.term_here ≡ link.term_here
  pub read : Rest
  pub up : BytesRepresent heard Up read bytes.up link.up
  pub host : link.host_here ≡ true → HostRepresents bytes link read
  pub term : (terminal : ℕ) → link.term_here ≡ Some terminal → TermRepresentsBy ignored bytes link

-- Holds if a connection over bytes of our terminal represents one over messages.
abbrev pub LinkRepresents : ByteLink → Link → Type 0
LinkRepresents bytes link = LinkRepresentsBy all_items RepresentsUp is_nop bytes link

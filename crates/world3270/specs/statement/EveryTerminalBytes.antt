-- One connection over bytes between a host that serves any terminal and a terminal that keeps the rules, from the
-- host's agreement on an LU on (our profile): what may happen on it, in terms of the calls of `Host`, and what holds
-- then. Other clients may do anything.
use Rattle.std.specs.Prelude.{◌≡◌, ◌<◌, ◌==◌, ◌||◌, ◌&&◌, not, ℕ, Bool, true, false, List, [], ◌∷◌, ◌++◌, Option, Some, None, ⊤, All, drop, take, if◌then◌else◌}
use Rattle.codes3270.specs.declared.attention.Aid.{Aid}
use Rattle.codes3270.specs.declared.attention.Aid.TheVariants.{NoAid, Clear}
use Rattle.codes3270.specs.declared.attribute.Cell.{Cell}
use Rattle.codes3270.specs.declared.attribute.Cell.TheVariants.{Char, Attr}
use Rattle.datastream.specs.Grammar.{codes_of}
use Rattle.datastream.specs.InboundText.{stands_alone}
use Rattle.datastream.specs.declared.command_code.CommandCode.{CommandCode}
use Rattle.datastream.specs.declared.command_code.CommandCode.TheVariants.{EraseWrite, EraseWriteAlternate}
use Rattle.datastream.specs.declared.inbound_part.Form.TheVariants.{Modified}
use Rattle.lu_pool.specs.HolderLaws.{IsSound as IsSoundPool}
use Rattle.panels.specs.Panel.{AreSound}
use Rattle.telnet_wire.specs.Items.{WireItem, Record}
use Rattle.telnet_wire.specs.Reading.{Rest}
use Rattle.tn3270e_msg.specs.Header.{header_length}
use Rattle.tn3270e_msg.specs.TermTable.{Term}
use Rattle.tn3270e_msg.specs.declared.cause.Fed.{Fed}
use Rattle.term_core.specs.Bytes.{TakesByte}
use Rattle.term_core.specs.State.{Attached, Terminal}
use Rattle.host_core.specs.Application.{Application, AreTexts, application_of}
use Rattle.host_core.specs.Bytes.{ConnectionAndPool}
use Rattle.host_core.specs.Does.{Does as HostDoes, DoesAnswer, acted_by, noted_by}
use Rattle.host_core.specs.Feeds.{Feeds, IsOpen, connection_and_pool_at, with_connection_and_pool}
use Rattle.host_core.specs.KeepAlive.{kept_alive}
use Rattle.host_core.specs.Messages.{ToHost}
use Rattle.host_core.specs.Notes.{IsNoteText}
use Rattle.host_core.specs.Questions.{answered_by}
use Rattle.host_core.specs.Reports.{Reports}
use Rattle.host_core.specs.Sound.{IsSound, NobodyShares}
use Rattle.host_core.specs.State.{Connection, Host, connection_at, lu_of, most_connections, state_at, session_at, with_connection, with_reports}
use Rattle.host_core.specs.declared.acted.Acted.{Acted}
use Rattle.host_core.specs.declared.acted.Acted.TheVariants as acted_as
use Rattle.host_core.specs.declared.question.Answer.{Answer as ApplicationAnswer}
use Rattle.host_core.specs.declared.question.Ticket.{Ticket}
use Rattle.world3270.specs.model.ByteWorld.{is_there}
use Rattle.world3270.specs.statement.EveryTerminal.{AreByTheRules, FirstPaint, Move, RightOf, LinkWithReport, after_moves, is_pa, key_pressed, sends_clear}
use Rattle.world3270.specs.model.Enabled.{is_queued}
use Rattle.world3270.specs.refinement.Readings.{AreReadAs, IsReadAs}
use Rattle.world3270.specs.statement.Rules.{Operates}
use Rattle.world3270.specs.refinement.Sendable.{CanBeSent}
use Rattle.world3270.specs.refinement.Representation.{conn_of, rest_of, with_out}
use Rattle.world3270.specs.refinement.Represents.{ByteLink, LinkRepresentsBy, sized}
use Rattle.world3270.specs.refinement.Ignored.{is_ignored_by_terminal, without_ignored}
use Rattle.world3270.specs.model.Terminal.{Display, TermEnd, TermStep}
use Rattle.world3270.specs.model.TrackedTerminals.{TrackedTerminal, TrackedTakesByte}

-- ---- the connection

-- What was pressed in the wait. `waits`: a key that sent data was pressed since the last write that restored the
-- keyboard, so that a 3278's keyboard would be locked, or there was no such write yet. `first`: the AID of that key.
-- `cleared`: Clear was pressed since, too. Then a write that doesn't erase doesn't end the wait: the host writes its
-- panel again.
pub record Pressed : Type 0 where
  pub waits : Bool
  pub first : Aid
  pub cleared : Bool

-- The host with all its connections; the bytes under way to the terminal, which the host has handed over, and to the
-- host; and the terminal with the history of its screen. The terminal's output counts as under way. No step of either
-- end reads `pressed`. A loss needs no move: no move has to happen, so after a loss, in one direction or both, nothing
-- more is taken or fed there. Closing the connection at the host ends what is said here.
pub record OverBytes : Type 0 where
  pub host : Host
  pub down : List ℕ
  pub up : List ℕ
  pub tracked : TrackedTerminal
  pub pressed : Pressed

-- ---- the terminal

abbrev pub display_of : TrackedTerminal → Display
display_of tracked = record {
  model = tracked.terminal.station.screen.model;
  size = tracked.terminal.station.screen.size;
  screen = tracked.terminal.station.screen.screen;
  keyboard = tracked.terminal.station.keyboard;
  last_restored = tracked.history.last_restored;
  before_restored = tracked.history.before_restored;
  erased = tracked.history.erased;
}

abbrev pub end_of : Term → TrackedTerminal → TermEnd
end_of talk tracked = record { waits = false; talk = talk; display = display_of tracked }

-- the terminal with this display, which gives its next record of data this SEQ-NUMBER
abbrev pub displaying : Display → (number : ℕ) → TrackedTerminal → TrackedTerminal
displaying display number tracked = record {
  terminal = record tracked.terminal {
    station = record tracked.terminal.station { screen = sized display; keyboard = display.keyboard; number = number };
  };
  history = record {
    last_restored = display.last_restored;
    before_restored = display.before_restored;
    erased = display.erased;
  };
}

-- the item that a byte completes, if it does
abbrev pub item_completed : {old new : Terminal} {byte : ℕ} → TakesByte old byte new → Option WireItem
item_completed (TakesByte.goes_on rest to talk held delivers is) = None
item_completed (TakesByte.completes rest to talk after item says closes station held delivers takes is) = Some item
item_completed (TakesByte.breaks rest talk fault held wrong is) = None

-- whether the first byte is one of the command's two codes (GA23-0059-07, "Commands")
abbrev pub is_code : CommandCode → List ℕ → Bool
is_code code [] = false
is_code code (byte ∷ rest) = byte == (codes_of code).0 || byte == (codes_of code).1

-- whether the item is a record with this command after its header (RFC 1647, section 8.1)
abbrev pub has_code : CommandCode → Option WireItem → Bool
has_code code (Some (Record bytes)) = is_code code (drop header_length bytes)
has_code code _ = false

-- Whether a byte ends the wait: it completes a write that restores the keyboard, and one that erases if Clear was
-- pressed in the wait.
abbrev pub ends_wait : (cleared writes : Bool) → Option WireItem → Bool
ends_wait cleared writes item =
    (not cleared || (has_code EraseWrite item || has_code EraseWriteAlternate item)) && writes

-- what was pressed in the wait, once the wait has ended if it ends
abbrev pub ended_if : Bool → Pressed → Pressed
ended_if true pressed = record { waits = false; first = NoAid; cleared = false }
ended_if false pressed = pressed

-- The terminal takes the next byte, as RFC 1647 and GA23-0059-07 say and as ours does. It may send any bytes that the
-- host reads as the messages that ours sends.
pub record Takes (old new : OverBytes) : Type 0 where
  pub byte : ℕ
  pub behind : List ℕ
  pub next : old.down ≡ byte ∷ behind
  pub ours : TrackedTerminal
  pub takes : TrackedTakesByte old.tracked byte ours
  pub bytes : List ℕ
  pub alike : (messages : List ToHost) → AreReadAs ours.terminal.out messages → AreReadAs bytes messages
  pub leaves : new ≡ record {
    host = old.host;
    down = behind;
    up = old.up ++ bytes;
    tracked = with_out [] ours;
    pressed = ended_if
        (ends_wait old.pressed.cleared ours.terminal.station.took_write (item_completed takes.takes)) old.pressed;
  }

-- what was pressed in the wait, after a step of the operator
abbrev pub pressed_by : TermStep → Pressed → Pressed
pressed_by step old = record {
  waits = old.waits || is_queued step.sends;
  first = if old.waits then old.first else step.end.display.screen.aid;
  cleared = old.cleared || (old.waits && sends_clear step);
}

-- whether each cell has a character: no attribute, so that the screen has no fields, and no null
abbrev pub is_full : List Cell → Bool
is_full [] = true
is_full (Char byte ∷ cells) = not (byte == 0) && is_full cells
is_full (Attr attribute ∷ cells) = false

-- whether a step of the operator sends the characters of such a screen; Clear and PA send none
abbrev pub sends_full : TermStep → Bool
sends_full step = let screen = step.end.display.screen in
    is_queued step.sends && (not (stands_alone Modified screen.aid) && is_full screen.cells)

-- The operator does something by the rules, on a connection that the terminal hasn't closed, and leaves characters that
-- a terminal can store. The terminal may spell what it sends in any way that the host reads alike, and number its
-- records of data as it likes.
-- Clear may be pressed in the wait, but not after PA, whose screen the host reads (`not_after_pa`). After Clear in the
-- wait no key sends a whole screen of characters: its data would have the bytes of an answer to Read Buffer
-- (`not_full`). That excludes an operator who fills the cleared screen, to the last cell, before the wait ends.
pub record IsOperated (step : TermStep) (old new : OverBytes) : Type 0 where
  pub rest : Rest
  pub talk : Term
  pub attached : old.tracked.terminal.link ≡ Attached rest talk
  pub does : Operates (end_of talk old.tracked) step
  pub not_after_pa : old.pressed.waits ≡ true → key_pressed does ≡ Clear → is_pa old.pressed.first ≡ false
  pub not_full : old.pressed.cleared ≡ true → sends_full step ≡ false
  pub stored : CanBeSent step.end.display.size step.end.display.screen
  pub bytes : List ℕ
  pub encoded : AreReadAs bytes step.sends
  pub number : ℕ
  pub leaves : new ≡ record old {
    up = old.up ++ bytes;
    tracked = displaying step.end.display number old.tracked;
    pressed = pressed_by step old.pressed;
  }

-- ---- what may happen

abbrev pub with_host : Host → OverBytes → OverBytes
with_host host old = record old { host = host }

-- with this connection at this number
abbrev pub on_connection : ℕ → Connection → OverBytes → OverBytes
on_connection number connection old = with_host (with_connection number connection old.host) old

-- what the invariant of `Host` says of each of its values
pub record IsHost (host : Host) : Type 0 where
  pub sound : IsSound host
  pub unshared : NobodyShares host

-- Holds if the host changed only on other connections, its pool is sound, and it is one that its type allows.
pub record IsElsewhere (number : ℕ) (old new : Host) : Type 0 where
  pub panels : new.panels ≡ old.panels
  pub stays : connection_at number new ≡ connection_at number old
  pub pool : IsSoundPool new.pool
  pub is_host : IsHost new

-- One move. Bytes under way are fed to the host, which may stop before the last of them; it hands bytes over; it acts,
-- is answered by the application, or sends a note (memory may be refused for these); it keeps the connection alive; the
-- connection's unreported events change, as when one is handed out; something happens on other connections. The
-- terminal takes a byte, its operator does something, or it sends what the host only answers, by refusing an option, or
-- ignores: commands, options but WONT TN3270E, subnegotiations of other options, and records of other types.
pub data Moves (app : Application) (number : ℕ) (old new : OverBytes) : Type 0 where
  feeds : (bytes behind : List ℕ) (fed : Fed) (counter : ConnectionAndPool) → old.up ≡ bytes ++ behind
      → Feeds number (connection_and_pool_at number old.host) bytes fed counter
      → new
      ≡ record old { host = with_connection_and_pool number counter old.host; up = drop fed.taken bytes ++ behind }
      → Moves app number old new
  hands_over : (count : ℕ) → new ≡ record old {
    host = with_connection number
        (record (connection_at number old.host) { out = drop count (connection_at number old.host).out }) old.host;
    down = old.down ++ take count (connection_at number old.host).out;
  } → Moves app number old new
  acts : (did : Acted) (connection : Connection)
      → HostDoes (acted_by app (state_at number old.host)) (connection_at number old.host) did connection
      → new ≡ on_connection number connection old → Moves app number old new
  answers : (ticket : Ticket) (said : ApplicationAnswer) (did : Acted) (connection : Connection) → AreTexts said.values
      → DoesAnswer app said (answered_by app (session_at number old.host) ticket said (state_at number old.host))
      (connection_at number old.host) did connection
      → new ≡ on_connection number connection old → Moves app number old new
  notes : (text : List ℕ) (did : Acted) (connection : Connection) → IsNoteText text
      → HostDoes (noted_by text (state_at number old.host)) (connection_at number old.host) did connection
      → new ≡ on_connection number connection old → Moves app number old new
  keeps_alive : new ≡ on_connection number (kept_alive (connection_at number old.host)) old → Moves app number old new
  reports : (events : Reports) → new ≡ with_host (with_reports number events old.host) old → Moves app number old new
  elsewhere : (host : Host) → IsElsewhere number old.host host → new ≡ with_host host old → Moves app number old new
  takes : Takes old new → Moves app number old new
  operates : (step : TermStep) → IsOperated step old new → Moves app number old new
  sends_ignored : (bytes : List ℕ) → AreReadAs bytes [] → new ≡ record old { up = old.up ++ bytes }
      → Moves app number old new

-- Holds if moves lead from `old` through these states to `new`.
abbrev pub LeadTo : Application → ℕ → List OverBytes → OverBytes → OverBytes → Type 0
LeadTo app number [] old new = new ≡ old
LeadTo app number (next ∷ others) old new = Moves app number old next × LeadTo app number others next new

-- ---- which moves over messages these are

abbrev pub IsUp : Move → Type 0
IsUp (Move.Up pool) = ⊤
IsUp Move.Down = ⊥
IsUp Move.Act = ⊥
IsUp (Move.Answer said) = ⊥
IsUp (Move.Note text) = ⊥
IsUp (Move.Operate step) = ⊥
IsUp Move.Lose = ⊥

abbrev pub IsDown : Move → Type 0
IsDown (Move.Up pool) = ⊥
IsDown Move.Down = ⊤
IsDown Move.Act = ⊥
IsDown (Move.Answer said) = ⊥
IsDown (Move.Note text) = ⊥
IsDown (Move.Operate step) = ⊥
IsDown Move.Lose = ⊥

-- the move once, or not at all if there was nothing to do or memory was refused
abbrev pub if_sent : Acted → Move → List Move
if_sent acted_as.Sent move = move ∷ []
if_sent acted_as.Nothing move = []
if_sent acted_as.Memory move = []

-- Holds if a move over bytes is these moves over messages. Bytes that are fed deliver messages to the host, and a byte
-- that the terminal takes delivers messages to it; what host and operator do is one move; any other move is none.
abbrev pub AreMovesOf : {app : Application} {number : ℕ} {old new : OverBytes} → Moves app number old new
    → List Move → Type 0
AreMovesOf (Moves.feeds bytes behind fed counter queue hears is) moves = All IsUp moves
AreMovesOf (Moves.hands_over count is) moves = moves ≡ []
AreMovesOf (Moves.acts did connection does is) moves = moves ≡ if_sent did Move.Act
AreMovesOf (Moves.answers ticket said did connection texts does is) moves = moves ≡ if_sent did (Move.Answer said)
AreMovesOf (Moves.notes text did connection is_text does is) moves = moves ≡ if_sent did (Move.Note text)
AreMovesOf (Moves.keeps_alive is) moves = moves ≡ []
AreMovesOf (Moves.reports events is) moves = moves ≡ []
AreMovesOf (Moves.elsewhere host other is) moves = moves ≡ []
AreMovesOf (Moves.takes comes) moves = All IsDown moves
AreMovesOf (Moves.operates step does) moves = moves ≡ Move.Operate step ∷ []
AreMovesOf (Moves.sends_ignored bytes ignored is) moves = moves ≡ []

-- Holds if a list of moves over bytes is these moves over messages.
abbrev pub AreMoves : (app : Application) (number : ℕ) (states : List OverBytes) (old new : OverBytes)
    → LeadTo app number states old new → List Move → Type 0
AreMoves app number [] old new lead moves = moves ≡ []
AreMoves app number (next ∷ others) old new lead moves =
    (first : List Move) × (more : List Move) × AreMovesOf lead.0 first × AreMoves app number others next new lead.1 more
    × (moves ≡ first ++ more)

-- ---- what the bytes represent

-- the connection as one over bytes; what the host has to send counts as under way, too
abbrev pub link_over : ℕ → OverBytes → ByteLink
link_over number bytes = record {
  lost = false;
  down = bytes.down ++ (connection_at number bytes.host).out;
  up = bytes.up;
  host_here = is_there (state_at number bytes.host);
  host = conn_of (state_at number bytes.host);
  host_rest = rest_of (state_at number bytes.host);
  term_here = Some 0;
  tracked = bytes.tracked;
}

-- Holds if this was pressed in the wait over messages, where `first` is the AID of what the host was told.
pub record WasPressed (pressed : Pressed) (waits : Bool) (first : Aid) (cleared : Bool) : Type 0 where
  pub waits_is : pressed.waits ≡ waits
  pub first_is : waits ≡ true → pressed.first ≡ first
  pub cleared_is : pressed.cleared ≡ cleared

-- Holds if the bytes represent the connection over messages: the ends are equal, and the bytes spell its messages, apart
-- from what each end ignores.
pub record Represents (number : ℕ) (bytes : OverBytes) (told : LinkWithReport) : Type 0 where
  pub is_open : IsOpen (state_at number bytes.host)
  pub stands : LinkRepresentsBy without_ignored IsReadAs is_ignored_by_terminal (link_over number bytes) told.link
  pub pressed : WasPressed bytes.pressed told.waits told.told.screen.aid told.cleared
  pub unnamed : told.link.term.waits ≡ false
  pub stored : CanBeSent told.link.term.display.size told.link.term.display.screen

-- both ends as they are just after the host has agreed on this LU
pub record BeginsOverBytes (app : Application) (number : ℕ) (lu : List ℕ) (bytes : OverBytes) : Type 0 where
  pub begin : LinkWithReport
  pub begins : FirstPaint app lu begin
  pub represents : Represents number bytes begin
  pub below : number < most_connections
  pub is_host : IsHost bytes.host
  pub pool : IsSoundPool bytes.host.pool

-- ---- what holds

-- Holds if the moves over bytes are moves over messages that keep the rules, the bytes represent the connection after
-- these, and `RightOf` holds of it: of the host's connection and the terminal's screen as they are. The host has
-- granted the LU to no other connection.
pub record RightOverBytes (app : Application) (number : ℕ) (lu : List ℕ) (begin : LinkWithReport)
    (states : List OverBytes)
    (old new : OverBytes)
    (lead : LeadTo app number states old new) : Type 0 where
  pub moves : List Move
  pub are_moves : AreMoves app number states old new lead moves
  pub by_the_rules : AreByTheRules app moves begin
  pub represents : Represents number new (after_moves app moves begin)
  pub right : RightOf app lu (after_moves app moves begin)
  pub alone : (other : ℕ) → lu_of (state_at other new.host) ≡ Some lu → other ≡ number

-- From any such begin, with a host whose panels are sound, after any moves in any order, `RightOverBytes` holds.
abbrev pub EveryTerminalOverBytes : Type 0
EveryTerminalOverBytes = (number : ℕ) (lu : List ℕ) (old new : OverBytes) (states : List OverBytes)
    → let app = application_of old.host.panels in
    AreSound old.host.panels → (begins : BeginsOverBytes app number lu old) → (lead : LeadTo app number states old new)
    → RightOverBytes app number lu begins.begin states old new lead

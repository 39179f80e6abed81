-- The ends of a connection whose bytes represent messages: a terminal does with each item, and with
-- each key, what it does over messages (our profile).
use Rattle.std.specs.Prelude.{◌≡◌, ⊤, ℕ, Bool, true, false, List, ◌++◌, length, Option, None}
use Rattle.presentation.specs.Sizes.{HasSize}
use Rattle.std.specs.List.{AllByRecursion}
use Rattle.codes3270.specs.Size.{cells_in}
use Rattle.datastream.specs.Grammar.{CommandParts}
use Rattle.datastream.specs.Note.{IsNote}
use Rattle.datastream.specs.Wanted.{WantedScreen}
use Rattle.keyboard.specs.declared.key.Key.{Key}
use Rattle.shadow.specs.Belief.{Shadow}
use Rattle.shadow.specs.Fits.{is_paintable}
use Rattle.shadow.specs.Meets.{Meets}
use Rattle.shadow.specs.Paint.{paint}
use Rattle.shadow.specs.Pairs.{Pairwise}
use Rattle.telnet_wire.specs.Items.{WireItem, Record, CanCome, sent_bytes}
use Rattle.telnet_wire.specs.Reading.{Rest}
use Rattle.tn3270e_msg.specs.Header.{Begins, record_limit, always_response}
use Rattle.tn3270e_msg.specs.Talk.{IsOwnedMessage, IsLuIfSome, NegotiationMessage}
use Rattle.tn3270e_msg.specs.declared.term_talk.TermState.{TermState}
use Rattle.tn3270e_msg.specs.declared.term_talk.TermState.TheVariants.{Willing, Closed}
use Rattle.term_core.specs.Presses.{key_outcome}
use Rattle.host_core.specs.KeepAlive.{no_operation}
use Rattle.host_core.specs.Messages.{ToTerminal}
use Rattle.host_core.specs.Says.{command_header}
use Rattle.world3270.specs.refinement.Sendable.{CanBeSent, IsSpeltFor}
use Rattle.world3270.specs.model.TrackedTerminals.{TrackedTerminal, ByteEnd, ByteStep, EndTakes, tracked_after_key}
use Rattle.world3270.specs.refinement.Represents.{RepresentsDown, RepresentsUp, IsEnd, Holds}
use Rattle.world3270.specs.model.Terminal.{TermEnd, TermStep, is_bound, quiet, took, key_came}

-- ---- what is painted

-- A record with a paint of the wanted screen represents that paint, if it fits the belief.
abbrev pub PaintRepresents : Type 0
PaintRepresents = (number : ℕ) (wanted : WantedScreen) (believed : Shadow) (bytes body : List ℕ)
    → length wanted.cells ≡ cells_in wanted.size → Begins bytes (command_header always_response number) body
    → IsSpeltFor wanted (paint (cells_in wanted.size) believed wanted) body → is_paintable believed wanted ≡ true
    → RepresentsDown (Record bytes) (ToTerminal.Paint number wanted believed)

-- ---- when a message may come

-- Holds if the LUs in what is said have names of LUs.
abbrev pub IsSaid : NegotiationMessage → Type 0
IsSaid (NegotiationMessage.Opt verb code) = ⊤
IsSaid (NegotiationMessage.Sub sending) = IsOwnedMessage sending

-- Holds if the negotiation hasn't closed the connection.
abbrev pub IsOpen : TermState → Type 0
IsOpen (Closed cause) = ⊥
IsOpen _ = ⊤

-- Holds if the LU that the terminal still has to request, if there is one, has the name of an LU.
abbrev pub NamesWanted : TermState → Option (List ℕ) → Type 0
NamesWanted Willing wanted = IsLuIfSome wanted
NamesWanted _ wanted = ⊤

-- Holds if the terminal may take a paint: its screen meets the belief, and the wanted size is one of its model's.
pub record MayBePainted (wanted : WantedScreen) (believed : Shadow) (end : TermEnd) : Type 0 where
  pub is_open : IsOpen end.talk.talk.state
  pub meets : Meets believed end.display.screen
  pub size : HasSize end.display.model wanted.size
  pub now : HasSize end.display.model end.display.size

-- Holds if the terminal may take a note: it was written for the size that the screen has.
pub record MayTakeNote (command : CommandParts) (end : TermEnd) : Type 0 where
  pub is_open : IsOpen end.talk.talk.state
  pub note : IsNote command
  pub size : command.size ≡ end.display.size

-- Holds if the terminal may take the message in this state.
abbrev pub MayCome : TermEnd → ToTerminal → Type 0
MayCome end (ToTerminal.TalksDown saying) = IsSaid saying × NamesWanted end.talk.talk.state end.talk.wanted
MayCome end (ToTerminal.Paint number wanted believed) = MayBePainted wanted believed end
MayCome end (ToTerminal.ReadBuffer number) = IsOpen end.talk.talk.state
MayCome end (ToTerminal.Note number command) = MayTakeNote command end

-- ---- what a terminal does with an item

-- An item arrives that represents a message which the terminal may take; its screen can be sent.
pub record ItemComes (message : ToTerminal) (item : WireItem) (old : ByteEnd) (end : TermEnd)
    (step : ByteStep) : Type 0 where
  pub stands : RepresentsDown item message
  pub may : MayCome end message
  pub sendable : CanBeSent end.display.size end.display.screen
  pub is_end : IsEnd old end
  pub takes : EndTakes old item step

-- Holds if a step over bytes is the step over messages: it leads to the same end, sends items that represent the
-- messages, each within the decoder's limit, and closes for the same cause, if it does.
pub record SameStep (bytes : ByteStep) (step : TermStep) : Type 0 where
  pub is_end : IsEnd bytes.end step.end
  pub said : Pairwise RepresentsUp bytes.says step.sends
  pub fit : AllByRecursion (CanCome record_limit) bytes.says
  pub closed : bytes.closes ≡ step.closes

-- A terminal does with an item what it does with the message that the item represents.
abbrev pub TermTakes : Type 0
TermTakes = (message : ToTerminal) (item : WireItem) (old : ByteEnd) (end : TermEnd) (step : ByteStep)
    → ItemComes message item old end step → SameStep step (took end message)

-- Holds if a step changes nothing: the terminal sends nothing, and no write is marked.
pub record IsUnmoved (end : TermEnd) (step : ByteStep) : Type 0 where
  pub same : SameStep step (quiet end)
  pub unmarked : step.end.station.took_write ≡ false

-- NOP has no effect while the connection isn't closed (RFC 854).
abbrev pub NopHasNoEffect : Type 0
NopHasNoEffect = (old : ByteEnd) (end : TermEnd) (step : ByteStep)
    → IsOpen end.talk.talk.state → IsEnd old end → EndTakes old no_operation step → IsUnmoved end step

-- No such item has an effect while the connection isn't closed.
abbrev pub HaveNoEffect : (WireItem → Bool) → Type 0
HaveNoEffect ignored = (item : WireItem) (old : ByteEnd) (end : TermEnd) (step : ByteStep)
    → ignored item ≡ true → IsOpen end.talk.talk.state → IsEnd old end → EndTakes old item step → IsUnmoved end step

-- whether the message is a paint and the terminal is bound
abbrev pub is_painted : TermEnd → ToTerminal → Bool
is_painted end (ToTerminal.TalksDown saying) = false
is_painted end (ToTerminal.Paint number wanted believed) = is_bound end
is_painted end (ToTerminal.ReadBuffer number) = false
is_painted end (ToTerminal.Note number command) = false

-- The byte that completes the item marks a write exactly if it is a paint and the terminal is bound.
abbrev pub WritesAreMarked : Type 0
WritesAreMarked = (message : ToTerminal) (item : WireItem) (old : ByteEnd) (end : TermEnd) (step : ByteStep)
    → ItemComes message item old end step → step.end.station.took_write ≡ is_painted end message

-- After the message, the terminal's screen can still be sent.
abbrev pub TakesKeepSendable : Type 0
TakesKeepSendable = (message : ToTerminal) (item : WireItem) (end : TermEnd)
    → RepresentsDown item message → MayCome end message
    → CanBeSent end.display.size end.display.screen → let after = (took end message).end.display in
    CanBeSent after.size after.screen

-- ---- what a terminal does with a key

-- Holds if the terminal stays attached, and the data of the key is appended to what it had to send.
pub record SameKey (old new : TrackedTerminal) (rest : Rest) (step : TermStep) : Type 0 where
  pub holds : Holds rest new step.end
  pub items : List WireItem
  pub sent : new.terminal.out ≡ old.terminal.out ++ sent_bytes items
  pub said : Pairwise RepresentsUp items step.sends
  pub fit : AllByRecursion (CanCome record_limit) items
  pub closed : step.closes ≡ None

-- A terminal does with a key what it does over messages, if the screen after the key can be sent.
abbrev pub TermPresses : Type 0
TermPresses = (key : Key) (old : TrackedTerminal) (rest : Rest) (end : TermEnd)
    → Holds rest old end → CanBeSent end.display.size (key_outcome key old.terminal.station).screen
    → SameKey old (tracked_after_key key old) rest (key_came key end)

-- The invariant of the headline, for proofs: what holds of a connection at each of its moments (our profile).
use Rattle.std.specs.Prelude.{◌≡◌, ◌<◌, ◌||◌, not, ⊤, ℕ, Bool, false, List, length, Option, Some, None, IsTrue, IsOkAnd, true}
use Rattle.codes3270.specs.Aid.{is_short_aid}
use Rattle.codes3270.specs.Size.{ScreenSize, cells_in}
use Rattle.codes3270.specs.declared.attention.Aid.TheVariants.{NoAid, Clear}
use Rattle.datastream.specs.Fields.{IsUnformatted}
use Rattle.datastream.specs.Grammar.{CommandParts}
use Rattle.datastream.specs.KeptByKeys.{KeptByKeys}
use Rattle.datastream.specs.InboundFields.{buffer_data}
use Rattle.datastream.specs.InboundText.{InboundParts}
use Rattle.datastream.specs.Screen.{Screen}
use Rattle.datastream.specs.Wanted.{WantedScreen}
use Rattle.datastream.specs.declared.inbound_part.Form.TheVariants.{Modified}
use Rattle.keyboard.specs.declared.key.Lock.{Lock}
use Rattle.keyboard.specs.declared.key.Lock.TheVariants.{Wait}
use Rattle.shadow.specs.RuleBreaks.{rule_break}
use Rattle.shadow.specs.Belief.{Shadow}
use Rattle.shadow.specs.Exactness.{KnownIsExact, ProtectedIsExact}
use Rattle.shadow.specs.Heard.{heard}
use Rattle.shadow.specs.Laws.{Believed}
use Rattle.shadow.specs.Meets.{Meets, Knows, ListsFields, IsTold}
use Rattle.shadow.specs.Notes.{OverwritesProtected}
use Rattle.shadow.specs.Settled.{is_settled}
use Rattle.shadow.specs.TextUnknown.{NothingIsOpen}
use Rattle.shadow.specs.Paint.{paint}
use Rattle.shadow.specs.Taken.{taken}
use Rattle.tn3270e_msg.specs.Lu.{is_lu}
use Rattle.tn3270e_msg.specs.Talk.{IsLuIfSome}
use Rattle.host_core.specs.Application.{Application, IsSizeOf, message_place}
use Rattle.host_core.specs.Session.{Session}
use Rattle.host_core.specs.Laws.{IsPaintable}
use Rattle.host_core.specs.NoteLaws.{HasMessageRow, HasNoFields, TakesNotes, IsNoteOf}
use Rattle.host_core.specs.Takes.{is_after_pa, is_unread, may_be_read, may_have_changed}
use Rattle.host_core.specs.declared.turn_reason.TurnReason.{TurnReason}
use Rattle.host_core.specs.declared.turn_reason.TurnReason.TheVariants as turn_reasons
use Rattle.host_core.specs.declared.unheard.Unheard.{Unheard}
use Rattle.host_core.specs.declared.unheard.Unheard.TheVariants as unheards
use Rattle.world3270.specs.statement.AsLeft.{ProtectedIsAsLeft}
use Rattle.world3270.specs.statement.Headline.{SentFields}
use Rattle.world3270.specs.refinement.Phases.{NegotiationPhase, SessionPhase, LinkPhase, IsAt}
use Rattle.world3270.specs.statement.Showing.{WantsItsPanelOn, ShowsItsPanel}
pub use Rattle.world3270.specs.statement.Showing.{IsKnownIfRead}
use Rattle.world3270.specs.statement.TurnReasons.{IsOccasion, IsCursorFor, IsHome, IsOpenBy, IsOpenFor, IsCleared}
use Rattle.world3270.specs.refinement.Unreturned.{NotedSince, UnmodifiedIsKept}
use Rattle.world3270.specs.refinement.View.{View}

-- what the facts are about: at the host, the size that it set last, its belief, the reason of its turn, the cursor
-- address that it believes, and what may have changed without its knowledge; at the terminal, the keyboard lock, the
-- screen and its history
pub record LocalState : Type 0 where
  pub size : ScreenSize
  pub shadow : Shadow
  pub turn_reason : TurnReason
  pub cursor : ℕ
  pub unheard : Unheard
  pub lock : Lock
  pub screen : Screen
  pub last_restored : Screen
  pub erased : Bool

abbrev pub local_state_of : View → LocalState
local_state_of v = record {
  size = v.host.size;
  shadow = v.host.shadow;
  turn_reason = v.host.turn_reason;
  cursor = v.host.cursor;
  unheard = v.host.unheard;
  lock = v.lock;
  screen = v.screen;
  last_restored = v.last_restored;
  erased = v.erased;
}

-- the belief after a write is taken
abbrev pub once_taken : ScreenSize → CommandParts → Shadow → Shadow
once_taken size command shadow = taken (cells_in size) command shadow

-- Holds if a field of which all characters are known is known exactly, and so is each protected field.
pub record FactsAreExact (shadow : Shadow) : Type 0 where
  pub known : KnownIsExact shadow
  pub protected : ProtectedIsExact shadow

-- `Holds` is true if the host relies on the wait. (One that doesn't has all input in doubt whenever it shows a panel.)
abbrev pub IfRelies : Unheard → Type 0 → Type 0
IfRelies unheard Holds = unheard ≡ unheards.Nothing → Holds

-- ---- the talk

-- Holds if the LU is the one that the terminal requests, or it requests none.
abbrev pub IsWanted : Option (List ℕ) → List ℕ → Type 0
IsWanted None lu = ⊤
IsWanted (Some wanted) lu = lu ≡ wanted

pub record MayBeGranted (wanted : Option (List ℕ)) (lu : List ℕ) : Type 0 where
  pub is_lu : IsTrue (is_lu lu)
  pub is_wanted : IsWanted wanted lu

-- Holds if both ends are as at the begin of a connection, but for the negotiation.
pub record IsNew (s : LocalState) : Type 0 where
  pub shadow : s.shadow ≡ Shadow.NothingKnown
  pub turn_reason : s.turn_reason ≡ turn_reasons.Agreement
  pub lock : s.lock ≡ Wait
  pub aid : s.screen.aid ≡ NoAid
  pub no_fields : IsUnformatted s.screen.cells
  pub home : s.screen.cursor ≡ 0

-- ---- a session

-- Holds if each screen that differs from this one only in input meets the belief.
abbrev pub AllowsInput : Shadow → Screen → Type 0
AllowsInput shadow screen = (erased : Bool) (now : Screen) → KeptByKeys erased screen.cells now.cells → Meets shadow now

-- Holds while a paint of the wanted screen, over the host's belief, is under way.
pub record IsPainted (s : LocalState) (command : CommandParts) (wanted : WantedScreen) (over : Shadow) : Type 0 where
  pub lock : s.lock ≡ Wait
  pub over_is : over ≡ s.shadow
  pub command_is : command ≡ paint (cells_in wanted.size) over wanted
  pub meets : Meets over s.screen
  pub closed : IfRelies s.unheard (NothingIsOpen over)
  pub uncleared : may_be_read s.unheard ≡ true
  pub doubts : may_have_changed s.unheard ≡ true → AllowsInput over s.screen
  pub paintable : IsPaintable s.size over wanted

-- Holds while the operator types on `shown`: the screen that the host's last restoring write left, with the notes since
-- then. That screen meets the belief after the host has heard all that is under way.
pub record Operates (shadow : Shadow) (s : LocalState) : Type 0 where
  pub shown : Screen
  pub lock : s.lock ≡ Wait → ⊥
  pub uncleared : may_be_read s.unheard ≡ true
  pub exact : FactsAreExact shadow
  pub meets : Meets shadow shown
  pub closed : IfRelies s.unheard (NothingIsOpen shadow)
  pub knows : Knows shadow
  pub held : KeptByKeys s.erased shown.cells s.screen.cells
  pub messages : HasMessageRow s.size shown.cells
  pub noted : NotedSince (message_place s.size) s.last_restored.cells shown.cells

-- Holds if the host knows the screen.
pub record Sees (unheard : Unheard) (size : ScreenSize) (screen : Screen) (shadow : Shadow) : Type 0 where
  pub exact : FactsAreExact shadow
  pub closed : IfRelies unheard (IsOpenBy screen.aid false shadow)
  pub cleared : screen.aid ≡ Clear → IsCleared size shadow
  pub bare : screen.aid ≡ Clear → HasNoFields screen.cells
  pub meets : Meets shadow screen
  pub lists : ListsFields shadow screen
  pub told : SentFields screen.aid → IsTold shadow screen

-- Holds while a key's data is under way, and the keyboard is locked.
pub record IsPressed (s : LocalState) (parts : InboundParts) : Type 0 where
  pub lock : s.lock ≡ Wait
  pub uncleared : may_be_read s.unheard ≡ true
  pub form : parts.form ≡ Modified
  pub size : parts.size ≡ s.size
  pub pressed : parts.aid ≡ s.screen.aid
  pub cursor : is_short_aid s.screen.aid ≡ false → parts.cursor ≡ Some s.screen.cursor
  pub some : s.screen.aid ≡ NoAid → ⊥
  pub home : IsHome s.screen.aid s.screen.cursor

-- Holds if the belief is true of a screen of this size with a row for messages, as the one on which a key was pressed.
pub record WasShown (size : ScreenSize) (shadow : Shadow) : Type 0 where
  pub shown : Screen
  pub whole : length shown.cells ≡ cells_in size
  pub messages : HasMessageRow size shown.cells
  pub meets : Meets shadow shown

-- Holds if the belief is true of the screen of this size on which a note was written, over protected characters.
pub record WasNoted (size : ScreenSize) (command : CommandParts) (shadow : Shadow) : Type 0 where
  pub screen : Screen
  pub whole : length screen.cells ≡ cells_in size
  pub over : OverwritesProtected command screen
  pub meets : Meets shadow screen

-- The host will accept the key's data, and then `Then` holds of its belief.
abbrev pub WillBeHeard : ScreenSize → Shadow → InboundParts → (Shadow → Type 0) → Type 0
WillBeHeard size shadow parts Then = IsOkAnd (heard (cells_in size) shadow parts) Then

abbrev pub WillSee : LocalState → Shadow → InboundParts → Type 0
WillSee s shadow parts = WillBeHeard s.size shadow parts (Sees s.unheard s.size s.screen)

-- Holds while the host decides on the key that was pressed.
pub record Decides (s : LocalState) (shadow : Shadow) : Type 0 where
  pub lock : s.lock ≡ Wait
  pub turn_reason : IsOccasion s.turn_reason s.screen.aid
  pub cursor : IsCursorFor s.turn_reason s.cursor s.screen.cursor
  pub closed : IfRelies s.unheard (IsOpenFor s.turn_reason shadow)
  pub sees : Sees s.unheard s.size s.screen shadow

-- Holds while the screen is read before the host decides. It is never read after Clear, nor before a panel was shown,
-- nor twice after PA.
pub record IsRead (s : LocalState) : Type 0 where
  pub decides : Decides s s.shadow
  pub not_cleared : s.screen.aid ≡ Clear → ⊥
  pub not_first : s.turn_reason ≡ turn_reasons.Agreement → ⊥
  pub unread : is_after_pa s.turn_reason ≡ true → is_unread s.turn_reason ≡ true

-- whether the answer to Read Buffer counts (`is_read_believed`)
abbrev pub counts : LocalState → Bool
counts s = not (may_have_changed s.unheard) || (is_after_pa s.turn_reason || not (is_settled s.shadow))

-- Holds while the whole screen is under way to the host, with any AID. If it counts, the host then believes what it
-- hears of it; else the host decides by what it knows.
pub record IsReported (s : LocalState) (parts : InboundParts) : Type 0 where
  pub lock : s.lock ≡ Wait
  pub turn_reason : IsOccasion s.turn_reason s.screen.aid
  pub closed : IfRelies s.unheard (IsOpenFor s.turn_reason s.shadow)
  pub not_cleared : s.screen.aid ≡ Clear → ⊥
  pub not_first : s.turn_reason ≡ turn_reasons.Agreement → ⊥
  pub says : parts ≡ buffer_data s.size (record s.screen { aid = parts.aid })
  pub will : WillBeHeard s.size s.shadow (buffer_data s.size s.screen) (Believed false s.screen)
  pub unbroken : rule_break s.shadow s.screen.cells ≡ None
  pub known : counts s ≡ false → Decides s s.shadow

-- Holds if the note may be written on the screen.
pub record MayBeNoted (s : LocalState) (command : CommandParts) : Type 0 where
  pub note : IsNoteOf s.size command
  pub takes : TakesNotes s.size s.screen.cells

-- ---- the table: what is known at each moment

abbrev pub TalkFact : Option (List ℕ) → NegotiationPhase → Type 0
TalkFact wanted NegotiationPhase.Offering = IsLuIfSome wanted
TalkFact wanted NegotiationPhase.Accepting = IsLuIfSome wanted
TalkFact wanted NegotiationPhase.AskingType = IsLuIfSome wanted
TalkFact wanted NegotiationPhase.NamingType = IsLuIfSome wanted
TalkFact wanted (NegotiationPhase.Granting lu) = MayBeGranted wanted lu
TalkFact wanted _ = ⊤

abbrev pub ServingFact : LocalState → SessionPhase → Type 0
ServingFact s SessionPhase.Deciding = Decides s s.shadow
ServingFact s (SessionPhase.Reading number) = IsRead s
ServingFact s (SessionPhase.BufferReturning number parts) = IsReported s parts
ServingFact s (SessionPhase.DecidingNoteSent number command) = Decides s s.shadow × MayBeNoted s command
ServingFact s (SessionPhase.DecidingNoteAnswered number command) = Decides s (once_taken s.size command s.shadow)
ServingFact s (SessionPhase.Painting number command wanted over) = IsPainted s command wanted over
ServingFact s (SessionPhase.AwaitingWriteResponse kind number command) = Operates (once_taken s.size command s.shadow) s
ServingFact s SessionPhase.OperatorTyping = Operates s.shadow s
ServingFact s (SessionPhase.Noting number command) = Operates s.shadow s × IsNoteOf s.size command
ServingFact s (SessionPhase.KeySent parts) = IsPressed s parts × WillSee s s.shadow parts
    × TakesNotes s.size s.screen.cells × WasShown s.size s.shadow
ServingFact s (SessionPhase.KeySentAfterResponse kind number command parts) =
    IsPressed s parts × WillSee s (once_taken s.size command s.shadow) parts × TakesNotes s.size s.screen.cells
    × FactsAreExact (once_taken s.size command s.shadow) × WasShown s.size (once_taken s.size command s.shadow)
ServingFact s (SessionPhase.KeyCrossingNote number command parts) = IsPressed s parts × WillSee s s.shadow parts
    × MayBeNoted s command
ServingFact s (SessionPhase.KeyBeforeNoteResponse number command parts) =
    IsPressed s parts
    × WillBeHeard s.size s.shadow parts
    (λ shadow. Sees s.unheard s.size s.screen (once_taken s.size command shadow) × WasNoted s.size command shadow)

abbrev pub Fact : Option (List ℕ) → LocalState → LinkPhase → Type 0
Fact wanted s (LinkPhase.Negotiating talking) = IsNew s × TalkFact wanted talking
Fact wanted s (LinkPhase.FirstPaint lu number command paints over) = IsPainted s command paints over
Fact wanted s (LinkPhase.InSession lu serving) = ServingFact s serving

-- ---- what is shown at each moment

-- Holds if, in the host's turn, the connection's panel is shown, unless nothing was shown yet.
abbrev pub HasShownItsPanel : Application → Bool → Session → (before screen : Screen) → Type 0
HasShownItsPanel app waits host before screen = (host.turn_reason ≡ turn_reasons.Agreement → ⊥)
    → ShowsItsPanel app waits host before screen

-- Holds if a key was pressed, and the screen wasn't read since.
abbrev pub IsUnread : TurnReason → Type 0
IsUnread turn_reasons.Agreement = ⊥
IsUnread (turn_reasons.Key aid true) = ⊥
IsUnread (turn_reasons.Key aid false) = ⊤
IsUnread turn_reasons.Refusal = ⊤
IsUnread turn_reasons.Restoration = ⊤

-- `left`: the screen that the host's last restoring write left; `before`: the one that it found; `now`: the present one
abbrev pub ShownIn : Application → Bool → Session → (before left now : Screen) → SessionPhase → Type 0
ShownIn app waits host before left now SessionPhase.Deciding = HasShownItsPanel app waits host before left
    × IsKnownIfRead host.turn_reason host.shadow
    × (host.turn_reason ≡ turn_reasons.Agreement → IsUnformatted now.cells)
ShownIn app waits host before left now (SessionPhase.Reading number) = HasShownItsPanel app waits host before left
ShownIn app waits host before left now (SessionPhase.BufferReturning number parts) =
    HasShownItsPanel app waits host before left
ShownIn app waits host before left now (SessionPhase.DecidingNoteSent number command) =
    ShowsItsPanel app waits host before left
    × IsUnread host.turn_reason
ShownIn app waits host before left now (SessionPhase.DecidingNoteAnswered number command) =
    ShowsItsPanel app waits host before left
    × IsUnread host.turn_reason
ShownIn app waits host before left now (SessionPhase.Painting number command wanted over) =
    WantsItsPanelOn app waits host over wanted now
ShownIn app waits host before left now _ = ShowsItsPanel app waits host before left

abbrev pub ShownAt : Application → Bool → Session → (before left now : Screen) → LinkPhase → Type 0
ShownAt app waits host before left now (LinkPhase.Negotiating talking) = ⊤
ShownAt app waits host before left now (LinkPhase.FirstPaint lu number command wanted over) =
    WantsItsPanelOn app waits host over wanted now
ShownAt app waits host before left now (LinkPhase.InSession lu serving) = ShownIn app waits host before left now serving

-- ---- sizes

-- whether a paint is under way: until the terminal takes it, its screen may have another size than the host's
abbrev pub may_differ_in : SessionPhase → Bool
may_differ_in (SessionPhase.Painting number command wanted over) = true
may_differ_in _ = false

abbrev pub may_differ_at : LinkPhase → Bool
may_differ_at (LinkPhase.Negotiating talking) = false
may_differ_at (LinkPhase.FirstPaint lu number command wanted over) = true
may_differ_at (LinkPhase.InSession lu serving) = may_differ_in serving

-- Holds if the size that the host set last and the size of the screen are sizes that the terminal may have, and equal
-- unless a paint is under way.
pub record Sizes (app : Application) (v : View) (moment : LinkPhase) : Type 0 where
  pub host : IsSizeOf app v.model v.host.size
  pub screen : IsSizeOf app v.model v.size
  pub same : may_differ_at moment ≡ false → v.size ≡ v.host.size

-- The invariant: a connection is at some moment, and these facts hold at it.
pub record ConnectionInvariant (app : Application) (v : View) : Type 0 where
  pub whole : length v.screen.cells ≡ cells_in v.size
  pub cursor : v.screen.cursor < cells_in v.size
  pub unreturned : (v.screen.aid ≡ Clear → ⊥) → UnmodifiedIsKept v.erased v.last_restored.cells v.screen.cells
  pub as_left : (v.screen.aid ≡ Clear → ⊥)
      → ProtectedIsAsLeft (message_place v.size) v.last_restored.cells v.screen.cells
  pub exact : FactsAreExact v.host.shadow
  pub unrestored : v.host.restored ≡ 0
  pub wanted : Option (List ℕ)
  pub moment : LinkPhase
  pub sizes : Sizes app v moment
  pub at : IsAt v wanted moment
  pub fact : Fact wanted (local_state_of v) moment
  pub shown : ShownAt app v.waits v.host v.before_restored v.last_restored v.screen moment

-- While a read is pending the screen that the host was told has fields, and no response comes up before the read's answer.
use Rattle.std.proofs.Common.{◌≡◌, ◌++◌, ℕ, zero, suc, Bool, true, false, None, List, [], ◌∷◌, drop, refl, ap, sym, subst, ◌∙◌, if◌then◌else◌}
use Rattle.std.specs.List.{list_all}
use Rattle.codes3270.specs.declared.attention.Aid.TheVariants.{Clear}
use Rattle.codes3270.specs.declared.attribute.Cell.{Cell}
use Rattle.codes3270.specs.declared.attribute.Cell.TheVariants.{Char, Attr}
use Rattle.datastream.specs.Fields.{fields}
use Rattle.datastream.specs.Grammar.{CommandParts}
use Rattle.datastream.specs.HeldLaws.{HeldIsRound}
use Rattle.datastream.specs.KeptByKeys.{KeptByKeys, hold_under}
use Rattle.datastream.specs.Screen.{Screen, is_char, last_attribute}
use Rattle.datastream.specs.declared.inbound_part.Form.TheVariants.{Buffer, Modified}
use Rattle.datastream.proofs.FieldViews.{no_attribute, none_listed}
use Rattle.panels.specs.Screen.{Values}
use Rattle.panels.specs.declared.message.Message.{Message}
use Rattle.host_core.specs.Acts.{may_keep, wanted_by, when_shown}
use Rattle.host_core.specs.Application.{Application, IsApplication, IsShowable, message_place}
use Rattle.host_core.specs.NoteLaws.{HasMessageRow, IsProtectedRow}
use Rattle.host_core.specs.Messages.{ToHost}
use Rattle.host_core.specs.Session.{Session}
use Rattle.host_core.specs.Takes.{form_awaited}
use Rattle.host_core.specs.declared.turn_reason.TurnReason.TheVariants as turn_reasons
use Rattle.world3270.specs.statement.AsLeft.{ProtectedIsAsLeft, attribute_at}
use Rattle.world3270.specs.refinement.LowerLaws.{LowerLaws}
use Rattle.world3270.specs.model.Link.{Link}
use Rattle.world3270.specs.refinement.Phases.{IsAt, Kind, LinkPhase, SessionPhase, awaiting, pending_at, up_at}
use Rattle.world3270.specs.statement.Showing.{ShowsItsPanel}
use Rattle.world3270.specs.refinement.Invariant.{Fact, ConnectionInvariant, ShownAt, local_state_of}
use Rattle.world3270.specs.refinement.View.{view_of}
use Rattle.world3270.proofs.StillKept.{Alike, walked}

-- ---- a message row has an attribute

no_attribute_there : (cells : List Cell) (place : ℕ) → list_all is_char cells ≡ true → attribute_at cells place ≡ None
no_attribute_there [] place all = refl
no_attribute_there (Char byte ∷ cells) zero all = refl
no_attribute_there (Char byte ∷ cells) (suc place) all = no_attribute_there cells place all
no_attribute_there (Attr attribute ∷ cells) place all = absurd (cc)

row_there : (cells : List Cell) (place : ℕ) → IsProtectedRow (drop place cells) → attribute_at cells place ≡ None → ⊥
row_there [] zero row none = row
row_there [] (suc place) row none = row
row_there (Char byte ∷ cells) zero row none = row
row_there (Attr attribute ∷ cells) zero row none = absurd (cc)
row_there (cell ∷ cells) (suc place) row none = row_there cells place row none

-- ---- a panel has a message row

wanted_showable : (app : Application) → IsApplication app → (conn : Session) (panel : ℕ) (message : Message) (keep : Bool) (values : Values)
    → let wanted = wanted_by app conn panel message keep values in IsShowable wanted.size wanted
wanted_showable app is conn panel message false values = is.showable panel values message false
wanted_showable app is conn panel message true values = by_fit (may_keep conn (app.screen panel values message true))
  where
    by_fit : (b : Bool) → let wanted = if b then app.screen panel values message true else app.screen panel values message false in IsShowable wanted.size wanted
    by_fit true = is.showable panel values message true
    by_fit false = is.showable panel values message false

panel_has_fields : LowerLaws → (app : Application) → IsApplication app → (waits : Bool) (host : Session) (before left : Screen) (now : List Cell) (row : ℕ) → ShowsItsPanel app waits host before left → ProtectedIsAsLeft row left.cells now
    → fields now ≡ [] → ⊥
panel_has_fields given app is waits host before left now row p as_left none =
    let conn : Session = when_shown p.wanted_for.conn in
    let showable : IsShowable p.wanted.size p.wanted =
    subst (λ wanted. IsShowable wanted.size wanted) (sym p.wanted_for.wanted_is) (wanted_showable app is conn host.panel host.message p.wanted_for.keep host.values) in
    let place : ℕ = message_place p.wanted.size in
    let shown : HasMessageRow p.wanted.size left.cells =
    subst (λ (screen : Screen). HasMessageRow p.wanted.size screen.cells) (sym p.is) (given.notes.painted_takes p.wanted.size p.over p.wanted before (record { fits = p.fits; showable = showable })) in
    row_there left.cells place shown (sym (as_left.attributes place) ∙ no_attribute_there now place (no_attribute now 0 now none))

pub modified_only : Modified ≡ Buffer → ⊥
modified_only e = cc

no_read : (kind : Kind) (number : ℕ) (command : CommandParts) → form_awaited (awaiting kind number command) ≡ Buffer → ⊥
no_read Kind.APaint number command e = modified_only e
no_read Kind.ANote number command e = modified_only e

-- So there are fields while a read is pending, which none is at agreement.
pub has_fields : LowerLaws → (app : Application) → IsApplication app → (link : Link) → ConnectionInvariant app (view_of link) → (link.host.turn_reason ≡ turn_reasons.Agreement → ⊥) → form_awaited link.host.pending ≡ Buffer
    → fields link.term.display.screen.cells ≡ [] → ⊥
has_fields given app is link k asked reads none = by_moment k.moment k.at k.fact k.shown
  where
    reads_at : (moment : LinkPhase) → IsAt (view_of link) k.wanted moment → form_awaited (pending_at moment) ≡ Buffer
    reads_at moment at = sym (ap form_awaited at.pending) ∙ reads

    here : (link.term.display.screen.aid ≡ Clear → ⊥) → ShowsItsPanel app link.term.waits link.host link.term.display.before_restored link.term.display.last_restored → ⊥
    here not_cleared shows = panel_has_fields given app is link.term.waits link.host link.term.display.before_restored link.term.display.last_restored link.term.display.screen.cells (message_place link.term.display.size) shows
        (k.as_left not_cleared) none

    by_serving : (lu : List ℕ) (serving : SessionPhase) → form_awaited (pending_at (LinkPhase.InSession lu serving)) ≡ Buffer → Fact k.wanted (local_state_of (view_of link)) (LinkPhase.InSession lu serving)
        → ShownAt app link.term.waits link.host link.term.display.before_restored link.term.display.last_restored link.term.display.screen (LinkPhase.InSession lu serving) → ⊥
    by_serving lu (SessionPhase.Reading number) reads f shown = here f.not_cleared (shown asked)
    by_serving lu (SessionPhase.BufferReturning number parts) reads f shown = here f.not_cleared (shown asked)
    by_serving lu SessionPhase.Deciding reads f shown = modified_only reads
    by_serving lu (SessionPhase.DecidingNoteSent number command) reads f shown = modified_only reads
    by_serving lu (SessionPhase.DecidingNoteAnswered number command) reads f shown = modified_only reads
    by_serving lu (SessionPhase.Painting number command wanted over) reads f shown = modified_only reads
    by_serving lu (SessionPhase.AwaitingWriteResponse kind number command) reads f shown = no_read kind number command reads
    by_serving lu SessionPhase.OperatorTyping reads f shown = modified_only reads
    by_serving lu (SessionPhase.Noting number command) reads f shown = modified_only reads
    by_serving lu (SessionPhase.KeySent parts) reads f shown = modified_only reads
    by_serving lu (SessionPhase.KeySentAfterResponse kind number command parts) reads f shown = no_read kind number command reads
    by_serving lu (SessionPhase.KeyCrossingNote number command parts) reads f shown = modified_only reads
    by_serving lu (SessionPhase.KeyBeforeNoteResponse number command parts) reads f shown = modified_only reads

    by_moment : (moment : LinkPhase) → IsAt (view_of link) k.wanted moment → Fact k.wanted (local_state_of (view_of link)) moment
        → ShownAt app link.term.waits link.host link.term.display.before_restored link.term.display.last_restored link.term.display.screen moment → ⊥
    by_moment (LinkPhase.Negotiating talking) at f shown = modified_only (reads_at (LinkPhase.Negotiating talking) at)
    by_moment (LinkPhase.FirstPaint lu number command wanted over) at f shown = modified_only (reads_at (LinkPhase.FirstPaint lu number command wanted over) at)
    by_moment (LinkPhase.InSession lu serving) at f shown = by_serving lu serving (reads_at (LinkPhase.InSession lu serving) at) f shown

-- ---- screens without fields

bare_back : (more : Bool) (lefts nows : List Cell) → Alike more lefts nows → list_all is_char nows ≡ true → list_all is_char lefts ≡ true
bare_back more [] [] alike bare = refl
bare_back more [] (now ∷ nows) alike bare = absurd alike
bare_back more (left ∷ lefts) [] alike bare = absurd alike
bare_back more (Char left ∷ lefts) (Char now ∷ nows) alike bare = bare_back more lefts nows alike.1 bare
bare_back more (Char left ∷ lefts) (Attr now ∷ nows) alike bare = absurd alike.0
bare_back more (Attr left ∷ lefts) (Char now ∷ nows) alike bare = absurd alike.0
bare_back more (Attr left ∷ lefts) (Attr now ∷ nows) alike bare = absurd (cc)

-- one that input left so was so
pub once_unformatted : HeldIsRound → (erased : Bool) (left now : List Cell) → KeptByKeys erased left now → fields now ≡ [] → fields left ≡ []
once_unformatted round erased left now held none =
    none_listed left 0 left (bare_back erased left now (walked erased (hold_under erased (last_attribute now)) left now ((round erased left now).0 held)) (no_attribute now 0 now none))

-- ---- no response

abbrev pub has_response : List ToHost → Bool
has_response [] = false
has_response (ToHost.Response number verdict ∷ messages) = true
has_response (ToHost.Data parts ∷ messages) = has_response messages
has_response (ToHost.TalksUp saying ∷ messages) = has_response messages

prefix_none : (queue vanished : List ToHost) → has_response (queue ++ vanished) ≡ false → has_response queue ≡ false
prefix_none [] vanished none = refl
prefix_none (ToHost.Data parts ∷ queue) vanished none = prefix_none queue vanished none
prefix_none (ToHost.TalksUp saying ∷ queue) vanished none = prefix_none queue vanished none
prefix_none (ToHost.Response number verdict ∷ queue) vanished none = none

-- no response comes from the waiting terminal
pub none_responds : (app : Application) (link : Link) → ConnectionInvariant app (view_of link) → form_awaited link.host.pending ≡ Buffer → has_response link.up ≡ false
none_responds app link k reads = prefix_none link.up k.at.goes_up.vanished (ap has_response k.at.goes_up.whole ∙ by_moment k.moment (sym (ap form_awaited k.at.pending) ∙ reads))
  where
    by_serving : (lu : List ℕ) (serving : SessionPhase) → form_awaited (pending_at (LinkPhase.InSession lu serving)) ≡ Buffer → has_response (up_at link.term.display.model k.wanted (LinkPhase.InSession lu serving)) ≡ false
    by_serving lu (SessionPhase.Reading number) reads = refl
    by_serving lu (SessionPhase.BufferReturning number parts) reads = refl
    by_serving lu SessionPhase.Deciding reads = refl
    by_serving lu (SessionPhase.DecidingNoteSent number command) reads = refl
    by_serving lu (SessionPhase.DecidingNoteAnswered number command) reads = absurd (modified_only reads)
    by_serving lu (SessionPhase.Painting number command wanted over) reads = refl
    by_serving lu (SessionPhase.AwaitingWriteResponse kind number command) reads = absurd (no_read kind number command reads)
    by_serving lu SessionPhase.OperatorTyping reads = refl
    by_serving lu (SessionPhase.Noting number command) reads = refl
    by_serving lu (SessionPhase.KeySent parts) reads = refl
    by_serving lu (SessionPhase.KeySentAfterResponse kind number command parts) reads = absurd (no_read kind number command reads)
    by_serving lu (SessionPhase.KeyCrossingNote number command parts) reads = refl
    by_serving lu (SessionPhase.KeyBeforeNoteResponse number command parts) reads = absurd (modified_only reads)

    by_moment : (moment : LinkPhase) → form_awaited (pending_at moment) ≡ Buffer → has_response (up_at link.term.display.model k.wanted moment) ≡ false
    by_moment (LinkPhase.Negotiating talking) reads = absurd (modified_only reads)
    by_moment (LinkPhase.FirstPaint lu number command wanted over) reads = refl
    by_moment (LinkPhase.InSession lu serving) reads = by_serving lu serving reads

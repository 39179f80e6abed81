-- What comes down to a terminal of a session, at the only moments at which it can.
use Rattle.std.proofs.Common.{◌≡◌, true, ℕ, Option, List, [], ◌∷◌, refl, subst}
use Rattle.datastream.specs.Grammar.{CommandParts}
use Rattle.datastream.specs.Wanted.{WantedScreen}
use Rattle.shadow.specs.Belief.{Shadow}
use Rattle.host_core.specs.Application.{Application}
use Rattle.host_core.specs.Messages.{ToTerminal}
use Rattle.host_core.specs.NoteLaws.{IsNoteOf, TakesNotes}
use Rattle.host_core.specs.Session.{is_agreed}
use Rattle.world3270.specs.refinement.LowerLaws.{LowerLaws}
use Rattle.world3270.specs.model.Link.{Link}
use Rattle.world3270.specs.refinement.Phases.{IsAt, LinkPhase, SessionPhase, NegotiationPhase, IsInFlight}
use Rattle.world3270.specs.statement.Showing.{WantsItsPanelOn}
use Rattle.world3270.specs.refinement.Invariant.{Fact, IsPainted, IsRead, ConnectionInvariant, ShownAt, Sizes, local_state_of}
use Rattle.world3270.specs.refinement.View.{view_of}
use Rattle.world3270.specs.model.Terminal.{is_bound}
use Rattle.world3270.proofs.Down.{bound}
use Rattle.world3270.proofs.Queues.{front, nothing}
use Rattle.world3270.proofs.TalkStates.{agreed_there}

-- ---- a paint comes down

-- a paint that comes down is the one that is under way
pub record PaintComes (app : Application) (link : Link) (of_lu : Option (List ℕ)) (rest : List ToTerminal) (number : ℕ) (wanted : WantedScreen) (over : Shadow) : Type 0 where
  pub lu : List ℕ
  pub command : CommandParts
  pub at : IsAt (view_of link) of_lu (LinkPhase.InSession lu (SessionPhase.Painting number command wanted over))
  pub fact : IsPainted (local_state_of (view_of link)) command wanted over
  pub asked : WantsItsPanelOn app link.term.waits link.host over wanted link.term.display.screen
  pub left : IsInFlight link.lost rest []

pub paint_comes : (app : Application) (link : Link) (number : ℕ) (wanted : WantedScreen) (over : Shadow) (rest : List ToTerminal) → link.down ≡ ToTerminal.Paint number wanted over ∷ rest → (k : ConnectionInvariant app (view_of link)) → is_agreed link.host.talk.state ≡ true
    → PaintComes app link k.wanted rest number wanted over
paint_comes app link number wanted over rest e k agrees = by_moment k.moment k.at k.fact k.shown
  where
    the_number : (n : ℕ) (w : WantedScreen) (o : Shadow) → ToTerminal.Paint number wanted over ≡ ToTerminal.Paint n w o → n ≡ number
    the_number n w o same = cc

    the_wanted : (n : ℕ) (w : WantedScreen) (o : Shadow) → ToTerminal.Paint number wanted over ≡ ToTerminal.Paint n w o → w ≡ wanted
    the_wanted n w o same = cc

    the_over : (n : ℕ) (w : WantedScreen) (o : Shadow) → ToTerminal.Paint number wanted over ≡ ToTerminal.Paint n w o → o ≡ over
    the_over n w o same = cc

    no_more : {Comes : Type 0} → IsInFlight link.lost link.down [] → Comes
    no_more under = absurd (nothing link.lost link.down (ToTerminal.Paint number wanted over) rest e under)

    by_serving : (lu : List ℕ) (serving : SessionPhase) → IsAt (view_of link) k.wanted (LinkPhase.InSession lu serving) → Fact k.wanted (local_state_of (view_of link)) (LinkPhase.InSession lu serving)
        → ShownAt app link.term.waits link.host link.term.display.before_restored link.term.display.last_restored link.term.display.screen (LinkPhase.InSession lu serving) → PaintComes app link k.wanted rest number wanted over
    by_serving lu (SessionPhase.Painting n command w o) at f shown =
        let first = front link.lost link.down (ToTerminal.Paint number wanted over) rest _ [] e at.goes_down in
        subst (λ (m : ℕ). PaintComes app link k.wanted rest m wanted over) (the_number n w o first.0)
        (subst (λ (v : WantedScreen). PaintComes app link k.wanted rest n v over) (the_wanted n w o first.0)
        (subst (λ (v : Shadow). PaintComes app link k.wanted rest n w v) (the_over n w o first.0)
        (record { lu = lu; command = command; at = at; fact = f; asked = shown; left = first.1 })))
    by_serving lu (SessionPhase.Reading noted) at f shown = absurd (let clash = (front link.lost link.down (ToTerminal.Paint number wanted over) rest _ [] e at.goes_down).0 in cc)
    by_serving lu (SessionPhase.Noting noted other) at f shown = absurd (let clash = (front link.lost link.down (ToTerminal.Paint number wanted over) rest _ [] e at.goes_down).0 in cc)
    by_serving lu (SessionPhase.KeyCrossingNote noted other parts) at f shown = absurd (let clash = (front link.lost link.down (ToTerminal.Paint number wanted over) rest _ [] e at.goes_down).0 in cc)
    by_serving lu (SessionPhase.DecidingNoteSent noted other) at f shown = absurd (let clash = (front link.lost link.down (ToTerminal.Paint number wanted over) rest _ [] e at.goes_down).0 in cc)
    by_serving lu SessionPhase.Deciding at f shown = no_more at.goes_down
    by_serving lu (SessionPhase.BufferReturning noted parts) at f shown = no_more at.goes_down
    by_serving lu (SessionPhase.DecidingNoteAnswered noted other) at f shown = no_more at.goes_down
    by_serving lu (SessionPhase.AwaitingWriteResponse kind noted other) at f shown = no_more at.goes_down
    by_serving lu SessionPhase.OperatorTyping at f shown = no_more at.goes_down
    by_serving lu (SessionPhase.KeySent parts) at f shown = no_more at.goes_down
    by_serving lu (SessionPhase.KeySentAfterResponse kind noted other parts) at f shown = no_more at.goes_down
    by_serving lu (SessionPhase.KeyBeforeNoteResponse noted other parts) at f shown = no_more at.goes_down

    by_talk : (talking : NegotiationPhase) → IsAt (view_of link) k.wanted (LinkPhase.Negotiating talking) → (lu : List ℕ) × (talking ≡ NegotiationPhase.Agreeing lu) → PaintComes app link k.wanted rest number wanted over
    by_talk talking at is =
        absurd (let clash = (front link.lost link.down (ToTerminal.Paint number wanted over) rest _ [] e (subst (λ (t : NegotiationPhase). IsAt (view_of link) k.wanted (LinkPhase.Negotiating t)) is.1 at).goes_down).0 in cc)

    by_moment : (moment : LinkPhase) → IsAt (view_of link) k.wanted moment → Fact k.wanted (local_state_of (view_of link)) moment
        → ShownAt app link.term.waits link.host link.term.display.before_restored link.term.display.last_restored link.term.display.screen moment → PaintComes app link k.wanted rest number wanted over
    by_moment (LinkPhase.Negotiating talking) at f shown = by_talk talking at (agreed_there link.term.display.model talking link.host.talk at.host_talk agrees)
    by_moment (LinkPhase.FirstPaint lu noted other w o) at f shown = absurd (let clash = (front link.lost link.down (ToTerminal.Paint number wanted over) rest _ _ e at.goes_down).0 in cc)
    by_moment (LinkPhase.InSession lu serving) at f shown = by_serving lu serving at f shown

-- ---- a read comes down

-- a read that comes down is the one that is under way
pub record ReadComes (app : Application) (link : Link) (of_lu : Option (List ℕ)) (rest : List ToTerminal) : Type 0 where
  pub lu : List ℕ
  pub number : ℕ
  pub at : IsAt (view_of link) of_lu (LinkPhase.InSession lu (SessionPhase.Reading number))
  pub fact : IsRead (local_state_of (view_of link))
  pub shown : ShownAt app link.term.waits link.host link.term.display.before_restored link.term.display.last_restored link.term.display.screen (LinkPhase.InSession lu (SessionPhase.Reading number))
  pub left : IsInFlight link.lost rest []
  pub same : link.term.display.size ≡ link.host.size

pub read_comes : (app : Application) (link : Link) (number : ℕ) (rest : List ToTerminal) → link.down ≡ ToTerminal.ReadBuffer number ∷ rest → (k : ConnectionInvariant app (view_of link)) → is_agreed link.host.talk.state ≡ true → ReadComes app link k.wanted rest
read_comes app link number rest e k agrees = by_moment k.moment k.sizes k.at k.fact k.shown
  where
    no_more : {Comes : Type 0} → IsInFlight link.lost link.down [] → Comes
    no_more under = absurd (nothing link.lost link.down (ToTerminal.ReadBuffer number) rest e under)

    by_serving : (lu : List ℕ) (serving : SessionPhase) → Sizes app (view_of link) (LinkPhase.InSession lu serving) → IsAt (view_of link) k.wanted (LinkPhase.InSession lu serving) → Fact k.wanted (local_state_of (view_of link)) (LinkPhase.InSession lu serving)
        → ShownAt app link.term.waits link.host link.term.display.before_restored link.term.display.last_restored link.term.display.screen (LinkPhase.InSession lu serving) → ReadComes app link k.wanted rest
    by_serving lu (SessionPhase.Reading n) s at f shown =
        let first = front link.lost link.down (ToTerminal.ReadBuffer number) rest _ [] e at.goes_down in
        record { lu = lu; number = n; at = at; fact = f; shown = shown; left = first.1; same = s.same refl }
    by_serving lu (SessionPhase.Painting n command w o) s at f shown = absurd (let clash = (front link.lost link.down (ToTerminal.ReadBuffer number) rest _ [] e at.goes_down).0 in cc)
    by_serving lu (SessionPhase.Noting noted other) s at f shown = absurd (let clash = (front link.lost link.down (ToTerminal.ReadBuffer number) rest _ [] e at.goes_down).0 in cc)
    by_serving lu (SessionPhase.KeyCrossingNote noted other parts) s at f shown = absurd (let clash = (front link.lost link.down (ToTerminal.ReadBuffer number) rest _ [] e at.goes_down).0 in cc)
    by_serving lu (SessionPhase.DecidingNoteSent noted other) s at f shown = absurd (let clash = (front link.lost link.down (ToTerminal.ReadBuffer number) rest _ [] e at.goes_down).0 in cc)
    by_serving lu SessionPhase.Deciding s at f shown = no_more at.goes_down
    by_serving lu (SessionPhase.BufferReturning noted parts) s at f shown = no_more at.goes_down
    by_serving lu (SessionPhase.DecidingNoteAnswered noted other) s at f shown = no_more at.goes_down
    by_serving lu (SessionPhase.AwaitingWriteResponse kind noted other) s at f shown = no_more at.goes_down
    by_serving lu SessionPhase.OperatorTyping s at f shown = no_more at.goes_down
    by_serving lu (SessionPhase.KeySent parts) s at f shown = no_more at.goes_down
    by_serving lu (SessionPhase.KeySentAfterResponse kind noted other parts) s at f shown = no_more at.goes_down
    by_serving lu (SessionPhase.KeyBeforeNoteResponse noted other parts) s at f shown = no_more at.goes_down

    by_talk : (talking : NegotiationPhase) → IsAt (view_of link) k.wanted (LinkPhase.Negotiating talking) → (lu : List ℕ) × (talking ≡ NegotiationPhase.Agreeing lu) → ReadComes app link k.wanted rest
    by_talk talking at is =
        absurd (let clash = (front link.lost link.down (ToTerminal.ReadBuffer number) rest _ [] e (subst (λ (t : NegotiationPhase). IsAt (view_of link) k.wanted (LinkPhase.Negotiating t)) is.1 at).goes_down).0 in cc)

    by_moment : (moment : LinkPhase) → Sizes app (view_of link) moment → IsAt (view_of link) k.wanted moment → Fact k.wanted (local_state_of (view_of link)) moment
        → ShownAt app link.term.waits link.host link.term.display.before_restored link.term.display.last_restored link.term.display.screen moment → ReadComes app link k.wanted rest
    by_moment (LinkPhase.Negotiating talking) s at f shown = by_talk talking at (agreed_there link.term.display.model talking link.host.talk at.host_talk agrees)
    by_moment (LinkPhase.FirstPaint lu noted other w o) s at f shown = absurd (let clash = (front link.lost link.down (ToTerminal.ReadBuffer number) rest _ _ e at.goes_down).0 in cc)
    by_moment (LinkPhase.InSession lu serving) s at f shown = by_serving lu serving s at f shown

-- ---- a note comes down

-- a note that comes down is one of the host's, and may be written on the screen
pub record NoteComes (link : Link) (command : CommandParts) : Type 0 where
  pub note : IsNoteOf link.host.size command
  pub takes : TakesNotes link.host.size link.term.display.screen.cells
  pub same : link.term.display.size ≡ link.host.size
  pub bound : is_bound link.term ≡ true

pub note_comes : LowerLaws → (app : Application) (link : Link) (number : ℕ) (command : CommandParts) (rest : List ToTerminal) → link.down ≡ ToTerminal.Note number command ∷ rest → ConnectionInvariant app (view_of link) → is_agreed link.host.talk.state ≡ true → NoteComes link command
note_comes given app link number command rest e k agrees = by_moment k.moment k.sizes k.at k.fact
  where
    as_written : (other_number : ℕ) (other : CommandParts) → ToTerminal.Note number command ≡ ToTerminal.Note other_number other → other ≡ command
    as_written other_number other same = cc

    by_serving : (lu : List ℕ) (serving : SessionPhase) → Sizes app (view_of link) (LinkPhase.InSession lu serving) → IsAt (view_of link) k.wanted (LinkPhase.InSession lu serving) → Fact k.wanted (local_state_of (view_of link)) (LinkPhase.InSession lu serving) → NoteComes link command
    by_serving lu (SessionPhase.Noting noted other) s at f =
        let is = as_written noted other (front link.lost link.down (ToTerminal.Note number command) rest _ [] e at.goes_down).0 in
        record {
          note = subst (IsNoteOf link.host.size) is f.1;
          takes = TakesNotes.formatted (given.notes.held_takes link.host.size link.term.display.erased f.0.shown.cells link.term.display.screen.cells f.0.held f.0.messages);
          same = s.same refl;
          bound = bound link k.wanted lu _ at;
        }
    by_serving lu (SessionPhase.KeyCrossingNote noted other parts) s at f =
        let is = as_written noted other (front link.lost link.down (ToTerminal.Note number command) rest _ [] e at.goes_down).0 in
        record { note = subst (IsNoteOf link.host.size) is f.2.note; takes = f.2.takes; same = s.same refl; bound = bound link k.wanted lu _ at }
    by_serving lu (SessionPhase.DecidingNoteSent noted other) s at f =
        let is = as_written noted other (front link.lost link.down (ToTerminal.Note number command) rest _ [] e at.goes_down).0 in
        record { note = subst (IsNoteOf link.host.size) is f.1.note; takes = f.1.takes; same = s.same refl; bound = bound link k.wanted lu _ at }
    by_serving lu (SessionPhase.Reading noted) s at f = absurd (let clash = (front link.lost link.down (ToTerminal.Note number command) rest _ [] e at.goes_down).0 in cc)
    by_serving lu (SessionPhase.Painting noted other wanted over) s at f = absurd (let clash = (front link.lost link.down (ToTerminal.Note number command) rest _ [] e at.goes_down).0 in cc)
    by_serving lu SessionPhase.Deciding s at f = absurd (nothing link.lost link.down (ToTerminal.Note number command) rest e at.goes_down)
    by_serving lu (SessionPhase.BufferReturning noted parts) s at f = absurd (nothing link.lost link.down (ToTerminal.Note number command) rest e at.goes_down)
    by_serving lu (SessionPhase.DecidingNoteAnswered noted other) s at f = absurd (nothing link.lost link.down (ToTerminal.Note number command) rest e at.goes_down)
    by_serving lu (SessionPhase.AwaitingWriteResponse kind noted other) s at f = absurd (nothing link.lost link.down (ToTerminal.Note number command) rest e at.goes_down)
    by_serving lu SessionPhase.OperatorTyping s at f = absurd (nothing link.lost link.down (ToTerminal.Note number command) rest e at.goes_down)
    by_serving lu (SessionPhase.KeySent parts) s at f = absurd (nothing link.lost link.down (ToTerminal.Note number command) rest e at.goes_down)
    by_serving lu (SessionPhase.KeySentAfterResponse kind noted other parts) s at f = absurd (nothing link.lost link.down (ToTerminal.Note number command) rest e at.goes_down)
    by_serving lu (SessionPhase.KeyBeforeNoteResponse noted other parts) s at f = absurd (nothing link.lost link.down (ToTerminal.Note number command) rest e at.goes_down)

    by_talk : (talking : NegotiationPhase) → IsAt (view_of link) k.wanted (LinkPhase.Negotiating talking) → (lu : List ℕ) × (talking ≡ NegotiationPhase.Agreeing lu) → NoteComes link command
    by_talk talking at is =
        absurd (let clash = (front link.lost link.down (ToTerminal.Note number command) rest _ [] e (subst (λ (t : NegotiationPhase). IsAt (view_of link) k.wanted (LinkPhase.Negotiating t)) is.1 at).goes_down).0 in cc)

    by_moment : (moment : LinkPhase) → Sizes app (view_of link) moment → IsAt (view_of link) k.wanted moment → Fact k.wanted (local_state_of (view_of link)) moment → NoteComes link command
    by_moment (LinkPhase.Negotiating talking) s at f = by_talk talking at (agreed_there link.term.display.model talking link.host.talk at.host_talk agrees)
    by_moment (LinkPhase.FirstPaint lu noted other wanted over) s at f = absurd (let clash = (front link.lost link.down (ToTerminal.Note number command) rest _ _ e at.goes_down).0 in cc)
    by_moment (LinkPhase.InSession lu serving) s at f = by_serving lu serving s at f

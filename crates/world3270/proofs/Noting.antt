-- The host sends a note.
use Rattle.std.proofs.Common.{◌≡◌, ℕ, Bool, true, false, None, Some, List, [], ◌∷◌, ◌++◌, refl, sym, ◌∙◌, if◌then◌else◌}
use Rattle.datastream.specs.Grammar.{CommandParts}
use Rattle.host_core.specs.Acts.{Sent as SentValue}
use Rattle.host_core.specs.Application.{Application}
use Rattle.host_core.specs.Messages.{ToTerminal}
use Rattle.host_core.specs.NoteLaws.{IsNoteOf}
use Rattle.host_core.specs.Notes.{IsNoteText, note_command, may_note, noted_as, noted}
use Rattle.host_core.specs.declared.turn.Turn.{Turn}
use Rattle.host_core.specs.declared.turn.Turn.TheVariants as whose
use Rattle.host_core.specs.Session.{Pending, is_agreed}
use Rattle.world3270.specs.model.Link.{Link, host_sent}
use Rattle.world3270.specs.refinement.Phases.{Kind, SessionPhase, LinkPhase, IsAt, turn_at, pending_at, served_down, served_up}
use Rattle.world3270.specs.refinement.Invariant.{local_state_of, Fact, ConnectionInvariant, Sizes, ShownAt, ShownIn}
use Rattle.world3270.specs.refinement.View.{view_of}
use Rattle.world3270.proofs.Acting.{Sends, kept_sent, sent_at, sent_view}

module _ (app : Application) (text : List ℕ) (is : IsNoteText text) (link : Link) (k : ConnectionInvariant app (view_of link)) where
  abbrev noting : SentValue
  noting = noted_as text link.host

  abbrev command : CommandParts
  command = note_command link.host.size text

  same_end : Sends link noting
  same_end = record { talk = refl; exact = k.exact; restored = refl }

  is_note : IsNoteOf link.host.size command
  is_note = record { text = text; is_text = is; is = refl }

  notes_at : (lu : List ℕ) (from to : SessionPhase) → link.term.display.size ≡ link.host.size → IsAt (view_of link) k.wanted (LinkPhase.InSession lu from) → turn_at (LinkPhase.InSession lu from) ≡ turn_at (LinkPhase.InSession lu to)
      → Pending.Noting link.host.next_seq command ≡ pending_at (LinkPhase.InSession lu to)
      → served_down from ++ ToTerminal.Note link.host.next_seq command ∷ [] ≡ served_down to → served_up to ≡ served_up from
      → Fact k.wanted (local_state_of (view_of (sent_view noting link))) (LinkPhase.InSession lu to) → ShownIn app link.term.waits noting.conn link.term.display.before_restored link.term.display.last_restored link.term.display.screen to → ConnectionInvariant app (view_of (sent_view noting link))
  notes_at lu from to steady at turn pending down up fact showing =
      kept_sent app link noting k (LinkPhase.InSession lu to) same_end k.sizes.host (λ s. steady) (sent_at link noting k.wanted (LinkPhase.InSession lu from) (LinkPhase.InSession lu to) same_end at (λ talk is. is) (λ is. is) (at.turn ∙ turn) pending down up) fact showing

  -- it may do so at two moments alone
  may_note_at : link.host.turn ≡ whose.Terminal → link.host.pending ≡ Pending.Nothing → ConnectionInvariant app (view_of (sent_view noting link))
  may_note_at turns pends = by_moment k.moment k.sizes k.at k.fact k.shown
    where
      by_serving : (lu : List ℕ) (serving : SessionPhase) → Sizes app (view_of link) (LinkPhase.InSession lu serving) → IsAt (view_of link) k.wanted (LinkPhase.InSession lu serving) → Fact k.wanted (local_state_of (view_of link)) (LinkPhase.InSession lu serving)
          → ShownIn app link.term.waits link.host link.term.display.before_restored link.term.display.last_restored link.term.display.screen serving → turn_at (LinkPhase.InSession lu serving) ≡ whose.Terminal
          → pending_at (LinkPhase.InSession lu serving) ≡ Pending.Nothing → ConnectionInvariant app (view_of (sent_view noting link))
      by_serving lu SessionPhase.OperatorTyping s at f showing t p =
          notes_at lu SessionPhase.OperatorTyping (SessionPhase.Noting link.host.next_seq command) (s.same refl) at refl refl refl refl
          (f, is_note) showing
      by_serving lu (SessionPhase.KeySent parts) s at f showing t p =
          notes_at lu (SessionPhase.KeySent parts) (SessionPhase.KeyCrossingNote link.host.next_seq command parts) (s.same refl) at refl refl refl refl
          (f.0, f.1, record { note = is_note; takes = f.2 }) showing
      by_serving lu SessionPhase.Deciding s at f showing t p = absurd (cc)
      by_serving lu (SessionPhase.Reading number) s at f showing t p = absurd (cc)
      by_serving lu (SessionPhase.BufferReturning number parts) s at f showing t p = absurd (cc)
      by_serving lu (SessionPhase.DecidingNoteSent number command) s at f showing t p = absurd (cc)
      by_serving lu (SessionPhase.DecidingNoteAnswered number command) s at f showing t p = absurd (cc)
      by_serving lu (SessionPhase.Painting number command wants over) s at f showing t p = absurd (cc)
      by_serving lu (SessionPhase.AwaitingWriteResponse Kind.APaint number command) s at f showing t p = absurd (cc)
      by_serving lu (SessionPhase.AwaitingWriteResponse Kind.ANote number command) s at f showing t p = absurd (cc)
      by_serving lu (SessionPhase.Noting number command) s at f showing t p = absurd (cc)
      by_serving lu (SessionPhase.KeySentAfterResponse Kind.APaint number command parts) s at f showing t p = absurd (cc)
      by_serving lu (SessionPhase.KeySentAfterResponse Kind.ANote number command parts) s at f showing t p = absurd (cc)
      by_serving lu (SessionPhase.KeyCrossingNote number command parts) s at f showing t p = absurd (cc)
      by_serving lu (SessionPhase.KeyBeforeNoteResponse number command parts) s at f showing t p = absurd (cc)

      by_moment : (moment : LinkPhase) → Sizes app (view_of link) moment → IsAt (view_of link) k.wanted moment → Fact k.wanted (local_state_of (view_of link)) moment
          → ShownAt app link.term.waits link.host link.term.display.before_restored link.term.display.last_restored link.term.display.screen moment → ConnectionInvariant app (view_of (sent_view noting link))
      by_moment (LinkPhase.Negotiating talking) s at f showing = let t = sym at.turn ∙ turns in absurd (cc)
      by_moment (LinkPhase.FirstPaint lu number command wants over) s at f showing = let p = sym at.pending ∙ pends in absurd (cc)
      by_moment (LinkPhase.InSession lu serving) s at f showing = by_serving lu serving s at f showing (sym at.turn ∙ turns) (sym at.pending ∙ pends)

  notes_by : (turn : Turn) (pending : Pending) (agreed : Bool) → link.host.turn ≡ turn → link.host.pending ≡ pending
      → ConnectionInvariant app (view_of (host_sent (if may_note turn pending agreed then Some (noted_as text link.host) else None) link))
  notes_by whose.Terminal Pending.Nothing true turns pends = may_note_at turns pends
  notes_by whose.Terminal Pending.Nothing false turns pends = k
  notes_by whose.Terminal (Pending.Writing number what) agreed turns pends = k
  notes_by whose.Terminal (Pending.Reading number) agreed turns pends = k
  notes_by whose.Terminal (Pending.Noting number what) agreed turns pends = k
  notes_by whose.Host pending agreed turns pends = k

  pub notes : ConnectionInvariant app (view_of (host_sent (noted text link.host) link))
  notes = notes_by link.host.turn link.host.pending (is_agreed link.host.talk.state) refl refl

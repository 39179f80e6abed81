-- What comes down after Clear in the wait: a paint over nothing erases, so that both terminals display the same then.
use Rattle.std.proofs.Common.{◌≡◌, ◌<◌, ◌⊎◌, inl, inr, ◌||◌, not, ℕ, Bool, true, false, None, Option, List, [], ◌∷◌, ◌++◌, arith, length, refl, ap, sym, subst, ◌∙◌, if◌then◌else◌}
use Rattle.std.specs.Prelude.{⊤, is_some}
use Rattle.codes3270.specs.Size.{ScreenSize, cells_in}
use Rattle.datastream.specs.Grammar.{CommandParts}
use Rattle.datastream.specs.Meaning.{after_command}
use Rattle.datastream.proofs.FieldViews.{no_attribute, none_listed}
use Rattle.datastream.specs.Screen.{Screen, is_char}
use Rattle.std.specs.List.{list_all}
use Rattle.host_core.specs.NoteLaws.{TakesNotes}
use Rattle.datastream.specs.Wanted.{WantedScreen}
use Rattle.codes3270.specs.declared.size.Model.{Model}
use Rattle.keyboard.specs.State.{Keyboard, freed}
use Rattle.keyboard.specs.declared.key.Lock.TheVariants.{Wait}
use Rattle.shadow.specs.Belief.{Belief, Shadow}
use Rattle.shadow.specs.Settled.{ReturnsInput}
use Rattle.world3270.specs.statement.Showing.{WantsItsPanelOn}
use Rattle.shadow.specs.Exactness.{is_erase}
use Rattle.shadow.specs.Meets.{Meets}
use Rattle.shadow.specs.Paint.{paint}
use Rattle.shadow.specs.Painted.{plainly_painted}
use Rattle.tn3270e_msg.specs.Talk.{NegotiationMessage}
use Rattle.tn3270e_msg.specs.TermTable.{Term}
use Rattle.host_core.specs.Application.{Application, IsApplication}
use Rattle.host_core.specs.Messages.{ToHost, ToTerminal, Verdict}
use Rattle.host_core.specs.Session.{Pending, Session}
use Rattle.host_core.specs.Takes.{is_after_pa, is_read_believed, is_unread, may_be_read, may_have_changed}
use Rattle.host_core.specs.declared.turn.Turn.{Turn}
use Rattle.datastream.specs.InboundFields.{buffer_data}
use Rattle.datastream.specs.declared.inbound_part.Form.{Form}
use Rattle.host_core.specs.declared.turn.Turn.TheVariants as whose
use Rattle.world3270.specs.statement.EveryTerminal.{LinkWithReport, is_clear, is_pa, once_shown, paint_executed, told_after, told_if}
use Rattle.world3270.specs.statement.Shown.{is_painting}
use Rattle.world3270.specs.refinement.LowerLaws.{LowerLaws}
use Rattle.world3270.specs.model.Link.{Link, sent, term_stepped}
use Rattle.world3270.specs.refinement.Invariant.{ConnectionInvariant, IsPainted, local_state_of}
use Rattle.world3270.specs.refinement.Phases.{IsAt, IsInFlight, LinkPhase, SessionPhase}
use Rattle.world3270.specs.model.Terminal.{Display, TermEnd, TermStep, bound_to, is_bound, note_came, once_bound, paint_came, read_came}
use Rattle.world3270.specs.refinement.View.{view_of}
use Rattle.world3270.proofs.Cleared.{Cleared, HasRead, HostsAlike, IsPlain, Stage, agrees_still, but_belief, may_change}
use Rattle.world3270.proofs.ClearedQueue.{AddsKeys, AnswersAlike, SaysToo, answers_silent, any_later, both_say_too, clears_first, erases, is_clear_before, same_last_too, says_last}
use Rattle.world3270.proofs.ClearsDue.{Fate, clears_due, clears_in, due_answered, due_read, is_clear_data, one_more}
use Rattle.world3270.proofs.ComesDown.{NoteComes, PaintComes, ReadComes, note_comes, paint_comes, read_comes}
use Rattle.world3270.proofs.Down.{bound, paints_on, shape_of_model, showing, term_view}
use Rattle.world3270.proofs.NotesHeld.{bare_held, no_attributes}
use Rattle.world3270.proofs.Obeys.{obeys}
use Rattle.world3270.proofs.OverNothing.{fits_nothing, same_paint, same_taken, wants_over_nothing}
use Rattle.world3270.proofs.Returning.{HostReturns, pa_counts, read_skipped, returns_at, returns_if}
use Rattle.world3270.proofs.Queues.{empty_queue, front, nothing}
use Rattle.world3270.proofs.SecondKeys.{SaysAlike}
use Rattle.world3270.proofs.Simulation.{Since, since_same}
use Rattle.world3270.proofs.SimulatedDown.{talk_over}

unpainted_erases : (pending : Pending) → is_painting pending ≡ false → erases pending ≡ false
unpainted_erases Pending.Nothing unpainted = refl
unpainted_erases (Pending.Reading number) unpainted = refl
unpainted_erases (Pending.Noting number command) unpainted = refl
unpainted_erases (Pending.Writing number command) unpainted = absurd (cc)

-- ---- what is under way

-- while a note is under way, no paint waits for its answer
pub note_unpainted : (app : Application) (link : Link) (number : ℕ) (command : CommandParts) (rest : List ToTerminal) → link.down ≡ ToTerminal.Note number command ∷ rest → ConnectionInvariant app (view_of link) → is_bound link.term ≡ true
    → is_painting link.host.pending ≡ false
note_unpainted app link number command rest e k bound_here = by_moment k.moment k.at
  where
    message : ToTerminal
    message = ToTerminal.Note number command

    no_more : {Then : Type 0} → IsInFlight link.lost link.down [] → Then
    no_more way = absurd (nothing link.lost link.down message rest e way)

    by_serving : (lu : List ℕ) (serving : SessionPhase) → IsAt (view_of link) k.wanted (LinkPhase.InSession lu serving) → is_painting link.host.pending ≡ false
    by_serving lu (SessionPhase.Reading noted) at = ap is_painting at.pending
    by_serving lu (SessionPhase.DecidingNoteSent noted other) at = ap is_painting at.pending
    by_serving lu (SessionPhase.Painting noted other wanted over) at = absurd (let clash = (front link.lost link.down message rest _ [] e at.goes_down).0 in cc)
    by_serving lu (SessionPhase.Noting noted other) at = ap is_painting at.pending
    by_serving lu (SessionPhase.KeyCrossingNote noted other parts) at = ap is_painting at.pending
    by_serving lu SessionPhase.Deciding at = ap is_painting at.pending
    by_serving lu (SessionPhase.BufferReturning noted parts) at = ap is_painting at.pending
    by_serving lu (SessionPhase.DecidingNoteAnswered noted other) at = ap is_painting at.pending
    by_serving lu (SessionPhase.AwaitingWriteResponse kind noted other) at = no_more at.goes_down
    by_serving lu SessionPhase.OperatorTyping at = ap is_painting at.pending
    by_serving lu (SessionPhase.KeySent parts) at = ap is_painting at.pending
    by_serving lu (SessionPhase.KeySentAfterResponse kind noted other parts) at = no_more at.goes_down
    by_serving lu (SessionPhase.KeyBeforeNoteResponse noted other parts) at = ap is_painting at.pending

    by_moment : (moment : LinkPhase) → IsAt (view_of link) k.wanted moment → is_painting link.host.pending ≡ false
    by_moment (LinkPhase.Negotiating talking) at = ap is_painting at.pending
    by_moment (LinkPhase.FirstPaint lu noted other wanted over) at = absurd (let wrong : false ≡ true = sym (ap (λ state. is_some (bound_to state)) at.term_talk) ∙ bound_here in cc)
    by_moment (LinkPhase.InSession lu serving) at = by_serving lu serving at

first_behind : (b : Bool) (n : ℕ) (later : Bool) → (0 < n → later ≡ true) → 0 < one_more b n → (b || later) ≡ true
first_behind true n later goes some = refl
first_behind false n later goes some = goes some

-- the host knew of no field
abbrev IsWithoutFields : Shadow → Type 0
IsWithoutFields Shadow.NothingKnown = ⊤
IsWithoutFields (Shadow.Unformatted known) = ⊤
IsWithoutFields (Shadow.Formatted beliefs) = ⊥

module _ (given : LowerLaws) (app : Application) (is : IsApplication app) (lu : List ℕ) (t : LinkWithReport) (c : Cleared app lu t) where
  abbrev end : Link
  end = c.told

  abbrev now : Link
  now = t.link

  -- once the message is taken
  abbrev taken_so : Bool → ToTerminal → TermStep → List ToTerminal → LinkWithReport
  taken_so is_bound message step rest = told_if is_bound message t (term_stepped (once_bound is_bound step now.term) rest now)

  -- once a paint is taken
  abbrev shown_so : (cleared : Bool) → ℕ → WantedScreen → Shadow → TermStep → List ToTerminal → LinkWithReport
  shown_so cleared number wanted over step rest =
      let message : ToTerminal = ToTerminal.Paint number wanted over in
      let link : Link = term_stepped step rest now in
      record { link = link; told = told_after message cleared t.told link.term.display; waits = once_shown message cleared t.waits; cleared = once_shown message cleared cleared }

  abbrev shown_if : (erases : Bool) → ℕ → WantedScreen → Shadow → TermStep → List ToTerminal → LinkWithReport
  shown_if erases number wanted over step rest =
      let link : Link = term_stepped step rest now in
      record { link = link; told = if erases then link.term.display else t.told; waits = if erases then false else t.waits; cleared = if erases then false else true }

  bound_now : is_bound now.term ≡ true
  bound_now = ap (λ (talk : Term). is_some (bound_to talk.talk.state)) c.talk ∙ c.bound

  pub talked_cleared : {Then : Type 0} (saying : NegotiationMessage) (rest : List ToTerminal) → now.down ≡ ToTerminal.TalksDown saying ∷ rest → Then
  talked_cleared saying rest e = absurd (talk_over app end c.kept c.bound saying rest (sym c.down ∙ e))

  -- ---- a paint

  -- a paint that leaves this screen
  abbrev drawn_so : ℕ → WantedScreen → Screen → TermStep
  drawn_so number wanted drawn = record {
    end = record now.term {
      display = record now.term.display {
        size = wanted.size;
        screen = drawn;
        keyboard = freed now.term.display.keyboard;
        last_restored = drawn;
        before_restored = now.term.display.screen;
        erased = false;
      };
    };
    sends = ToHost.Response number Verdict.Positive ∷ [];
    closes = None;
  }

  -- the waiting terminal was gone
  abbrev pub Gone : Type 0
  Gone = (t.cleared ≡ true) × (end.term.display.keyboard.lock ≡ Wait) × HasRead t end × Fate end c.up.said now

  pub gone_now : (message : ToTerminal) (rest : List ToTerminal) → now.down ≡ message ∷ rest → Gone
  gone_now message rest e = by_stage c.stage
    where
      by_stage : Stage t end c.up.said → Gone
      by_stage (Stage.gone cleared locked read fate) = (cleared, locked, read, fate)
      by_stage (Stage.erased uncleared erasing silent since) = absurd (let wrong = sym silent ∙ (sym c.down ∙ e) in cc)

  -- An erase over nothing, or over a screen without fields; what comes up before its answer does no harm.
  painted_cleared : (number : ℕ) (wanted : WantedScreen) (over : Shadow) (rest : List ToTerminal) → now.down ≡ ToTerminal.Paint number wanted over ∷ rest → is_erase (paint (cells_in wanted.size) over wanted).code ≡ true → IsWithoutFields over
      → Cleared app lu (taken_so (is_bound now.term) (ToTerminal.Paint number wanted over) (paint_executed number wanted over now.term) rest)
  painted_cleared number wanted over rest e erases_it without =
      subst (λ (b : Bool). Cleared app lu (taken_so b (ToTerminal.Paint number wanted over) (paint_executed number wanted over now.term) rest)) (sym bound_now)
      (subst (λ (cleared : Bool). Cleared app lu (shown_so cleared number wanted over (paint_executed number wanted over now.term) rest)) (sym gone.0)
      (subst (λ (shown : Bool). Cleared app lu (shown_if shown number wanted over (paint_executed number wanted over now.term) rest)) (sym erases_it)
      (subst (λ (drawn : Screen). Cleared app lu (shown_if true number wanted over (drawn_so number wanted drawn) rest)) (sym (given.belief.painted over wanted screen cells comes.fact.paintable.fits meets)) goes)))
    where
      gone : Gone
      gone = gone_now (ToTerminal.Paint number wanted over) rest e

      comes : PaintComes app end c.kept.wanted rest number wanted over
      comes = paint_comes app end number wanted over rest (sym c.down ∙ e) c.kept (agrees_still c)

      screen : Screen
      screen = now.term.display.screen

      new : Screen
      new = plainly_painted wanted screen

      -- a screen without fields differs from the told one in input alone
      meets_bare : (known : List (Option ℕ)) → over ≡ Shadow.Unformatted known → Meets (Shadow.Unformatted known) end.term.display.screen → IsPlain end screen → Meets over screen
      meets_bare known is_over meets (IsPlain.bare none size) =
          comes.fact.doubts c.any false screen
          (bare_held given.keys.round false end.term.display.screen.cells screen.cells (no_attribute end.term.display.screen.cells 0 end.term.display.screen.cells meets.0) (no_attribute screen.cells 0 screen.cells none) size)
      meets_bare known is_over meets (IsPlain.over_nothing nothing paints silent) = absurd (let wrong = sym is_over ∙ (comes.fact.over_is ∙ nothing) in cc)

      meets_by : (shadow : Shadow) → over ≡ shadow → IsWithoutFields shadow → Meets over screen
      meets_by Shadow.NothingKnown is_over without = subst (λ (s : Shadow). Meets s screen) (sym is_over) tt
      meets_by (Shadow.Unformatted known) is_over without = meets_bare known is_over (subst (λ (s : Shadow). Meets s end.term.display.screen) is_over comes.fact.meets) (c.plain gone.0)
      meets_by (Shadow.Formatted beliefs) is_over without = absurd without

      meets : Meets over screen
      meets = meets_by over refl without

      step : TermStep
      step = paint_came number wanted (showing screen end.term)

      pending : end.host.pending ≡ Pending.Writing number comes.command
      pending = comes.at.pending

      erasing : erases end.host.pending ≡ true
      erasing = ap erases pending ∙ ap (λ (command : CommandParts). is_erase command.code) comes.fact.command_is
          ∙ erases_it

      silent : end.up ≡ []
      silent = empty_queue end.lost end.up comes.at.goes_up

      keys : AddsKeys c.clears false end.host.turn end.host.pending [] now.up
      keys = any_later c.clears t.cleared false end.host.turn end.host.pending now.up
          (subst (λ (said : List ToHost). AddsKeys c.clears t.cleared end.host.turn end.host.pending said now.up) (answers_silent end.host end.up c.up.said now.up silent c.up.alike) c.up.up)

      kept : ConnectionInvariant app (view_of (term_view step rest end))
      kept = paints_on given app is end rest c.kept comes.lu number comes.command wanted over comes.at comes.fact comes.asked comes.left screen meets (λ waits. absurd (let wrong : false ≡ true = sym c.unsure ∙ waits in cc))

      cells : length wanted.cells ≡ cells_in wanted.size
      cells = comes.fact.paintable.showable.cells ∙ ap (λ (shape : ScreenSize). cells_in shape) (sym comes.fact.paintable.showable.size)

      hosts : HostsAlike end now.host → HostsAlike (term_view step rest end) now.host
      hosts (HostsAlike.same same) = HostsAlike.same same
      hosts (HostsAlike.crossed paints harmless crossed) = HostsAlike.crossed paints (λ paints. inr erasing) crossed
      hosts (HostsAlike.erasing is_erasing is_now any) = HostsAlike.erasing is_erasing is_now any

      -- whatever was displayed, but for the model
      drawn : (k : Keyboard) → record now.term.display { size = wanted.size; screen = new; keyboard = k; last_restored = new; before_restored = screen; erased = false }
          ≡ record end.term.display { size = wanted.size; screen = new; keyboard = k; last_restored = new; before_restored = screen; erased = false }
      drawn k = ap (λ (m : Model). record end.term.display { model = m; size = wanted.size; screen = new; keyboard = k; last_restored = new; before_restored = screen; erased = false }) c.model

      since : Since step.end.display (paint_came number wanted now.term).end.display
      since = since_same given step.end.display (paint_came number wanted now.term).end.display
          (drawn (freed now.term.display.keyboard))
          (subst (λ (size : ℕ). new.cursor < size) (sym kept.whole) kept.cursor)

      goes : Cleared app lu (shown_if true number wanted over (paint_came number wanted now.term) rest)
      goes = record {
        told = term_view step rest end;
        kept = kept;
        agreed = c.agreed;
        any = c.any;
        unsure = c.unsure;
        marks = c.marks;
        returning = c.returning;
        display = sym (drawn (freed end.term.display.keyboard));
        waits = refl;
        bound = c.bound;
        host_here = c.host_here;
        term_here = c.term_here;
        host = hosts c.host;
        lost = c.lost;
        down = refl;
        talk = c.talk;
        clears = c.clears;
        up = both_say_too c.clears false end.host end.lost now.lost end.up now.up (ToHost.Response number Verdict.Positive) c.lost (λ paints. erasing)
            (record { said = []; alike = AnswersAlike.by_saying (SaysAlike.same (sym silent)); up = keys });
        stage = Stage.erased refl erasing (empty_queue end.lost rest comes.left) since;
        model = c.model;
        rest = λ shown. since.rest;
        plain = λ cleared. absurd (cc);
      }

  -- An erase of a screen of which the host knew the fields, of another size: it might as well be over nothing.
  painted_over : (number : ℕ) (wanted : WantedScreen) (beliefs : List Belief) (rest : List ToTerminal) → now.down ≡ ToTerminal.Paint number wanted (Shadow.Formatted beliefs) ∷ rest
      → is_erase (paint (cells_in wanted.size) (Shadow.Formatted beliefs) wanted).code ≡ true
      → Cleared app lu (taken_so (is_bound now.term) (ToTerminal.Paint number wanted (Shadow.Formatted beliefs)) (paint_executed number wanted (Shadow.Formatted beliefs) now.term) rest)
  painted_over number wanted beliefs rest e erases_it =
      subst (λ (b : Bool). Cleared app lu (taken_so b (ToTerminal.Paint number wanted (Shadow.Formatted beliefs)) (paint_executed number wanted (Shadow.Formatted beliefs) now.term) rest)) (sym bound_now)
      (subst (λ (cleared : Bool). Cleared app lu (shown_so cleared number wanted (Shadow.Formatted beliefs) (paint_executed number wanted (Shadow.Formatted beliefs) now.term) rest)) (sym gone.0)
      (subst (λ (shown : Bool). Cleared app lu (shown_if shown number wanted (Shadow.Formatted beliefs) (paint_executed number wanted (Shadow.Formatted beliefs) now.term) rest)) (sym erases_it)
      (subst (λ (drawn : Screen). Cleared app lu (shown_if true number wanted (Shadow.Formatted beliefs) (drawn_so number wanted drawn) rest)) (sym (ap (λ (command : CommandParts). after_command command screen) (same_paint beliefs wanted erases_it) ∙ given.belief.painted Shadow.NothingKnown wanted screen cells fresh_fact.paintable.fits tt)) goes)))
    where
      gone : Gone
      gone = gone_now (ToTerminal.Paint number wanted (Shadow.Formatted beliefs)) rest e

      comes : PaintComes app end c.kept.wanted rest number wanted (Shadow.Formatted beliefs)
      comes = paint_comes app end number wanted (Shadow.Formatted beliefs) rest (sym c.down ∙ e) c.kept (agrees_still c)

      screen : Screen
      screen = now.term.display.screen

      new : Screen
      new = plainly_painted wanted screen

      over : Shadow
      over = Shadow.Formatted beliefs

      -- the waiting terminal's link, where the paint is over nothing
      fresh : Link
      fresh = record end { host = record end.host { shadow = Shadow.NothingKnown }; down = ToTerminal.Paint number wanted Shadow.NothingKnown ∷ rest }

      fresh_at : IsAt (view_of fresh) c.kept.wanted (LinkPhase.InSession comes.lu (SessionPhase.Painting number comes.command wanted Shadow.NothingKnown))
      fresh_at = record {
        host_talk = comes.at.host_talk;
        term_talk = comes.at.term_talk;
        turn = comes.at.turn;
        pending = comes.at.pending;
        goes_down = record {
          vanished = comes.left.vanished;
          whole = ap (λ (l : List ToTerminal). ToTerminal.Paint number wanted Shadow.NothingKnown ∷ l) comes.left.whole;
          none = comes.left.none;
        };
        goes_up = comes.at.goes_up;
      }

      fresh_fact : IsPainted (local_state_of (view_of fresh)) comes.command wanted Shadow.NothingKnown
      fresh_fact = record {
        lock = comes.fact.lock;
        over_is = refl;
        command_is = comes.fact.command_is ∙ same_paint beliefs wanted erases_it;
        meets = tt;
        closed = λ relies. absurd (let wrong : false ≡ true = sym (ap may_have_changed relies) ∙ c.any in cc);
        uncleared = comes.fact.uncleared;
        doubts = λ changed erased now held. tt;
        paintable = record { fits = fits_nothing beliefs wanted erases_it comes.fact.paintable.fits; showable = comes.fact.paintable.showable };
      }

      fresh_asked : WantsItsPanelOn app end.term.waits (record end.host { shadow = Shadow.NothingKnown }) Shadow.NothingKnown wanted end.term.display.screen
      fresh_asked = record {
        wants = wants_over_nothing app end.host.talk end.host.panel end.host.values end.host.message beliefs wanted erases_it comes.asked.wants;
        told = λ waits. absurd (let wrong : false ≡ true = sym c.unsure ∙ waits in cc);
      }

      fresh_kept : ConnectionInvariant app (view_of fresh)
      fresh_kept = record {
        whole = c.kept.whole;
        cursor = c.kept.cursor;
        unreturned = c.kept.unreturned;
        as_left = c.kept.as_left;
        exact = record { known = given.belief.nothing_exact.0; protected = given.belief.nothing_exact.1 };
        unrestored = c.kept.unrestored;
        wanted = c.kept.wanted;
        moment = LinkPhase.InSession comes.lu (SessionPhase.Painting number comes.command wanted Shadow.NothingKnown);
        sizes = record { host = c.kept.sizes.host; screen = c.kept.sizes.screen; same = λ steady. absurd (cc) };
        at = fresh_at;
        fact = fresh_fact;
        shown = fresh_asked;
      }

      fresh_returning : HostReturns fresh.host
      fresh_returning =
          returns_if fresh.host whose.Terminal (Pending.Writing number comes.command) comes.at.turn comes.at.pending
          (subst ReturnsInput (same_taken (cells_in end.host.size) comes.command end.host.shadow Shadow.NothingKnown (ap (λ (command : CommandParts). is_erase command.code) comes.fact.command_is ∙ erases_it))
          (returns_at end.host whose.Terminal (Pending.Writing number comes.command) comes.at.turn comes.at.pending c.returning))

      step : TermStep
      step = paint_came number wanted (showing screen end.term)

      pending : end.host.pending ≡ Pending.Writing number comes.command
      pending = comes.at.pending

      erasing : erases end.host.pending ≡ true
      erasing = ap erases pending ∙ ap (λ (command : CommandParts). is_erase command.code) comes.fact.command_is
          ∙ erases_it

      silent : end.up ≡ []
      silent = empty_queue end.lost end.up comes.at.goes_up

      keys : AddsKeys c.clears false end.host.turn end.host.pending [] now.up
      keys = any_later c.clears t.cleared false end.host.turn end.host.pending now.up
          (subst (λ (said : List ToHost). AddsKeys c.clears t.cleared end.host.turn end.host.pending said now.up) (answers_silent end.host end.up c.up.said now.up silent c.up.alike) c.up.up)

      kept : ConnectionInvariant app (view_of (term_view step rest fresh))
      kept = paints_on given app is fresh rest fresh_kept comes.lu number comes.command wanted Shadow.NothingKnown fresh_at fresh_fact fresh_asked comes.left screen tt (λ waits. absurd (let wrong : false ≡ true = sym c.unsure ∙ waits in cc))

      cells : length wanted.cells ≡ cells_in wanted.size
      cells = comes.fact.paintable.showable.cells ∙ ap (λ (shape : ScreenSize). cells_in shape) (sym comes.fact.paintable.showable.size)

      -- whatever was displayed, but for the model
      drawn : (k : Keyboard) → record now.term.display { size = wanted.size; screen = new; keyboard = k; last_restored = new; before_restored = screen; erased = false }
          ≡ record end.term.display { size = wanted.size; screen = new; keyboard = k; last_restored = new; before_restored = screen; erased = false }
      drawn k = ap (λ (m : Model). record end.term.display { model = m; size = wanted.size; screen = new; keyboard = k; last_restored = new; before_restored = screen; erased = false }) c.model

      since : Since step.end.display (paint_came number wanted now.term).end.display
      since = since_same given step.end.display (paint_came number wanted now.term).end.display
          (drawn (freed now.term.display.keyboard))
          (subst (λ (size : ℕ). new.cursor < size) (sym kept.whole) kept.cursor)

      goes : Cleared app lu (shown_if true number wanted (Shadow.Formatted beliefs) (paint_came number wanted now.term) rest)
      goes = record {
        told = term_view step rest fresh;
        kept = kept;
        agreed = c.agreed;
        any = c.any;
        unsure = c.unsure;
        marks = c.marks;
        returning = fresh_returning;
        display = sym (drawn (freed end.term.display.keyboard));
        waits = refl;
        bound = c.bound;
        host_here = c.host_here;
        term_here = c.term_here;
        host = HostsAlike.erasing erasing (but_belief end now.host c.host) (may_change end now.host c.host c.any);
        lost = c.lost;
        down = refl;
        talk = c.talk;
        clears = c.clears;
        up = both_say_too c.clears false fresh.host end.lost now.lost end.up now.up (ToHost.Response number Verdict.Positive) c.lost (λ paints. erasing)
            (record { said = []; alike = AnswersAlike.by_saying (SaysAlike.same (sym silent)); up = keys });
        stage = Stage.erased refl erasing (empty_queue end.lost rest comes.left) since;
        model = c.model;
        rest = λ shown. since.rest;
        plain = λ cleared. absurd (cc);
      }

  pub painted_erasing : (number : ℕ) (wanted : WantedScreen) (over : Shadow) (rest : List ToTerminal) → now.down ≡ ToTerminal.Paint number wanted over ∷ rest → is_erase (paint (cells_in wanted.size) over wanted).code ≡ true
      → Cleared app lu (taken_so (is_bound now.term) (ToTerminal.Paint number wanted over) (paint_executed number wanted over now.term) rest)
  painted_erasing number wanted Shadow.NothingKnown rest e erases_it = painted_cleared number wanted Shadow.NothingKnown rest e erases_it tt
  painted_erasing number wanted (Shadow.Unformatted known) rest e erases_it = painted_cleared number wanted (Shadow.Unformatted known) rest e erases_it tt
  painted_erasing number wanted (Shadow.Formatted beliefs) rest e erases_it = painted_over number wanted beliefs rest e erases_it

  -- ---- a note

  -- both answer
  record BothAnswer (number : ℕ) (told_up up : List ToHost) (waiting link : Link) : Type 0 where
    says : SaysToo c.clears t.cleared end.host told_up up
    fate : Fate waiting says.said link

  both_answer : (number : ℕ) → is_painting end.host.pending ≡ false → Fate end c.up.said now → (waiting link : Link) → waiting.host ≡ end.host → link.lost ≡ now.lost → link.host ≡ now.host
      → link.up ≡ sent now.lost now.up (ToHost.Response number Verdict.Positive ∷ [])
      → BothAnswer number (sent end.lost end.up (ToHost.Response number Verdict.Positive ∷ [])) (sent now.lost now.up (ToHost.Response number Verdict.Positive ∷ [])) waiting link
  both_answer number unpainted fate waiting link waiting_host lost host up =
      subst (λ (l : Bool). BothAnswer number (sent end.lost end.up (answer ∷ [])) (sent l now.up (answer ∷ [])) waiting link) (sym c.lost) (by_lost end.lost refl)
    where
      answer : ToHost
      answer = ToHost.Response number Verdict.Positive

      not_erasing : erases end.host.pending ≡ false
      not_erasing = unpainted_erases end.host.pending unpainted

      by_fate : now.lost ≡ false → Fate end c.up.said now → Fate waiting (c.up.said ++ answer ∷ []) link
      by_fate live (Fate.is_lost is) = Fate.is_lost (lost ∙ is)
      by_fate live (Fate.was_heard none unheard) = Fate.was_heard (ap (λ (h : Session). erases h.pending) waiting_host ∙ none) (ap (λ (h : Session). may_be_read h.unheard) host ∙ unheard)
      by_fate live (Fate.erases_next erasing silent) = absurd (let wrong : false ≡ true = sym not_erasing ∙ erasing in cc)
      by_fate live (Fate.is_due due) =
          Fate.is_due (subst (λ (b : Bool). clears_due b (c.up.said ++ answer ∷ []) < clears_due b link.up) (sym (ap (λ (h : Session). erases h.pending) waiting_host ∙ not_erasing))
          (subst (λ (l : List ToHost). clears_in (c.up.said ++ answer ∷ []) < clears_in l) (sym (up ∙ ap (λ (b : Bool). sent b now.up (answer ∷ [])) live))
          (due_answered c.up.said now.up number Verdict.Positive (subst (λ (b : Bool). clears_due b c.up.said < clears_due b now.up) not_erasing due))))

      by_lost : (b : Bool) → end.lost ≡ b → BothAnswer number (sent b end.up (answer ∷ [])) (sent b now.up (answer ∷ [])) waiting link
      by_lost true is = record { says = c.up; fate = Fate.is_lost (lost ∙ c.lost ∙ is) }
      by_lost false is = record {
        says = says_last c.clears t.cleared end.host end.up now.up answer (λ paints. absurd (let wrong : false ≡ true = sym unpainted ∙ paints in cc)) c.up;
        fate = by_fate (c.lost ∙ is) fate;
      }

  -- a note leaves a screen without fields
  still_plain : (number : ℕ) (command : CommandParts) (rest : List ToTerminal) → NoteComes end command → is_painting end.host.pending ≡ false → IsPlain end now.term.display.screen → IsPlain (term_view (note_came number command end.term) rest end) (after_command command now.term.display.screen)
  still_plain number command rest comes unpainted (IsPlain.over_nothing nothing paints silent) = absurd (let wrong : false ≡ true = sym unpainted ∙ paints in cc)
  still_plain number command rest comes unpainted (IsPlain.bare none size) =
      let screen : Screen = now.term.display.screen in
      let shape = shape_of_model app end.term.display.model end.host.size is c.kept.sizes.host in
      let chars : list_all is_char screen.cells ≡ true = no_attribute screen.cells 0 screen.cells none in
      let whole : length screen.cells ≡ cells_in end.host.size = size ∙ c.kept.whole ∙ ap (λ (s : ScreenSize). cells_in s) comes.same in
      let note = (given.notes.are_notes end.host.size command shape comes.note).note in
      let after : Screen = after_command command screen in
      IsPlain.bare
      (none_listed after.cells 0 after.cells (no_attributes screen.cells after.cells (given.notes.form command screen (given.notes.over_characters end.host.size command screen.cells shape comes.note whole (TakesNotes.unformatted chars))).attributes chars))
      ((given.notes.bounds command screen note).size ∙ size ∙ sym (given.notes.bounds command end.term.display.screen note).size)

  hosts_noted : (up : List ToHost) (down : List ToTerminal) (term : TermEnd) → is_painting end.host.pending ≡ false → HostsAlike end now.host → HostsAlike (record end { up = up; down = down; term = term }) now.host
  hosts_noted up down term unpainted (HostsAlike.same same) = HostsAlike.same same
  hosts_noted up down term unpainted (HostsAlike.erasing is_erasing is_now any) = absurd (let wrong : false ≡ true = sym (unpainted_erases end.host.pending unpainted) ∙ is_erasing in cc)
  hosts_noted up down term unpainted (HostsAlike.crossed paints harmless crossed) = absurd (let wrong : false ≡ true = sym unpainted ∙ paints in cc)

  read_noted : (number : ℕ) (command : CommandParts) (rest : List ToTerminal) → now.down ≡ ToTerminal.Note number command ∷ rest → is_painting end.host.pending ≡ false → (after_command command t.told.screen).aid ≡ t.told.screen.aid → HasRead t end
      → HasRead (taken_so true (ToTerminal.Note number command) (note_came number command now.term) rest) (term_view (note_came number command end.term) rest end)
  read_noted number command rest e unpainted same (HasRead.no_pa none) = HasRead.no_pa (ap is_pa same ∙ none)
  read_noted number command rest e unpainted same (HasRead.was_read turns was) = HasRead.was_read turns was
  read_noted number command rest e unpainted same (HasRead.is_read turns reads silent first) = absurd (let wrong = sym silent ∙ sym c.down ∙ e in cc)
  read_noted number command rest e unpainted same (HasRead.was_shown paints silent) = absurd (let wrong : false ≡ true = sym unpainted ∙ paints in cc)

  pub noted_cleared : (number : ℕ) (command : CommandParts) (rest : List ToTerminal) → now.down ≡ ToTerminal.Note number command ∷ rest
      → Cleared app lu (taken_so (is_bound now.term) (ToTerminal.Note number command) (note_came number command now.term) rest)
  noted_cleared number command rest e =
      let down : end.down ≡ ToTerminal.Note number command ∷ rest = sym c.down ∙ e in
      let comes : NoteComes end command = note_comes given app end number command rest down c.kept (agrees_still c) in
      let note = (given.notes.are_notes end.host.size command (shape_of_model app end.term.display.model end.host.size is c.kept.sizes.host) comes.note).note in
      let gone : Gone = gone_now (ToTerminal.Note number command) rest e in
      let unpainted : is_painting end.host.pending ≡ false = note_unpainted app end number command rest down c.kept c.bound in
      let both = both_answer number unpainted gone.3 (term_view (note_came number command end.term) rest end) (term_stepped (note_came number command now.term) rest now) refl refl refl refl in
      subst (λ (b : Bool). Cleared app lu (taken_so b (ToTerminal.Note number command) (note_came number command now.term) rest)) (sym bound_now)
      (record {
        told = term_view (note_came number command end.term) rest end;
        kept = subst (λ (bound : Bool). ConnectionInvariant app (view_of (term_view (once_bound bound (note_came number command end.term) end.term) rest end))) comes.bound
            (obeys given app is end (ToTerminal.Note number command) rest down c.kept).kept;
        agreed = c.agreed;
        any = c.any;
        unsure = c.unsure;
        marks = c.marks;
        returning = c.returning;
        display = ap (λ (d : Display). record d { screen = after_command command d.screen }) c.display;
        bound = c.bound;
        waits = c.waits;
        host_here = c.host_here;
        term_here = c.term_here;
        host = hosts_noted (sent end.lost end.up (ToHost.Response number Verdict.Positive ∷ [])) rest (note_came number command end.term).end unpainted c.host;
        lost = c.lost;
        down = refl;
        talk = c.talk;
        clears = c.clears;
        up = both.says;
        stage = Stage.gone gone.0 gone.1 (read_noted number command rest e unpainted (given.notes.bounds command t.told.screen note).aid gone.2) both.fate;
        model = c.model;
        rest = λ shown. ap (λ (d : Display). record d { screen = after_command command now.term.display.screen }) (c.rest (λ paints. absurd (let wrong : false ≡ true = sym unpainted ∙ paints in cc)));
        plain = λ cleared. still_plain number command rest comes unpainted (c.plain cleared);
      })

  -- ---- a Read Buffer

  -- The host that hears of Clear first makes the same of both answers.
  record BothRead (one other : ToHost) (up now_up : List ToHost) (waiting link : Link) : Type 0 where
    says : SaysToo c.clears t.cleared end.host up now_up
    fate : Fate waiting says.said link

  keys_first : (clears later : Bool) (turn : Turn) (pending : Pending) (real behind : List ToHost) → 0 < clears_in real → AddsKeys clears later turn pending [] real → clears_first (real ++ behind) ≡ true
  keys_first clears later turn pending [] behind some x = absurd (let wrong : ⊥ = omega arith in wrong)
  keys_first clears later turn pending (message ∷ real) behind some (inr x) = absurd (let wrong = x.1 in cc)
  keys_first clears later turn pending (message ∷ real) behind some (inl x) =
      let key = x.1 in
      subst (λ (m : ToHost). clears_first (m ∷ real ++ behind) ≡ true) (sym key.is)
      (ap (λ (f : Form). is_clear_before f (is_clear key.parts.aid) (clears_first (real ++ behind))) key.form
      ∙ first_behind (is_clear key.parts.aid) (clears_in real) (clears_first (real ++ behind)) (λ more. keys_first clears later turn pending real behind more x.2)
      (subst (λ (m : ToHost). 0 < one_more (is_clear_data m) (clears_in real)) key.is some))

  pub read_cleared : (number : ℕ) (rest : List ToTerminal) → now.down ≡ ToTerminal.ReadBuffer number ∷ rest → Cleared app lu (taken_so (is_bound now.term) (ToTerminal.ReadBuffer number) (read_came now.term) rest)
  read_cleared number rest e =
      subst (λ (b : Bool). Cleared app lu (taken_so b (ToTerminal.ReadBuffer number) (read_came now.term) rest)) (sym bound_now)
      (subst (λ (pa : Bool). Cleared app lu (read_so pa)) (sym told_no_pa) goes)
    where
      gone : Gone
      gone = gone_now (ToTerminal.ReadBuffer number) rest e

      down : end.down ≡ ToTerminal.ReadBuffer number ∷ rest
      down = sym c.down ∙ e

      comes : ReadComes app end c.kept.wanted rest
      comes = read_comes app end number rest down c.kept (agrees_still c)

      is_bound_told : is_bound end.term ≡ true
      is_bound_told = bound end c.kept.wanted comes.lu _ comes.at

      old : Screen
      old = end.term.display.screen

      screen : Screen
      screen = now.term.display.screen

      read_so : Bool → LinkWithReport
      read_so pa = record {
        link = term_stepped (read_came now.term) rest now;
        told = if pa then record now.term.display { screen = record screen { aid = t.told.screen.aid } } else t.told;
        waits = t.waits;
        cleared = t.cleared;
      }

      one : ToHost
      one = ToHost.Data (buffer_data end.term.display.size old)

      other : ToHost
      other = ToHost.Data (buffer_data now.term.display.size screen)

      unpainted : is_painting end.host.pending ≡ false
      unpainted = ap is_painting comes.at.pending

      counts : is_after_pa end.host.turn_reason ≡ is_pa t.told.screen.aid
      counts = pa_counts end.host.turn_reason old.aid comes.fact.decides.turn_reason ∙ ap (λ (d : Display). is_pa d.screen.aid) c.display

      -- after PA it is read once
      told_no_pa : is_pa t.told.screen.aid ≡ false
      told_no_pa = by_read gone.2
        where
          once : (b : Bool) → is_after_pa end.host.turn_reason ≡ b → is_unread end.host.turn_reason ≡ false → b ≡ false
          once false after was = refl
          once true after was = absurd (let wrong : false ≡ true = sym was ∙ comes.fact.unread after in cc)

          by_read : HasRead t end → is_pa t.told.screen.aid ≡ false
          by_read (HasRead.no_pa none) = none
          by_read (HasRead.was_read turns was) = sym counts ∙ once (is_after_pa end.host.turn_reason) refl was
          by_read (HasRead.is_read turns reads none first) = absurd (let wrong = sym none ∙ down in cc)
          by_read (HasRead.was_shown paints none) = absurd (let wrong : false ≡ true = sym (ap is_painting comes.at.pending) ∙ paints in cc)

      no_pa : is_after_pa end.host.turn_reason ≡ false
      no_pa = counts ∙ told_no_pa

      skips : is_read_believed end.host ≡ false
      skips = read_skipped given end.host comes.number comes.at.turn comes.at.pending c.any no_pa c.returning

      same_host : HostsAlike end now.host → now.host ≡ end.host
      same_host (HostsAlike.same same) = same
      same_host (HostsAlike.crossed paints harmless crossed) = absurd (let wrong : false ≡ true = sym unpainted ∙ paints in cc)
      same_host (HostsAlike.erasing is_erasing is_now any) = absurd (let wrong : false ≡ true = sym (unpainted_erases end.host.pending unpainted) ∙ is_erasing in cc)

      -- both displays have this size
      same_shape : now.term.display.size ≡ end.host.size
      same_shape = ap (λ (d : Display). d.size) (c.rest (λ paints. absurd (let wrong : false ≡ true = sym unpainted ∙ paints in cc))) ∙ comes.same

      silent : end.up ≡ []
      silent = empty_queue end.lost end.up comes.at.goes_up

      said_none : c.up.said ≡ []
      said_none = answers_silent end.host end.up c.up.said now.up silent c.up.alike

      keys : AddsKeys c.clears t.cleared end.host.turn end.host.pending [] now.up
      keys = subst (λ (said : List ToHost). AddsKeys c.clears t.cleared end.host.turn end.host.pending said now.up) said_none c.up.up

      waiting : Link
      waiting = term_view (read_came end.term) rest end

      link : Link
      link = term_stepped (read_came now.term) rest now

      due : Fate end c.up.said now → now.lost ≡ false → (may_be_read end.host.unheard ≡ false) ⊎ (0 < clears_in now.up)
      due (Fate.is_lost is) live = absurd (let wrong : false ≡ true = sym live ∙ is in cc)
      due (Fate.is_due is) live =
          inr (subst (λ (said : List ToHost). clears_in said < clears_in now.up) said_none
          (subst (λ (b : Bool). clears_due b c.up.said < clears_due b now.up) (unpainted_erases end.host.pending unpainted) is))
      due (Fate.was_heard none unheard) live = inl (sym (ap (λ (s : Session). may_be_read s.unheard) (same_host c.host)) ∙ unheard)
      due (Fate.erases_next erasing none) live = absurd (let wrong : false ≡ true = sym (unpainted_erases end.host.pending unpainted) ∙ erasing in cc)

      hears : (may_be_read end.host.unheard ≡ false) ⊎ (0 < clears_in now.up) → (not (may_be_read end.host.unheard) || clears_first (now.up ++ other ∷ [])) ≡ true
      hears (inl heard) = ap (λ (b : Bool). not b || clears_first (now.up ++ other ∷ [])) heard
      hears (inr some) = or_true (not (may_be_read end.host.unheard)) (clears_first (now.up ++ other ∷ [])) (keys_first c.clears t.cleared end.host.turn end.host.pending now.up (other ∷ []) some keys)
        where
          or_true : (b d : Bool) → d ≡ true → (b || d) ≡ true
          or_true true d is = refl
          or_true false d is = is

      by_fate : now.lost ≡ false → Fate end c.up.said now → Fate waiting (other ∷ []) link
      by_fate live (Fate.is_lost is) = Fate.is_lost is
      by_fate live (Fate.was_heard none unheard) = Fate.was_heard none unheard
      by_fate live (Fate.erases_next erasing none) = absurd (let wrong : false ≡ true = sym (unpainted_erases end.host.pending unpainted) ∙ erasing in cc)
      by_fate live (Fate.is_due is) =
          Fate.is_due (subst (λ (b : Bool). clears_due b (other ∷ []) < clears_due b link.up) (sym (unpainted_erases end.host.pending unpainted))
          (subst (λ (up : List ToHost). clears_in (other ∷ []) < clears_in up) (sym (ap (λ (b : Bool). sent b now.up (other ∷ [])) live))
          (due_read now.up other (some_due (due (Fate.is_due is) live)))))
        where
          some_due : (may_be_read end.host.unheard ≡ false) ⊎ (0 < clears_in now.up) → 0 < clears_in now.up
          some_due either = subst (λ (said : List ToHost). clears_in said < clears_in now.up) said_none
              (subst (λ (b : Bool). clears_due b c.up.said < clears_due b now.up) (unpainted_erases end.host.pending unpainted) is)

      by_lost : (lost : Bool) → end.lost ≡ lost → BothRead one other (sent lost end.up (one ∷ [])) (sent lost now.up (other ∷ [])) waiting link
      by_lost true is = record { says = c.up; fate = Fate.is_lost (c.lost ∙ is) }
      by_lost false is = record {
        says = record {
          said = other ∷ [];
          alike = AnswersAlike.behind_clear comes.number old screen [] comes.at.pending skips
              (given.belief.unbroken false end.host.shadow old old comes.fact.decides.sees.meets (given.keys.at_first old.cells))
              (ap (λ (l : List ToHost). l ++ one ∷ []) silent ∙ ap (λ (shape : ScreenSize). ToHost.Data (buffer_data shape old) ∷ []) comes.same)
              (ap (λ (shape : ScreenSize). ToHost.Data (buffer_data shape screen) ∷ []) same_shape)
              (hears (due gone.3 (c.lost ∙ is)));
          up = same_last_too c.clears t.cleared end.host.turn end.host.pending [] now.up other (λ paints. absurd (let wrong : false ≡ true = sym unpainted ∙ paints in cc)) keys;
        };
        fate = by_fate (c.lost ∙ is) gone.3;
      }

      both : BothRead one other (sent end.lost end.up (one ∷ [])) (sent now.lost now.up (other ∷ [])) waiting link
      both = subst (λ (lost : Bool). BothRead one other (sent end.lost end.up (one ∷ [])) (sent lost now.up (other ∷ [])) waiting link) (sym c.lost) (by_lost end.lost refl)

      by_plain : IsPlain end screen → IsPlain waiting screen
      by_plain (IsPlain.bare none size) = IsPlain.bare none size
      by_plain (IsPlain.over_nothing nothing paints none) = absurd (let wrong : false ≡ true = sym unpainted ∙ paints in cc)

      goes : Cleared app lu (read_so false)
      goes = record {
        told = waiting;
        kept = subst (λ (b : Bool). ConnectionInvariant app (view_of (term_view (once_bound b (read_came end.term) end.term) rest end))) is_bound_told
            (obeys given app is end (ToTerminal.ReadBuffer number) rest down c.kept).kept;
        agreed = c.agreed;
        any = c.any;
        unsure = c.unsure;
        marks = c.marks;
        returning = c.returning;
        display = c.display;
        waits = c.waits;
        bound = c.bound;
        host_here = c.host_here;
        term_here = c.term_here;
        host = HostsAlike.same (same_host c.host);
        lost = c.lost;
        down = refl;
        talk = c.talk;
        clears = c.clears;
        up = both.says;
        stage = Stage.gone gone.0 gone.1 (HasRead.no_pa told_no_pa) both.fate;
        model = c.model;
        rest = λ shown. c.rest (λ paints. absurd (let wrong : false ≡ true = sym unpainted ∙ paints in cc));
        plain = λ cleared. by_plain (c.plain cleared);
      }

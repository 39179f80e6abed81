-- What comes down: the waiting terminal takes a paint, and answers a Read Buffer after PA, on the screen as it is, which is told then.
use Rattle.std.proofs.Common.{◌≡◌, ◌<◌, ◌||◌, Bool, true, false, ℕ, Option, None, List, [], ◌∷◌, ◌++◌, if◌then◌else◌, length, refl, ap, sym, subst, ◌∙◌}
use Rattle.std.specs.Prelude.{is_some}
use Rattle.codes3270.specs.Size.{ScreenSize, cells_in}
use Rattle.codes3270.specs.declared.attention.Aid.{Aid}
use Rattle.datastream.specs.Grammar.{CommandParts}
use Rattle.datastream.specs.InboundFields.{buffer_data}
use Rattle.datastream.specs.Meaning.{after_command}
use Rattle.datastream.specs.Screen.{Screen}
use Rattle.datastream.specs.Wanted.{WantedScreen}
use Rattle.keyboard.specs.State.{freed}
use Rattle.shadow.specs.Belief.{Shadow}
use Rattle.shadow.specs.Meets.{Meets}
use Rattle.shadow.specs.Painted.{plainly_painted}
use Rattle.shadow.specs.RuleBreaks.{rule_break}
use Rattle.tn3270e_msg.specs.Talk.{NegotiationMessage}
use Rattle.tn3270e_msg.specs.TermTable.{Term}
use Rattle.tn3270e_msg.specs.declared.cause.Cause.{Cause}
use Rattle.host_core.specs.Application.{Application, IsApplication, message_place}
use Rattle.host_core.specs.Messages.{ToHost, ToTerminal, Verdict}
use Rattle.host_core.specs.Takes.{is_after_pa, is_read_believed}
use Rattle.world3270.specs.statement.EveryTerminal.{LinkWithReport, is_pa, once_shown, paint_executed, told_after, told_if}
use Rattle.world3270.specs.refinement.LowerLaws.{LowerLaws}
use Rattle.world3270.specs.model.Link.{Link, sent, term_left_if, term_stepped}
use Rattle.world3270.specs.refinement.Invariant.{ConnectionInvariant}
use Rattle.world3270.specs.model.Terminal.{Display, TermEnd, TermStep, bound_to, is_bound, note_came, once_bound, paint_came, read_came, talked}
use Rattle.world3270.specs.refinement.View.{view_of}
use Rattle.world3270.proofs.ComesDown.{ReadComes, note_comes, paint_comes, read_comes}
use Rattle.world3270.proofs.Down.{bound, paints_on, read_of, reads_on, shape_of_model, showing, term_view}
use Rattle.world3270.proofs.Obeys.{obeys}
use Rattle.world3270.proofs.Keys.{or_false}
use Rattle.world3270.proofs.NotesHeld.{note_held}
use Rattle.world3270.proofs.Queues.{empty_queue, front, nothing}
use Rattle.world3270.proofs.TalkStates.{talking_unbound}
use Rattle.world3270.specs.refinement.Phases.{IsAt, LinkPhase, SessionPhase}
use Rattle.world3270.proofs.ReadsInput.{reads_input}
use Rattle.world3270.proofs.Returning.{pa_counts, read_skipped}
use Rattle.world3270.proofs.SecondKeys.{Says, SaysAlike, alike_silent, same_last}
use Rattle.world3270.proofs.Simulation.{Simulated, agrees_now, both_say, since_same}
use Rattle.world3270.proofs.StillKept.{still_as_left, still_kept}
use Rattle.world3270.proofs.Up.{skipped_when}

-- ---- where a terminal is bound, nothing of the talk comes down

pub talk_over : (app : Application) (link : Link) → ConnectionInvariant app (view_of link) → is_bound link.term ≡ true → (saying : NegotiationMessage) (rest : List ToTerminal) → link.down ≡ ToTerminal.TalksDown saying ∷ rest → ⊥
talk_over app link k bound_here saying rest e = by_moment k.moment k.at
  where
    message : ToTerminal
    message = ToTerminal.TalksDown saying

    by_serving : (lu : List ℕ) (serving : SessionPhase) → IsAt (view_of link) k.wanted (LinkPhase.InSession lu serving) → ⊥
    by_serving lu (SessionPhase.Reading number) at = absurd (let clash = (front link.lost link.down message rest _ [] e at.goes_down).0 in cc)
    by_serving lu (SessionPhase.DecidingNoteSent number command) at = absurd (let clash = (front link.lost link.down message rest _ [] e at.goes_down).0 in cc)
    by_serving lu (SessionPhase.Painting number command wanted over) at = absurd (let clash = (front link.lost link.down message rest _ [] e at.goes_down).0 in cc)
    by_serving lu (SessionPhase.Noting number command) at = absurd (let clash = (front link.lost link.down message rest _ [] e at.goes_down).0 in cc)
    by_serving lu (SessionPhase.KeyCrossingNote number command parts) at = absurd (let clash = (front link.lost link.down message rest _ [] e at.goes_down).0 in cc)
    by_serving lu SessionPhase.Deciding at = nothing link.lost link.down message rest e at.goes_down
    by_serving lu (SessionPhase.BufferReturning number parts) at = nothing link.lost link.down message rest e at.goes_down
    by_serving lu (SessionPhase.DecidingNoteAnswered number command) at = nothing link.lost link.down message rest e at.goes_down
    by_serving lu (SessionPhase.AwaitingWriteResponse kind number command) at = nothing link.lost link.down message rest e at.goes_down
    by_serving lu SessionPhase.OperatorTyping at = nothing link.lost link.down message rest e at.goes_down
    by_serving lu (SessionPhase.KeySent parts) at = nothing link.lost link.down message rest e at.goes_down
    by_serving lu (SessionPhase.KeySentAfterResponse kind number command parts) at = nothing link.lost link.down message rest e at.goes_down
    by_serving lu (SessionPhase.KeyBeforeNoteResponse number command parts) at = nothing link.lost link.down message rest e at.goes_down

    by_moment : (moment : LinkPhase) → IsAt (view_of link) k.wanted moment → ⊥
    by_moment (LinkPhase.Negotiating talking) at = talking_unbound link.term.display.model k.wanted talking link.term.talk at.term_talk bound_here
    by_moment (LinkPhase.FirstPaint lu number command wanted over) at = absurd (let wrong : false ≡ true = sym (ap (λ state. is_some (bound_to state)) at.term_talk) ∙ bound_here in cc)
    by_moment (LinkPhase.InSession lu serving) at = by_serving lu serving at

module _ (given : LowerLaws) (app : Application) (is : IsApplication app) (lu : List ℕ) (t : LinkWithReport) (s : Simulated app lu t) where
  abbrev end : Link
  end = s.told

  abbrev now : Link
  now = t.link

  -- once the message is taken
  abbrev taken_so : Bool → ToTerminal → TermStep → List ToTerminal → LinkWithReport
  taken_so is_bound message step rest = told_if is_bound message t (term_stepped (once_bound is_bound step now.term) rest now)

  -- once a paint is taken
  abbrev shown_so : Bool → ℕ → WantedScreen → Shadow → TermStep → List ToTerminal → LinkWithReport
  shown_so cleared number wanted over step rest =
      let message : ToTerminal = ToTerminal.Paint number wanted over in
      let link : Link = term_stepped step rest now in
      record { link = link; told = told_after message cleared t.told link.term.display; waits = once_shown message cleared t.waits; cleared = once_shown message cleared cleared }

  -- at a bound terminal
  bound_now : is_bound end.term ≡ true → is_bound now.term ≡ true
  bound_now bound = ap (λ (talk : Term). is_some (bound_to talk.talk.state)) s.simulates.talk ∙ bound

  -- ---- what the host's talk says

  abbrev replied_so : Option Cause → TermEnd → List ToHost → List ToTerminal → Link
  replied_so closes term says rest = term_left_if closes (record now { down = rest; term = term; up = sent now.lost now.up says })

  pub talked_still : (saying : NegotiationMessage) (rest : List ToTerminal) → now.down ≡ ToTerminal.TalksDown saying ∷ rest
      → Simulated app lu (told_if (is_bound now.term) (ToTerminal.TalksDown saying) t (term_stepped (talked now.term now.term.talk saying) rest now))
  talked_still saying rest e =
      let obeyed = obeys given app is end (ToTerminal.TalksDown saying) rest (sym s.simulates.down ∙ e) s.kept in
      let step : TermStep = talked end.term end.term.talk saying in
      let new : TermEnd = record now.term { talk = record now.term.talk { talk = step.end.talk.talk } } in
      let still_unbound : is_bound now.term ≡ false = unbound_yet (is_bound now.term) refl in
      let goes : Simulated app lu (record t { link = replied_so None new step.sends rest }) =
      record {
        told = term_view step rest end;
        kept = obeyed.kept;
        agreed = s.agreed;
        any = s.any;
        unsure = s.unsure;
        marks = s.marks;
        returning = s.returning;
        display = s.display;
        waits = s.waits;
        uncleared = s.uncleared;
        blank = λ unbound. s.blank still_unbound;
        host_here = s.host_here;
        term_here = s.term_here;
        simulates = record {
          host = s.simulates.host;
          lost = s.simulates.lost;
          down = refl;
          talk = ap (λ (term : Term). record term { talk = step.end.talk.talk }) s.simulates.talk;
          up = both_say end now step.sends s.simulates.lost s.simulates.up;
          since = s.simulates.since;
        };
      } in
      by_bound (is_bound now.term)
      (subst (λ (talk : Term). Simulated app lu (record t { link = term_stepped (talked now.term talk saying) rest now })) (sym s.simulates.talk)
      (subst (λ (closes : Option Cause). Simulated app lu (record t { link = replied_so closes new step.sends rest })) (sym obeyed.open_end) goes))
    where
      unbound_yet : (b : Bool) → is_bound now.term ≡ b → is_bound now.term ≡ false
      unbound_yet false is_it = is_it
      unbound_yet true is_it = absurd (talk_over app end s.kept (sym (ap (λ (talk : Term). is_some (bound_to talk.talk.state)) s.simulates.talk) ∙ is_it) saying rest (sym s.simulates.down ∙ e))

      by_bound : (b : Bool) {link : Link} → Simulated app lu (record t { link = link }) → Simulated app lu (told_if b (ToTerminal.TalksDown saying) t link)
      by_bound true goes = goes
      by_bound false goes = goes

  -- ---- a paint

  -- a paint that leaves this screen
  abbrev drawn_so : ℕ → WantedScreen → Screen → TermStep
  drawn_so number wanted drawn = record {
    end = record now.term {
      display = record now.term.display {
        size = wanted.size;
        screen = drawn;
        keyboard = freed now.term.display.keyboard;
        last_restored = drawn;
        before_restored = now.term.display.screen;
        erased = false;
      };
    };
    sends = ToHost.Response number Verdict.Positive ∷ [];
    closes = None;
  }

  pub painted_still : (number : ℕ) (wanted : WantedScreen) (over : Shadow) (rest : List ToTerminal) → now.down ≡ ToTerminal.Paint number wanted over ∷ rest
      → Simulated app lu (taken_so (is_bound now.term) (ToTerminal.Paint number wanted over) (paint_executed number wanted over now.term) rest)
  painted_still number wanted over rest e =
      let comes = paint_comes app end number wanted over rest (sym s.simulates.down ∙ e) s.kept (agrees_now s) in
      let says : List ToHost = ToHost.Response number Verdict.Positive ∷ [] in
      let screen : Screen = now.term.display.screen in
      let new : Screen = plainly_painted wanted screen in
      let meets : Meets over screen = comes.fact.doubts s.any s.simulates.since.erased screen s.simulates.since.held in
      let step : TermStep = paint_came number wanted (showing screen end.term) in
      let kept : ConnectionInvariant app (view_of (term_view step rest end)) =
      paints_on given app is end rest s.kept comes.lu number comes.command wanted over comes.at comes.fact comes.asked comes.left screen meets (λ waits. absurd (let wrong : false ≡ true = sym s.unsure ∙ waits in cc)) in
      let cells : length wanted.cells ≡ cells_in wanted.size = comes.fact.paintable.showable.cells ∙ ap (λ (shape : ScreenSize). cells_in shape) (sym comes.fact.paintable.showable.size) in
      let goes : Simulated app lu (shown_so false number wanted over (paint_came number wanted now.term) rest) =
      record {
        told = term_view step rest end;
        kept = kept;
        agreed = s.agreed;
        any = s.any;
        unsure = s.unsure;
        marks = s.marks;
        returning = s.returning;
        display = sym (ap (λ (d : Display). record d { size = wanted.size; screen = new; keyboard = freed end.term.display.keyboard; last_restored = new; before_restored = screen; erased = false }) s.simulates.since.rest);
        waits = refl;
        uncleared = refl;
        blank = λ unbound. absurd (let wrong : false ≡ true = sym unbound ∙ bound_now (bound end s.kept.wanted comes.lu _ comes.at) in cc);
        host_here = s.host_here;
        term_here = s.term_here;
        simulates = record {
          host = s.simulates.host;
          lost = s.simulates.lost;
          down = refl;
          talk = s.simulates.talk;
          up = both_say end now says s.simulates.lost s.simulates.up;
          since = since_same given step.end.display (paint_came number wanted now.term).end.display
              (ap (λ (d : Display). record d { size = wanted.size; screen = new; keyboard = freed now.term.display.keyboard; last_restored = new; before_restored = screen; erased = false }) s.simulates.since.rest)
              (subst (λ (size : ℕ). new.cursor < size) (sym kept.whole) kept.cursor);
        };
      } in
      subst (λ (b : Bool). Simulated app lu (taken_so b (ToTerminal.Paint number wanted over) (paint_executed number wanted over now.term) rest)) (sym (bound_now (bound end s.kept.wanted comes.lu _ comes.at)))
      (subst (λ (cleared : Bool). Simulated app lu (shown_so cleared number wanted over (paint_executed number wanted over now.term) rest)) (sym s.uncleared)
      (subst (λ (drawn : Screen). Simulated app lu (shown_so false number wanted over (drawn_so number wanted drawn) rest)) (sym (given.belief.painted over wanted screen cells comes.fact.paintable.fits meets)) goes))

  -- ---- a Read Buffer

  -- The screen as it is goes up. After PA the waiting terminal has it from then on: the host is told what was typed in the wait. After any
  -- other key the waiting terminal sends its own, and neither answer counts.
  pub read_still : (number : ℕ) (rest : List ToTerminal) → now.down ≡ ToTerminal.ReadBuffer number ∷ rest
      → Simulated app lu (taken_so (is_bound now.term) (ToTerminal.ReadBuffer number) (read_came now.term) rest)
  read_still number rest e =
      subst (λ (b : Bool). Simulated app lu (taken_so b (ToTerminal.ReadBuffer number) (read_came now.term) rest)) (sym (bound_now is_bound_told)) (by_key (is_pa t.told.screen.aid) refl)
    where
      down : end.down ≡ ToTerminal.ReadBuffer number ∷ rest
      down = sym s.simulates.down ∙ e

      comes : ReadComes app end s.kept.wanted rest
      comes = read_comes app end number rest down s.kept (agrees_now s)

      is_bound_told : is_bound end.term ≡ true
      is_bound_told = bound end s.kept.wanted comes.lu _ comes.at

      old : Screen
      old = end.term.display.screen

      screen : Screen
      screen = now.term.display.screen

      same_aid : old.aid ≡ t.told.screen.aid
      same_aid = ap (λ (d : Display). d.screen.aid) s.display

      counts_by : is_after_pa end.host.turn_reason ≡ is_pa t.told.screen.aid
      counts_by = pa_counts end.host.turn_reason old.aid comes.fact.decides.turn_reason ∙ ap is_pa same_aid

      same_shape : now.term.display.size ≡ end.term.display.size
      same_shape = ap (λ (d : Display). d.size) s.simulates.since.rest

      heard_as : Screen
      heard_as = record screen { aid = old.aid }

      unbroken : rule_break end.host.shadow screen.cells ≡ None
      unbroken = given.belief.unbroken s.simulates.since.erased end.host.shadow old heard_as comes.fact.decides.sees.meets s.simulates.since.held

      -- what is told then
      told_if_pa : Bool → Display
      told_if_pa pa = if pa then record now.term.display { screen = record screen { aid = t.told.screen.aid } } else t.told

      read_so : Bool → LinkWithReport
      read_so pa = record { link = term_stepped (read_came now.term) rest now; told = told_if_pa pa; waits = t.waits; cleared = t.cleared }

      after_pa : is_pa t.told.screen.aid ≡ true → Simulated app lu (read_so true)
      after_pa pa =
          let since = s.simulates.since in
          let erased : Bool = end.term.display.erased || since.erased in
          let row : ℕ = message_place end.term.display.size in
          let kept : ConnectionInvariant app (view_of (term_view (read_of screen erased end.term) rest end)) =
          reads_on app end rest s.kept comes.same comes.lu comes.number comes.at comes.fact comes.shown comes.left screen erased
          (since.held.same_length ∙ s.kept.whole)
          (subst (λ (size : ℕ). screen.cursor < size) (since.held.same_length ∙ s.kept.whole) since.cursor)
          (still_kept given.keys.round end.term.display.erased since.erased end.term.display.last_restored.cells old.cells screen.cells (s.kept.unreturned comes.fact.not_cleared) since.held)
          (still_as_left given.keys.round since.erased row end.term.display.last_restored.cells old.cells screen.cells (s.kept.as_left comes.fact.not_cleared) since.held)
          (reads_input given.keys.round given.belief.reads given.belief.doubt_input end.host.size since.erased end.host.shadow old heard_as comes.fact.decides.sees.meets since.held)
          unbroken
          (λ skipped. absurd (let wrong : false ≡ true = sym (skipped_when end.host.unheard end.host.turn_reason end.host.shadow skipped).no_pa ∙ counts_by ∙ pa in cc)) in
          let said : ToHost = ToHost.Data (buffer_data end.term.display.size screen) in
          record {
            told = term_view (read_of screen erased end.term) rest end;
            kept = kept;
            agreed = s.agreed;
            any = s.any;
            unsure = s.unsure;
            marks = s.marks;
            returning = s.returning;
            display = ap (λ (aid : Aid). record end.term.display { screen = record screen { aid = aid }; erased = erased }) same_aid
                ∙ ap (λ (b : Bool). record end.term.display { screen = record screen { aid = t.told.screen.aid }; erased = b }) (sym since.erasing)
                ∙ sym (ap (λ (d : Display). record d { screen = record screen { aid = t.told.screen.aid }; keyboard = end.term.display.keyboard }) since.rest);
            waits = s.waits;
            uncleared = s.uncleared;
            blank = λ unbound. absurd (let wrong : false ≡ true = sym unbound ∙ bound_now is_bound_told in cc);
            host_here = s.host_here;
            term_here = s.term_here;
            simulates = record {
              host = s.simulates.host;
              lost = s.simulates.lost;
              down = refl;
              talk = s.simulates.talk;
              up = subst (λ (shape : ScreenSize). Says end.host (sent end.lost end.up (said ∷ [])) (sent now.lost now.up (ToHost.Data (buffer_data shape screen) ∷ []))) (sym same_shape)
                  (both_say end now (said ∷ []) s.simulates.lost s.simulates.up);
              since = record {
                erased = false;
                held = given.keys.at_first screen.cells;
                rest = since.rest;
                erasing = since.erasing ∙ sym (or_false erased);
                same = λ free. absurd (free comes.fact.decides.lock);
                cursor = since.cursor;
              };
            };
          }

      -- both answer, and the host believes neither
      both_read : is_pa t.told.screen.aid ≡ false → Says end.host (sent end.lost end.up (ToHost.Data (buffer_data end.term.display.size old) ∷ [])) (sent now.lost now.up (ToHost.Data (buffer_data now.term.display.size screen) ∷ []))
      both_read no_pa = subst (λ (lost : Bool). Says end.host (sent end.lost end.up (one ∷ [])) (sent lost now.up (other ∷ []))) (sym s.simulates.lost) (by_lost end.lost)
        where
          one : ToHost
          one = ToHost.Data (buffer_data end.term.display.size old)

          other : ToHost
          other = ToHost.Data (buffer_data now.term.display.size screen)

          said : List ToHost
          said = s.simulates.up.said

          silent : end.up ≡ []
          silent = empty_queue end.lost end.up comes.at.goes_up

          skips : is_read_believed end.host ≡ false
          skips = read_skipped given end.host comes.number comes.at.turn comes.at.pending s.any (counts_by ∙ no_pa) s.returning

          by_lost : (lost : Bool) → Says end.host (sent lost end.up (one ∷ [])) (sent lost now.up (other ∷ []))
          by_lost true = s.simulates.up
          by_lost false = record {
            said = said ++ other ∷ [];
            alike = SaysAlike.checked comes.number old screen [] comes.at.pending skips
                (given.belief.unbroken false end.host.shadow old old comes.fact.decides.sees.meets (given.keys.at_first old.cells)) unbroken
                (ap (λ (l : List ToHost). l ++ one ∷ []) silent ∙ ap (λ (shape : ScreenSize). ToHost.Data (buffer_data shape old) ∷ []) comes.same)
                (ap (λ (l : List ToHost). l ++ other ∷ []) (alike_silent end.host end.up said silent s.simulates.up.alike) ∙ ap (λ (shape : ScreenSize). ToHost.Data (buffer_data shape screen) ∷ []) (same_shape ∙ comes.same));
            up = same_last end.host.turn end.host.pending said now.up other s.simulates.up.up;
          }

      after_others : is_pa t.told.screen.aid ≡ false → Simulated app lu (read_so false)
      after_others no_pa = record {
        told = term_view (read_came end.term) rest end;
        kept = subst (λ (b : Bool). ConnectionInvariant app (view_of (term_view (once_bound b (read_came end.term) end.term) rest end))) is_bound_told
            (obeys given app is end (ToTerminal.ReadBuffer number) rest down s.kept).kept;
        agreed = s.agreed;
        any = s.any;
        unsure = s.unsure;
        marks = s.marks;
        returning = s.returning;
        display = s.display;
        waits = s.waits;
        uncleared = s.uncleared;
        blank = λ unbound. absurd (let wrong : false ≡ true = sym unbound ∙ bound_now is_bound_told in cc);
        host_here = s.host_here;
        term_here = s.term_here;
        simulates = record {
          host = s.simulates.host;
          lost = s.simulates.lost;
          down = refl;
          talk = s.simulates.talk;
          up = both_read no_pa;
          since = s.simulates.since;
        };
      }

      by_key : (pa : Bool) → is_pa t.told.screen.aid ≡ pa → Simulated app lu (taken_so true (ToTerminal.ReadBuffer number) (read_came now.term) rest)
      by_key true pa = subst (λ (b : Bool). Simulated app lu (read_so b)) (sym pa) (after_pa pa)
      by_key false no_pa = subst (λ (b : Bool). Simulated app lu (read_so b)) (sym no_pa) (after_others no_pa)

  -- ---- a note

  pub noted_still : (number : ℕ) (command : CommandParts) (rest : List ToTerminal) → now.down ≡ ToTerminal.Note number command ∷ rest
      → Simulated app lu (taken_so (is_bound now.term) (ToTerminal.Note number command) (note_came number command now.term) rest)
  noted_still number command rest e =
      let down : end.down ≡ ToTerminal.Note number command ∷ rest = sym s.simulates.down ∙ e in
      let comes = note_comes given app end number command rest down s.kept (agrees_now s) in
      let bounds = given.notes.bounds command now.term.display.screen (given.notes.are_notes end.host.size command (shape_of_model app end.term.display.model end.host.size is s.kept.sizes.host) comes.note).note in
      let says : List ToHost = ToHost.Response number Verdict.Positive ∷ [] in
      let since = s.simulates.since in
      subst (λ (b : Bool). Simulated app lu (taken_so b (ToTerminal.Note number command) (note_came number command now.term) rest)) (sym (bound_now comes.bound))
      (record {
        told = term_view (note_came number command end.term) rest end;
        kept = subst (λ (bound : Bool). ConnectionInvariant app (view_of (term_view (once_bound bound (note_came number command end.term) end.term) rest end))) comes.bound
            (obeys given app is end (ToTerminal.Note number command) rest down s.kept).kept;
        agreed = s.agreed;
        any = s.any;
        unsure = s.unsure;
        marks = s.marks;
        returning = s.returning;
        display = ap (λ (d : Display). record d { screen = after_command command d.screen }) s.display;
        waits = s.waits;
        uncleared = s.uncleared;
        blank = λ unbound. absurd (let wrong : false ≡ true = sym unbound ∙ bound_now comes.bound in cc);
        host_here = s.host_here;
        term_here = s.term_here;
        simulates = record {
          host = s.simulates.host;
          lost = s.simulates.lost;
          down = refl;
          talk = s.simulates.talk;
          up = both_say end now says s.simulates.lost s.simulates.up;
          since = record {
            erased = since.erased;
            held = note_held given given.keys.round end.host.size command since.erased end.term.display.screen now.term.display.screen
                (shape_of_model app end.term.display.model end.host.size is s.kept.sizes.host) comes.note (s.kept.whole ∙ ap (λ (shape : ScreenSize). cells_in shape) comes.same) comes.takes since.held;
            rest = ap (λ (d : Display). record d { screen = after_command command d.screen }) since.rest;
            erasing = since.erasing;
            same = λ free. ap (λ (d : Display). record d { screen = after_command command d.screen }) (since.same free);
            cursor = subst (λ (at : ℕ). at < length (after_command command now.term.display.screen).cells) (sym bounds.cursor) (subst (λ (size : ℕ). now.term.display.screen.cursor < size) (sym bounds.size) since.cursor);
          };
        };
      })

-- Every terminal: the connection is simulated from agreement on, by each move; and what holds is read off the waiting terminal's.
use Rattle.std.proofs.Common.{◌≡◌, ◌<◌, Bool, true, false, if◌then◌else◌, ℕ, Option, None, Some, List, [], ◌∷◌, append-nil, inl, length, refl, ap, sym, subst, ◌∙◌}
use Rattle.std.specs.Prelude.{is_some, option_map, replicate}
use Rattle.std.specs.Option.{option_map_or}
use Rattle.std.proofs.lemmas.List.{length-replicate}
use Rattle.std.proofs.lemmas.Option.{same_Some}
use Rattle.codes3270.specs.Size.{cells_in}
use Rattle.codes3270.specs.declared.attribute.Cell.TheVariants.{Char}
use Rattle.datastream.specs.Fields.{Field, fields}
use Rattle.datastream.specs.KeptByKeys.{KeptByKeys}
use Rattle.datastream.specs.HeldLaws.{HeldIsRound}
use Rattle.datastream.specs.Screen.{Screen}
use Rattle.shadow.specs.Belief.{Shadow}
use Rattle.shadow.specs.Doubt.{doubted}
use Rattle.shadow.specs.Meets.{ListsFields, Meets}
use Rattle.shadow.proofs.HeardOthers.{no_field}
use Rattle.shadow.specs.PaintedFields.{KeptStaysThere, WrittenIsThere}
use Rattle.lu_pool.specs.HolderLaws.{IsSound}
use Rattle.lu_pool.specs.declared.entry.Entry.{Entry}
use Rattle.tn3270e_msg.specs.Device.{model_of}
use Rattle.tn3270e_msg.specs.Talk.{NegotiationMessage}
use Rattle.tn3270e_msg.specs.TermTable.{Term}
use Rattle.tn3270e_msg.specs.declared.reply.OwnedMessage.TheVariants.{FunIs}
use Rattle.host_core.specs.Answering.{number_of}
use Rattle.host_core.specs.Acts.{Act as HostAct, Decision, decision_in, decision_on, may_act}
use Rattle.host_core.specs.Application.{Application, IsApplication, message_place}
use Rattle.host_core.specs.Messages.{ToHost, ToTerminal}
use Rattle.host_core.specs.Questions.{is_ask, is_asking, question_in, question_on}
use Rattle.host_core.specs.Session.{Pending, Session, agreed_lu, is_agreed, model_in, new_conn}
use Rattle.host_core.specs.Takes.{may_have_changed, refused}
use Rattle.host_core.specs.declared.question.Question.{Question}
use Rattle.host_core.specs.declared.turn.Turn.TheVariants as whose
use Rattle.host_core.specs.declared.turn_reason.TurnReason.{TurnReason}
use Rattle.host_core.specs.declared.turn_reason.TurnReason.TheVariants.{Refusal}
use Rattle.codes3270.specs.declared.attention.Aid.{Aid}
use Rattle.shadow.specs.Exactness.{is_erase}
use Rattle.shadow.specs.Paint.{paint}
use Rattle.world3270.specs.statement.TurnReasons.{IsOccasion}
use Rattle.world3270.specs.statement.Asked.{AreFieldsAsked, IsKeyAsked, IsSeen, panel_with_keys}
use Rattle.world3270.specs.statement.EveryTerminal.{AreByTheRules, FirstPaint, EveryTerminal, IsByTheRules, IsRepeating, Move, RightOf, LinkWithReport, after_moves, came_down, came_up, moved, told_link}
use Rattle.world3270.specs.statement.Leading.{IsLedTo}
use Rattle.world3270.specs.refinement.LowerLaws.{LowerLaws}
use Rattle.world3270.specs.statement.Headline.{Agrees, IsHostsTurn, SeesTheScreen}
use Rattle.world3270.specs.model.Link.{Link}
use Rattle.world3270.specs.refinement.Phases.{IsAt, LinkPhase, SessionPhase, NegotiationPhase, IsInFlight, pending_at, turn_at}
use Rattle.world3270.specs.statement.Rules.{Binds}
use Rattle.world3270.specs.statement.Observation.{HostSeen, SeenLink, TerminalSeen, end_seen, host_seen, seen_link, terminal_seen}
use Rattle.world3270.specs.statement.Showing.{ShowsItsPanel}
use Rattle.world3270.specs.statement.Shown.{HasShown, IsPanelShown, is_painting}
use Rattle.world3270.specs.statement.ShownFields.{WantsItsFields}
use Rattle.world3270.specs.refinement.Invariant.{Fact, FactsAreExact, IsNew, ConnectionInvariant, ShownAt, local_state_of}
use Rattle.world3270.specs.model.Terminal.{Display, TermEnd, bound_to, new_display}
use Rattle.world3270.specs.refinement.View.{view_of}
use Rattle.world3270.proofs.Acting.{may_act_at, may_act_when}
use Rattle.world3270.proofs.Asked.{asked_seen, each_asked}
use Rattle.world3270.proofs.AskedPanels.{about_its_panel}
use Rattle.world3270.proofs.Obeys.{decides_new}
use Rattle.world3270.proofs.Leading.{Leads, key_asked_now, leads_now}
use Rattle.world3270.proofs.Headline.{Knows, agrees, bound_agrees, host_attached, knows_at, nothing_waits}
use Rattle.world3270.proofs.ReadsInput.{still_unformatted}
use Rattle.world3270.proofs.ShownFields.{cursor_shown, fields_shown, values_shown}
use Rattle.world3270.proofs.ShownPanels.{shown_now}
use Rattle.world3270.proofs.SimulatedDown.{noted_still, painted_still, read_still, talked_still}
use Rattle.world3270.proofs.SimulatedHost.{acts_still, answers_still, hears_still, loses_still, notes_still}
use Rattle.world3270.proofs.SimulatedKeys.{operates_still}
use Rattle.world3270.proofs.Returning.{nothing_settled}
use Rattle.world3270.proofs.SecondKeys.{AddsSecondKeys, SaysAlike}
use Rattle.world3270.proofs.Simulation.{Simulated, since_same}
use Rattle.world3270.proofs.Unreturned.{all_as_left, all_kept}
use Rattle.world3270.proofs.Worlds.{some_cells}
use Rattle.world3270.proofs.Cleared.{Cleared, Follows, HostsAlike, Stage, but_belief, hearing_clear}
use Rattle.world3270.proofs.ClearedDown.{Gone, gone_now, noted_cleared, painted_erasing, read_cleared, talked_cleared}
use Rattle.world3270.proofs.ClearedHost.{acts_cleared, answers_cleared, hears_cleared, loses_cleared, notes_cleared, painting_waits, paints_so}
use Rattle.world3270.proofs.ClearedKeys.{operates_cleared, operates_first}
use Rattle.world3270.proofs.Repeating.{AfterPaint, Repeating, acts_repeating, agrees_there, answers_repeating, hears_repeating, loses_repeating, notes_repeating, operates_repeating, paint_ruined}
use Rattle.world3270.proofs.WithoutClear.{IsWithoutClear}

-- ---- at agreement

module _ (given : LowerLaws) (app : Application) (is : IsApplication app) (lu : List ℕ) (t : LinkWithReport) (b : FirstPaint app lu t) where
  abbrev blank : Display
  blank = new_display (model_of b.device) app.begins

  abbrev host : Session
  host = record (new_conn b.serves app) { talk = t.link.host.talk }

  -- the waiting terminal's link
  abbrev begun : Link
  begun = record t.link { host = host; up = []; term = record { waits = false; talk = t.link.term.talk; display = blank } }

  nothing_known : FactsAreExact Shadow.NothingKnown
  nothing_known = record { known = given.belief.nothing_exact.0; protected = given.belief.nothing_exact.1 }

  is_new : IsNew (local_state_of (view_of begun))
  is_new = record { shadow = refl; turn_reason = refl; lock = refl; aid = refl; no_fields = no_field (replicate (cells_in app.begins) (Char 0)) 0 (cells_in app.begins); home = refl }

  is_at : (moment : LinkPhase) → IsAt (view_of begun) None moment → Fact None (local_state_of (view_of begun)) moment → ShownAt app false host blank.before_restored blank.last_restored blank.screen moment → ConnectionInvariant app (view_of begun)
  is_at moment at fact shown = record {
    whole = length-replicate (cells_in app.begins) (Char 0);
    cursor = some_cells app.begins is.begins;
    unreturned = λ _. all_kept (replicate (cells_in app.begins) (Char 0));
    as_left = λ _. all_as_left (message_place app.begins) (replicate (cells_in app.begins) (Char 0));
    exact = nothing_known;
    unrestored = refl;
    wanted = None;
    moment = moment;
    sizes = record { host = inl refl; screen = inl refl; same = λ steady. refl };
    at = at;
    fact = fact;
    shown = shown;
  }

  all_of : {X : Type 0} (queue messages : List X) → queue ≡ messages → IsInFlight t.link.lost queue messages
  all_of queue messages is_so = record { vanished = []; whole = append-nil queue ∙ is_so; none = λ _. refl }

  begun_kept : ConnectionInvariant app (view_of begun)
  begun_kept = by_talk b.binds
    where
      by_talk : Binds lu t.link.term.talk.talk.state t.link.down → ConnectionInvariant app (view_of begun)
      by_talk (Binds.bound state down) =
          is_at (LinkPhase.InSession lu SessionPhase.Deciding)
          (record {
            host_talk = record { device = b.device; state_is = b.agreed; model_is = refl };
            term_talk = state;
            turn = refl;
            pending = refl;
            goes_down = all_of t.link.down [] down;
            goes_up = all_of [] [] refl;
          }) (decides_new (local_state_of (view_of begun)) is_new nothing_known) (λ later. absurd (later refl), tt, λ is_first. is_new.no_fields)
      by_talk (Binds.about_to state down) =
          is_at (LinkPhase.Negotiating (NegotiationPhase.Agreeing lu))
          (record {
            host_talk = record { device = b.device; state_is = b.agreed; model_is = refl };
            term_talk = state;
            turn = refl;
            pending = refl;
            goes_down = all_of t.link.down (ToTerminal.TalksDown (NegotiationMessage.Sub FunIs) ∷ []) down;
            goes_up = all_of [] [] refl;
          }) (is_new, tt) tt

  pub begins_simulated : Simulated app lu t
  begins_simulated = record {
    told = begun;
    kept = begun_kept;
    agreed = ap agreed_lu b.agreed;
    any = ap may_have_changed b.any;
    unsure = refl;
    marks = b.returns;
    returning = λ unread. nothing_settled;
    display = sym (ap (λ (d : Display). record d { keyboard = blank.keyboard }) (b.told ∙ b.blank));
    waits = b.waits;
    uncleared = b.cleared;
    blank = λ unbound. is_new.no_fields;
    host_here = b.host_here;
    term_here = b.term_here;
    simulates = record {
      host = b.host;
      lost = refl;
      down = refl;
      talk = refl;
      up = record { said = []; alike = SaysAlike.same refl; up = subst (λ (up : List ToHost). AddsSecondKeys host.turn host.pending [] up) (sym b.nothing_up) refl };
      since = since_same given blank t.link.term.display b.blank
          (subst (λ (d : Display). d.screen.cursor < length d.screen.cells) (sym b.blank) (subst (λ (size : ℕ). 0 < size) (sym (length-replicate (cells_in app.begins) (Char 0))) (some_cells app.begins is.begins)));
    };
  }

-- ---- each move

module _ (given : LowerLaws) (app : Application) (is : IsApplication app) (lu : List ℕ) where
  up_still : (t : LinkWithReport) → Simulated app lu t → (pool : List Entry) → IsSound pool → (up : List ToHost) → t.link.up ≡ up → Simulated app lu (came_up pool up t)
  up_still t s pool sound [] is_up = s
  up_still t s pool sound (message ∷ rest) is_up = hears_still given app is lu t s pool sound message rest is_up

  down_still : (t : LinkWithReport) → Simulated app lu t → (down : List ToTerminal) → t.link.down ≡ down → Simulated app lu (came_down down t)
  down_still t s [] is_down = s
  down_still t s (ToTerminal.TalksDown saying ∷ rest) is_down = talked_still given app is lu t s saying rest is_down
  down_still t s (ToTerminal.Paint number wanted over ∷ rest) is_down = painted_still given app is lu t s number wanted over rest is_down
  down_still t s (ToTerminal.ReadBuffer number ∷ rest) is_down = read_still given app is lu t s number rest is_down
  down_still t s (ToTerminal.Note number command ∷ rest) is_down = noted_still given app is lu t s number command rest is_down

  -- no Clear in the wait
  pub move_still : (move : Move) (t : LinkWithReport) → IsWithoutClear move t → Simulated app lu t → Simulated app lu (moved app move t)
  move_still (Move.Up pool) t sound s = up_still t s pool sound t.link.up refl
  move_still Move.Down t rules s = down_still t s t.link.down refl
  move_still Move.Act t rules s = acts_still given app is lu t s
  move_still (Move.Answer said) t rules s = answers_still given app is lu t s said
  move_still (Move.Note text) t rules s = notes_still given app is lu t s text rules
  move_still (Move.Operate step) t rules s = operates_still given app lu t s step rules.0 rules.1
  move_still Move.Lose t rules s = loses_still given app is lu t s

-- A terminal that waits is beside it, wherever that is: Clear wasn't pressed in the wait, or was, or crossed a paint that is repeated.
pub data IsBeside (app : Application) (lu : List ℕ) (t : LinkWithReport) : Type 0 where
  follows : Follows app lu t → IsBeside app lu t
  repeats : Repeating app lu t → IsBeside app lu t

module _ (given : LowerLaws) (app : Application) (is : IsApplication app) (lu : List ℕ) where
  up_cleared : (t : LinkWithReport) → Cleared app lu t → (pool : List Entry) → IsSound pool → (up : List ToHost) → t.link.up ≡ up → Follows app lu (came_up pool up t)
  up_cleared t c pool sound [] is_up = Follows.cleared c
  up_cleared t c pool sound (message ∷ rest) is_up = hears_cleared given app is lu t c pool sound message rest is_up

  down_cleared : (t : LinkWithReport) → Cleared app lu t → (down : List ToTerminal) → t.link.down ≡ down → IsBeside app lu (came_down down t)
  down_cleared t c [] is_down = IsBeside.follows (Follows.cleared c)
  down_cleared t c (ToTerminal.TalksDown saying ∷ rest) is_down = talked_cleared given app is lu t c saying rest is_down
  down_cleared t c (ToTerminal.ReadBuffer number ∷ rest) is_down = IsBeside.follows (Follows.cleared (read_cleared given app is lu t c number rest is_down))
  down_cleared t c (ToTerminal.Note number command ∷ rest) is_down = IsBeside.follows (Follows.cleared (noted_cleared given app is lu t c number command rest is_down))
  down_cleared t c (ToTerminal.Paint number wanted over ∷ rest) is_down = by_erase (is_erase (paint (cells_in wanted.size) over wanted).code) refl
    where
      gone : Gone given app is lu t c
      gone = gone_now given app is lu t c (ToTerminal.Paint number wanted over) rest is_down

      by_erase : (erases : Bool) → is_erase (paint (cells_in wanted.size) over wanted).code ≡ erases → IsBeside app lu (came_down (ToTerminal.Paint number wanted over ∷ rest) t)
      by_erase true erases = IsBeside.follows (Follows.cleared (painted_erasing given app is lu t c number wanted over rest is_down erases))
      by_erase false keeps = IsBeside.repeats (paint_ruined app is lu t c gone.0 gone.1 gone.3 number wanted over rest is_down keeps)

  move_cleared : (move : Move) (t : LinkWithReport) → IsByTheRules move t → Cleared app lu t → IsBeside app lu (moved app move t)
  move_cleared (Move.Up pool) t sound c = IsBeside.follows (up_cleared t c pool sound t.link.up refl)
  move_cleared Move.Down t rules c = down_cleared t c t.link.down refl
  move_cleared Move.Act t rules c = IsBeside.follows (Follows.cleared (acts_cleared given app is lu t c))
  move_cleared (Move.Answer said) t rules c = IsBeside.follows (Follows.cleared (answers_cleared given app is lu t c said))
  move_cleared (Move.Note text) t rules c = IsBeside.follows (Follows.cleared (notes_cleared given app is lu t c text rules))
  move_cleared (Move.Operate step) t rules c = IsBeside.follows (Follows.cleared (operates_cleared given app lu t step rules c))
  move_cleared Move.Lose t rules c = IsBeside.follows (Follows.cleared (loses_cleared given app is lu t c))

  up_repeating : (t : LinkWithReport) → Repeating app lu t → (pool : List Entry) → (up : List ToHost) → t.link.up ≡ up → Repeating app lu (came_up pool up t)
  up_repeating t r pool [] is_up = r
  up_repeating t r pool (message ∷ rest) is_up = hears_repeating app lu t r pool message rest is_up

  down_repeating : (t : LinkWithReport) → Repeating app lu t → (down : List ToTerminal) → t.link.down ≡ down → Repeating app lu (came_down down t)
  down_repeating t r [] is_down = r
  down_repeating t r (message ∷ rest) is_down = absurd (let wrong = sym r.down ∙ is_down in cc)

  move_repeating : (move : Move) (t : LinkWithReport) → IsByTheRules move t → Repeating app lu t → IsBeside app lu (moved app move t)
  move_repeating (Move.Up pool) t sound r = IsBeside.repeats (up_repeating t r pool t.link.up refl)
  move_repeating Move.Down t rules r = IsBeside.repeats (down_repeating t r t.link.down refl)
  move_repeating Move.Act t rules r = acts_repeating given app is lu t r (IsBeside app lu) (λ u r. IsBeside.repeats r) (λ u c. IsBeside.follows (Follows.cleared c))
  move_repeating (Move.Answer said) t rules r = IsBeside.repeats (answers_repeating given app is lu t r said)
  move_repeating (Move.Note text) t rules r = IsBeside.repeats (notes_repeating given app is lu t r text)
  move_repeating (Move.Operate step) t rules r = IsBeside.repeats (operates_repeating app lu t r step rules.0)
  move_repeating Move.Lose t rules r = IsBeside.repeats (loses_repeating app lu t r)

  pub move_follows : (move : Move) (t : LinkWithReport) → IsByTheRules move t → IsBeside app lu t → IsBeside app lu (moved app move t)
  move_follows move t rules (IsBeside.repeats r) = move_repeating move t rules r
  move_follows move t rules (IsBeside.follows (Follows.cleared c)) = move_cleared move t rules c
  move_follows (Move.Operate step) t rules (IsBeside.follows (Follows.simulated s)) = IsBeside.follows (operates_first given app lu t step rules s)
  move_follows (Move.Up pool) t rules (IsBeside.follows (Follows.simulated s)) = IsBeside.follows (Follows.simulated (move_still given app is lu (Move.Up pool) t rules s))
  move_follows Move.Down t rules (IsBeside.follows (Follows.simulated s)) = IsBeside.follows (Follows.simulated (move_still given app is lu Move.Down t tt s))
  move_follows Move.Act t rules (IsBeside.follows (Follows.simulated s)) = IsBeside.follows (Follows.simulated (move_still given app is lu Move.Act t tt s))
  move_follows (Move.Answer said) t rules (IsBeside.follows (Follows.simulated s)) = IsBeside.follows (Follows.simulated (move_still given app is lu (Move.Answer said) t tt s))
  move_follows (Move.Note text) t rules (IsBeside.follows (Follows.simulated s)) = IsBeside.follows (Follows.simulated (move_still given app is lu (Move.Note text) t rules s))
  move_follows Move.Lose t rules (IsBeside.follows (Follows.simulated s)) = IsBeside.follows (Follows.simulated (move_still given app is lu Move.Lose t tt s))

  moves_follow : (moves : List Move) (t : LinkWithReport) → AreByTheRules app moves t → IsBeside app lu t → IsBeside app lu (after_moves app moves t)
  moves_follow [] t rules f = f
  moves_follow (move ∷ moves) t rules f = moves_follow moves (moved app move t) rules.1 (move_follows move t rules.0 f)

-- ---- what is read off

-- the host decides by itself, in its turn
record DecidesItself (app : Application) (conn : Session) (act : HostAct) : Type 0 where
  turns : conn.turn ≡ whose.Host
  pends : conn.pending ≡ Pending.Nothing
  agrees : is_agreed conn.talk.state ≡ true
  decides : decision_on app conn conn.turn_reason ≡ Decision.Do act

decided_itself : (app : Application) (conn : Session) (act : HostAct) → decision_in app conn ≡ Some (Decision.Do act) → DecidesItself app conn act
decided_itself app conn act = by_may (may_act conn.turn conn.pending (is_agreed conn.talk.state)) refl
  where
    by_may : (b : Bool) → may_act conn.turn conn.pending (is_agreed conn.talk.state) ≡ b → (if b then Some (decision_on app conn conn.turn_reason) else None) ≡ Some (Decision.Do act) → DecidesItself app conn act
    by_may true may is =
        let when = may_act_when conn.turn conn.pending (is_agreed conn.talk.state) may in
        record { turns = when.0; pends = when.1; agrees = when.2; decides = same_Some (decision_on app conn conn.turn_reason) (Decision.Do act) is }
    by_may false may is = absurd (cc)

-- an end is seen by its talk, and by what it displays but for the keyboard
seen_alike : (number : ℕ) (one other : TermEnd) → one.talk ≡ other.talk → one.display ≡ record other.display { keyboard = one.display.keyboard } → end_seen number one ≡ end_seen number other
seen_alike number one other talk display =
    ap (λ (t : Term). end_seen number (record one { talk = t })) talk
    ∙ ap (λ (d : Display). end_seen number (record one { talk = other.talk; display = d })) display

terminal_alike : (here : Option ℕ) (one other : TermEnd) → one.talk ≡ other.talk → one.display ≡ record other.display { keyboard = one.display.keyboard } → terminal_seen here one ≡ terminal_seen here other
terminal_alike None one other talk display = refl
terminal_alike (Some number) one other talk display = ap (λ (t : TerminalSeen). Some t) (seen_alike number one other talk display)

-- in doubt the belief has fields if a screen has that differs in input
lists_despite : HeldIsRound → (erased : Bool) (shadow : Shadow) (told now : Screen) → ListsFields shadow told → Meets shadow told → KeptByKeys erased told.cells now.cells → ListsFields (doubted shadow) now
lists_despite round erased (Shadow.Formatted beliefs) told now lists meets held = λ some. tt
lists_despite round erased (Shadow.Unformatted known) told now lists meets held = λ some. absurd (some (still_unformatted round erased told.cells now.cells held meets.0))
lists_despite round erased Shadow.NothingKnown told now lists meets held = λ some. by_fields (fields told.cells) refl some
  where
    by_fields : (found : List Field) → fields told.cells ≡ found → (fields now.cells ≡ [] → ⊥) → ⊥
    by_fields [] none some = some (still_unformatted round erased told.cells now.cells held none)
    by_fields (field ∷ more) found some = lists (λ none. let clash = sym found ∙ none in absurd (cc))

-- in its turn a host that hasn't refused decides on a key, or at connect
refuses_never : (app : Application) (link : Link) → ConnectionInvariant app (view_of link) → link.host.turn ≡ whose.Host → link.host.turn_reason ≡ Refusal → ⊥
refuses_never app link k turns refuses = by_moment k.moment k.fact (sym k.at.turn ∙ turns)
  where
    none : (aid : Aid) → IsOccasion link.host.turn_reason aid → ⊥
    none aid is = subst (λ (reason : TurnReason). IsOccasion reason aid) refuses is

    by_serving : (lu : List ℕ) (serving : SessionPhase) → Fact k.wanted (local_state_of (view_of link)) (LinkPhase.InSession lu serving) → turn_at (LinkPhase.InSession lu serving) ≡ whose.Host → ⊥
    by_serving lu SessionPhase.Deciding f turn = none link.term.display.screen.aid f.turn_reason
    by_serving lu (SessionPhase.Reading number) f turn = none link.term.display.screen.aid f.decides.turn_reason
    by_serving lu (SessionPhase.BufferReturning number parts) f turn = none link.term.display.screen.aid f.turn_reason
    by_serving lu (SessionPhase.DecidingNoteSent number command) f turn = none link.term.display.screen.aid f.0.turn_reason
    by_serving lu (SessionPhase.DecidingNoteAnswered number command) f turn = none link.term.display.screen.aid f.turn_reason
    by_serving lu (SessionPhase.Painting number command wanted over) f turn = absurd (cc)
    by_serving lu (SessionPhase.AwaitingWriteResponse kind number command) f turn = absurd (cc)
    by_serving lu SessionPhase.OperatorTyping f turn = absurd (cc)
    by_serving lu (SessionPhase.Noting number command) f turn = absurd (cc)
    by_serving lu (SessionPhase.KeySent parts) f turn = absurd (cc)
    by_serving lu (SessionPhase.KeySentAfterResponse kind number command parts) f turn = absurd (cc)
    by_serving lu (SessionPhase.KeyCrossingNote number command parts) f turn = absurd (cc)
    by_serving lu (SessionPhase.KeyBeforeNoteResponse number command parts) f turn = absurd (cc)

    by_moment : (moment : LinkPhase) → Fact k.wanted (local_state_of (view_of link)) moment → turn_at moment ≡ whose.Host → ⊥
    by_moment (LinkPhase.Negotiating talking) f turn = absurd (let wrong = sym f.0.turn_reason ∙ refuses in cc)
    by_moment (LinkPhase.FirstPaint lu number command wanted over) f turn = absurd (cc)
    by_moment (LinkPhase.InSession lu serving) f turn = by_serving lu serving f turn

-- what of the terminal that waits is known, whether or not Clear was pressed in the wait
record Beside (app : Application) (lu : List ℕ) (t : LinkWithReport) : Type 0 where
  told : Link
  kept : ConnectionInvariant app (view_of told)
  agreed : agreed_lu told.host.talk.state ≡ Some lu
  unsure : told.term.waits ≡ false
  display : told.term.display ≡ record t.told { keyboard = told.term.display.keyboard }
  host_here : t.link.host_here ≡ true
  term_here : is_some t.link.term_here ≡ true
  host : t.link.host ≡ told.host
  lost : t.link.lost ≡ told.lost
  talk : t.link.term.talk ≡ told.term.talk
  rest : t.link.term.display ≡ record told.term.display { screen = t.link.term.display.screen; keyboard = t.link.term.display.keyboard; erased = t.link.term.display.erased }
  held : t.cleared ≡ false → (erased : Bool) × KeptByKeys erased told.term.display.screen.cells t.link.term.display.screen.cells

module _ (given : LowerLaws) (written : WrittenIsThere) (kept : KeptStaysThere) (app : Application) (is : IsApplication app) (lu : List ℕ) (t : LinkWithReport) (s : Beside app lu t) where
  abbrev end : Link
  end = s.told

  -- the waiting terminal's link, with the ends that are here
  abbrev told_here : Link
  told_here = record end { host_here = t.link.host_here; term_here = t.link.term_here }

  same_host : t.link.host ≡ end.host
  same_host = s.host

  same_seen : seen_link (told_link t) ≡ seen_link told_here
  same_seen =
      ap (λ (lost : Bool). record (seen_link (told_link t)) { lost = lost }) s.lost
      ∙ ap (λ (host : Session). record (seen_link (told_link t)) { lost = end.lost; host = host_seen t.link.host_here host }) same_host
      ∙ ap (λ (terminal : Option TerminalSeen). record { lost = end.lost; host = host_seen t.link.host_here end.host; terminal = terminal })
      (sym (terminal_alike t.link.term_here end.term (told_link t).term (sym s.talk) s.display))

  agrees_on_told : (turn : IsHostsTurn (seen_link (told_link t))) → Agrees turn.host turn.terminal
  agrees_on_told = subst (λ (seen : SeenLink). (turn : IsHostsTurn seen) → Agrees turn.host turn.terminal) (sym same_seen) (agrees given app told_here s.kept)

  knows_told : IsHostsTurn (seen_link t.link) → Knows (view_of end)
  knows_told turn =
      let here = host_attached t.link.host_here t.link.host turn.host turn.host_is in
      knows_at app (view_of end) s.kept
      (ap (λ (c : Session). c.turn) (sym same_host) ∙ sym (ap (λ (h : HostSeen). h.turn) here.1) ∙ turn.turn)
      (nothing_waits end.host.pending (ap (λ (c : Session). number_of c.pending) (sym same_host) ∙ sym (ap (λ (h : HostSeen). h.pending) here.1) ∙ turn.answered))

  sees_now : t.cleared ≡ false → IsHostsTurn (seen_link t.link) → SeesTheScreen (doubted t.link.host.shadow) t.link.term.display.screen
  sees_now uncleared turn =
      let known = knows_told turn in
      let since = s.held uncleared in
      let told : Screen = end.term.display.screen in
      let now : Screen = t.link.term.display.screen in
      let meets : Meets (doubted end.host.shadow) now = given.belief.doubt_input since.0 end.host.shadow told now known.meets since.1 in
      subst (λ (host : Session). SeesTheScreen (doubted host.shadow) now) (sym same_host)
      (record {
        meets = meets;
        protected = given.belief.seen (doubted end.host.shadow) now meets (lists_despite given.keys.round since.0 end.host.shadow told now known.lists known.meets since.1)
            (given.belief.doubt_protected end.host.shadow s.kept.exact.protected);
      })

  is_asked : (session : ℕ) (question : Question) → question_in app session t.link.host ≡ Some question → question_in app session end.host ≡ Some question
  is_asked session question asked = subst (λ (host : Session). question_in app session host ≡ Some question) same_host asked

  -- it decides on a key, or at connect
  never_again : IsRepeating t.link.host → ⊥
  never_again again = refuses_never app end s.kept (ap (λ (c : Session). c.turn) (sym same_host) ∙ again.turn) (ap (λ (c : Session). c.turn_reason) (sym same_host) ∙ again.refusal)

  right_beside : RightOf app lu t
  right_beside = record {
    granted = ap (λ (host : Session). agreed_lu host.talk.state) same_host ∙ s.agreed;
    bound = λ mine bound.
        let both : Some mine ≡ Some lu = sym (bound_agrees app (view_of end) mine s.kept (ap (λ (talk : Term). bound_to talk.talk.state) (sym s.talk) ∙ bound)) ∙ s.agreed in
        cc;
    agrees = λ once. agrees_on_told;
    now = sees_now;
    asked = λ number session question asked.
        subst (IsSeen (app.fields question.panel) question) (seen_alike number end.term (told_link t).term (sym s.talk) s.display)
        (asked_seen given app is end s.kept number session question (is_asked session question asked));
    fields_asked = λ shows session question asked.
        subst (λ (d : Display). AreFieldsAsked (app.fields question.panel) question d.screen) s.display
        (each_asked given app is shows end s.kept session question (is_asked session question asked));
    panel_asked = λ wants number session question asked on_now.
        let its = about_its_panel app session t.link.host question asked on_now in
        record { same = its.0; shown = panel_shown wants its.1 };
    key_asked = λ shows wants session question asked.
        subst (λ (host : Session). IsKeyAsked app host question t.told.screen) (sym same_host)
        (subst (λ (d : Display). IsKeyAsked app end.host question d.screen) s.display (key_asked_now given app is shows wants.again end s.kept session question (is_asked session question asked)));
    leads = λ once shows wants asked message keep given_values decided.
        let its = decided_itself app end.host (HostAct.Show asked message keep given_values)
        (ap (decision_in app) (sym same_host) ∙ decided) in
        let may = may_act_at given app is end s.kept its.turns its.pends its.agrees in
        let leads = subst (Leads app end.host end.term.display.screen (panel_with_keys app end.host end.term.display.screen.aid)) its.decides (leads_now given app is shows wants.again end s.kept may) in
        subst (λ (host : Session). IsLedTo app (model_in host) (panel_with_keys app host t.told.screen.aid) t.told.screen (app.shown (model_in host) asked) message keep) (sym same_host)
        (subst (λ (d : Display). IsLedTo app (model_in end.host) (panel_with_keys app end.host d.screen.aid) d.screen (app.shown (model_in end.host) asked) message keep) s.display leads);
    shown = λ once wants has. panel_shown wants has;
    unrestored = ap (λ (host : Session). host.restored) same_host ∙ s.kept.unrestored;
    repeats = λ again. absurd (never_again again);
    host_here = s.host_here;
    term_here = s.term_here;
  }
    where
      panel_shown : WantsItsFields app → HasShown t.link.host → IsPanelShown app false t.link.host t.link.term.display.before_restored t.link.term.display.last_restored
      panel_shown wants has =
          let shown_told : ShowsItsPanel app false end.host end.term.display.before_restored end.term.display.last_restored =
          subst (λ (waits : Bool). ShowsItsPanel app waits end.host end.term.display.before_restored end.term.display.last_restored) s.unsure (shown_now app end s.kept (subst HasShown same_host has)) in
          let shown : ShowsItsPanel app false t.link.host t.link.term.display.before_restored t.link.term.display.last_restored =
          subst (λ (host : Session). ShowsItsPanel app false host t.link.term.display.before_restored t.link.term.display.last_restored) (sym same_host)
          (subst (λ (d : Display). ShowsItsPanel app false end.host d.before_restored d.last_restored) (sym s.rest) shown_told) in
          record {
            shown = shown;
            fields = fields_shown written kept app is wants false t.link.host t.link.term.display.before_restored t.link.term.display.last_restored shown;
            values = values_shown app wants false t.link.host t.link.term.display.before_restored t.link.term.display.last_restored shown;
            cursor = cursor_shown app wants false t.link.host t.link.term.display.before_restored t.link.term.display.last_restored shown;
          }

-- Clear wasn't pressed in the wait
pub right_of : LowerLaws → WrittenIsThere → KeptStaysThere → (app : Application) → IsApplication app → (lu : List ℕ) (t : LinkWithReport) → Simulated app lu t → RightOf app lu t
right_of given written kept app is lu t s = right_beside given written kept app is lu t (record {
  told = s.told;
  kept = s.kept;
  agreed = s.agreed;
  unsure = s.unsure;
  display = s.display;
  host_here = s.host_here;
  term_here = s.term_here;
  host = s.simulates.host;
  lost = s.simulates.lost;
  talk = s.simulates.talk;
  rest = s.simulates.since.rest;
  held = λ uncleared. (s.simulates.since.erased, s.simulates.since.held);
})

-- while a paint waits for its answer, the host decides nothing
unanswered : (pending : Pending) → is_painting pending ≡ true → number_of pending ≡ None → ⊥
unanswered (Pending.Writing number command) paints none = absurd (cc)
unanswered Pending.Nothing paints none = absurd (cc)
unanswered (Pending.Reading number) paints none = absurd (cc)
unanswered (Pending.Noting number command) paints none = absurd (cc)

asks_nothing : (app : Application) (session : ℕ) (conn : Session) (question : Question) → is_painting conn.pending ≡ true → question_in app session conn ≡ Some question → ⊥
asks_nothing app session conn question paints asked =
    let silent : is_asking app conn ≡ false =
    ap (λ (b : Bool). option_map_or is_ask (if b then Some (decision_on app conn conn.turn_reason) else None) false) (painting_waits conn.turn conn.pending (is_agreed conn.talk.state) paints) in
    let wrong : None ≡ Some question = sym (ap (λ (b : Bool). if b then option_map (question_on app session conn) (agreed_lu conn.talk.state) else None) silent) ∙ asked in
    absurd (cc)

decides_nothing : (app : Application) (conn : Session) (decision : Decision) → is_painting conn.pending ≡ true → decision_in app conn ≡ Some decision → ⊥
decides_nothing app conn decision paints decided =
    absurd (let wrong = sym (ap (λ (b : Bool). if b then Some (decision_on app conn conn.turn_reason) else None) (painting_waits conn.turn conn.pending (is_agreed conn.talk.state) paints)) ∙ decided in cc)

not_turn : (link : Link) → is_painting link.host.pending ≡ true → IsHostsTurn (seen_link link) → ⊥
not_turn link painting turn =
    let here = host_attached link.host_here link.host turn.host turn.host_is in
    unanswered link.host.pending painting (sym (ap (λ (h : HostSeen). h.pending) here.1) ∙ turn.answered)

-- what holds while a paint waits for its answer
right_painting : (app : Application) (lu : List ℕ) (t : LinkWithReport) (told : Link) → ConnectionInvariant app (view_of told) → agreed_lu told.host.talk.state ≡ Some lu → t.link.host.talk ≡ told.host.talk → t.link.term.talk ≡ told.term.talk → t.link.host_here ≡ true
    → is_some t.link.term_here ≡ true → is_painting t.link.host.pending ≡ true → t.link.host.turn ≡ whose.Terminal → t.link.host.restored ≡ told.host.restored → RightOf app lu t
right_painting app lu t told kept agreed host_talk talk host_here term_here painting turn restored = record {
  granted = ap (λ talk. agreed_lu talk.state) host_talk ∙ agreed;
  bound = λ mine bound.
      let both : Some mine ≡ Some lu = sym (bound_agrees app (view_of told) mine kept (ap (λ (talk : Term). bound_to talk.talk.state) (sym talk) ∙ bound)) ∙ agreed in
      cc;
  agrees = λ once turn. absurd (not_turn (told_link t) painting turn);
  now = λ uncleared turn. absurd (not_turn t.link painting turn);
  asked = λ number session question asked. absurd (asks_nothing app session t.link.host question painting asked);
  fields_asked = λ shows session question asked. absurd (asks_nothing app session t.link.host question painting asked);
  panel_asked = λ wants number session question asked. absurd (asks_nothing app session t.link.host question painting asked);
  key_asked = λ shows wants session question asked. absurd (asks_nothing app session t.link.host question painting asked);
  leads = λ once shows wants asked message keep given_values decided. absurd (decides_nothing app t.link.host (Decision.Do (HostAct.Show asked message keep given_values)) painting decided);
  shown = λ once wants has. absurd (let wrong : true ≡ false = sym painting ∙ has.answered in cc);
  repeats = λ again. absurd (let wrong = sym turn ∙ again.turn in cc);
  unrestored = restored ∙ kept.unrestored;
  host_here = host_here;
  term_here = term_here;
}

-- a paint waits for its answer in the terminal's turn
painting_turn : (app : Application) (link : Link) → ConnectionInvariant app (view_of link) → is_painting link.host.pending ≡ true → link.host.turn ≡ whose.Terminal
painting_turn app link k paints = by_moment k.moment k.at (sym (ap is_painting k.at.pending) ∙ paints)
  where
    by_serving : (lu : List ℕ) (serving : SessionPhase) → IsAt (view_of link) k.wanted (LinkPhase.InSession lu serving) → is_painting (pending_at (LinkPhase.InSession lu serving)) ≡ true → link.host.turn ≡ whose.Terminal
    by_serving lu SessionPhase.Deciding at paints = absurd (cc)
    by_serving lu (SessionPhase.Reading number) at paints = absurd (cc)
    by_serving lu (SessionPhase.BufferReturning number parts) at paints = absurd (cc)
    by_serving lu (SessionPhase.DecidingNoteSent number command) at paints = absurd (cc)
    by_serving lu (SessionPhase.DecidingNoteAnswered number command) at paints = absurd (cc)
    by_serving lu (SessionPhase.Painting number command wanted over) at paints = at.turn
    by_serving lu (SessionPhase.AwaitingWriteResponse kind number command) at paints = at.turn
    by_serving lu SessionPhase.OperatorTyping at paints = at.turn
    by_serving lu (SessionPhase.Noting number command) at paints = at.turn
    by_serving lu (SessionPhase.KeySent parts) at paints = at.turn
    by_serving lu (SessionPhase.KeySentAfterResponse kind number command parts) at paints = at.turn
    by_serving lu (SessionPhase.KeyCrossingNote number command parts) at paints = at.turn
    by_serving lu (SessionPhase.KeyBeforeNoteResponse number command parts) at paints = at.turn

    by_moment : (moment : LinkPhase) → IsAt (view_of link) k.wanted moment → is_painting (pending_at moment) ≡ true → link.host.turn ≡ whose.Terminal
    by_moment (LinkPhase.Negotiating talking) at paints = absurd (cc)
    by_moment (LinkPhase.FirstPaint lu number command wanted over) at paints = at.turn
    by_moment (LinkPhase.InSession lu serving) at paints = by_serving lu serving at paints

-- Clear was pressed in the wait
right_cleared : LowerLaws → WrittenIsThere → KeptStaysThere → (app : Application) → IsApplication app → (lu : List ℕ) (t : LinkWithReport) → Cleared app lu t → RightOf app lu t
right_cleared given written kept app is lu t c = by_painting (is_painting c.told.host.pending) refl
  where
    alike : t.link.host ≡ record c.told.host { shadow = t.link.host.shadow; unheard = t.link.host.unheard }
    alike = but_belief c.told t.link.host c.host

    same_host : is_painting c.told.host.pending ≡ false → HostsAlike c.told t.link.host → t.link.host ≡ c.told.host
    same_host unpainted (HostsAlike.same same) = same
    same_host unpainted (HostsAlike.crossed paints harmless crossed) = absurd (let wrong : false ≡ true = sym unpainted ∙ paints in cc)
    same_host unpainted (HostsAlike.erasing is_erasing is_now any) = absurd (let wrong : false ≡ true = sym unpainted ∙ paints_so c.told.host.pending is_erasing in cc)

    held : Stage t c.told c.up.said → t.cleared ≡ false → (erased : Bool) × KeptByKeys erased c.told.term.display.screen.cells t.link.term.display.screen.cells
    held (Stage.gone cleared locked read fate) uncleared = absurd (let wrong : true ≡ false = sym cleared ∙ uncleared in cc)
    held (Stage.erased never erasing silent since) uncleared = (since.erased, since.held)

    by_painting : (paints : Bool) → is_painting c.told.host.pending ≡ paints → RightOf app lu t
    by_painting true paints =
        right_painting app lu t c.told c.kept c.agreed (ap (λ (h : Session). h.talk) alike) c.talk c.host_here c.term_here (ap (λ (h : Session). is_painting h.pending) alike ∙ paints)
        (ap (λ (h : Session). h.turn) alike ∙ painting_turn app c.told c.kept paints) (ap (λ (h : Session). h.restored) alike)
    by_painting false unpainted = right_beside given written kept app is lu t (record {
      told = c.told;
      kept = c.kept;
      agreed = c.agreed;
      unsure = c.unsure;
      display = c.display;
      host_here = c.host_here;
      term_here = c.term_here;
      host = same_host unpainted c.host;
      lost = c.lost;
      talk = c.talk;
      rest = c.rest (λ paints. absurd (let wrong : false ≡ true = sym unpainted ∙ paints in cc));
      held = held c.stage;
    })

-- Clear crossed a paint
right_repeating : (app : Application) (lu : List ℕ) (t : LinkWithReport) → Repeating app lu t → RightOf app lu t
right_repeating app lu t r = by_after r.after
  where
    by_after : AfterPaint r.told t.link → RightOf app lu t
    by_after (AfterPaint.answering number command pends no_erase host_is any behind) =
        right_painting app lu t r.told r.kept r.agreed (ap (λ (h : Session). h.talk) host_is) r.talk r.host_here r.term_here (ap (λ (h : Session). is_painting h.pending) host_is ∙ ap is_painting pends)
        (ap (λ (h : Session). h.turn) host_is ∙ r.at.turn) (ap (λ (h : Session). h.restored) host_is)
    by_after (AfterPaint.refusing host_is keys) = record {
      granted = ap (λ (h : Session). agreed_lu h.talk.state) host_is ∙ r.agreed;
      bound = λ mine bound.
          let both : Some mine ≡ Some lu = sym (bound_agrees app (view_of r.told) mine r.kept (ap (λ (talk : Term). bound_to talk.talk.state) (sym r.talk) ∙ bound)) ∙ r.agreed in
          cc;
      agrees = λ once. absurd (once again);
      now = λ uncleared. absurd (let wrong : true ≡ false = sym r.cleared ∙ uncleared in cc);
      asked = λ number session question asked. absurd (asks_not session question asked);
      fields_asked = λ shows session question asked. absurd (asks_not session question asked);
      panel_asked = λ wants number session question asked. absurd (asks_not session question asked);
      key_asked = λ shows wants session question asked. absurd (asks_not session question asked);
      leads = λ once. absurd (once again);
      shown = λ once. absurd (once again);
      repeats = λ again. r.cleared;
      unrestored = ap (λ (h : Session). h.restored) host_is ∙ r.kept.unrestored;
      host_here = r.host_here;
      term_here = r.term_here;
    }
      where
        again : IsRepeating t.link.host
        again = record { turn = ap (λ (h : Session). h.turn) host_is; refusal = ap (λ (h : Session). h.turn_reason) host_is }

        asks_not : (session : ℕ) (question : Question) → question_in app session t.link.host ≡ Some question → ⊥
        asks_not session question asked =
            let host : Session = refused (hearing_clear r.told.host) in
            let there : question_in app session host ≡ Some question = subst (λ (h : Session). question_in app session h ≡ Some question) host_is asked in
            let silent : is_asking app host ≡ false =
            ap (λ (b : Bool). option_map_or is_ask (if b then Some (decision_on app host host.turn_reason) else None) false) (agrees_there r) in
            let wrong : None ≡ Some question = sym (ap (λ (b : Bool). if b then option_map (question_on app session host) (agreed_lu host.talk.state) else None) silent) ∙ there in
            absurd (cc)

-- ---- the theorem

-- wherever the terminal that waits is
pub right_of_beside : LowerLaws → WrittenIsThere → KeptStaysThere → (app : Application) → IsApplication app → (lu : List ℕ) (t : LinkWithReport) → IsBeside app lu t → RightOf app lu t
right_of_beside given written kept app is lu t (IsBeside.follows (Follows.simulated s)) = right_of given written kept app is lu t s
right_of_beside given written kept app is lu t (IsBeside.follows (Follows.cleared c)) = right_cleared given written kept app is lu t c
right_of_beside given written kept app is lu t (IsBeside.repeats r) = right_repeating app lu t r

pub every_terminal : LowerLaws → WrittenIsThere → KeptStaysThere → EveryTerminal
every_terminal given written kept app lu begin moves is begins rules =
    right_of_beside given written kept app is lu (after_moves app moves begin)
    (moves_follow given app is lu moves begin rules (IsBeside.follows (Follows.simulated (begins_simulated given app is lu begin begins))))

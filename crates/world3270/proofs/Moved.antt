-- Each connection of a world is one of `EveryTerminal`: what happens on it are moves that keep the rules.
use Rattle.std.proofs.Common.{◌≡◌, ◌≢◌, ◌⊎◌, inl, inr, ◌<◌, ◌||◌, ◌&&◌, length, ℕ, Bool, true, false, Option, None, Some, List, [], ◌∷◌, ◌++◌, refl, ap, sym, subst, ◌∙◌, if◌then◌else◌}
use Rattle.std.specs.Prelude.{⊤}
use Rattle.std.specs.List.{All}
use Rattle.std.specs.Option.{option_and_then}
use Rattle.std.proofs.lemmas.List.Elements.{All-cons, All-nil}
use Rattle.std.proofs.lemmas.Option.{same_Some}
use Rattle.codes3270.specs.Size.{ScreenSize, cells_in}
use Rattle.codes3270.specs.declared.attention.Aid.TheVariants.{Clear}
use Rattle.datastream.specs.HeldLaws.{HeldAtFirst}
use Rattle.datastream.specs.Screen.{Screen}
use Rattle.keyboard.specs.Keys.{Outcome}
use Rattle.keyboard.specs.Sending.{SendingWaits}
use Rattle.keyboard.specs.State.{freed}
use Rattle.keyboard.specs.declared.key.Key.{Key}
use Rattle.keyboard.specs.declared.key.Lock.TheVariants.{Wait}
use Rattle.keyboard.specs.declared.key.Pressed.{Pressed}
use Rattle.keyboard.specs.declared.key.Pressed.TheVariants.{Done, Refused, Send}
use Rattle.lu_pool.specs.Asking.{answer_to}
use Rattle.lu_pool.specs.HolderLaws.{IsSound}
use Rattle.panels.specs.Panel.{Panels}
use Rattle.tn3270e_msg.specs.Talk.{Talk}
use Rattle.tn3270e_msg.specs.declared.cause.Cause.{Cause}
use Rattle.tn3270e_msg.specs.declared.host_talk.HostState.{HostState}
use Rattle.tn3270e_msg.specs.declared.host_talk.HostState.TheVariants.{Offered, Asked, Asking, Named, Countered, Agreed, Closed}
use Rattle.host_core.specs.Acts.{Act, Decision, Sent, acted, decided, decision_on, done as done_act, may_act}
use Rattle.host_core.specs.Application.{Application, IsApplication, application_of}
use Rattle.host_core.specs.Laws.{MarksInput, ServedIsMarked}
use Rattle.host_core.specs.Messages.{ToHost, ToTerminal, Verdict}
use Rattle.host_core.specs.Notes.{IsNoteText, may_note, noted, noted_as}
use Rattle.host_core.specs.Questions.{act_by, answered_on, has_its_panel, is_asking, panel_for}
use Rattle.host_core.specs.Session.{Pending, Session, agreed_lu, is_agreed, unheard_of}
use Rattle.host_core.specs.State.{state_at}
use Rattle.host_core.specs.Takes.{Answers, HostStep, may_have_changed, took as host_took}
use Rattle.host_core.specs.declared.question.Answer.{Answer as ApplicationAnswer}
use Rattle.host_core.specs.declared.terminals.Terminals.{Terminals}
use Rattle.host_core.specs.declared.terminals.Terminals.TheVariants as terminals
use Rattle.host_core.specs.declared.turn.Turn.{Turn}
use Rattle.host_core.specs.declared.turn.Turn.TheVariants as whose
use Rattle.host_core.specs.declared.unheard.Unheard.TheVariants as unheards
use Rattle.world3270.specs.model.ByteWorld.{is_there}
use Rattle.world3270.specs.model.Enabled.{is_queued}
use Rattle.world3270.specs.model.Link.{Link, host_left_if, host_sent, host_stepped, sent, term_left_if, term_stepped}
use Rattle.world3270.specs.model.Steps.{run}
use Rattle.world3270.specs.model.Terminal.{TermEnd, TermStep, data_of, erases_if, is_bound, key_came, note_came, once_bound, outcome_of, paint_came, read_came, took as term_took}
use Rattle.world3270.specs.model.World.{AreEvents, Event, IsEvent, World, new_world, Place, display_at}
use Rattle.world3270.specs.refinement.Invariant.{ConnectionInvariant}
use Rattle.world3270.specs.refinement.LowerLaws.{LowerLaws}
use Rattle.world3270.specs.refinement.MessageLaws.{MessageLaws}
use Rattle.world3270.specs.refinement.Refines.{WorldSetup, after}
use Rattle.world3270.specs.refinement.Representation.{conn_of, link_of}
use Rattle.world3270.specs.refinement.Represents.{LinkRepresents}
use Rattle.world3270.specs.refinement.Sendable.{CanBeSent}
use Rattle.world3270.specs.refinement.View.{view_of}
use Rattle.world3270.specs.statement.Always.{AlwaysOf}
use Rattle.world3270.specs.statement.EveryTerminal.{EveryTerminal, FirstPaint, LinkWithReport, Move, after_moves, came_down, came_up, executed, is_shown, key_pressed, moved, paint_executed, told_if}
use Rattle.world3270.specs.statement.EveryTerminalBytes.{Represents}
use Rattle.world3270.specs.statement.Instances.{ConnectionsAreMoved, IsMoved, IsMovedOverBytes, IsTheSame, WorldsGoOnOverBytes, over_bytes, pressed_in}
use Rattle.world3270.specs.statement.RuleLaws.{KeepsTheRules}
use Rattle.world3270.specs.statement.Rules.{Operates}
use Rattle.world3270.proofs.Acting.{asking_parts, may_act_at, may_act_when}
use Rattle.world3270.proofs.AnyTerminal.{more_moves}
use Rattle.world3270.proofs.ComesDown.{PaintComes, paint_comes}
use Rattle.world3270.proofs.Down.{term_view}
use Rattle.world3270.proofs.Everywhere.{Steps, everywhere}
use Rattle.world3270.proofs.HeardTurns.{goes_on}
use Rattle.world3270.proofs.HostSteps.{act_changed, just_talks}
use Rattle.world3270.proofs.Instances.{IsAgreedHere, IsFresh, agreed_here, as_moved, begin_of, first_of, fresh_pending, fresh_turn, key_fresh, quiet_fresh, said_talk, same_fresh, is_open_now, stands_moved}
use Rattle.world3270.proofs.KeyMoves.{stepped}
use Rattle.world3270.proofs.Keys.{Waits, quiet_done, quiet_refused, waits}
use Rattle.world3270.proofs.Known.{Facts, facts_now, is_application}
use Rattle.world3270.proofs.Obeys.{obeys}
use Rattle.world3270.proofs.Relying.{marked_there}
use Rattle.world3270.proofs.ScreensFound.{AreTalk, AreTalkUp}
use Rattle.world3270.proofs.AnyIgnored.{no_refusal_under_way, no_talk_under_way}
use Rattle.world3270.proofs.Simulation.{has_agreed}
use Rattle.world3270.proofs.SimulatedHost.{act_talk}
use Rattle.world3270.proofs.Worlds.{GoodWorld, new_good, run_good}
use Rattle.world3270.proofs.WithoutClear.{AreWithoutClear, IsWithoutClear, all_keep_rules, all_stay_uncleared, more_without}

-- ---- a connection that was moved

record WasMoved (app : Application) (link : Link) : Type 0 where
  lu : List ℕ
  agreed : agreed_lu link.host.talk.state ≡ Some lu
  begin : LinkWithReport
  begins : FirstPaint app lu begin
  moves : List Move
  by_the_rules : AreWithoutClear app moves begin
  same : IsTheSame link (after_moves app moves begin)

-- or one that is lost, or whose host relies on the wait
abbrev IsApart : Link → Type 0
IsApart link = (link.lost ≡ true) ⊎ (may_have_changed link.host.unheard ≡ false)

abbrev IsFollowed : Application → Link → Type 0
IsFollowed app link = (IsFresh app link.host link.term.display × (link.host_here ≡ true)) ⊎ (WasMoved app link ⊎ IsApart link)

module _ (app : Application) (link : Link) (m : WasMoved app link) where
  abbrev now_told : LinkWithReport
  now_told = after_moves app m.moves m.begin

  -- one more move
  moved_on : (move : Move) (new : Link) → agreed_lu new.host.talk.state ≡ Some m.lu → IsWithoutClear move now_told → IsTheSame new (moved app move now_told) → WasMoved app new
  moved_on move new agreed rules same = record {
    lu = m.lu;
    agreed = agreed;
    begin = m.begin;
    begins = m.begins;
    moves = m.moves ++ move ∷ [];
    by_the_rules = more_without app m.moves (move ∷ []) m.begin m.by_the_rules (rules, tt);
    same = subst (IsTheSame new) (sym (more_moves app m.moves (move ∷ []) m.begin)) same;
  }

-- ---- the steps of the host

left_as : (cause : Option Cause) (link : Link) → host_left_if cause (as_moved link) ≡ as_moved (host_left_if cause link)
left_as None link = refl
left_as (Some cause) link = refl

left_term : (cause : Option Cause) (link : Link) → (host_left_if cause link).term ≡ link.term
left_term None link = refl
left_term (Some cause) link = refl

left_host : (cause : Option Cause) (link : Link) → (host_left_if cause link).host ≡ link.host
left_host None link = refl
left_host (Some cause) link = refl

left_lost : (cause : Option Cause) (link : Link) → link.lost ≡ true → (host_left_if cause link).lost ≡ true
left_lost None link is = is
left_lost (Some cause) link is = refl

sent_as : (sending : Option Sent) (link : Link) → host_sent sending (as_moved link) ≡ as_moved (host_sent sending link)
sent_as None link = refl
sent_as (Some sending) link = refl

sent_term : (sending : Option Sent) (link : Link) → (host_sent sending link).term ≡ link.term
sent_term None link = refl
sent_term (Some sending) link = refl

-- what a host sends once it has agreed leaves the talk, and whether it relies on the wait
abbrev IsSending : Session → Option Sent → Type 0
IsSending conn None = ⊤
IsSending conn (Some sending) =
    (is_agreed conn.talk.state ≡ true) × (sending.conn.talk ≡ conn.talk) × (may_have_changed sending.conn.unheard ≡ may_have_changed conn.unheard)

acted_so : (app : Application) (conn : Session) → IsSending conn (acted app conn)
acted_so app conn = by_test (may_act conn.turn conn.pending (is_agreed conn.talk.state)) refl (decision_on app conn conn.turn_reason)
  where
    by_test : (b : Bool) → may_act conn.turn conn.pending (is_agreed conn.talk.state) ≡ b → (decision : Decision) → IsSending conn (option_and_then (decided app conn) (if b then Some decision else None))
    by_test true may (Decision.Do act) = ((may_act_when conn.turn conn.pending (is_agreed conn.talk.state) may).2, act_talk app conn act, act_changed app conn act)
    by_test true may Decision.Asks = tt
    by_test false may decision = tt

answered_so : (app : Application) (conn : Session) (said : ApplicationAnswer) → IsSending conn (answered_on app conn said)
answered_so app conn said = by_test (is_asking app conn) refl (has_its_panel app said)
  where
    act : Act
    act = act_by app conn said (panel_for app conn said)

    by_test : (b : Bool) → is_asking app conn ≡ b → (c : Bool) → IsSending conn (if b && c then Some (done_act app conn act) else None)
    by_test true asks true = ((may_act_when conn.turn conn.pending (is_agreed conn.talk.state) (asking_parts app conn asks).0).2, act_talk app conn act, act_changed app conn act)
    by_test true asks false = tt
    by_test false asks c = tt

note_agreed : (turn : Turn) (pending : Pending) (agreed : Bool) → may_note turn pending agreed ≡ true → agreed ≡ true
note_agreed whose.Terminal Pending.Nothing agreed may = may
note_agreed whose.Terminal (Pending.Writing number command) agreed may = absurd (cc)
note_agreed whose.Terminal (Pending.Reading number) agreed may = absurd (cc)
note_agreed whose.Terminal (Pending.Noting number command) agreed may = absurd (cc)
note_agreed whose.Host pending agreed may = absurd (cc)

noted_so : (text : List ℕ) (conn : Session) → IsSending conn (noted text conn)
noted_so text conn = by_test (may_note conn.turn conn.pending (is_agreed conn.talk.state)) refl
  where
    by_test : (b : Bool) → may_note conn.turn conn.pending (is_agreed conn.talk.state) ≡ b → IsSending conn (if b then Some (noted_as text conn) else None)
    by_test true may = (note_agreed conn.turn conn.pending (is_agreed conn.talk.state) may, refl, refl)
    by_test false may = tt

-- ---- the steps of the terminal

-- a step of the terminal whose keyboard doesn't wait
abbrev step_as : TermStep → TermStep
step_as step = record step { end = record step.end { waits = false } }

stepped_as : (step : TermStep) (rest : List ToTerminal) (link : Link) → step.closes ≡ None → term_stepped (step_as step) rest (as_moved link) ≡ as_moved (term_view step rest link)
stepped_as step rest link stays = ap (λ (c : Option Cause). term_left_if c (as_moved (term_view step rest link))) stays

told_link_is : (b : Bool) (message : ToTerminal) (t : LinkWithReport) (link : Link) → (told_if b message t link).link ≡ link
told_link_is true message t link = refl
told_link_is false message t link = refl

-- a wait that goes on
lock_after : (message : ToTerminal) (end : TermEnd) (t : LinkWithReport) (link : Link) → t.cleared ≡ false → (t.waits ≡ true → end.display.keyboard.lock ≡ Wait) → (told_if (is_bound end) message t link).waits ≡ true
    → (term_took end message).end.display.keyboard.lock ≡ Wait
lock_after (ToTerminal.TalksDown saying) end t link never was = by_bound (is_bound end)
  where
    by_bound : (b : Bool) → (told_if b (ToTerminal.TalksDown saying) t link).waits ≡ true → end.display.keyboard.lock ≡ Wait
    by_bound true = was
    by_bound false = was
lock_after (ToTerminal.Paint number wanted over) end t link never was = by_bound (is_bound end)
  where
    by_bound : (b : Bool) → (told_if b (ToTerminal.Paint number wanted over) t link).waits ≡ true → (once_bound b (paint_came number wanted end) end).end.display.keyboard.lock ≡ Wait
    by_bound true waits = absurd (let wrong : false ≡ true = sym (ap (λ (c : Bool). if is_shown c wanted over then false else t.waits) never) ∙ waits in cc)
    by_bound false waits = was waits
lock_after (ToTerminal.ReadBuffer number) end t link never was = by_bound (is_bound end)
  where
    by_bound : (b : Bool) → (told_if b (ToTerminal.ReadBuffer number) t link).waits ≡ true → (once_bound b (read_came end) end).end.display.keyboard.lock ≡ Wait
    by_bound true = was
    by_bound false = was
lock_after (ToTerminal.Note number command) end t link never was = by_bound (is_bound end)
  where
    by_bound : (b : Bool) → (told_if b (ToTerminal.Note number command) t link).waits ≡ true → (once_bound b (note_came number command end) end).end.display.keyboard.lock ≡ Wait
    by_bound true = was
    by_bound false = was

-- a key in the wait edits nothing
pub edits_in_wait : HeldAtFirst → (key : Key) (end : TermEnd) → end.display.keyboard.lock ≡ Wait → end.display.screen.cursor < length end.display.screen.cells
    → (does : Operates end (key_came key end)) × (key_pressed does ≢ Clear)
edits_in_wait at_first key end locked below =
    let old : Screen = end.display.screen in
    let outcome : Outcome = outcome_of key end.display in
    let w : Waits key old outcome = waits end.display.size.columns key end.display.keyboard old locked in (
      Operates.edits outcome.keyboard old.cells old.cursor false (at_first old.cells) below
          (ap (λ (sends : List ToHost). stepped end outcome.keyboard outcome.screen (end.display.erased || erases_if outcome.answer key) sends) (w.silent (is_bound end) end.display.size outcome.screen)
          ∙ ap (λ (screen : Screen). stepped end outcome.keyboard screen (end.display.erased || erases_if outcome.answer key) []) w.same
          ∙ ap (λ (b : Bool). stepped end outcome.keyboard old (end.display.erased || b) []) w.keeps),
      λ clear. absurd (cc),
    )

-- a key that sends waits
pub queued_waits : SendingWaits → (key : Key) (end : TermEnd) → is_queued (key_came key end).sends ≡ true → (key_came key end).end.display.keyboard.lock ≡ Wait
queued_waits sending key end queued = by_answer outcome.answer refl queued
  where
    outcome : Outcome
    outcome = outcome_of key end.display

    by_answer : (answer : Pressed) → outcome.answer ≡ answer → is_queued (data_of (is_bound end) answer end.display.size outcome.screen) ≡ true → outcome.keyboard.lock ≡ Wait
    by_answer (Send aid) is some = (sending end.display.size.columns key end.display.keyboard end.display.screen aid is).2
    by_answer Done is some = absurd (let wrong : false ≡ true = sym (ap is_queued (quiet_done (is_bound end) end.display.size outcome.screen)) ∙ some in cc)
    by_answer (Refused why) is some = absurd (let wrong : false ≡ true = sym (ap is_queued (quiet_refused (is_bound end) why end.display.size outcome.screen)) ∙ some in cc)

-- ---- one connection

-- where both agreed, an LU was agreed on
agreed_name : (state : HostState) → is_agreed state ≡ true → (lu : List ℕ) × (agreed_lu state ≡ Some lu)
agreed_name (Agreed device granted) is = (granted, refl)
agreed_name Offered is = absurd (cc)
agreed_name Asked is = absurd (cc)
agreed_name (Asking device) is = absurd (cc)
agreed_name (Named device granted) is = absurd (cc)
agreed_name (Countered device granted) is = absurd (cc)
agreed_name (Closed cause) is = absurd (cc)

no_lus : IsSound []
no_lus = record { are_lus = λ place at is. absurd (cc); once = λ place other at there is. absurd (cc) }

module _ (given : LowerLaws) (app : Application) (is : IsApplication app) (marks : MarksInput app) (rules : KeepsTheRules key_came) (sending : SendingWaits)
    (link : Link) (k : ConnectionInvariant app (view_of link)) where
  -- the host has agreed, and has shown nothing
  begun_now : IsFresh app link.host link.term.display → link.host_here ≡ true → is_agreed link.host.talk.state ≡ true → WasMoved app link ⊎ IsApart link
  begun_now f here agrees = by_lost link.lost refl
    where
      named : (lu : List ℕ) × (agreed_lu link.host.talk.state ≡ Some lu)
      named = agreed_name link.host.talk.state agrees

      begins : link.lost ≡ false → unheard_of f.serves ≡ unheards.Input → WasMoved app link
      begins live any =
          let now : IsAgreedHere app named.0 link = agreed_here app link k.wanted named.0 live named.1
          (may_act_at given app is link k (fresh_turn app link.host link.term.display f) (fresh_pending app link.host link.term.display f) agrees) in
          record {
            lu = named.0;
            agreed = named.1;
            begin = begin_of link;
            begins = first_of app marks named.0 link f any here now;
            moves = [];
            by_the_rules = tt;
            same = record { link_is = refl; waits = λ waiting. (quiet_fresh given app link k f).waits };
          }

      by_serves : (serves : Terminals) → f.serves ≡ serves → link.lost ≡ false → WasMoved app link ⊎ IsApart link
      by_serves terminals.Waiting relies live =
          inr (inr (ap (λ (h : Session). may_have_changed h.unheard) f.host_is ∙ ap (λ (s : Terminals). may_have_changed (unheard_of s)) relies))
      by_serves terminals.Any serves live = inl (begins live (ap unheard_of serves))
      by_serves terminals.Verified serves live = inl (begins live (ap unheard_of serves))

      by_lost : (b : Bool) → link.lost ≡ b → WasMoved app link ⊎ IsApart link
      by_lost true lost = inr (inl lost)
      by_lost false live = by_serves f.serves refl live

  settled : IsFollowed app link → is_agreed link.host.talk.state ≡ true → WasMoved app link ⊎ IsApart link
  settled (inl fresh) agrees = begun_now fresh.0 fresh.1 agrees
  settled (inr other) agrees = other

  -- ---- the host sends

  sends_on : (move : Move) (sends : Option Sent) → IsSending link.host sends → ((t : LinkWithReport) → IsWithoutClear move t)
      → ((t : LinkWithReport) → t.link ≡ as_moved link → moved app move t ≡ record t { link = host_sent sends (as_moved link) })
      → IsFollowed app link → IsFollowed app (host_sent sends link)
  sends_on move None so by_rules does followed = followed
  sends_on move (Some sent_now) so by_rules does followed = inr (by_case (settled followed so.0))
    where
      by_case : WasMoved app link ⊎ IsApart link → WasMoved app (host_sent (Some sent_now) link) ⊎ IsApart (host_sent (Some sent_now) link)
      by_case (inl m) =
          inl (moved_on app link m move (host_sent (Some sent_now) link)
          (ap (λ (talk : Talk HostState). agreed_lu talk.state) so.1 ∙ m.agreed)
          (by_rules (now_told app link m))
          (subst (IsTheSame (host_sent (Some sent_now) link)) (sym (does (now_told app link m) m.same.link_is)) (record { link_is = refl; waits = m.same.waits })))
      by_case (inr (inl lost)) = inr (inl lost)
      by_case (inr (inr relies)) = inr (inr (so.2 ∙ relies))

  acts_on : IsFollowed app link → IsFollowed app (host_sent (acted app link.host) link)
  acts_on = sends_on Move.Act (acted app link.host) (acted_so app link.host) (λ t. tt)
      (λ t link_is. ap (λ (l : Link). record t { link = host_sent (acted app l.host) l }) link_is)

  answers_on : (said : ApplicationAnswer) → IsFollowed app link → IsFollowed app (host_sent (answered_on app link.host said) link)
  answers_on said = sends_on (Move.Answer said) (answered_on app link.host said) (answered_so app link.host said) (λ t. tt)
      (λ t link_is. ap (λ (l : Link). record t { link = host_sent (answered_on app l.host said) l }) link_is)

  notes_on : (text : List ℕ) → IsNoteText text → IsFollowed app link → IsFollowed app (host_sent (noted text link.host) link)
  notes_on text form = sends_on (Move.Note text) (noted text link.host) (noted_so text link.host) (λ t. form)
      (λ t link_is. ap (λ (l : Link). record t { link = host_sent (noted text l.host) l }) link_is)

  -- ---- the host takes a message

  up_moved : (pool : Answers) (message : ToHost) (rest : List ToHost) → link.up ≡ message ∷ rest → (m : WasMoved app link) → host_took (answer_to []) link.host message ≡ host_took pool link.host message
      → WasMoved app (host_stepped (host_took pool link.host message) rest link)
  up_moved pool message rest e m same_pool =
      let step : HostStep = host_took pool link.host message in
      let t : LinkWithReport = now_told app link m in
      let new : Link = record link { up = rest; host = step.conn; down = sent link.lost link.down step.sends } in
      let up_is : t.link.up ≡ message ∷ rest = ap (λ (l : Link). l.up) m.same.link_is ∙ e in
      let goes = goes_on given app pool link message rest e k (has_agreed m.lu link.host.talk.state m.agreed) in
      moved_on app link m (Move.Up []) (host_left_if step.closes new)
      (ap (λ (h : Session). agreed_lu h.talk.state) (left_host step.closes new) ∙ ap (λ (talk : Talk HostState). agreed_lu talk.state) goes.talk ∙ m.agreed)
      no_lus
      (record {
        link_is = ap (λ (up : List ToHost). (came_up [] up t).link) up_is
            ∙ ap (λ (l : Link). host_stepped (host_took (answer_to []) l.host message) rest l) m.same.link_is
            ∙ ap (λ (s : HostStep). host_stepped s rest (as_moved link)) same_pool
            ∙ left_as step.closes new;
        waits = λ waiting. ap (λ (end : TermEnd). end.display.keyboard.lock) (left_term step.closes new)
            ∙ m.same.waits (sym (ap (λ (up : List ToHost). (came_up [] up t).waits) up_is) ∙ waiting);
      })

  up_on : (pool : Answers) (message : ToHost) (rest : List ToHost) → link.up ≡ message ∷ rest → IsFollowed app link → IsFollowed app (host_stepped (host_took pool link.host message) rest link)
  up_on pool (ToHost.TalksUp saying) rest e (inl fresh) = by_closes step.closes
    where
      step : HostStep
      step = host_took pool link.host (ToHost.TalksUp saying)

      by_closes : (c : Option Cause) → IsFollowed app (host_left_if c (record link { up = rest; host = step.conn; down = sent link.lost link.down step.sends }))
      by_closes None = inl (same_fresh app link.host step.conn link.term.display (said_talk pool link.host saying) fresh.0, fresh.1)
      by_closes (Some cause) = inr (inr (inl refl))
  up_on pool (ToHost.Data parts) rest e (inl fresh) = absurd (subst AreTalkUp e (quiet_fresh given app link k fresh.0).goes_up)
  up_on pool (ToHost.Response number verdict) rest e (inl fresh) = absurd (subst AreTalkUp e (quiet_fresh given app link k fresh.0).goes_up)
  up_on pool (ToHost.TalksUp saying) rest e (inr (inl m)) =
      absurd (let wrong : true ≡ false = (goes_on given app pool link (ToHost.TalksUp saying) rest e k (has_agreed m.lu link.host.talk.state m.agreed)).no_talk in cc)
  up_on pool (ToHost.Data parts) rest e (inr (inl m)) = inr (inl (up_moved pool (ToHost.Data parts) rest e m refl))
  up_on pool (ToHost.Response number verdict) rest e (inr (inl m)) = inr (inl (up_moved pool (ToHost.Response number verdict) rest e m refl))
  up_on pool message rest e (inr (inr (inl lost))) =
      let step : HostStep = host_took pool link.host message in
      inr (inr (inl (left_lost step.closes (record link { up = rest; host = step.conn; down = sent link.lost link.down step.sends }) lost)))
  up_on pool message rest e (inr (inr (inr relies))) =
      let step : HostStep = host_took pool link.host message in
      inr (inr (inr (ap (λ (h : Session). may_have_changed h.unheard) (left_host step.closes (record link { up = rest; host = step.conn; down = sent link.lost link.down step.sends }))
      ∙ (just_talks pool link.host message).unheard ∙ relies)))

  -- ---- the terminal takes a message

  -- whatever it displays
  executed_as : (message : ToTerminal) (rest : List ToTerminal) → link.down ≡ message ∷ rest → is_agreed link.host.talk.state ≡ true → executed (as_moved link).term message ≡ step_as (term_took link.term message)
  executed_as (ToTerminal.TalksDown saying) rest e agrees = refl
  executed_as (ToTerminal.Paint number wanted over) rest e agrees = by_bound (is_bound link.term)
    where
      end : TermEnd
      end = record link.term { waits = false }

      comes : PaintComes app link k.wanted rest number wanted over
      comes = paint_comes app link number wanted over rest e k agrees

      cells : length wanted.cells ≡ cells_in wanted.size
      cells = comes.fact.paintable.showable.cells ∙ ap (λ (shape : ScreenSize). cells_in shape) (sym comes.fact.paintable.showable.size)

      by_bound : (b : Bool) → once_bound b (paint_executed number wanted over end) end ≡ step_as (once_bound b (paint_came number wanted link.term) link.term)
      by_bound true =
          ap (λ (drawn : Screen). record {
            end = record end {
              display = record link.term.display { size = wanted.size; screen = drawn; keyboard = freed link.term.display.keyboard; last_restored = drawn; before_restored = link.term.display.screen; erased = false };
            };
            sends = ToHost.Response number Verdict.Positive ∷ [];
            closes = None;
          })
          (given.belief.painted over wanted link.term.display.screen cells comes.fact.paintable.fits comes.fact.meets)
      by_bound false = refl
  executed_as (ToTerminal.ReadBuffer number) rest e agrees = by_bound (is_bound link.term)
    where
      by_bound : (b : Bool) → once_bound b (read_came (record link.term { waits = false })) (record link.term { waits = false }) ≡ step_as (once_bound b (read_came link.term) link.term)
      by_bound true = refl
      by_bound false = refl
  executed_as (ToTerminal.Note number command) rest e agrees = by_bound (is_bound link.term)
    where
      by_bound : (b : Bool) → once_bound b (note_came number command (record link.term { waits = false })) (record link.term { waits = false }) ≡ step_as (once_bound b (note_came number command link.term) link.term)
      by_bound true = refl
      by_bound false = refl

  down_moved : (message : ToTerminal) (rest : List ToTerminal) → link.down ≡ message ∷ rest → WasMoved app link → WasMoved app (term_view (term_took link.term message) rest link)
  down_moved message rest e m =
      let t : LinkWithReport = now_told app link m in
      let step : TermStep = term_took link.term message in
      let down_is : t.link.down ≡ message ∷ rest = ap (λ (l : Link). l.down) m.same.link_is ∙ e in
      let bound_is : is_bound t.link.term ≡ is_bound link.term = ap (λ (l : Link). is_bound l.term) m.same.link_is in
      let after : Link = term_stepped (executed t.link.term message) rest t.link in
      moved_on app link m Move.Down (term_view step rest link) m.agreed tt
      (record {
        link_is = ap (λ (down : List ToTerminal). (came_down down t).link) down_is
            ∙ told_link_is (is_bound t.link.term) message t after
            ∙ ap (λ (l : Link). term_stepped (executed l.term message) rest l) m.same.link_is
            ∙ ap (λ (s : TermStep). term_stepped s rest (as_moved link)) (executed_as message rest e (has_agreed m.lu link.host.talk.state m.agreed))
            ∙ stepped_as step rest link (obeys given app is link message rest e k).open_end;
        waits = λ waiting. lock_after message link.term t after (all_stay_uncleared app m.moves m.begin m.begins.cleared m.by_the_rules) m.same.waits
            (sym (ap (λ (b : Bool). (told_if b message t after).waits) bound_is) ∙ sym (ap (λ (down : List ToTerminal). (came_down down t).waits) down_is) ∙ waiting);
      })

  down_on : (message : ToTerminal) (rest : List ToTerminal) → link.down ≡ message ∷ rest → IsFollowed app link → IsFollowed app (term_view (term_took link.term message) rest link)
  down_on (ToTerminal.TalksDown saying) rest e (inl fresh) = inl (fresh.0, fresh.1)
  down_on (ToTerminal.Paint number wanted over) rest e (inl fresh) = absurd (subst AreTalk e (quiet_fresh given app link k fresh.0).goes_down)
  down_on (ToTerminal.ReadBuffer number) rest e (inl fresh) = absurd (subst AreTalk e (quiet_fresh given app link k fresh.0).goes_down)
  down_on (ToTerminal.Note number command) rest e (inl fresh) = absurd (subst AreTalk e (quiet_fresh given app link k fresh.0).goes_down)
  down_on message rest e (inr (inl m)) = inr (inl (down_moved message rest e m))
  down_on message rest e (inr (inr apart)) = inr (inr apart)

  -- ---- a key is pressed

  key_moved : (key : Key) → WasMoved app link → WasMoved app (term_stepped (key_came key link.term) link.down link)
  key_moved key m = moved_on app link m (Move.Operate step) (term_stepped (key_came key link.term) link.down link) m.agreed
      (subst (λ (l : Link). (does : Operates l.term step) × (t.waits ≡ true → key_pressed does ≢ Clear)) (sym m.same.link_is) (by_waits t.waits refl))
      (record {
        link_is = ap (λ (l : Link). term_stepped step l.down l) m.same.link_is;
        waits = locks t.waits refl;
      })
    where
      t : LinkWithReport
      t = now_told app link m

      end : TermEnd
      end = (as_moved link).term

      step : TermStep
      step = key_came key end

      below : link.term.display.screen.cursor < length link.term.display.screen.cells
      below = subst (λ (count : ℕ). link.term.display.screen.cursor < count) (sym k.whole) k.cursor

      by_waits : (b : Bool) → t.waits ≡ b → (does : Operates end step) × (t.waits ≡ true → key_pressed does ≢ Clear)
      by_waits true waiting = let does = edits_in_wait given.keys.at_first key end (m.same.waits waiting) below in (does.0, λ still. does.1)
      by_waits false free = (rules key end below, λ waiting. absurd (let wrong : false ≡ true = sym free ∙ waiting in cc))

      locks : (b : Bool) → t.waits ≡ b → (b || is_queued step.sends) ≡ true → (key_came key link.term).end.display.keyboard.lock ≡ Wait
      locks true waiting either = (waits link.term.display.size.columns key link.term.display.keyboard link.term.display.screen (m.same.waits waiting)).lock
      locks false free queued = queued_waits sending key end queued

  key_on : (key : Key) → IsFollowed app link → IsFollowed app (term_stepped (key_came key link.term) link.down link)
  key_on key (inl fresh) = inl (key_fresh given app link k key fresh.0, fresh.1)
  key_on key (inr (inl m)) = inr (inl (key_moved key m))
  key_on key (inr (inr apart)) = inr (inr apart)

-- ---- all connections

followed_steps : LowerLaws → (app : Application) → IsApplication app → MarksInput app → KeepsTheRules key_came → SendingWaits → Steps app IsEvent (IsFollowed app) (λ display. ⊤)
followed_steps given app is marks rules sending = record {
  never = λ serves. inr (inr (inl refl));
  begins = λ serves model terminal wanted. inl (record { serves = serves; host_is = refl; display_is = refl }, refl);
  up = λ pool link message rest e k followed. up_on given app is marks rules sending link k pool message rest e followed;
  acts = λ link k followed. acts_on given app is marks rules sending link k followed;
  answers = λ number said link such k followed. answers_on given app is marks rules sending link k said followed;
  notes = λ number text link such k followed. notes_on given app is marks rules sending link k text such followed;
  down = λ link message rest e k followed. down_on given app is marks rules sending link k message rest e followed;
  key = λ terminal key link such k followed. key_on given app is marks rules sending link k key followed;
  loses = λ link followed. inr (inr (inl refl));
  host_leaves = λ link followed. inr (inr (inl refl));
  term_leaves = λ link followed. inr (inr (inl refl));
  fresh = λ model. tt;
  alone = λ link k followed. tt;
  key_alone = λ terminal key display such is. tt;
}

all_such : (events : List Event) → AreEvents events → All IsEvent events
all_such [] are = All-nil IsEvent
all_such (event ∷ events) are = All-cons IsEvent event events are.0 (all_such events are.1)

pub connections_are_moved : LowerLaws → EveryTerminal → KeepsTheRules key_came → SendingWaits → AlwaysOf ConnectionsAreMoved
connections_are_moved given every rules sending app serves pool models events is is_pool few are marks number lu live agreed any =
    by_case (settled given app is marks rules sending link (good.links number)
    ((everywhere given app is IsEvent (IsFollowed app) (λ display. ⊤) (followed_steps given app is marks rules sending) serves pool models events is_pool are (all_such events are)).links number)
    (has_agreed lu link.host.talk.state agreed))
  where
    world : World
    world = run app events (new_world app serves pool models)

    good : GoodWorld app world
    good = run_good given app is events (new_world app serves pool models) are (new_good given app is serves pool models is_pool)

    link : Link
    link = world.link number

    by_case : WasMoved app link ⊎ IsApart link → IsMoved app lu link
    by_case (inl m) =
        subst (λ (name : List ℕ). IsMoved app name link) (same_Some m.lu lu (sym m.agreed ∙ agreed)) (record {
          begin = m.begin;
          begins = m.begins;
          moves = m.moves;
          by_the_rules = all_keep_rules app m.moves m.begin m.begins.cleared m.by_the_rules;
          same = m.same;
          right = every app m.lu m.begin m.moves is m.begins (all_keep_rules app m.moves m.begin m.begins.cleared m.by_the_rules);
        })
    by_case (inr (inl lost)) = absurd (let wrong : false ≡ true = sym live ∙ lost in cc)
    by_case (inr (inr relies)) = absurd (let wrong : true ≡ false = sym any ∙ relies in cc)

-- ---- over bytes

-- the bytes of a world represent such a connection
pub worlds_go_on : MessageLaws → ServedIsMarked → EveryTerminal → KeepsTheRules key_came → SendingWaits → WorldsGoOnOverBytes
worlds_go_on known served every rules sending number terminal lu bytes is a =
    subst (λ (p : Panels). IsMovedOverBytes (application_of p) number lu (over_bytes number terminal bytes)) (sym is.reached.panels)
    (record {
      begin = goes.begin;
      begins = goes.begins;
      moves = goes.moves;
      by_the_rules = goes.by_the_rules;
      represents = subst (λ (l : Link). Represents number (record (over_bytes number terminal bytes) { pressed = pressed_in t }) (record t { link = l })) (sym goes.same.link_is)
          (record {
            is_open = is_open_now (state_at number bytes.host) a.rest a.host a.is_open;
            stands = stands_moved number terminal bytes link stands a.there a.live (no_talk_under_way app link kept_there (has_agreed lu link.host.talk.state agreed_there_now)) (no_refusal_under_way app link kept_there);
            pressed = record { waits_is = refl; first_is = λ waits. refl; cleared_is = refl };
            unnamed = refl;
            stored = subst (λ (p : Place). let display = display_at world p in CanBeSent display.size display.screen) place (world_facts.sendable terminal);
          });
      right = goes.right;
    })
  where
    setup : WorldSetup
    setup = is.begin

    app : Application
    app = application_of setup.panels

    is_app : IsApplication app
    is_app = is_application known.worlds setup is.is_begin

    world : World
    world = after setup is.events

    link : Link
    link = world.link number

    world_facts : Facts world
    world_facts = facts_now known.worlds setup is.events bytes is.is_begin is.reached

    stands : LinkRepresents (link_of number bytes) link
    stands = is.reached.stands.links number

    here : link.host_here ≡ true
    here = sym stands.host_here ∙ ap is_there a.is_open

    same : a.host ≡ link.host
    same = sym (ap conn_of a.is_open) ∙ (stands.host here).host

    place : world.place terminal ≡ Place.At number
    place = (world_facts.agree terminal number).1 (sym stands.term_here ∙ a.there)

    agreed_there_now : agreed_lu link.host.talk.state ≡ Some lu
    agreed_there_now = sym (ap (λ (h : Session). agreed_lu h.talk.state) same) ∙ a.agreed

    kept_there : ConnectionInvariant app (view_of link)
    kept_there =
        (run_good known.worlds.given app is_app is.events (new_world app setup.serves setup.pool setup.models) is.reached.are_events
        (new_good known.worlds.given app is_app setup.serves setup.pool setup.models is.is_begin.pool)).links number

    unheard : may_have_changed link.host.unheard ≡ true
    unheard = sym (ap (λ (h : Session). may_have_changed h.unheard) same) ∙ a.any

    goes : IsMoved app lu link
    goes = connections_are_moved known.worlds.given every rules sending app setup.serves setup.pool setup.models is.events is_app is.is_begin.pool is.is_begin.few is.reached.are_events
        (marked_there served setup is.is_begin is.events number unheard) number lu
        (sym stands.lost ∙ a.live)
        (sym (ap (λ (h : Session). agreed_lu h.talk.state) same) ∙ a.agreed)
        unheard

    t : LinkWithReport
    t = after_moves app goes.moves goes.begin

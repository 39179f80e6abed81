-- A paint finds the screen that the terminal had when the host decided: first over messages, then over bytes.
use Rattle.std.proofs.Common.{◌≡◌, ◌==◌, ◌&&◌, ℕ, Bool, true, false, Option, None, Some, List, [], ◌∷◌, ◌++◌, Result, map, refl, ap, sym, subst, ◌∙◌, if◌then◌else◌}
use Rattle.std.specs.Prelude.{is_some, ⊤}
use Rattle.std.specs.Option.{option_and_then}
use Rattle.std.proofs.lemmas.Bool.{and_parts, eqb-true}
use Rattle.std.proofs.lemmas.List.{append-nil}
use Rattle.codes3270.specs.declared.size.Model.{Model}
use Rattle.datastream.specs.Screen.{Screen}
use Rattle.datastream.specs.Wanted.{WantedScreen}
use Rattle.keyboard.specs.declared.key.Key.{Key}
use Rattle.keyboard.specs.declared.key.Lock.{Lock}
use Rattle.keyboard.specs.declared.key.Lock.TheVariants.{Wait}
use Rattle.codes3270.specs.declared.attention.Aid.TheVariants.{NoAid}
use Rattle.panels.specs.KeptFields.{FieldsAreOnTheScreen}
use Rattle.panels.specs.Panel.{Panels}
use Rattle.panels.specs.Screen.{Values}
use Rattle.panels.specs.declared.message.Message.{Message}
use Rattle.shadow.specs.Belief.{Shadow}
use Rattle.shadow.specs.Painted.{plainly_painted}
use Rattle.telnet_wire.specs.Reading.{Rest}
use Rattle.tn3270e_msg.specs.declared.cause.Cause.{Cause}
use Rattle.tn3270e_msg.specs.Talk.{NegotiationMessage, Talk, follow, says}
use Rattle.tn3270e_msg.specs.declared.host_talk.HostState.{HostState}
use Rattle.tn3270e_msg.specs.declared.host_talk.HostState.TheVariants.{Offered, Asked, Asking, Named, Countered, Agreed, Closed}
use Rattle.tn3270e_msg.specs.HostTable.{host_transition}
use Rattle.tn3270e_msg.specs.declared.reply.Reason.{Reason}
use Rattle.tn3270e_msg.specs.declared.reply.Reply.{Reply}
use Rattle.tn3270e_msg.specs.declared.reply.Reply.TheVariants as reply
use Rattle.host_core.specs.Acts.{Act, Decision, Sent, acted, decided, decision_on, done as done_act, may_act, values_shown, wanted_by, when_shown}
use Rattle.host_core.specs.Application.{Application, IsApplication, application_of}
use Rattle.host_core.specs.Laws.{PanelsAreShown}
use Rattle.host_core.specs.Messages.{ToTerminal, ToHost}
use Rattle.host_core.specs.Notes.{may_note, noted, noted_as}
use Rattle.host_core.specs.Questions.{act_by, answered_by, answered_on, has_its_panel, is_asking, is_ticket, panel_for, ticket_of}
use Rattle.host_core.specs.Rejections.{lu_asked}
use Rattle.host_core.specs.Does.{acted_by}
use Rattle.host_core.specs.Session.{Session, Pending, is_agreed, model_in}
use Rattle.host_core.specs.State.{Service, state_at, session_at}
use Rattle.host_core.specs.Takes.{Answers, asked, talked_on, took as host_took}
use Rattle.host_core.specs.declared.question.Answer.{Answer as ApplicationAnswer}
use Rattle.host_core.specs.declared.question.Ticket.{Ticket}
use Rattle.host_core.specs.declared.turn.Turn.{Turn}
use Rattle.host_core.specs.declared.turn_reason.TurnReason.{TurnReason}
use Rattle.host_core.specs.declared.turn.Turn.TheVariants as whose
use Rattle.world3270.specs.statement.Always.{AlwaysOf}
use Rattle.world3270.specs.model.ByteSteps.{IsStepIf, Steps, is_enabled as is_enabled_over_bytes, is_link as is_byte_link}
use Rattle.world3270.specs.model.ByteWorld.{ByteWorld}
use Rattle.world3270.specs.refinement.LowerLaws.{LowerLaws}
use Rattle.world3270.specs.model.Steps.{done, stepped_by, run}
use Rattle.world3270.specs.model.Link.{Link, host_sent, sent, term_stepped}
use Rattle.world3270.specs.refinement.Phases.{LinkPhase, SessionPhase, NegotiationPhase, down_at, pending_at, talk_down, talk_up, turn_at, up_at}
use Rattle.world3270.specs.model.Enabled.{is_enabled, host_acts, host_is_answered, is_link}
use Rattle.world3270.specs.refinement.Refines.{WorldSetup, GoesOn, IsWorldSetup, IsTicketAt, Reached, SameSkips, StepsAreSimulated, after}
use Rattle.world3270.specs.statement.ScreensFound.{DecisionsAreShownOverBytes, OtherTextsAreNotShown, IsDecidedBy, IsDecisionPainted, IsFound, PaintsFindTheScreen, answer_in, decides_over}
use Rattle.world3270.specs.statement.Observation.{SeenLink, TerminalSeen, end_seen, seen_link, terminal_seen}
use Rattle.world3270.specs.statement.Shown.{HasShown, IsPanelShown, PanelIsShownOverBytes, is_painting}
use Rattle.world3270.specs.statement.Asked.{ShowsItsFields, panel_with_keys}
use Rattle.world3270.specs.statement.Leading.{IsLedTo, IsWhereItLeads}
use Rattle.world3270.specs.statement.ShownFields.{OtherTextsAreNot}
use Rattle.world3270.specs.statement.TurnReasons.{IsOccasion}
use Rattle.world3270.specs.statement.ShownSince.{IsAnswered, IsSamePanel, decides}
use Rattle.world3270.specs.refinement.Invariant.{Fact, ConnectionInvariant, local_state_of}
use Rattle.world3270.specs.model.Terminal.{Display, TermStep, is_bound, key_came, note_came, once_bound, outcome_of, paint_came, read_came, took as term_took}
use Rattle.world3270.specs.refinement.View.{View, view_of}
use Rattle.world3270.specs.model.World.{Event, World, new_world, with_at}
use Rattle.world3270.specs.declared.event.Event.{Event as ByteEvent}
use Rattle.world3270.specs.declared.event.Event.TheVariants as event
use Rattle.world3270.specs.declared.event.Stepped.TheVariants as stepped
use Rattle.world3270.proofs.Acting.{asking_parts, may_act_at, may_act_when}
use Rattle.world3270.proofs.AskedOverBytes.{shows_its_fields}
use Rattle.world3270.proofs.Leading.{Leads, asked_about, leads_now, occasion_now}
use Rattle.world3270.proofs.ShownPanels.{shown_again}
use Rattle.world3270.proofs.Headline.{terminal_attached}
use Rattle.world3270.proofs.HostSteps.{just_talks}
use Rattle.world3270.proofs.Known.{after_more}
use Rattle.world3270.proofs.SeenRepresents.{same_seen}
use Rattle.world3270.proofs.ShownSince.{HasPanel, done_answer, keeps_panel, same_panel, stands_at, still_waits}
use Rattle.world3270.proofs.Undecided.{Keeps, rests_hold, rests_hold_over}
use Rattle.world3270.proofs.Worlds.{new_good, run_good}

-- ---- what is under way

-- talk alone goes down
abbrev pub AreTalk : List ToTerminal → Type 0
AreTalk [] = ⊤
AreTalk (ToTerminal.TalksDown saying ∷ rest) = AreTalk rest
AreTalk (ToTerminal.Paint number wanted over ∷ rest) = ⊥
AreTalk (ToTerminal.ReadBuffer number ∷ rest) = ⊥
AreTalk (ToTerminal.Note number command ∷ rest) = ⊥

-- talk, and a paint of this wanted screen unless it was lost
abbrev HaveAPaint : WantedScreen → List ToTerminal → Type 0
HaveAPaint wants [] = ⊤
HaveAPaint wants (ToTerminal.TalksDown saying ∷ rest) = HaveAPaint wants rest
HaveAPaint wants (ToTerminal.Paint number wanted over ∷ rest) = (wanted ≡ wants) × AreTalk rest
HaveAPaint wants (ToTerminal.ReadBuffer number ∷ rest) = ⊥
HaveAPaint wants (ToTerminal.Note number command ∷ rest) = ⊥

-- anything but a paint
abbrev HaveNoPaint : List ToTerminal → Type 0
HaveNoPaint [] = ⊤
HaveNoPaint (ToTerminal.TalksDown saying ∷ rest) = HaveNoPaint rest
HaveNoPaint (ToTerminal.Paint number wanted over ∷ rest) = ⊥
HaveNoPaint (ToTerminal.ReadBuffer number ∷ rest) = HaveNoPaint rest
HaveNoPaint (ToTerminal.Note number command ∷ rest) = HaveNoPaint rest

-- talk alone comes up
abbrev pub AreTalkUp : List ToHost → Type 0
AreTalkUp [] = ⊤
AreTalkUp (ToHost.TalksUp saying ∷ rest) = AreTalkUp rest
AreTalkUp (ToHost.Data parts ∷ rest) = ⊥
AreTalkUp (ToHost.Response number verdict ∷ rest) = ⊥

pub all_talk : (talk : List NegotiationMessage) → AreTalk (map ToTerminal.TalksDown talk)
all_talk [] = tt
all_talk (saying ∷ talk) = all_talk talk

talk_is_painted : (wants : WantedScreen) (queue : List ToTerminal) → AreTalk queue → HaveAPaint wants queue
talk_is_painted wants [] are = tt
talk_is_painted wants (ToTerminal.TalksDown saying ∷ rest) are = talk_is_painted wants rest are
talk_is_painted wants (ToTerminal.Paint number wanted over ∷ rest) are = absurd are
talk_is_painted wants (ToTerminal.ReadBuffer number ∷ rest) are = absurd are
talk_is_painted wants (ToTerminal.Note number command ∷ rest) are = absurd are

talk_has_none : (queue : List ToTerminal) → AreTalk queue → HaveNoPaint queue
talk_has_none [] are = tt
talk_has_none (ToTerminal.TalksDown saying ∷ rest) are = talk_has_none rest are
talk_has_none (ToTerminal.Paint number wanted over ∷ rest) are = absurd are
talk_has_none (ToTerminal.ReadBuffer number ∷ rest) are = absurd are
talk_has_none (ToTerminal.Note number command ∷ rest) are = absurd are

talk_more : (queue more : List ToTerminal) → AreTalk queue → AreTalk more → AreTalk (queue ++ more)
talk_more [] more are others = others
talk_more (ToTerminal.TalksDown saying ∷ rest) more are others = talk_more rest more are others
talk_more (ToTerminal.Paint number wanted over ∷ rest) more are others = absurd are
talk_more (ToTerminal.ReadBuffer number ∷ rest) more are others = absurd are
talk_more (ToTerminal.Note number command ∷ rest) more are others = absurd are

paint_more : (wants : WantedScreen) (queue more : List ToTerminal) → HaveAPaint wants queue → AreTalk more → HaveAPaint wants (queue ++ more)
paint_more wants [] more have others = talk_is_painted wants more others
paint_more wants (ToTerminal.TalksDown saying ∷ rest) more have others = paint_more wants rest more have others
paint_more wants (ToTerminal.Paint number wanted over ∷ rest) more have others = (have.0, talk_more rest more have.1 others)
paint_more wants (ToTerminal.ReadBuffer number ∷ rest) more have others = absurd have
paint_more wants (ToTerminal.Note number command ∷ rest) more have others = absurd have

-- a paint behind talk
paint_last : (queue : List ToTerminal) (number : ℕ) (wanted : WantedScreen) (over : Shadow) → AreTalk queue → HaveAPaint wanted (queue ++ ToTerminal.Paint number wanted over ∷ [])
paint_last [] number wanted over are = (refl, tt)
paint_last (ToTerminal.TalksDown saying ∷ rest) number wanted over are = paint_last rest number wanted over are
paint_last (ToTerminal.Paint other wants before ∷ rest) number wanted over are = absurd are
paint_last (ToTerminal.ReadBuffer other ∷ rest) number wanted over are = absurd are
paint_last (ToTerminal.Note other command ∷ rest) number wanted over are = absurd are

none_more : (queue more : List ToTerminal) → HaveNoPaint queue → HaveNoPaint more → HaveNoPaint (queue ++ more)
none_more [] more have others = others
none_more (ToTerminal.TalksDown saying ∷ rest) more have others = none_more rest more have others
none_more (ToTerminal.Paint number wanted over ∷ rest) more have others = absurd have
none_more (ToTerminal.ReadBuffer number ∷ rest) more have others = none_more rest more have others
none_more (ToTerminal.Note number command ∷ rest) more have others = none_more rest more have others

front_talk : (queue more : List ToTerminal) → AreTalk (queue ++ more) → AreTalk queue
front_talk [] more are = tt
front_talk (ToTerminal.TalksDown saying ∷ rest) more are = front_talk rest more are
front_talk (ToTerminal.Paint number wanted over ∷ rest) more are = absurd are
front_talk (ToTerminal.ReadBuffer number ∷ rest) more are = absurd are
front_talk (ToTerminal.Note number command ∷ rest) more are = absurd are

up_more : (queue : List ToHost) (talk : List NegotiationMessage) → AreTalkUp queue → AreTalkUp (queue ++ map ToHost.TalksUp talk)
up_more [] [] are = tt
up_more [] (saying ∷ talk) are = up_more [] talk are
up_more (ToHost.TalksUp saying ∷ rest) talk are = up_more rest talk are
up_more (ToHost.Data parts ∷ rest) talk are = absurd are
up_more (ToHost.Response number verdict ∷ rest) talk are = absurd are

up_front : (queue more : List ToHost) → AreTalkUp (queue ++ more) → AreTalkUp queue
up_front [] more are = tt
up_front (ToHost.TalksUp saying ∷ rest) more are = up_front rest more are
up_front (ToHost.Data parts ∷ rest) more are = absurd are
up_front (ToHost.Response number verdict ∷ rest) more are = absurd are

-- what is sent goes on its way, or vanishes
pub if_sent : {X : Type 0} (P : List X → Type 0) (lost : Bool) (queue messages : List X) → P queue → P (queue ++ messages) → P (sent lost queue messages)
if_sent P true queue messages was now = was
if_sent P false queue messages was now = now

nothing_sent : {X : Type 0} (P : List X → Type 0) (lost : Bool) (queue messages : List X) → messages ≡ [] → P queue → P (sent lost queue messages)
nothing_sent P lost queue messages none was =
    if_sent P lost queue messages was (subst (λ (more : List _). P (queue ++ more)) (sym none) (subst P (sym (append-nil queue)) was))

-- ---- from the decision on

-- the paint of this wanted screen is under way, and the screen is this one; or the paint was taken on it
data Finds (was : Screen) (wants : WantedScreen) (display : Display) (pending : Pending) (down : List ToTerminal) (up : List ToHost) : Type 0 where
  awaited : display.keyboard.lock ≡ Wait → display.screen ≡ was → is_painting pending ≡ true → HaveAPaint wants down → AreTalkUp up → Finds was wants display pending down up
  taken : display.before_restored ≡ was → display.last_restored ≡ plainly_painted wants was → HaveNoPaint down → Finds was wants display pending down up

-- the same, of a connection on which the host decided; and its terminal is still there, unless it left
record FindsOn (wants : WantedScreen) (was now : Link) : Type 0 where
  same_terminal : (terminal : ℕ) → now.term_here ≡ Some terminal → was.term_here ≡ Some terminal
  finds : Finds was.term.display.screen wants now.term.display now.host.pending now.down now.up

-- what is said to the talk leaves the command that waits for its answer
asks_pending : (conn : Session) (lu : Option (List ℕ)) (talk : Talk HostState) (answer : Result (List ℕ) Reason) (state : HostState) → (asked conn lu talk answer state).conn.pending ≡ conn.pending
asks_pending conn lu talk answer (Asking device) = refl
asks_pending conn lu talk answer Offered = refl
asks_pending conn lu talk answer Asked = refl
asks_pending conn lu talk answer (Named device granted) = refl
asks_pending conn lu talk answer (Countered device granted) = refl
asks_pending conn lu talk answer (Agreed device granted) = refl
asks_pending conn lu talk answer (Closed cause) = refl

talks_pending : (pool : Answers) (conn : Session) (lu : Option (List ℕ)) (talk : Talk HostState) (answer : Reply) → (talked_on pool conn lu talk answer).conn.pending ≡ conn.pending
talks_pending pool conn lu talk (reply.AskPool name) = asks_pending conn lu talk (pool name) talk.state
talks_pending pool conn lu talk reply.Nothing = refl
talks_pending pool conn lu talk (reply.Opt verb code) = refl
talks_pending pool conn lu talk (reply.Sub sending next) = refl
talks_pending pool conn lu talk reply.Agreed = refl
talks_pending pool conn lu talk (reply.Refused reason) = refl
talks_pending pool conn lu talk (reply.Close cause) = refl

said_pending : (pool : Answers) (conn : Session) (saying : NegotiationMessage) → (host_took pool conn (ToHost.TalksUp saying)).conn.pending ≡ conn.pending
said_pending pool conn saying =
    let next : Talk HostState × Reply = follow Closed conn.talk (host_transition conn.talk.state (says saying)) in
    talks_pending pool conn (lu_asked (says saying)) next.0 next.1

module _ (was : Screen) (wants : WantedScreen) where
  abbrev FindsAt : Link → Type 0
  FindsAt link = Finds was wants link.term.display link.host.pending link.down link.up

  finds_up : (pool : Answers) (link : Link) (message : ToHost) (rest : List ToHost) → link.up ≡ message ∷ rest → FindsAt link
      → let step = host_took pool link.host message in Finds was wants link.term.display step.conn.pending (sent link.lost link.down step.sends) rest
  finds_up pool link message rest is (Finds.taken before painted none) =
      let talks = just_talks pool link.host message in
      let more : List ToTerminal = map ToTerminal.TalksDown talks.talk in
      Finds.taken before painted (if_sent HaveNoPaint link.lost link.down (host_took pool link.host message).sends none
      (subst (λ (m : List ToTerminal). HaveNoPaint (link.down ++ m)) (sym talks.says) (none_more link.down more none (talk_has_none more (all_talk talks.talk)))))
  finds_up pool link (ToHost.TalksUp saying) rest is (Finds.awaited lock screen pends paint up) =
      let talks = just_talks pool link.host (ToHost.TalksUp saying) in
      let more : List ToTerminal = map ToTerminal.TalksDown talks.talk in
      Finds.awaited lock screen (ap is_painting (said_pending pool link.host saying) ∙ pends)
      (if_sent (HaveAPaint wants) link.lost link.down (host_took pool link.host (ToHost.TalksUp saying)).sends paint
      (subst (λ (m : List ToTerminal). HaveAPaint wants (link.down ++ m)) (sym talks.says) (paint_more wants link.down more paint (all_talk talks.talk))))
      (subst AreTalkUp is up)
  finds_up pool link (ToHost.Data parts) rest is (Finds.awaited lock screen pends paint up) = absurd (subst AreTalkUp is up)
  finds_up pool link (ToHost.Response number verdict) rest is (Finds.awaited lock screen pends paint up) = absurd (subst AreTalkUp is up)

  -- a record that the terminal takes, or drops before it is bound
  abbrev FindsStepped : Link → List ToTerminal → TermStep → Type 0
  FindsStepped link rest step = Finds was wants step.end.display link.host.pending rest (sent link.lost link.up step.sends)

  if_bound : (b : Bool) (link : Link) (rest : List ToTerminal) (step : TermStep) → FindsStepped link rest step → Finds was wants link.term.display link.host.pending rest link.up → FindsStepped link rest (once_bound b step link.term)
  if_bound true link rest step takes drops = takes
  if_bound false link rest step takes drops = nothing_sent (λ (up : List ToHost). Finds was wants link.term.display link.host.pending rest up) link.lost link.up [] refl drops

  finds_down : (link : Link) (message : ToTerminal) (rest : List ToTerminal) → link.down ≡ message ∷ rest → FindsAt link → FindsStepped link rest (term_took link.term message)
  finds_down link (ToTerminal.TalksDown saying) rest is (Finds.awaited lock screen pends paint up) =
      Finds.awaited lock screen pends (subst (HaveAPaint wants) is paint) (if_sent AreTalkUp link.lost link.up _ up (up_more link.up _ up))
  finds_down link (ToTerminal.TalksDown saying) rest is (Finds.taken before painted none) = Finds.taken before painted (subst HaveNoPaint is none)
  finds_down link (ToTerminal.Paint number wanted over) rest is (Finds.awaited lock screen pends paint up) =
      let goes : (wanted ≡ wants) × AreTalk rest = subst (HaveAPaint wants) is paint in
      if_bound (is_bound link.term) link rest (paint_came number wanted link.term)
      (Finds.taken screen (ap (λ (w : WantedScreen). plainly_painted w link.term.display.screen) goes.0 ∙ ap (plainly_painted wants) screen) (talk_has_none rest goes.1))
      (Finds.awaited lock screen pends (talk_is_painted wants rest goes.1) up)
  finds_down link (ToTerminal.Paint number wanted over) rest is (Finds.taken before painted none) = absurd (subst HaveNoPaint is none)
  finds_down link (ToTerminal.ReadBuffer number) rest is (Finds.awaited lock screen pends paint up) = absurd (subst (HaveAPaint wants) is paint)
  finds_down link (ToTerminal.ReadBuffer number) rest is (Finds.taken before painted none) =
      if_bound (is_bound link.term) link rest (read_came link.term) (Finds.taken before painted (subst HaveNoPaint is none)) (Finds.taken before painted (subst HaveNoPaint is none))
  finds_down link (ToTerminal.Note number command) rest is (Finds.awaited lock screen pends paint up) = absurd (subst (HaveAPaint wants) is paint)
  finds_down link (ToTerminal.Note number command) rest is (Finds.taken before painted none) =
      if_bound (is_bound link.term) link rest (note_came number command link.term) (Finds.taken before painted (subst HaveNoPaint is none)) (Finds.taken before painted (subst HaveNoPaint is none))

  finds_key : (key : Key) (link : Link) → FindsAt link → FindsAt (term_stepped (key_came key link.term) link.down link)
  finds_key key link (Finds.awaited lock screen pends paint up) =
      let still = still_waits key link.term.display lock in
      Finds.awaited still.lock (still.same ∙ screen) pends paint
      (nothing_sent AreTalkUp link.lost link.up (key_came key link.term).sends (still.silent (is_bound link.term) link.term.display.size (outcome_of key link.term.display).screen) up)
  finds_key key link (Finds.taken before painted none) = Finds.taken before painted none

  -- while a paint waits for its answer no note is sent
  no_note : (turn : Turn) (pending : Pending) (agreed : Bool) → is_painting pending ≡ true → may_note turn pending agreed ≡ false
  no_note whose.Host pending agreed is = refl
  no_note whose.Terminal Pending.Nothing agreed is = absurd (cc)
  no_note whose.Terminal (Pending.Writing number command) agreed is = refl
  no_note whose.Terminal (Pending.Reading number) agreed is = absurd (cc)
  no_note whose.Terminal (Pending.Noting number command) agreed is = absurd (cc)

  finds_notes : (text : List ℕ) (link : Link) → FindsAt link → FindsAt (host_sent (noted text link.host) link)
  finds_notes text link (Finds.awaited lock screen pends paint up) =
      subst (λ (b : Bool). FindsAt (host_sent (if b then Some (noted_as text link.host) else None) link))
      (sym (no_note link.host.turn link.host.pending (is_agreed link.host.talk.state) pends)) (Finds.awaited lock screen pends paint up)
  finds_notes text link (Finds.taken before painted none) = by_test (may_note link.host.turn link.host.pending (is_agreed link.host.talk.state))
    where
      by_test : (b : Bool) → FindsAt (host_sent (if b then Some (noted_as text link.host) else None) link)
      by_test true = Finds.taken before painted (if_sent HaveNoPaint link.lost link.down ((noted_as text link.host).message ∷ []) none (none_more link.down ((noted_as text link.host).message ∷ []) none tt))
      by_test false = Finds.taken before painted none

pub note_stays : (text : List ℕ) (link : Link) → (host_sent (noted text link.host) link).term_here ≡ link.term_here
note_stays text link = by_test (may_note link.host.turn link.host.pending (is_agreed link.host.talk.state))
  where
    by_test : (b : Bool) → (host_sent (if b then Some (noted_as text link.host) else None) link).term_here ≡ link.term_here
    by_test true = refl
    by_test false = refl

keeps_finding : (wants : WantedScreen) (was : Link) → Keeps (FindsOn wants was)
keeps_finding wants was = record {
  up = λ pool link message rest is holds. record { same_terminal = holds.same_terminal; finds = finds_up was.term.display.screen wants pool link message rest is holds.finds };
  down = λ link message rest is holds. record { same_terminal = holds.same_terminal; finds = finds_down was.term.display.screen wants link message rest is holds.finds };
  key = λ key link holds. record { same_terminal = holds.same_terminal; finds = finds_key was.term.display.screen wants key link holds.finds };
  notes = λ text link holds. record {
    same_terminal = λ terminal here. holds.same_terminal terminal (sym (note_stays text link) ∙ here);
    finds = finds_notes was.term.display.screen wants text link holds.finds;
  };
  loses = λ link holds. record { same_terminal = holds.same_terminal; finds = holds.finds };
  host_leaves = λ link holds. record { same_terminal = holds.same_terminal; finds = holds.finds };
  term_leaves = λ link holds. record { same_terminal = λ terminal here. absurd (let wrong : None ≡ Some terminal = here in cc); finds = holds.finds };
}

-- ---- as the host decides

-- the keyboard waits, and only talk is under way
pub record IsQuiet (lock : Lock) (down : List ToTerminal) (up : List ToHost) : Type 0 where
  pub waits : lock ≡ Wait
  pub goes_down : AreTalk down
  pub goes_up : AreTalkUp up

pub talk_is_quiet : (model : Model) (wanted : Option (List ℕ)) (talking : NegotiationPhase) (lock : Lock) → lock ≡ Wait → IsQuiet lock (talk_down model talking) (talk_up model wanted talking)
talk_is_quiet model wanted NegotiationPhase.Offering lock is = record { waits = is; goes_down = tt; goes_up = tt }
talk_is_quiet model wanted NegotiationPhase.Accepting lock is = record { waits = is; goes_down = tt; goes_up = tt }
talk_is_quiet model wanted NegotiationPhase.AskingType lock is = record { waits = is; goes_down = tt; goes_up = tt }
talk_is_quiet model wanted NegotiationPhase.NamingType lock is = record { waits = is; goes_down = tt; goes_up = tt }
talk_is_quiet model wanted (NegotiationPhase.Granting lu) lock is = record { waits = is; goes_down = tt; goes_up = tt }
talk_is_quiet model wanted (NegotiationPhase.AskingFunctions lu) lock is = record { waits = is; goes_down = tt; goes_up = tt }
talk_is_quiet model wanted (NegotiationPhase.Agreeing lu) lock is = record { waits = is; goes_down = tt; goes_up = tt }
talk_is_quiet model wanted (NegotiationPhase.Rejecting reason) lock is = record { waits = is; goes_down = tt; goes_up = tt }
talk_is_quiet model wanted (NegotiationPhase.Rejected reason) lock is = record { waits = is; goes_down = tt; goes_up = tt }

quiet_by : (wanted : Option (List ℕ)) (v : View) (moment : LinkPhase) → Fact wanted (local_state_of v) moment → turn_at moment ≡ whose.Host → pending_at moment ≡ Pending.Nothing
    → IsQuiet v.lock (down_at v.model moment) (up_at v.model wanted moment)
quiet_by wanted v (LinkPhase.Negotiating talking) f t p = talk_is_quiet v.model wanted talking v.lock f.0.lock
quiet_by wanted v (LinkPhase.FirstPaint lu number command wants over) f t p = absurd (cc)
quiet_by wanted v (LinkPhase.InSession lu SessionPhase.Deciding) f t p = record { waits = f.lock; goes_down = tt; goes_up = tt }
quiet_by wanted v (LinkPhase.InSession lu (SessionPhase.Reading number)) f t p = absurd (cc)
quiet_by wanted v (LinkPhase.InSession lu (SessionPhase.BufferReturning number parts)) f t p = absurd (cc)
quiet_by wanted v (LinkPhase.InSession lu (SessionPhase.DecidingNoteSent number command)) f t p = absurd (cc)
quiet_by wanted v (LinkPhase.InSession lu (SessionPhase.DecidingNoteAnswered number command)) f t p = absurd (cc)
quiet_by wanted v (LinkPhase.InSession lu (SessionPhase.Painting number command wants over)) f t p = absurd (cc)
quiet_by wanted v (LinkPhase.InSession lu (SessionPhase.AwaitingWriteResponse kind number command)) f t p = absurd (cc)
quiet_by wanted v (LinkPhase.InSession lu SessionPhase.OperatorTyping) f t p = absurd (cc)
quiet_by wanted v (LinkPhase.InSession lu (SessionPhase.Noting number command)) f t p = absurd (cc)
quiet_by wanted v (LinkPhase.InSession lu (SessionPhase.KeySent parts)) f t p = absurd (cc)
quiet_by wanted v (LinkPhase.InSession lu (SessionPhase.KeySentAfterResponse kind number command parts)) f t p = absurd (cc)
quiet_by wanted v (LinkPhase.InSession lu (SessionPhase.KeyCrossingNote number command parts)) f t p = absurd (cc)
quiet_by wanted v (LinkPhase.InSession lu (SessionPhase.KeyBeforeNoteResponse number command parts)) f t p = absurd (cc)

pub is_quiet : (app : Application) (link : Link) → ConnectionInvariant app (view_of link) → link.host.turn ≡ whose.Host → link.host.pending ≡ Pending.Nothing → IsQuiet link.term.display.keyboard.lock link.down link.up
is_quiet app link k turns pends =
    let at = quiet_by k.wanted (view_of link) k.moment k.fact (sym k.at.turn ∙ turns) (sym k.at.pending ∙ pends) in
    record {
      waits = at.waits;
      goes_down = front_talk link.down k.at.goes_down.vanished (subst AreTalk (sym k.at.goes_down.whole) at.goes_down);
      goes_up = up_front link.up k.at.goes_up.vanished (subst AreTalkUp (sym k.at.goes_up.whole) at.goes_up);
    }

-- what the host sends by a decision, its own or that of this answer
record IsSent (app : Application) (conn : Session) (said : Option ApplicationAnswer) (sending : Sent) : Type 0 where
  act : Act
  decided_by : IsDecidedBy app conn said act
  is : sending ≡ done_act app conn act
  turns : conn.turn ≡ whose.Host
  pends : conn.pending ≡ Pending.Nothing
  agrees : is_agreed conn.talk.state ≡ true

acts_in_turn : (app : Application) (conn : Session) → is_some (acted app conn) ≡ true → (sending : Sent) × (acted app conn ≡ Some sending) × IsSent app conn None sending
acts_in_turn app conn some = by_test (may_act conn.turn conn.pending (is_agreed conn.talk.state)) (decision_on app conn conn.turn_reason) refl refl some
  where
    by_test : (b : Bool) (decision : Decision) → may_act conn.turn conn.pending (is_agreed conn.talk.state) ≡ b → decision_on app conn conn.turn_reason ≡ decision → is_some (option_and_then (decided app conn) (if b then Some decision else None)) ≡ true
        → (sending : Sent) × (option_and_then (decided app conn) (if b then Some decision else None) ≡ Some sending) × IsSent app conn None sending
    by_test true (Decision.Do act) may is some =
        let turns = may_act_when conn.turn conn.pending (is_agreed conn.talk.state) may in
        (done_act app conn act, refl, record { act = act; decided_by = is; is = refl; turns = turns.0; pends = turns.1; agrees = turns.2 })
    by_test true Decision.Asks may is some = absurd (cc)
    by_test false decision may is some = absurd (cc)

answered_in_turn : (app : Application) (conn : Session) (said : ApplicationAnswer) → is_some (answered_on app conn said) ≡ true → (sending : Sent) × (answered_on app conn said ≡ Some sending) × IsSent app conn (Some said) sending
answered_in_turn app conn said some = by_test (is_asking app conn && has_its_panel app said) refl some
  where
    by_test : (b : Bool) → (is_asking app conn && has_its_panel app said) ≡ b → is_some (if b then Some (done_act app conn (act_by app conn said (panel_for app conn said))) else None) ≡ true
        → (sending : Sent) × ((if b then Some (done_act app conn (act_by app conn said (panel_for app conn said))) else None) ≡ Some sending) × IsSent app conn (Some said) sending
    by_test true asks some =
        let parts = asking_parts app conn (and_parts (is_asking app conn) (has_its_panel app said) asks).0 in
        let turns = may_act_when conn.turn conn.pending (is_agreed conn.talk.state) parts.0 in
        (done_act app conn (act_by app conn said (panel_for app conn said)), refl, record { act = act_by app conn said (panel_for app conn said); decided_by = (parts.1, refl); is = refl; turns = turns.0; pends = turns.1; agrees = turns.2 })
    by_test false asks some = absurd (cc)

-- the screen that is wanted by an act that shows a panel
abbrev wanted_of : Application → Session → ℕ → Message → Bool → Values → WantedScreen
wanted_of app conn asked message keep given =
    let panel = app.shown (model_in conn) asked in wanted_by app (when_shown conn) panel message keep (values_shown app panel message given)

-- a decision to show a panel: from then on its paint finds the screen that is there
record Started (app : Application) (said : Option ApplicationAnswer) (was now : Link) : Type 0 where
  asked : ℕ
  message : Message
  keep : Bool
  given : Values
  decided_by : IsDecidedBy app was.host said (Act.Show asked message keep given)
  host_is : now.host ≡ (done_act app was.host (Act.Show asked message keep given)).conn
  turns : was.host.turn ≡ whose.Host
  pends : was.host.pending ≡ Pending.Nothing
  agrees : is_agreed was.host.talk.state ≡ true
  finds : FindsOn (wanted_of app was.host asked message keep given) was now

sent_finds : (app : Application) (link : Link) (said : Option ApplicationAnswer) (sending : Sent) → ConnectionInvariant app (view_of link) → (sent : IsSent app link.host said sending) → is_painting sending.conn.pending ≡ true
    → Started app said link (host_sent (Some sending) link)
sent_finds app link said sending k sent paints = by_act sent.act sent.is sent.decided_by (subst (λ (s : Sent). is_painting s.conn.pending ≡ true) sent.is paints)
  where
    by_act : (act : Act) → sending ≡ done_act app link.host act → IsDecidedBy app link.host said act → is_painting (done_act app link.host act).conn.pending ≡ true → Started app said link (host_sent (Some sending) link)
    by_act Act.Read is decided_by paints = absurd (let wrong : false ≡ true = paints in cc)
    by_act (Act.Show asked message keep given) is decided_by paints =
        let quiet = is_quiet app link k sent.turns sent.pends in
        let shows : Sent = done_act app link.host (Act.Show asked message keep given) in
        let wants : WantedScreen = wanted_of app link.host asked message keep given in
        record {
          asked = asked;
          message = message;
          keep = keep;
          given = given;
          decided_by = decided_by;
          host_is = ap (λ (s : Sent). s.conn) is;
          turns = sent.turns;
          pends = sent.pends;
          agrees = sent.agrees;
          finds = subst (λ (s : Sent). FindsOn wants link (host_sent (Some s) link)) (sym is)
              (record {
                same_terminal = λ terminal here. here;
                finds = Finds.awaited quiet.waits refl paints
                    (if_sent (HaveAPaint wants) link.lost link.down (shows.message ∷ []) (talk_is_painted wants link.down quiet.goes_down) (paint_last link.down _ _ _ quiet.goes_down))
                    quiet.goes_up;
              });
        }

-- ---- one event over messages

-- the connection with this number, after the host decided there
sends_there : (app : Application) (number at : ℕ) (world : World) (new : ℕ → Link) (it : Event) → (number == at) ≡ true → is_enabled app it world ≡ true
    → (done app it world).link ≡ with_at at (new at) world.link → (stepped_by app it world).link number ≡ new number
sends_there app number at world new it same place made =
    ap (λ (b : Bool). (if b then done app it world else world).link number) place
    ∙ ap (λ (links : ℕ → Link). links number) made
    ∙ ap (λ (b : Bool). if b then new at else world.link number) same
    ∙ ap new (sym (eqb-true number at same))

-- the application's answer that an event over messages is
abbrev answer_over : Event → Option ApplicationAnswer
answer_over (Event.Answer number said) = Some said
answer_over it = None

abbrev Starts : Application → ℕ → Event → World → Type 0
Starts app number it world = is_painting ((stepped_by app it world).link number).host.pending ≡ true → Started app (answer_over it) (world.link number) ((stepped_by app it world).link number)

starts : (app : Application) (number : ℕ) (it : Event) (world : World) (what : Option Sent) (sending : Sent) → ConnectionInvariant app (view_of (world.link number)) → what ≡ Some sending → IsSent app (world.link number).host (answer_over it) sending
    → (stepped_by app it world).link number ≡ host_sent what (world.link number) → Starts app number it world
starts app number it world what sending k some is made paints =
    let now : (stepped_by app it world).link number ≡ host_sent (Some sending) (world.link number) = made ∙ ap (λ (w : Option Sent). host_sent w (world.link number)) some in
    subst (Started app (answer_over it) (world.link number)) (sym now) (sent_finds app (world.link number) (answer_over it) sending k is (subst (λ (l : Link). is_painting l.host.pending ≡ true) now paints))

decision_starts : (app : Application) (number : ℕ) (it : Event) (world : World) → ConnectionInvariant app (view_of (world.link number)) → decides_over number it ≡ true → is_enabled app it world ≡ true → Starts app number it world
decision_starts app number (Event.Act at) world k same place =
    let acts = subst (λ (n : ℕ). is_some (acted app (world.link n).host) ≡ true) (sym (eqb-true number at same)) (and_parts (world.link at).host_here (is_some (acted app (world.link at).host)) (and_parts (is_link at) (host_acts app (world.link at)) place).1).1 in
    let went = acts_in_turn app (world.link number).host acts in
    starts app number (Event.Act at) world (acted app (world.link number).host) went.0 k went.1 went.2
    (sends_there app number at world (λ (n : ℕ). host_sent (acted app (world.link n).host) (world.link n)) (Event.Act at) same place refl)
decision_starts app number (Event.Answer at said) world k same place =
    let answers = subst (λ (n : ℕ). is_some (answered_on app (world.link n).host said) ≡ true) (sym (eqb-true number at same)) (and_parts (world.link at).host_here (is_some (answered_on app (world.link at).host said)) (and_parts (is_link at) (host_is_answered app said (world.link at)) place).1).1 in
    let went = answered_in_turn app (world.link number).host said answers in
    starts app number (Event.Answer at said) world (answered_on app (world.link number).host said) went.0 k went.1 went.2
    (sends_there app number at world (λ (n : ℕ). host_sent (answered_on app (world.link n).host said) (world.link n)) (Event.Answer at said) same place refl)
decision_starts app number (Event.Press terminal key) world k same place = absurd (cc)
decision_starts app number (Event.Up at) world k same place = absurd (cc)
decision_starts app number (Event.Down at) world k same place = absurd (cc)
decision_starts app number (Event.Note at text) world k same place = absurd (cc)
decision_starts app number (Event.Lose at) world k same place = absurd (cc)
decision_starts app number (Event.HostSees at) world k same place = absurd (cc)
decision_starts app number (Event.TermSees terminal) world k same place = absurd (cc)
decision_starts app number (Event.Connect terminal wanted) world k same place = absurd (cc)
decision_starts app number (Event.RestartTerm terminal) world k same place = absurd (cc)
decision_starts app number Event.RestartHost world k same place = absurd (cc)

-- what is seen of the terminal then, and once the paint is answered
record Found (wants : WantedScreen) (was now : Link) (terminal : TerminalSeen) : Type 0 where
  earlier : TerminalSeen
  there : (seen_link was).terminal ≡ Some earlier
  found : IsFound earlier terminal
  painted : terminal.last_restored ≡ plainly_painted wants earlier.screen

found_there : (wants : WantedScreen) (was now : Link) (terminal : TerminalSeen) → FindsOn wants was now → is_painting now.host.pending ≡ false → (seen_link now).terminal ≡ Some terminal → Found wants was now terminal
found_there wants was now terminal holds answered seen =
    let there = terminal_attached now.term_here now.term terminal seen in
    let here : was.term_here ≡ Some there.0 = holds.same_terminal there.0 there.1 in
    let took = by_stage holds.finds in
    record {
      earlier = end_seen there.0 was.term;
      there = ap (λ (h : Option ℕ). terminal_seen h was.term) here;
      found = record {
        same_terminal = ap (λ (t : TerminalSeen). t.number) there.2;
        same_screen = ap (λ (t : TerminalSeen). t.before_restored) there.2 ∙ took.0;
      };
      painted = ap (λ (t : TerminalSeen). t.last_restored) there.2 ∙ took.1;
    }
  where
    by_stage : Finds was.term.display.screen wants now.term.display now.host.pending now.down now.up
        → (now.term.display.before_restored ≡ was.term.display.screen) × (now.term.display.last_restored ≡ plainly_painted wants was.term.display.screen)
    by_stage (Finds.awaited lock screen pends paint up) = absurd (let wrong = sym pends ∙ answered in cc)
    by_stage (Finds.taken before painted none) = (before, painted)

pub paints_find : LowerLaws → AlwaysOf PaintsFindTheScreen
paints_find given app serves pool models events is lists few are number it more terminal decides place paints rests answered seen =
    let world : World = run app events (new_world app serves pool models) in
    let g = run_good given app is events (new_world app serves pool models) are (new_good given app is serves pool models lists) in
    let started = decision_starts app number it world (g.links number) decides place paints in
    let wants : WantedScreen = wanted_of app (world.link number).host started.asked started.message started.keep started.given in
    let now = rests_hold_over app (FindsOn wants (world.link number)) (keeps_finding wants (world.link number)) number more (stepped_by app it world) rests started.finds in
    let found = found_there wants (world.link number) ((run app more (stepped_by app it world)).link number) terminal now answered seen in
    (found.earlier, found.there, found.found)

-- ---- over bytes

-- the ticket of an answer that is taken is that of the open question
its_ticket : (app : Application) (session : ℕ) (ticket : Ticket) (said : ApplicationAnswer) (service : Service) → is_some (answered_by app session ticket said service) ≡ true → IsTicketAt ticket session service
its_ticket app session ticket said Service.Free some = tt
its_ticket app session ticket said (Service.Open rest conn) some = by_ticket (is_ticket ticket (ticket_of session conn)) refl some
  where
    by_ticket : (b : Bool) → is_ticket ticket (ticket_of session conn) ≡ b → is_some (if b then answered_on app conn said else None) ≡ true → is_ticket ticket (ticket_of session conn) ≡ true
    by_ticket true is some = is
    by_ticket false is some = absurd (cc)
its_ticket app session ticket said (Service.Closed cause) some = tt

done_has_place : (it : ByteEvent) (old new : ByteWorld) → Steps it old stepped.Done new → is_enabled_over_bytes it old ≡ true
done_has_place it old new steps = by_place (is_enabled_over_bytes it old) refl steps
  where
    by_place : (b : Bool) → is_enabled_over_bytes it old ≡ b → IsStepIf b it old stepped.Done new → is_enabled_over_bytes it old ≡ true
    by_place true is steps = is
    by_place false is skipped = absurd (let wrong = skipped.0 in cc)

-- a decision over bytes is one over messages
record IsOneDecision (app : Application) (number : ℕ) (world : World) (said : Option ApplicationAnswer) (more : List Event) : Type 0 where
  it : Event
  decides_there : decides_over number it ≡ true
  answers : answer_over it ≡ said
  place : is_enabled app it world ≡ true
  one : more ≡ it ∷ []

module _ (skips : SameSkips) (begin : WorldSetup) (is : IsWorldSetup begin) (events : List Event) (number : ℕ) (old new : ByteWorld) (reached : Reached begin events old) where
  one_decision : (it : ByteEvent) → decides number it ≡ true → Steps it old stepped.Done new → (goes : GoesOn begin events it old stepped.Done new)
      → IsOneDecision (application_of begin.panels) number (after begin events) (answer_in it) goes.more
  one_decision (event.Act at) there steps goes = record {
    it = Event.Act at;
    decides_there = there;
    answers = refl;
    place = sym (skips begin events (event.Act at) old is reached tt) ∙ done_has_place (event.Act at) old new steps;
    one = goes.comes_to;
  }
  one_decision (event.Answer at ticket said) there steps goes =
      let place = done_has_place (event.Answer at ticket said) old new steps in
      let its = its_ticket (application_of old.host.panels) (session_at at old.host) ticket said (state_at at old.host)
      (and_parts (is_byte_link at) (is_some (answered_by (application_of old.host.panels) (session_at at old.host) ticket said (state_at at old.host))) place).1 in
      record { it = Event.Answer at said; decides_there = there; answers = refl; place = sym (skips begin events (event.Answer at ticket said) old is reached its) ∙ place; one = goes.comes_to }
  one_decision (event.Key terminal key) there steps goes = absurd (cc)
  one_decision (event.Up at count) there steps goes = absurd (cc)
  one_decision (event.Down at count) there steps goes = absurd (cc)
  one_decision (event.Note at text) there steps goes = absurd (cc)
  one_decision (event.KeepAlive at) there steps goes = absurd (cc)
  one_decision (event.Lose at) there steps goes = absurd (cc)
  one_decision (event.HostSees at) there steps goes = absurd (cc)
  one_decision (event.TermSees terminal) there steps goes = absurd (cc)
  one_decision (event.Connect terminal wanted) there steps goes = absurd (cc)
  one_decision (event.RestartTerm terminal) there steps goes = absurd (cc)
  one_decision event.RestartHost there steps goes = absurd (cc)

-- what was decided is where the key leads, and what the host shows, as long as it has the panel, the values and the message of then
started_leads : LowerLaws → (app : Application) → IsApplication app → ShowsItsFields app → ((model : Model) (panel : ℕ) → app.shown model (app.shown model panel) ≡ app.shown model panel) → (was now : Link) → ConnectionInvariant app (view_of was)
    → (host : Session) (said : Option ApplicationAnswer) → (started : Started app said was now) → IsSamePanel now.host host → IsWhereItLeads app was.host was.term.display.screen host started.keep said
started_leads given app is shows again was now k host None started same =
    let may = may_act_at given app is was k started.turns started.pends started.agrees in
    let leads = subst (Leads app was.host was.term.display.screen (panel_with_keys app was.host was.term.display.screen.aid)) started.decided_by (leads_now given app is shows again was k may) in
    let led : IsLedTo app (model_in was.host) (panel_with_keys app was.host was.term.display.screen.aid) was.term.display.screen (app.shown (model_in was.host) started.asked) started.message started.keep = leads in
    subst (λ (m : Message). IsLedTo app (model_in was.host) (panel_with_keys app was.host was.term.display.screen.aid) was.term.display.screen host.panel m started.keep) (sym (same.message ∙ ap (λ (c : Session). c.message) started.host_is))
    (subst (λ (p : ℕ). IsLedTo app (model_in was.host) (panel_with_keys app was.host was.term.display.screen.aid) was.term.display.screen p started.message started.keep) (sym (same.panel ∙ ap (λ (c : Session). c.panel) started.host_is)) led)
started_leads given app is shows again was now k host (Some said) started same =
    let may = may_act_at given app is was k started.turns started.pends started.agrees in
    let answered : IsAnswered app was.host said now.host =
    subst (IsAnswered app was.host said) (sym (started.host_is ∙ ap (λ (act : Act). (done_act app was.host act).conn) started.decided_by.1)) (done_answer app was.host said (panel_for app was.host said) refl) in (
      asked_about app was.host was.term.display.screen (panel_with_keys app was.host was.term.display.screen.aid) (decision_on app was.host was.host.turn_reason) started.decided_by.0 (leads_now given app is shows again was k may),
      record { panel = same.panel ∙ answered.panel; values = same.values ∙ answered.values; message = same.message ∙ answered.message },
    )

-- a panel was shown before the key was pressed
started_on : LowerLaws → (app : Application) → IsApplication app → ShowsItsFields app → ((model : Model) (panel : ℕ) → app.shown model (app.shown model panel) ≡ app.shown model panel) → (was now : Link) → ConnectionInvariant app (view_of was)
    → (said : Option ApplicationAnswer) → Started app said was now → (was.term.display.screen.aid ≡ NoAid → ⊥) → HasShown was.host
started_on given app is shows again was now k said started pressed = record {
  answered = ap is_painting started.pends;
  not_first = λ turn first. pressed (subst (λ (r : TurnReason). IsOccasion r was.term.display.screen.aid) first
      (occasion_now given app is shows again was k (may_act_at given app is was k started.turns started.pends started.agrees)));
}

decision_painted : (app : Application) (said : Option ApplicationAnswer) (was now : Link) (host : Session) (before screen : Screen) → (started : Started app said was now) → IsSamePanel now.host host
    → screen ≡ plainly_painted (wanted_of app was.host started.asked started.message started.keep started.given) before → before ≡ was.term.display.screen → IsWhereItLeads app was.host was.term.display.screen host started.keep said
    → IsDecisionPainted app was.host said host before screen
decision_painted app said was now host before screen started same painted before_is leads =
    let panel_is : host.panel ≡ app.shown (model_in was.host) started.asked = same.panel ∙ ap (λ (c : Session). c.panel) started.host_is in
    let message_is : host.message ≡ started.message = same.message ∙ ap (λ (c : Session). c.message) started.host_is in
    let values_are : host.values ≡ values_shown app (app.shown (model_in was.host) started.asked) started.message started.given = same.values ∙ ap (λ (c : Session). c.values) started.host_is in
    record {
      asked = started.asked;
      keep = started.keep;
      given = started.given;
      decided = subst (λ (m : Message). IsDecidedBy app was.host said (Act.Show started.asked m started.keep started.given)) (sym message_is) started.decided_by;
      panel_is = panel_is;
      values_are = values_are ∙ ap (λ (p : ℕ). values_shown app p started.message started.given) (sym panel_is) ∙ ap (λ (m : Message). values_shown app host.panel m started.given) (sym message_is);
      painted = painted
          ∙ ap (λ (p : ℕ). plainly_painted (wanted_by app (when_shown was.host) p started.message started.keep (values_shown app (app.shown (model_in was.host) started.asked) started.message started.given)) before) (sym panel_is)
          ∙ ap (λ (m : Message). plainly_painted (wanted_by app (when_shown was.host) host.panel m started.keep (values_shown app (app.shown (model_in was.host) started.asked) started.message started.given)) before) (sym message_is)
          ∙ ap (λ (v : Values). plainly_painted (wanted_by app (when_shown was.host) host.panel host.message started.keep v) before) (sym values_are);
      leads = subst (λ (s : Screen). IsWhereItLeads app was.host s host started.keep said) (sym before_is) leads;
    }

-- a connection on which the host decides is open
open_before : (it : ByteEvent) (number : ℕ) (old new : ByteWorld) → decides number it ≡ true → Steps it old stepped.Done new → (rest : Rest) × (conn : Session) × (state_at number old.host ≡ Service.Open rest conn)
open_before it number old new there steps = by_event it there (done_has_place it old new steps)
  where
    by_state : (service : Service) (some : Service → Bool) → some Service.Free ≡ false → ((cause : Cause) → some (Service.Closed cause) ≡ false) → some service ≡ true → (rest : Rest) × (conn : Session) × (service ≡ Service.Open rest conn)
    by_state Service.Free some free closed is = absurd (let wrong = sym free ∙ is in cc)
    by_state (Service.Open rest conn) some free closed is = (rest, conn, refl)
    by_state (Service.Closed cause) some free closed is = absurd (let wrong = sym (closed cause) ∙ is in cc)

    by_event : (it : ByteEvent) → decides number it ≡ true → is_enabled_over_bytes it old ≡ true → (rest : Rest) × (conn : Session) × (state_at number old.host ≡ Service.Open rest conn)
    by_event (event.Act at) there place =
        by_state (state_at number old.host) (λ (s : Service). is_some (acted_by (application_of old.host.panels) s)) refl (λ cause. refl)
        (subst (λ (n : ℕ). is_some (acted_by (application_of old.host.panels) (state_at n old.host)) ≡ true) (sym (eqb-true number at there)) (and_parts (is_byte_link at) (is_some (acted_by (application_of old.host.panels) (state_at at old.host))) place).1)
    by_event (event.Answer at ticket said) there place =
        by_state (state_at number old.host) (λ (s : Service). is_some (answered_by (application_of old.host.panels) (session_at at old.host) ticket said s)) refl (λ cause. refl)
        (subst (λ (n : ℕ). is_some (answered_by (application_of old.host.panels) (session_at at old.host) ticket said (state_at n old.host)) ≡ true) (sym (eqb-true number at there))
        (and_parts (is_byte_link at) (is_some (answered_by (application_of old.host.panels) (session_at at old.host) ticket said (state_at at old.host))) place).1)
    by_event (event.Key terminal key) there place = absurd (cc)
    by_event (event.Up at count) there place = absurd (cc)
    by_event (event.Down at count) there place = absurd (cc)
    by_event (event.Note at text) there place = absurd (cc)
    by_event (event.KeepAlive at) there place = absurd (cc)
    by_event (event.Lose at) there place = absurd (cc)
    by_event (event.HostSees at) there place = absurd (cc)
    by_event (event.TermSees terminal) there place = absurd (cc)
    by_event (event.Connect terminal wanted) there place = absurd (cc)
    by_event (event.RestartTerm terminal) there place = absurd (cc)
    by_event event.RestartHost there place = absurd (cc)

pub decisions_are_shown : LowerLaws → PanelsAreShown → FieldsAreOnTheScreen → StepsAreSimulated → SameSkips → PanelIsShownOverBytes → DecisionsAreShownOverBytes
decisions_are_shown given panels on_screen go skips shown world number it events before chosen rest behind conn host terminal is real are there steps rests chosen_is paints world_is has terminal_is =
    let begin : WorldSetup = is.begin in
    let app : Application = application_of begin.panels in
    let is_app : IsApplication app = panels begin.panels is.is_begin.panels.otherwise is.is_begin.panels.laid_out is.is_begin.panels.apart in
    let shows : ShowsItsFields app = shows_its_fields on_screen begin.panels is.is_begin.panels in
    let again = shown_again begin.panels is.is_begin.panels.otherwise in
    let was : World = after begin is.events in
    let good = run_good given app is_app is.events (new_world app begin.serves begin.pool begin.models) is.reached.are_events (new_good given app is_app begin.serves begin.pool begin.models is.is_begin.pool) in
    let goes = go begin is.events it before stepped.Done chosen is.is_begin is.reached real steps in
    let one = one_decision skips begin is.is_begin is.events number before chosen is.reached it there steps goes in
    let next : after begin (is.events ++ goes.more) ≡ stepped_by app one.it was = after_more begin is.events goes.more ∙ ap (λ (more : List Event). run app more was) one.one in
    let first = stands_at begin (is.events ++ goes.more) chosen number rest conn goes.reached chosen_is in
    let conn_is : conn ≡ ((stepped_by app one.it was).link number).host = first.same ∙ ap (λ (w : World). (w.link number).host) next in
    let started = decision_starts app number one.it was (good.links number) one.decides_there one.place (ap (λ (c : Session). is_painting c.pending) (sym conn_is) ∙ paints) in
    let wants : WantedScreen = wanted_of app (was.link number).host started.asked started.message started.keep started.given in
    let now = rests_hold go skips begin is.is_begin (FindsOn wants (was.link number)) (keeps_finding wants (was.link number)) number events chosen world are rests
    (record { events = is.events ++ goes.more; reached = goes.reached; holds = subst (λ (w : World). FindsOn wants (was.link number) (w.link number)) (sym next) started.finds }) in
    let last = stands_at begin now.events world number behind host now.reached world_is in
    let panel = rests_hold go skips begin is.is_begin (HasPanel conn) (keeps_panel conn) number events chosen world are rests
    (record { events = is.events ++ goes.more; reached = goes.reached; holds = subst (IsSamePanel conn) first.same (same_panel conn) }) in
    let same : IsSamePanel conn host = subst (IsSamePanel conn) (sym (stands_at begin panel.events world number behind host panel.reached world_is).same) panel.holds in
    let seen_now = sym (ap (λ (l : SeenLink). l.terminal) (same_seen world (after begin now.events) now.reached.stands number)) ∙ terminal_is in
    let found = found_there wants (was.link number) ((after begin now.events).link number) terminal now.holds (ap (λ (c : Session). is_painting c.pending) (sym last.same) ∙ has.answered) seen_now in
    let asks = open_before it number before chosen there steps in
    let earlier = stands_at begin is.events before number asks.0 asks.1 is.reached asks.2 in
    let same_then : IsSamePanel ((stepped_by app one.it was).link number).host host = subst (λ (c : Session). IsSamePanel c host) conn_is same in
    let seen_before = ap (λ (l : SeenLink). l.terminal) (same_seen before was is.reached.stands number) ∙ found.there in
    let screen_is : found.earlier.screen ≡ (was.link number).term.display.screen = ap (λ (t : TerminalSeen). t.screen) (terminal_attached (was.link number).term_here (was.link number).term found.earlier found.there).2 in (
      found.earlier,
      seen_before,
      record {
        rest = asks.0;
        conn = asks.1;
        is_open = asks.2;
        found = found.found;
        pressed_on = λ pressed.
            subst (λ (p : Panels). IsPanelShown (application_of p) true asks.1 found.earlier.before_restored found.earlier.last_restored) (is.reached.panels ∙ sym now.reached.panels)
            (shown before is number asks.0 asks.1 found.earlier asks.2 seen_before
            (subst HasShown (sym earlier.same)
            (started_on given app is_app shows again (was.link number) ((stepped_by app one.it was).link number) (good.links number) (answer_over one.it) started (λ none. pressed (ap (λ (s : Screen). s.aid) screen_is ∙ none)))));
        decision = subst (λ (p : Panels). IsDecisionPainted (application_of p) asks.1 (answer_in it) host found.earlier.screen terminal.last_restored) (sym now.reached.panels)
            (subst (λ (c : Session). IsDecisionPainted app c (answer_in it) host found.earlier.screen terminal.last_restored) (sym earlier.same)
            (subst (λ (said : Option ApplicationAnswer). IsDecisionPainted app (was.link number).host said host found.earlier.screen terminal.last_restored) one.answers
            (decision_painted app (answer_over one.it) (was.link number) ((stepped_by app one.it was).link number) host found.earlier.screen terminal.last_restored started same_then found.painted screen_is
            (started_leads given app is_app shows again (was.link number) ((stepped_by app one.it was).link number) (good.links number) host (answer_over one.it) started same_then))));
        shown = subst (λ (s : Screen). IsPanelShown (application_of world.host.panels) true host s terminal.last_restored) found.found.same_screen
            (shown world (record { begin = begin; is_begin = is.is_begin; events = now.events; reached = now.reached }) number behind host terminal world_is terminal_is has);
      },
    )

pub others_are_not_shown : OtherTextsAreNot → OtherTextsAreNotShown
others_are_not_shown others app it service host was terminal index field attribute text at shows differs before is =
    others true (app.fields host.panel) host.values host.message was.screen terminal.last_restored index field attribute text at shows differs before is.shown.fields

-- Just after agreement a connection of a world is a begin of `EveryTerminalOverBytes`: until a panel is shown both ends are as at the begin.
use Rattle.std.proofs.Common.{◌≡◌, ◌⊎◌, inl, inr, ◌<◌, ◌≤◌, ◌&&◌, not, append-nil, length, ℕ, Bool, true, false, Option, None, Some, Result, List, [], ◌∷◌, ◌++◌, refl, ap, sym, subst, ◌∙◌, if◌then◌else◌}
use Rattle.std.specs.Prelude.{⊤}
use Rattle.std.specs.Option.{option_and_then}
use Rattle.std.proofs.lemmas.Bool.{cases_lt}
use Rattle.std.proofs.lemmas.List.{get_or_past}
use Rattle.std.specs.List.{AllByRecursion}
use Rattle.std.proofs.lemmas.Option.{same_Some}
use Rattle.codes3270.specs.declared.size.Model.{Model}
use Rattle.datastream.specs.InboundFields.{IsSendable}
use Rattle.datastream.specs.Screen.{Screen}
use Rattle.keyboard.specs.State.{Keyboard}
use Rattle.keyboard.specs.declared.key.Key.{Key}
use Rattle.keyboard.specs.declared.key.Lock.TheVariants.{Wait}
use Rattle.lu_pool.specs.HolderLaws.{IsSound as IsSoundPool}
use Rattle.panels.specs.Panel.{Panels}
use Rattle.shadow.specs.Pairs.{Pairwise}
use Rattle.telnet_wire.specs.Items.{WireItem}
use Rattle.telnet_wire.specs.Reading.{Rest}
use Rattle.tn3270e_msg.specs.Device.{model_of}
use Rattle.tn3270e_msg.specs.HostTable.{host_transition}
use Rattle.tn3270e_msg.specs.Talk.{NegotiationMessage, Talk, follow, says}
use Rattle.tn3270e_msg.specs.declared.cause.Cause.{Cause}
use Rattle.tn3270e_msg.specs.declared.device.Device.{Device}
use Rattle.tn3270e_msg.specs.declared.host_talk.HostState.{HostState}
use Rattle.tn3270e_msg.specs.declared.host_talk.HostState.TheVariants.{Offered, Asked, Asking, Named, Countered, Agreed, Closed}
use Rattle.tn3270e_msg.specs.declared.reply.OwnedMessage.TheVariants.{FunIs}
use Rattle.tn3270e_msg.specs.declared.reply.Reason.{Reason}
use Rattle.tn3270e_msg.specs.declared.reply.Reply.{Reply}
use Rattle.tn3270e_msg.specs.declared.reply.Reply.TheVariants as reply
use Rattle.tn3270e_msg.specs.declared.term_talk.TermState.TheVariants.{FunctionsAsked, Agreed as BoundTo}
use Rattle.host_core.specs.Acts.{Act, Decision, acted, decided, decision_on, done as done_act, may_act}
use Rattle.host_core.specs.Application.{Application, IsApplication, application_of}
use Rattle.host_core.specs.Feeds.{IsOpen}
use Rattle.host_core.specs.Laws.{MarksInput, PanelsAreShown, ServedIsMarked}
use Rattle.host_core.specs.Messages.{ToHost, ToTerminal}
use Rattle.host_core.specs.Notes.{may_note, noted, noted_as}
use Rattle.host_core.specs.Questions.{act_by, answered_on, has_its_panel, is_asking, panel_for}
use Rattle.host_core.specs.Rejections.{lu_asked}
use Rattle.host_core.specs.Session.{Pending, Session, agreed_lu, is_agreed, new_conn, unheard_of}
use Rattle.host_core.specs.State.{Connection, Host, Service, most_connections, state_at, unused}
use Rattle.host_core.specs.Takes.{Answers, HostStep, asked, data_came, may_have_changed, once_agreed, response_came, talked_on, took as host_took}
use Rattle.host_core.specs.declared.question.Answer.{Answer as ApplicationAnswer}
use Rattle.host_core.specs.declared.terminals.Terminals.{Terminals}
use Rattle.host_core.specs.declared.turn.Turn.{Turn}
use Rattle.host_core.specs.declared.turn.Turn.TheVariants as whose
use Rattle.host_core.specs.declared.turn_reason.TurnReason.TheVariants as turn_reasons
use Rattle.host_core.specs.declared.unheard.Unheard.TheVariants.{Input}
use Rattle.world3270.specs.model.ByteSteps.{is_lost}
use Rattle.world3270.proofs.HostItems.{stands_read}
use Rattle.world3270.specs.model.ByteWorld.{Transit, host_out, is_live, is_there, slot_at, transits_at, under_way, ByteWorld, terminal_at}
use Rattle.world3270.specs.model.Link.{Link, host_left_if, host_sent, sent, term_stepped}
use Rattle.world3270.specs.model.Terminal.{Display, after_key, key_came, new_display, took as term_took}
use Rattle.world3270.specs.model.World.{World, new_world}
use Rattle.world3270.specs.refinement.Invariant.{ConnectionInvariant}
use Rattle.world3270.specs.refinement.LowerLaws.{LowerLaws}
use Rattle.world3270.specs.refinement.Phases.{IsAgreed, IsInFlight}
use Rattle.world3270.specs.refinement.Readings.{IsReadAs}
use Rattle.world3270.specs.refinement.Refines.{IsReached, WorldSetup, after}
use Rattle.world3270.specs.refinement.Representation.{conn_of, link_of, link_with}
use Rattle.world3270.specs.refinement.Represents.{BytesDown, LinkRepresents, RepresentsUp, TermRepresents, LinkRepresentsBy}
use Rattle.world3270.specs.refinement.Ignored.{is_ignored_by_terminal, without_ignored}
use Rattle.world3270.specs.refinement.View.{View, view_of}
use Rattle.world3270.specs.statement.EveryTerminal.{FirstPaint, LinkWithReport}
use Rattle.world3270.specs.statement.EveryTerminalBytes.{BeginsOverBytes, IsHost, Represents, link_over}
use Rattle.world3270.specs.statement.Instances.{IsAgreedOn, WorldsBeginOverBytes, over_bytes}
use Rattle.world3270.specs.statement.Rules.{Binds}
use Rattle.world3270.proofs.Acting.{MayAct, may_act_at, reads_later}
use Rattle.world3270.proofs.AnyTerminal.{pairs_become}
use Rattle.world3270.proofs.Down.{term_view}
use Rattle.world3270.proofs.Everywhere.{Steps, everywhere}
use Rattle.world3270.proofs.HeardTurns.{goes_on}
use Rattle.world3270.proofs.HostSteps.{just_talks}
use Rattle.world3270.proofs.Keys.{key_waits}
use Rattle.world3270.proofs.ScreensFound.{AreTalk, AreTalkUp, IsQuiet, is_quiet}
use Rattle.world3270.proofs.Relying.{marked_there}
use Rattle.world3270.proofs.AnyIgnored.{IsNoRefusal, IsNoTalk, all_heard, any_down, no_refusal_under_way, no_talk_under_way}
use Rattle.world3270.proofs.Sendable.{blank_sendable}
use Rattle.world3270.proofs.Simulation.{has_agreed}
use Rattle.world3270.proofs.TalkStates.{agreed_on}
use Rattle.world3270.proofs.Worlds.{GoodWorld, new_good, run_good}

-- ---- until a panel is shown

-- both ends are as at the begin of a connection, but for the negotiation and the keyboard
pub record IsFresh (app : Application) (host : Session) (display : Display) : Type 0 where
  pub serves : Terminals
  pub host_is : host ≡ record (new_conn serves app) { talk = host.talk }
  pub display_is : display ≡ record (new_display display.model app.begins) { keyboard = display.keyboard }

-- a panel was shown, or a key was pressed
abbrev IsPast : Session → Type 0
IsPast host = host.turn ≡ whose.Host → host.turn_reason ≡ turn_reasons.Agreement → ⊥

abbrev IsFreshOrPast : Application → Link → Type 0
IsFreshOrPast app link = IsFresh app link.host link.term.display ⊎ IsPast link.host

module _ (app : Application) where
  pub fresh_turn : (host : Session) (display : Display) → IsFresh app host display → host.turn ≡ whose.Host
  fresh_turn host display f = ap (λ (h : Session). h.turn) f.host_is

  pub fresh_pending : (host : Session) (display : Display) → IsFresh app host display → host.pending ≡ Pending.Nothing
  fresh_pending host display f = ap (λ (h : Session). h.pending) f.host_is

  pub fresh_reason : (host : Session) (display : Display) → IsFresh app host display → host.turn_reason ≡ turn_reasons.Agreement
  fresh_reason host display f = ap (λ (h : Session). h.turn_reason) f.host_is

  -- another state of the negotiation, another keyboard
  talks_fresh : (host : Session) (display : Display) (talk : Talk HostState) → IsFresh app host display → IsFresh app (record host { talk = talk }) display
  talks_fresh host display talk f = record { serves = f.serves; host_is = ap (λ (h : Session). record h { talk = talk }) f.host_is; display_is = f.display_is }

  pub same_fresh : (host new : Session) (display : Display) → new ≡ record host { talk = new.talk } → IsFresh app host display → IsFresh app new display
  same_fresh host new display same f = subst (λ (h : Session). IsFresh app h display) (sym same) (talks_fresh host display new.talk f)

  same_past : (host new : Session) → new ≡ record host { talk = new.talk } → IsPast host → IsPast new
  same_past host new same past turn reason = past (sym (ap (λ (h : Session). h.turn) same) ∙ turn) (sym (ap (λ (h : Session). h.turn_reason) same) ∙ reason)

  same_either : (host new : Session) (display : Display) → new ≡ record host { talk = new.talk } → IsFresh app host display ⊎ IsPast host → IsFresh app new display ⊎ IsPast new
  same_either host new display same (inl f) = inl (same_fresh host new display same f)
  same_either host new display same (inr past) = inr (same_past host new same past)

-- what is said to the talk changes it alone
asks_talk : (conn : Session) (lu : Option (List ℕ)) (talk : Talk HostState) (answer : Result (List ℕ) Reason) (state : HostState) → (asked conn lu talk answer state).conn ≡ record conn { talk = (asked conn lu talk answer state).conn.talk }
asks_talk conn lu talk answer (Asking device) = refl
asks_talk conn lu talk answer Offered = refl
asks_talk conn lu talk answer Asked = refl
asks_talk conn lu talk answer (Named device granted) = refl
asks_talk conn lu talk answer (Countered device granted) = refl
asks_talk conn lu talk answer (Agreed device granted) = refl
asks_talk conn lu talk answer (Closed cause) = refl

replies_talk : (pool : Answers) (conn : Session) (lu : Option (List ℕ)) (talk : Talk HostState) (answer : Reply) → (talked_on pool conn lu talk answer).conn ≡ record conn { talk = (talked_on pool conn lu talk answer).conn.talk }
replies_talk pool conn lu talk (reply.AskPool name) = asks_talk conn lu talk (pool name) talk.state
replies_talk pool conn lu talk reply.Nothing = refl
replies_talk pool conn lu talk (reply.Opt verb code) = refl
replies_talk pool conn lu talk (reply.Sub sending next) = refl
replies_talk pool conn lu talk reply.Agreed = refl
replies_talk pool conn lu talk (reply.Refused reason) = refl
replies_talk pool conn lu talk (reply.Close cause) = refl

pub said_talk : (pool : Answers) (conn : Session) (saying : NegotiationMessage) → let new = (host_took pool conn (ToHost.TalksUp saying)).conn in new ≡ record conn { talk = new.talk }
said_talk pool conn saying =
    let next : Talk HostState × Reply = follow Closed conn.talk (host_transition conn.talk.state (says saying)) in
    replies_talk pool conn (lu_asked (says saying)) next.0 next.1

-- the host leaves, or not
left_either : (app : Application) (cause : Option Cause) (link : Link) → IsFreshOrPast app link → IsFreshOrPast app (host_left_if cause link)
left_either app None link either = either
left_either app (Some cause) link either = either

module _ (given : LowerLaws) (app : Application) (link : Link) (k : ConnectionInvariant app (view_of link)) where
  pub quiet_fresh : IsFresh app link.host link.term.display → IsQuiet link.term.display.keyboard.lock link.down link.up
  quiet_fresh f = is_quiet app link k (fresh_turn app link.host link.term.display f) (fresh_pending app link.host link.term.display f)

  -- the host takes a message
  hears_either : (pool : Answers) (message : ToHost) (rest : List ToHost) → link.up ≡ message ∷ rest → IsFreshOrPast app link → let new = (host_took pool link.host message).conn in IsFresh app new link.term.display ⊎ IsPast new
  hears_either pool (ToHost.TalksUp saying) rest e either = same_either app link.host _ link.term.display (said_talk pool link.host saying) either
  hears_either pool (ToHost.Data parts) rest e (inl f) = absurd (subst AreTalkUp e (quiet_fresh f).goes_up)
  hears_either pool (ToHost.Response number verdict) rest e (inl f) = absurd (subst AreTalkUp e (quiet_fresh f).goes_up)
  hears_either pool (ToHost.Data parts) rest e (inr past) = inr (by_agreed (is_agreed link.host.talk.state) refl)
    where
      by_agreed : (b : Bool) → is_agreed link.host.talk.state ≡ b → IsPast (host_took pool link.host (ToHost.Data parts)).conn
      by_agreed true agrees = λ turn reason. (goes_on given app pool link (ToHost.Data parts) rest e k agrees).pressed refl reason
      by_agreed false agrees =
          subst IsPast (sym (ap (λ (b : Bool). (once_agreed b (data_came parts link.host.turn link.host.pending link.host) link.host).conn) agrees)) past
  hears_either pool (ToHost.Response number verdict) rest e (inr past) = inr (by_agreed (is_agreed link.host.talk.state) refl)
    where
      new : Session
      new = (host_took pool link.host (ToHost.Response number verdict)).conn

      by_agreed : (b : Bool) → is_agreed link.host.talk.state ≡ b → IsPast (host_took pool link.host (ToHost.Response number verdict)).conn
      by_agreed true agrees = λ turn reason. by_reason turn reason (just_talks pool link.host (ToHost.Response number verdict)).reason
        where
          by_reason : (host_took pool link.host (ToHost.Response number verdict)).conn.turn ≡ whose.Host → (host_took pool link.host (ToHost.Response number verdict)).conn.turn_reason ≡ turn_reasons.Agreement
              → ((host_took pool link.host (ToHost.Response number verdict)).conn.turn_reason ≡ link.host.turn_reason) ⊎ ((host_took pool link.host (ToHost.Response number verdict)).conn.turn_reason ≡ turn_reasons.Agreement → ⊥) → ⊥
          by_reason turn reason (inl same) = past (sym (goes_on given app pool link (ToHost.Response number verdict) rest e k agrees).turn ∙ turn) (sym same ∙ reason)
          by_reason turn reason (inr never) = never reason
      by_agreed false agrees =
          subst IsPast (sym (ap (λ (b : Bool). (once_agreed b (response_came number verdict link.host.pending link.host) link.host).conn) agrees)) past

  -- a panel is shown
  shown_past : (act : Act) → (act ≡ Act.Read → ⊥) → IsPast (done_act app link.host act).conn
  shown_past Act.Read shows = absurd (shows refl)
  shown_past (Act.Show panel message keep values) shows = λ turn reason. absurd (let wrong : whose.Terminal ≡ whose.Host = turn in cc)

  acts_either : IsFreshOrPast app link → IsFreshOrPast app (host_sent (acted app link.host) link)
  acts_either either = by_test (may_act link.host.turn link.host.pending (is_agreed link.host.talk.state)) (decision_on app link.host link.host.turn_reason) refl either
    where
      by_test : (b : Bool) (decision : Decision) → decision_on app link.host link.host.turn_reason ≡ decision → IsFreshOrPast app link
          → IsFreshOrPast app (host_sent (option_and_then (decided app link.host) (if b then Some decision else None)) link)
      by_test true (Decision.Do Act.Read) is (inl f) = absurd (reads_later app link.host is (fresh_reason app link.host link.term.display f))
      by_test true (Decision.Do Act.Read) is (inr past) = inr past
      by_test true (Decision.Do (Act.Show panel message keep values)) is either = inr (shown_past (Act.Show panel message keep values) (λ reads. absurd (cc)))
      by_test true Decision.Asks is either = either
      by_test false decision is either = either

  answers_either : (said : ApplicationAnswer) → IsFreshOrPast app link → IsFreshOrPast app (host_sent (answered_on app link.host said) link)
  answers_either said either = by_test (is_asking app link.host && has_its_panel app said)
    where
      shows : (panel : Option ℕ) → IsPast (done_act app link.host (act_by app link.host said panel)).conn
      shows None = λ turn reason. absurd (let wrong : whose.Terminal ≡ whose.Host = turn in cc)
      shows (Some panel) = λ turn reason. absurd (let wrong : whose.Terminal ≡ whose.Host = turn in cc)

      by_test : (b : Bool) → IsFreshOrPast app (host_sent (if b then Some (done_act app link.host (act_by app link.host said (panel_for app link.host said))) else None) link)
      by_test true = inr (shows (panel_for app link.host said))
      by_test false = either

  notes_either : (text : List ℕ) → IsFreshOrPast app link → IsFreshOrPast app (host_sent (noted text link.host) link)
  notes_either text either = by_test (may_note link.host.turn link.host.pending (is_agreed link.host.talk.state)) refl either
    where
      by_test : (b : Bool) → may_note link.host.turn link.host.pending (is_agreed link.host.talk.state) ≡ b → IsFreshOrPast app link → IsFreshOrPast app (host_sent (if b then Some (noted_as text link.host) else None) link)
      by_test true may (inl f) =
          absurd (let wrong : false ≡ true = sym (ap (λ (t : Turn). may_note t link.host.pending (is_agreed link.host.talk.state)) (fresh_turn app link.host link.term.display f)) ∙ may in cc)
      by_test true may (inr past) = inr past
      by_test false may either = either

  down_either : (message : ToTerminal) (rest : List ToTerminal) → link.down ≡ message ∷ rest → IsFreshOrPast app link → IsFreshOrPast app (term_view (term_took link.term message) rest link)
  down_either message rest e (inr past) = inr past
  down_either (ToTerminal.TalksDown saying) rest e (inl f) = inl f
  down_either (ToTerminal.Paint number wanted over) rest e (inl f) = absurd (subst AreTalk e (quiet_fresh f).goes_down)
  down_either (ToTerminal.ReadBuffer number) rest e (inl f) = absurd (subst AreTalk e (quiet_fresh f).goes_down)
  down_either (ToTerminal.Note number command) rest e (inl f) = absurd (subst AreTalk e (quiet_fresh f).goes_down)

  pub key_fresh : (key : Key) → IsFresh app link.host link.term.display → IsFresh app link.host (after_key key link.term.display)
  key_fresh key f =
      let now : Display = after_key key link.term.display in
      let same = key_waits key link (quiet_fresh f).waits in
      let screen_is : now.screen ≡ link.term.display.screen = ap (λ (v : View). v.screen) same in
      let erased_is : now.erased ≡ link.term.display.erased = ap (λ (v : View). v.erased) same in
      record {
        serves = f.serves;
        host_is = f.host_is;
        display_is = ap (λ (s : Screen). record now { screen = s }) screen_is ∙ ap (λ (e : Bool). record now { screen = link.term.display.screen; erased = e }) erased_is
            ∙ ap (λ (d : Display). record d { keyboard = now.keyboard }) f.display_is;
      }

  key_either : (key : Key) → IsFreshOrPast app link → IsFreshOrPast app (term_stepped (key_came key link.term) link.down link)
  key_either key (inr past) = inr past
  key_either key (inl f) = inl (key_fresh key f)

fresh_steps : LowerLaws → (app : Application) → Steps app (λ event. ⊤) (IsFreshOrPast app) (λ display. ⊤)
fresh_steps given app = record {
  never = λ serves. inl (record { serves = serves; host_is = refl; display_is = refl });
  begins = λ serves model terminal wanted. inl (record { serves = serves; host_is = refl; display_is = refl });
  up = λ pool link message rest e k either.
      let step : HostStep = host_took pool link.host message in
      left_either app step.closes (record link { up = rest; host = step.conn; down = sent link.lost link.down step.sends }) (hears_either given app link k pool message rest e either);
  acts = λ link k either. acts_either given app link k either;
  answers = λ number said link such k either. answers_either given app link k said either;
  notes = λ number text link such k either. notes_either given app link k text either;
  down = λ link message rest e k either. down_either given app link k message rest e either;
  key = λ terminal key link such k either. key_either given app link k key either;
  loses = λ link either. either;
  host_leaves = λ link either. either;
  term_leaves = λ link either. either;
  fresh = λ model. tt;
  alone = λ link k either. tt;
  key_alone = λ terminal key display such is. tt;
}

-- ---- at agreement

-- both ends over messages just after the host has agreed on an LU
pub record IsAgreedHere (app : Application) (lu : List ℕ) (link : Link) : Type 0 where
  pub device : Device
  pub agreed : link.host.talk.state ≡ Agreed device lu
  pub model : model_of device ≡ link.term.display.model
  pub binds : Binds lu link.term.talk.talk.state link.down
  pub nothing_up : link.up ≡ []

all_there : {X : Type 0} (lost : Bool) (queue messages : List X) → lost ≡ false → IsInFlight lost queue messages → queue ≡ messages
all_there lost queue messages live way = sym (append-nil queue) ∙ ap (λ (behind : List _). queue ++ behind) (sym (way.none live)) ∙ way.whole

pub agreed_here : (app : Application) (link : Link) (wanted : Option (List ℕ)) (lu : List ℕ) → link.lost ≡ false → agreed_lu link.host.talk.state ≡ Some lu → MayAct app link wanted → IsAgreedHere app lu link
agreed_here app link wanted lu live agreed (MayAct.agreeing mine at n) =
    let talk : IsAgreed link.term.display.model mine link.host.talk = at.host_talk in
    let same : mine ≡ lu = same_Some mine lu (sym (agreed_on link.host.talk talk) ∙ agreed) in
    record {
      device = talk.device;
      agreed = talk.state_is ∙ ap (Agreed talk.device) same;
      model = talk.model_is;
      binds = Binds.about_to (at.term_talk ∙ ap FunctionsAsked same) (all_there link.lost link.down (ToTerminal.TalksDown (NegotiationMessage.Sub FunIs) ∷ []) live at.goes_down);
      nothing_up = all_there link.lost link.up [] live at.goes_up;
    }
agreed_here app link wanted lu live agreed (MayAct.deciding mine s at f showing) =
    let talk : IsAgreed link.term.display.model mine link.host.talk = at.host_talk in
    let same : mine ≡ lu = same_Some mine lu (sym (agreed_on link.host.talk talk) ∙ agreed) in
    record {
      device = talk.device;
      agreed = talk.state_is ∙ ap (Agreed talk.device) same;
      model = talk.model_is;
      binds = Binds.bound (at.term_talk ∙ ap BoundTo same) (all_there link.lost link.down [] live at.goes_down);
      nothing_up = all_there link.lost link.up [] live at.goes_up;
    }

-- the connection as `EveryTerminal` has it
abbrev pub as_moved : Link → Link
as_moved link = record link { term_here = Some 0; term = record link.term { waits = false } }

-- the begin at this connection
abbrev pub begin_of : Link → LinkWithReport
begin_of link = record { link = as_moved link; told = link.term.display; waits = true; cleared = false }

pub blank_of : (app : Application) (lu : List ℕ) (link : Link) → IsFresh app link.host link.term.display → (now : IsAgreedHere app lu link)
    → link.term.display ≡ record (new_display (model_of now.device) app.begins) { keyboard = link.term.display.keyboard }
blank_of app lu link fresh now = fresh.display_is ∙ ap (λ (m : Model). record (new_display m app.begins) { keyboard = link.term.display.keyboard }) (sym now.model)

pub first_of : (app : Application) → MarksInput app → (lu : List ℕ) (link : Link) → (fresh : IsFresh app link.host link.term.display) → unheard_of fresh.serves ≡ Input → link.host_here ≡ true → IsAgreedHere app lu link
    → FirstPaint app lu (begin_of link)
first_of app marks lu link fresh any here now = record {
  device = now.device;
  agreed = now.agreed;
  serves = fresh.serves;
  any = any;
  returns = marks;
  host = fresh.host_is;
  binds = now.binds;
  blank = blank_of app lu link fresh now;
  nothing_up = now.nothing_up;
  host_here = here;
  term_here = refl;
  told = refl;
  waits = refl;
  cleared = refl;
}

pub live_bytes : (transit : Transit) (out : List ℕ) → not (is_live transit) ≡ false → under_way transit out ≡ out
live_bytes Transit.Live out live = refl
live_bytes (Transit.Cut kept) out live = absurd (cc)
live_bytes (Transit.SenderGone bytes) out live = absurd (cc)

-- an open connection has a number that there is
open_below : (number : ℕ) (host : Host) (rest : Rest) (conn : Session) → length host.connections ≡ most_connections → state_at number host ≡ Service.Open rest conn → number < most_connections
open_below number host rest conn count is = by_place (cases_lt number (length host.connections))
  where
    by_place : (number < length host.connections) ⊎ (length host.connections ≤ number) → number < most_connections
    by_place (inl below) = subst (λ (n : ℕ). number < n) count below
    by_place (inr past) = absurd (let free : Service.Free ≡ Service.Open rest conn = sym (ap (λ (c : Connection). c.service) (get_or_past host.connections number unused past)) ∙ is in cc)

-- the bytes represent it
pub stands_moved : (number terminal : ℕ) (bytes : ByteWorld) (link : Link) → LinkRepresents (link_of number bytes) link → terminal_at number bytes.slots ≡ Some terminal → is_lost number bytes ≡ false
    → AllByRecursion IsNoTalk link.up → AllByRecursion IsNoRefusal link.down
    → LinkRepresentsBy without_ignored IsReadAs is_ignored_by_terminal (link_over number (over_bytes number terminal bytes)) (as_moved link)
stands_moved number terminal bytes link stands there live no_talk no_refusal =
    let term : TermRepresents (link_with (Some terminal) number bytes) link =
    subst (λ (h : Option ℕ). TermRepresents (link_with h number bytes) link) there (stands.term terminal (sym stands.term_here ∙ there)) in
    record {
      lost = sym live ∙ stands.lost;
      host_here = stands.host_here;
      term_here = refl;
      read = stands.read;
      up = record {
        is_rest = stands.up.is_rest;
        items = stands.up.items;
        delivers = stands.up.delivers;
        each = subst (λ (items : List WireItem). Pairwise IsReadAs items link.up) (sym (all_heard stands.up.items link.up no_talk stands.up.each))
            (pairs_become RepresentsUp IsReadAs stands_read stands.up.items link.up stands.up.each);
      };
      host = λ host_here. record { host = (stands.host host_here).host; rest_is = (stands.host host_here).rest_is };
      term = λ n is_n. record {
        rest = term.rest;
        holds = record {
          talk = term.holds.talk;
          attached = term.holds.attached;
          is_end = record {
            talk_is = term.holds.is_end.talk_is;
            screen_is = term.holds.is_end.screen_is;
            keyboard_is = term.holds.is_end.keyboard_is;
            last_restored_is = term.holds.is_end.last_restored_is;
            before_restored_is = term.holds.is_end.before_restored_is;
            erased_is = term.holds.is_end.erased_is;
          };
        };
        silent = refl;
        down = any_down term.rest _ link.down no_refusal (subst (λ (out : List ℕ). BytesDown term.rest out link.down) (live_bytes (transits_at number bytes).down (host_out number bytes) live) term.down);
      };
    }

pub is_open_now : (service : Service) (rest : Rest) (conn : Session) → service ≡ Service.Open rest conn → IsOpen service
is_open_now service rest conn is = subst IsOpen (sym is) tt

-- a connection of a world just after agreement
module _ (given : LowerLaws) (panels : PanelsAreShown) (served : ServedIsMarked) (number terminal : ℕ) (lu : List ℕ) (bytes : ByteWorld) (is : IsReached bytes) (a : IsAgreedOn number terminal lu bytes) where
  abbrev setup : WorldSetup
  setup = is.begin

  abbrev app : Application
  app = application_of setup.panels

  is_app : IsApplication app
  is_app = panels setup.panels is.is_begin.panels.otherwise is.is_begin.panels.laid_out is.is_begin.panels.apart

  abbrev world : World
  world = after setup is.events

  good : GoodWorld app world
  good = run_good given app is_app is.events (new_world app setup.serves setup.pool setup.models) is.reached.are_events (new_good given app is_app setup.serves setup.pool setup.models is.is_begin.pool)

  abbrev link : Link
  link = world.link number

  stands : LinkRepresents (link_of number bytes) link
  stands = is.reached.stands.links number

  here : link.host_here ≡ true
  here = sym stands.host_here ∙ ap is_there a.is_open

  same : a.host ≡ link.host
  same = sym (ap conn_of a.is_open) ∙ (stands.host here).host

  live : link.lost ≡ false
  live = sym stands.lost ∙ a.live

  fresh : IsFresh app link.host link.term.display
  fresh = by_either ((everywhere given app is_app (λ event. ⊤) (IsFreshOrPast app) (λ display. ⊤) (fresh_steps given app) setup.serves setup.pool setup.models is.events is.is_begin.pool is.reached.are_events (λ k d below. tt)).links number)
    where
      by_either : IsFreshOrPast app (world.link number) → IsFresh app link.host link.term.display
      by_either (inl f) = f
      by_either (inr past) = absurd (past (sym (ap (λ (h : Session). h.turn) same) ∙ a.turn) (sym (ap (λ (h : Session). h.turn_reason) same) ∙ a.first))

  agreed : agreed_lu link.host.talk.state ≡ Some lu
  agreed = sym (ap (λ (h : Session). agreed_lu h.talk.state) same) ∙ a.agreed

  now : IsAgreedHere app lu link
  now =
      agreed_here app link (good.links number).wanted lu live agreed
      (may_act_at given app is_app link (good.links number) (fresh_turn app link.host link.term.display fresh) (fresh_pending app link.host link.term.display fresh) (has_agreed lu link.host.talk.state agreed))

  abbrev begins : LinkWithReport
  begins = begin_of link

  blank_is : link.term.display ≡ record (new_display (model_of now.device) app.begins) { keyboard = link.term.display.keyboard }
  blank_is = blank_of app lu link fresh now

  first : FirstPaint app lu begins
  first = first_of app (marked_there served setup is.is_begin is.events number (ap may_have_changed (sym (ap (λ (h : Session). h.unheard) same) ∙ a.any))) lu link fresh
      (sym (ap (λ (h : Session). h.unheard) fresh.host_is) ∙ sym (ap (λ (h : Session). h.unheard) same) ∙ a.any) here now

  represents : Represents number (over_bytes number terminal bytes) begins
  represents = record {
    is_open = is_open_now (state_at number bytes.host) a.rest a.host a.is_open;
    stands = stands_moved number terminal bytes link stands a.there a.live (no_talk_under_way app link (good.links number) (has_agreed lu link.host.talk.state agreed)) (no_refusal_under_way app link (good.links number));
    pressed = record { waits_is = refl; first_is = λ waits. sym (ap (λ (d : Display). d.screen.aid) blank_is); cleared_is = refl };
    unnamed = refl;
    stored = record {
      sendable = subst (λ (d : Display). IsSendable d.screen) (sym blank_is) (blank_sendable (model_of now.device) app.begins is_app.begins);
      whole = (good.links number).whole;
    };
  }

  -- its keyboard waits
  pub begin_locked : (slot_at terminal bytes).tracked.terminal.station.keyboard.lock ≡ Wait
  begin_locked =
      let term : TermRepresents (link_with (Some terminal) number bytes) link =
      subst (λ (h : Option ℕ). TermRepresents (link_with h number bytes) link) a.there (stands.term terminal (sym stands.term_here ∙ a.there)) in
      ap (λ (k : Keyboard). k.lock) term.holds.is_end.keyboard_is ∙ (quiet_fresh given app link (good.links number) fresh).waits

  pub its_begin : IsHost bytes.host → BeginsOverBytes (application_of bytes.host.panels) number lu (over_bytes number terminal bytes)
  its_begin is_host =
      subst (λ (p : Panels). BeginsOverBytes (application_of p) number lu (over_bytes number terminal bytes)) (sym is.reached.panels)
      (record {
        begin = begins;
        begins = first;
        represents = represents;
        below = open_below number bytes.host a.rest a.host is_host.sound.connections a.is_open;
        is_host = is_host;
        pool = subst IsSoundPool (sym is.reached.stands.pool) good.sound;
      })

pub worlds_begin : LowerLaws → PanelsAreShown → ServedIsMarked → WorldsBeginOverBytes
worlds_begin given panels served number terminal lu bytes is is_host a = its_begin given panels served number terminal lu bytes is a is_host

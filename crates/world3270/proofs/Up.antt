-- What a host makes of the next message, at each moment.
use Rattle.std.proofs.Common.{◌≡◌, ◌||◌, not, ℕ, Bool, true, false, Option, None, Some, Result, Ok, Err, List, [], ◌∷◌, ◌++◌, refl, ap, sym, subst, ◌∙◌, IsOkAnd, IfOk}
use Rattle.tn3270e_msg.specs.Device.{device_for}
use Rattle.codes3270.specs.declared.size.Model.{Model}
use Rattle.codes3270.specs.Size.{ScreenSize, cells_in}
use Rattle.codes3270.specs.declared.attention.Aid.{Aid}
use Rattle.codes3270.specs.declared.attention.Aid.TheVariants.{NoAid, Enter, Clear, Pf, Pa}
use Rattle.datastream.specs.Grammar.{CommandParts}
use Rattle.datastream.specs.InboundFields.{buffer_data, cells_sent}
use Rattle.datastream.specs.InboundText.{InboundParts}
use Rattle.datastream.specs.Screen.{Screen}
use Rattle.datastream.specs.declared.inbound_part.Form.TheVariants.{Modified}
use Rattle.lu_pool.specs.Asking.{answer_to}
use Rattle.lu_pool.specs.HolderLaws.{IsSound}
use Rattle.lu_pool.specs.declared.entry.Entry.{Entry}
use Rattle.shadow.specs.RuleBreaks.{rule_break}
use Rattle.shadow.specs.declared.rule_break.RuleBreak.{RuleBreak}
use Rattle.shadow.proofs.Sent.{cells_back}
use Rattle.shadow.specs.Belief.{Shadow}
use Rattle.shadow.specs.Exactness.{KnownIsExact, ProtectedIsExact}
use Rattle.shadow.specs.Heard.{heard}
use Rattle.shadow.specs.Laws.{Believed}
use Rattle.shadow.specs.TextUnknown.{NothingIsOpen}
use Rattle.shadow.specs.Settled.{IsSettled, is_settled}
use Rattle.shadow.specs.declared.fault.HeardFault.{HeardFault}
use Rattle.telnet_wire.specs.declared.wire.Verb.TheVariants.{Will}
use Rattle.tn3270e_msg.specs.HostTable.{host_transition, answer_transition, request_transition, named_transition, granted}
use Rattle.tn3270e_msg.specs.Message.{Connect}
use Rattle.tn3270e_msg.specs.Talk.{Comes, Talk, start_at, follow, IsLuIfSome, NegotiationMessage, says}
use Rattle.tn3270e_msg.specs.TermTable.{Term}
use Rattle.tn3270e_msg.specs.declared.host_talk.HostState.{HostState}
use Rattle.tn3270e_msg.specs.declared.host_talk.HostState.TheVariants.{Offered, Asked, Asking, Named, Closed as HostClosed}
use Rattle.tn3270e_msg.specs.declared.reply.Reason.{Reason}
use Rattle.tn3270e_msg.specs.declared.reply.Reply.{Reply}
use Rattle.tn3270e_msg.specs.declared.reply.Reply.TheVariants as reply
use Rattle.tn3270e_msg.specs.declared.reply.OwnedMessage.TheVariants.{SendType, TypeRequest, TypeIs, TypeReject, FunRequest, FunIs}
use Rattle.tn3270e_msg.proofs.Agreement.{responses_alone, own_device}
use Rattle.host_core.specs.Application.{Application, IsSizeOf}
use Rattle.host_core.specs.Messages.{ToTerminal, ToHost, Verdict}
use Rattle.host_core.specs.declared.turn.Turn.TheVariants as whose
use Rattle.host_core.specs.declared.turn_reason.TurnReason.{TurnReason}
use Rattle.host_core.specs.declared.turn_reason.TurnReason.TheVariants as turn_reasons
use Rattle.host_core.specs.Session.{Session, Pending, is_agreed}
use Rattle.host_core.specs.Rejections.{lu_asked}
use Rattle.host_core.specs.declared.rejection.Rejection.{Rejection}
use Rattle.shadow.specs.Exactness.{is_erase}
use Rattle.host_core.specs.Takes.{buffer_heard, is_after_pa, is_read_believed, is_verified, may_be_read, may_have_changed, only_read, refused, rule_broken_by, unheard_next, unless_broken, HostStep, Answers, quiet, with_talk, replied, granted_by, talked_on, talked, hears, believed, once_read, key_came, key_data_came, data_came, answered, if_answers, response_came, once_agreed, took}
use Rattle.host_core.specs.declared.unheard.Unheard.{Unheard}
use Rattle.std.specs.Prelude.{⊤, unwrap_or, if◌then◌else◌}
use Rattle.world3270.specs.refinement.LowerLaws.{LowerLaws}
use Rattle.world3270.specs.model.Link.{Link, sent}
use Rattle.world3270.specs.refinement.Phases.{Kind, awaiting, NegotiationPhase, SessionPhase, LinkPhase, IsInFlight, IsAgreed, IsAt, IsHostTalk, IsTermTalk, host_in_talk, turn_at, pending_at, down_at, up_at, served_down, served_up}
use Rattle.world3270.specs.statement.TurnReasons.{IsOccasion, IsCursorFor, IsOpenBy, IsOpenFor}
use Rattle.world3270.specs.refinement.Invariant.{local_state_of, once_taken, FactsAreExact, MayBeGranted, Sees, IsPressed, WasNoted, WillBeHeard, Decides, IsReported, Fact, ConnectionInvariant, Sizes, IsKnownIfRead, IsUnread, ShownAt}
use Rattle.world3270.specs.refinement.View.{view_of}
use Rattle.world3270.proofs.OneOfMany.{same_number}
use Rattle.world3270.proofs.Queues.{more, front, nothing}
use Rattle.world3270.proofs.TalkStates.{is_agreed_on, own_model}

-- the connection once the host took the message before the rest
abbrev pub host_view : HostStep → List ToHost → Link → Link
host_view step rest link = record link { up = rest; host = step.conn; down = sent link.lost link.down step.sends }

-- the LU that the host's end has, if it has one
abbrev pub claim : Session → Option (List ℕ)
claim conn = granted conn.talk.state

-- what a step grants is what the pool answered, and the host's end has it then
pub data Grants (pool : List Entry) (old : Session) (step : HostStep) : Type 0 where
  none : step.grants ≡ None → claim step.conn ≡ claim old → Grants pool old step
  one : (name : Option (List ℕ)) (lu : List ℕ) → step.grants ≡ Some lu → claim step.conn ≡ Some lu → answer_to pool name ≡ Ok lu → Grants pool old step

pub record Answered (app : Application) (pool : List Entry) (link : Link) (rest : List ToHost) (step : HostStep) : Type 0 where
  pub kept : ConnectionInvariant app (view_of (host_view step rest link))
  pub open_end : step.closes ≡ None
  pub grants : Grants pool link.host step

-- ---- from moment to moment

-- the host's step leaves the terminal's end as it is
record Leads (model : Model) (wanted : Option (List ℕ)) (from to : LinkPhase) (sends : List ToTerminal) : Type 0 where
  term : (term : Term) → IsTermTalk model wanted from term → IsTermTalk model wanted to term
  down : down_at model from ++ sends ≡ down_at model to

leads : (link : Link) (step : HostStep) (rest : List ToHost) (wanted : Option (List ℕ)) (from to : LinkPhase) → IsAt (view_of link) wanted from → Leads link.term.display.model wanted from to step.sends
    → IsHostTalk link.term.display.model to step.conn.talk → step.conn.turn ≡ turn_at to → step.conn.pending ≡ pending_at to → IsInFlight link.lost rest (up_at link.term.display.model wanted to) → IsAt (view_of (host_view step rest link)) wanted to
leads link step rest wanted from to at l talk turn pending left = record {
  host_talk = talk;
  term_talk = l.term link.term.talk at.term_talk;
  turn = turn;
  pending = pending;
  goes_down = subst (IsInFlight link.lost (sent link.lost link.down step.sends)) l.down (more link.lost link.down (down_at link.term.display.model from) step.sends at.goes_down);
  goes_up = left;
}

-- ---- the talk

abbrev talk_step : Link → Talk HostState → List ToTerminal → Option (List ℕ) → Option Rejection → HostStep
talk_step link next sends grants rejects = record { conn = with_talk link.host next; sends = sends; grants = grants; rejects = rejects; drops = None; breaks = None; replaces = false; restores = None; closes = None }

-- the talk moves on, by a step that is known
talks : (app : Application) (pool : List Entry) (link : Link) (rest : List ToHost) (k : ConnectionInvariant app (view_of link)) (from to : NegotiationPhase) (saying : NegotiationMessage) (sends : List ToTerminal) (grants : Option (List ℕ)) (rejects : Option Rejection) (message : ToHost)
    → link.term.display.size ≡ link.host.size
    → IsAt (view_of link) k.wanted (LinkPhase.Negotiating from) → link.host.talk ≡ host_in_talk link.term.display.model from → IsHostTalk link.term.display.model (LinkPhase.Negotiating to) (host_in_talk link.term.display.model to) → message ≡ ToHost.TalksUp saying
    → talked (answer_to pool) link.host (host_in_talk link.term.display.model from) (says saying) ≡ talk_step link (host_in_talk link.term.display.model to) sends grants rejects
    → Grants pool link.host (talk_step link (host_in_talk link.term.display.model to) sends grants rejects) → Leads link.term.display.model k.wanted (LinkPhase.Negotiating from) (LinkPhase.Negotiating to) sends
    → IsInFlight link.lost rest (up_at link.term.display.model k.wanted (LinkPhase.Negotiating to))
    → Fact k.wanted (local_state_of (view_of link)) (LinkPhase.Negotiating to) → Answered app pool link rest (took (answer_to pool) link.host message)
talks app pool link rest k from to saying sends grants rejects message same at talk then_talk is step g l left fact =
    subst (λ m. Answered app pool link rest (took (answer_to pool) link.host m)) (sym is)
    (subst (Answered app pool link rest) (sym (ap (λ (t : Talk HostState). talked (answer_to pool) link.host t (says saying)) talk ∙ step))
    (record {
      kept = record {
        whole = k.whole;
        cursor = k.cursor;
        unreturned = k.unreturned;
        as_left = k.as_left;
        exact = k.exact;
        unrestored = k.unrestored;
        wanted = k.wanted;
        moment = LinkPhase.Negotiating to;
        sizes = record { host = k.sizes.host; screen = k.sizes.screen; same = λ steady. same };
        at = leads link (talk_step link (host_in_talk link.term.display.model to) sends grants rejects) rest k.wanted (LinkPhase.Negotiating from) (LinkPhase.Negotiating to) at l then_talk at.turn at.pending left;
        fact = fact;
        shown = tt;
      };
      open_end = refl;
      grants = g;
    }))

claim_at : (conn : Session) (talk : Talk HostState) → conn.talk ≡ talk → granted talk.state ≡ claim conn
claim_at conn talk e = ap (λ (t : Talk HostState). granted t.state) (sym e)

-- a terminal that asks for its type of device, and for an LU, if it wants one
abbrev asking_type : Model → Option (List ℕ) → NegotiationMessage
asking_type model wanted = NegotiationMessage.Sub (TypeRequest model wanted)

abbrev at_asking : Model → Talk HostState
at_asking model = start_at (Asking (device_for model))

asks_pool : LowerLaws → (model : Model) (wanted : Option (List ℕ)) → IsLuIfSome wanted
    → follow HostClosed (start_at Asked) (host_transition Asked (says (asking_type model wanted))) ≡ (at_asking model, reply.AskPool wanted)
asks_pool given model None is = ap (λ d. follow HostClosed (start_at Asked) (request_transition d None)) (own_device model)
asks_pool given model (Some name) is =
    ap (λ d. follow HostClosed (start_at Asked) (request_transition d (Some (Connect name)))) (own_device model)
    ∙ ap (λ l. follow HostClosed (start_at Asked) (named_transition (device_for model) l)) (given.belief.names name is)

pool_asked : LowerLaws → (pool : Answers) (conn : Session) (model : Model) (wanted : Option (List ℕ)) → IsLuIfSome wanted
    → talked pool conn (start_at Asked) (says (asking_type model wanted))
    ≡ replied conn (lu_asked (says (asking_type model wanted))) (granted_by (pool wanted)) (follow HostClosed (at_asking model) (answer_transition (device_for model) (pool wanted)))
pool_asked given pool conn model wanted is =
    ap (λ (p : Talk HostState × Reply). talked_on pool conn (lu_asked (says (asking_type model wanted))) p.0 p.1) (asks_pool given model wanted is)

abbrev answered_by : Session → Model → Option (List ℕ) → Result (List ℕ) Reason → HostStep
answered_by conn model wanted answer =
    replied conn (lu_asked (says (asking_type model wanted))) (granted_by answer) (follow HostClosed (at_asking model) (answer_transition (device_for model) answer))

suits : LowerLaws → (pool : List Entry) (wanted : Option (List ℕ)) (lu : List ℕ) → IsSound pool → IsLuIfSome wanted → answer_to pool wanted ≡ Ok lu → MayBeGranted wanted lu
suits given pool None lu sound is e = record { is_lu = given.pool.lus pool None lu sound e; is_wanted = tt }
suits given pool (Some name) lu sound is e = record { is_lu = given.pool.lus pool (Some name) lu sound e; is_wanted = given.pool.asked pool name lu is e }

grants_type : LowerLaws → (app : Application) (pool : List Entry) → IsSound pool → (link : Link) (rest : List ToHost) (k : ConnectionInvariant app (view_of link)) (message : ToHost)
    → link.term.display.size ≡ link.host.size
    → IsAt (view_of link) k.wanted (LinkPhase.Negotiating NegotiationPhase.NamingType) → Fact k.wanted (local_state_of (view_of link)) (LinkPhase.Negotiating NegotiationPhase.NamingType) → IsInFlight link.lost rest []
    → message ≡ ToHost.TalksUp (asking_type link.term.display.model k.wanted) → Answered app pool link rest (took (answer_to pool) link.host message)
grants_type given app pool sound link rest k message same at f left e = by_answer (answer_to pool k.wanted) refl
  where
    by_answer : (answer : Result (List ℕ) Reason) → answer_to pool k.wanted ≡ answer → Answered app pool link rest (took (answer_to pool) link.host message)
    by_answer (Ok lu) a =
        talks app pool link rest k NegotiationPhase.NamingType (NegotiationPhase.Granting lu) (asking_type link.term.display.model k.wanted) (ToTerminal.TalksDown (NegotiationMessage.Sub (TypeIs (device_for link.term.display.model) lu)) ∷ []) (Some lu) None message same at at.host_talk refl e
        (pool_asked given (answer_to pool) link.host link.term.display.model k.wanted f.1 ∙ ap (answered_by link.host link.term.display.model k.wanted) a) (Grants.one k.wanted lu refl refl a) (record { term = λ term is. is; down = refl }) left
        (f.0, suits given pool k.wanted lu sound f.1 a)
    by_answer (Err reason) a =
        talks app pool link rest k NegotiationPhase.NamingType (NegotiationPhase.Rejecting reason) (asking_type link.term.display.model k.wanted) (ToTerminal.TalksDown (NegotiationMessage.Sub (TypeReject reason)) ∷ []) None
        (Some (record { lu = lu_asked (says (asking_type link.term.display.model k.wanted)); reason = reason })) message same at at.host_talk refl e
        (pool_asked given (answer_to pool) link.host link.term.display.model k.wanted f.1 ∙ ap (answered_by link.host link.term.display.model k.wanted) a) (Grants.none refl (claim_at link.host (start_at Asked) at.host_talk)) (record { term = λ term is. is; down = refl }) left
        (f.0, tt)

-- ---- records

module _ (app : Application) (pool : List Entry) (link : Link) (rest : List ToHost) (k : ConnectionInvariant app (view_of link)) where
  agreed_at : (lu : List ℕ) (serving : SessionPhase) → IsAt (view_of link) k.wanted (LinkPhase.InSession lu serving) → is_agreed link.host.talk.state ≡ true
  agreed_at lu serving at = is_agreed_on link.host.talk at.host_talk

  serves : (lu : List ℕ) (from to : SessionPhase) (conn : Session) → link.term.display.size ≡ link.host.size → IsAt (view_of link) k.wanted (LinkPhase.InSession lu from) → conn.talk ≡ link.host.talk → conn.size ≡ link.host.size → FactsAreExact conn.shadow → conn.restored ≡ 0
      → conn.turn ≡ turn_at (LinkPhase.InSession lu to) → conn.pending ≡ pending_at (LinkPhase.InSession lu to) → served_down from ++ [] ≡ served_down to → IsInFlight link.lost rest (served_up to)
      → Fact k.wanted (local_state_of (view_of (host_view (quiet conn) rest link))) (LinkPhase.InSession lu to) → ShownAt app link.term.waits conn link.term.display.before_restored link.term.display.last_restored link.term.display.screen (LinkPhase.InSession lu to)
      → Answered app pool link rest (quiet conn)
  serves lu from to conn same at talk shape exact unrestored turn pending down left fact shown = record {
    kept = record {
      whole = k.whole;
      cursor = k.cursor;
      unreturned = k.unreturned;
      as_left = k.as_left;
      exact = exact;
      unrestored = unrestored;
      wanted = k.wanted;
      moment = LinkPhase.InSession lu to;
      sizes = record {
        host = subst (λ (s : ScreenSize). IsSizeOf app link.term.display.model s) (sym shape) k.sizes.host;
        screen = k.sizes.screen;
        same = λ steady. same ∙ sym shape;
      };
      at = leads link (quiet conn) rest k.wanted (LinkPhase.InSession lu from) (LinkPhase.InSession lu to) at (record { term = λ term is. is; down = down })
          (subst (IsAgreed link.term.display.model lu) (sym talk) at.host_talk) turn pending left;
      fact = fact;
      shown = shown;
    };
    open_end = refl;
    grants = Grants.none refl (ap (λ (t : Talk HostState). granted t.state) talk);
  }

  as_step : (m message : ToHost) (step : HostStep) → message ≡ m → took (answer_to pool) link.host m ≡ step → Answered app pool link rest step → Answered app pool link rest (took (answer_to pool) link.host message)
  as_step m message step e is a = subst (λ x. Answered app pool link rest (took (answer_to pool) link.host x)) (sym e) (subst (Answered app pool link rest) (sym is) a)

-- ---- responses

-- Clear wasn't pressed out of turn while a paint waits for its answer
abbrev pub IsUncleared : Kind → Unheard → Type 0
IsUncleared Kind.APaint unheard = may_be_read unheard ≡ true
IsUncleared Kind.ANote unheard = ⊤

pub is_uncleared : (kind : Kind) (unheard : Unheard) → may_be_read unheard ≡ true → IsUncleared kind unheard
is_uncleared Kind.APaint unheard may = may
is_uncleared Kind.ANote unheard may = tt

-- the connection after a paint is answered, if Clear was pressed out of turn
abbrev cleared_since : CommandParts → Session → Session
cleared_since command conn = if is_erase command.code then answered command (record conn { unheard = unheard_next conn.unheard }) else refused conn

answers_it : (kind : Kind) (number : ℕ) (command : CommandParts) (conn : Session) → IsUncleared kind conn.unheard → response_came number Verdict.Positive (awaiting kind number command) conn ≡ quiet (answered command conn)
answers_it Kind.APaint number command conn may =
    ap (λ b. if_answers b (quiet (if may_be_read conn.unheard then answered command conn else cleared_since command conn)) conn) (same_number number)
    ∙ ap (λ (b : Bool). quiet (if b then answered command conn else cleared_since command conn)) may
answers_it Kind.ANote number command conn may = ap (λ b. if_answers b (quiet (answered command conn)) conn) (same_number number)

pub response_took : (pool : Answers) (conn : Session) (kind : Kind) (number : ℕ) (command : CommandParts) → is_agreed conn.talk.state ≡ true → conn.pending ≡ awaiting kind number command → IsUncleared kind conn.unheard
    → took pool conn (ToHost.Response number Verdict.Positive) ≡ quiet (answered command conn)
response_took pool conn kind number command agrees pends may =
    ap (λ b. once_agreed b (response_came number Verdict.Positive conn.pending conn) conn) agrees
    ∙ ap (λ p. response_came number Verdict.Positive p conn) pends
    ∙ answers_it kind number command conn may

-- ---- data

-- a key's data is heard while nothing waits for an answer, or a note alone
pub data IsKeyTime (pending : Pending) : Type 0 where
  nothing_waits : pending ≡ Pending.Nothing → IsKeyTime pending
  note_waits : (number : ℕ) (command : CommandParts) → pending ≡ Pending.Noting number command → IsKeyTime pending

key_data_took : (parts : InboundParts) (conn : Session) (aid : Aid) → parts.form ≡ Modified → parts.aid ≡ aid → (aid ≡ NoAid → ⊥)
    → key_data_came parts parts.form conn ≡ believed (turn_reasons.Key aid false) conn.pending parts.cursor conn (hears parts conn)
key_data_took parts conn aid form is some = ap (λ f. key_data_came parts f conn) form ∙ ap (λ a. key_came parts a conn) is ∙ by_aid aid some
  where
    by_aid : (a : Aid) → (a ≡ NoAid → ⊥) → key_came parts a conn ≡ believed (turn_reasons.Key a false) conn.pending parts.cursor conn (hears parts conn)
    by_aid NoAid n = absurd (n refl)
    by_aid Enter n = refl
    by_aid Clear n = refl
    by_aid (Pf key) n = refl
    by_aid (Pa key) n = refl

data_took : (parts : InboundParts) (conn : Session) (pending : Pending) → conn.turn ≡ whose.Terminal → IsKeyTime pending → data_came parts conn.turn pending conn ≡ key_data_came parts parts.form conn
data_took parts conn pending turns (IsKeyTime.nothing_waits e) = ap (λ p. data_came parts conn.turn p conn) e ∙ ap (λ t. data_came parts t Pending.Nothing conn) turns
data_took parts conn pending turns (IsKeyTime.note_waits number command e) = ap (λ p. data_came parts conn.turn p conn) e ∙ ap (λ t. data_came parts t (Pending.Noting number command) conn) turns

pub key_took : (pool : Answers) (conn : Session) (parts : InboundParts) (aid : Aid) → is_agreed conn.talk.state ≡ true → conn.turn ≡ whose.Terminal → IsKeyTime conn.pending → parts.form ≡ Modified → parts.aid ≡ aid → (aid ≡ NoAid → ⊥)
    → took pool conn (ToHost.Data parts) ≡ believed (turn_reasons.Key aid false) conn.pending parts.cursor conn (hears parts conn)
key_took pool conn parts aid agrees turns time form is some =
    ap (λ b. once_agreed b (data_came parts conn.turn conn.pending conn) conn) agrees
    ∙ data_took parts conn conn.pending turns time
    ∙ key_data_took parts conn aid form is some

pub buffer_took : (pool : Answers) (conn : Session) (size : ScreenSize) (screen : Screen) (number : ℕ) → is_agreed conn.talk.state ≡ true → conn.pending ≡ Pending.Reading number
    → rule_broken_by (buffer_data size screen) conn ≡ None
    → took pool conn (ToHost.Data (buffer_data size screen)) ≡ buffer_heard (buffer_data size screen) conn
buffer_took pool conn size screen number agrees pends unbroken =
    let parts : InboundParts = buffer_data size screen in
    ap (λ b. once_agreed b (data_came parts conn.turn conn.pending conn) conn) agrees
    ∙ ap (λ p. data_came parts conn.turn p conn) pends
    ∙ ap (λ (b : Option RuleBreak). unless_broken conn b (buffer_heard parts conn)) unbroken

-- no rule is broken, whether the host verifies that or not
none_broken : (verified : Bool) (broken : Option RuleBreak) → broken ≡ None → (if verified then broken else None) ≡ None
none_broken true broken e = e
none_broken false broken e = refl

pub unbroken_read : (conn : Session) (size : ScreenSize) (screen : Screen) → rule_break conn.shadow screen.cells ≡ None → rule_broken_by (buffer_data size screen) conn ≡ None
unbroken_read conn size screen unbroken =
    none_broken (is_verified conn) (rule_break conn.shadow (cells_sent (buffer_data size screen).parts)) (ap (rule_break conn.shadow) (cells_back screen.cells) ∙ unbroken)

-- the answer is believed if it counts,
pub buffer_counts : (parts : InboundParts) (conn : Session) → is_read_believed conn ≡ true → buffer_heard parts conn ≡ believed (once_read conn.turn_reason) Pending.Nothing parts.cursor conn (hears parts conn)
buffer_counts parts conn is = ap (λ (b : Bool). if b then believed (once_read conn.turn_reason) Pending.Nothing parts.cursor conn (hears parts conn) else quiet (only_read conn)) is

-- and else changes nothing that is believed
pub buffer_skipped : (parts : InboundParts) (conn : Session) → is_read_believed conn ≡ false → buffer_heard parts conn ≡ quiet (only_read conn)
buffer_skipped parts conn is = ap (λ (b : Bool). if b then believed (once_read conn.turn_reason) Pending.Nothing parts.cursor conn (hears parts conn) else quiet (only_read conn)) is

-- where it doesn't count, the host doesn't rely on the wait, the key wasn't PA, and all texts are known
pub record DoesNotCount (unheard : Unheard) (reason : TurnReason) (shadow : Shadow) : Type 0 where
  pub any : may_have_changed unheard ≡ true
  pub no_pa : is_after_pa reason ≡ false
  pub settled : is_settled shadow ≡ true

pub skipped_when : (unheard : Unheard) (reason : TurnReason) (shadow : Shadow) → (not (may_have_changed unheard) || (is_after_pa reason || not (is_settled shadow))) ≡ false → DoesNotCount unheard reason shadow
skipped_when unheard reason shadow is = by_parts (may_have_changed unheard) (is_after_pa reason) (is_settled shadow) refl refl refl is
  where
    by_parts : (any pa settled : Bool) → may_have_changed unheard ≡ any → is_after_pa reason ≡ pa → is_settled shadow ≡ settled → (not any || (pa || not settled)) ≡ false → DoesNotCount unheard reason shadow
    by_parts true false true any no_pa settled is = record { any = any; no_pa = no_pa; settled = settled }
    by_parts false pa settled any no_pa known is = absurd (cc)
    by_parts true true settled any no_pa known is = absurd (cc)
    by_parts true false false any no_pa known is = absurd (cc)

-- nothing is open, so much the less after some keys
all_open : (aid : Aid) (buffered : Bool) (s : Shadow) → NothingIsOpen s → IsOpenBy aid buffered s
all_open (Pa key) false s o = tt
all_open (Pa key) true s o = o
all_open NoAid buffered s o = o
all_open Enter buffered s o = o
all_open Clear buffered s o = o
all_open (Pf key) buffered s o = o

open_read : (turn_reason : TurnReason) (s old : Shadow) → NothingIsOpen s → IsOpenFor turn_reason old → IsOpenFor (once_read turn_reason) s
open_read turn_reasons.Agreement s old o was = o
open_read (turn_reasons.Key aid buffered) s old o was = all_open aid true s o
open_read turn_reasons.Refusal s old o was = absurd was
open_read turn_reasons.Restoration s old o was = absurd was

-- the key that was pressed is still the reason, once its screen was read
read_occasion : (turn_reason : TurnReason) (aid : Aid) → IsOccasion turn_reason aid → IsOccasion (once_read turn_reason) aid
read_occasion turn_reasons.Agreement aid is = is
read_occasion (turn_reasons.Key pressed buffered) aid is = is
read_occasion turn_reasons.Refusal aid is = absurd is
read_occasion turn_reasons.Restoration aid is = absurd is

settled_read : (turn_reason : TurnReason) (shadow : Shadow) → IsSettled shadow → IsKnownIfRead (once_read turn_reason) shadow
settled_read turn_reasons.Agreement shadow settled = tt
settled_read (turn_reasons.Key aid buffered) shadow settled = settled
settled_read turn_reasons.Refusal shadow settled = tt
settled_read turn_reasons.Restoration shadow settled = tt

unread_settled : (turn_reason : TurnReason) (shadow : Shadow) → IsUnread turn_reason → IsKnownIfRead turn_reason shadow
unread_settled turn_reasons.Agreement shadow unread = absurd unread
unread_settled (turn_reasons.Key aid true) shadow unread = absurd unread
unread_settled (turn_reasons.Key aid false) shadow unread = tt
unread_settled turn_reasons.Refusal shadow unread = tt
unread_settled turn_reasons.Restoration shadow unread = tt

-- once the screen was read the host knows where the cursor is
read_cursor : (turn_reason : TurnReason) (aid : Aid) (place : ℕ) → (turn_reason ≡ turn_reasons.Agreement → ⊥) → IsOccasion turn_reason aid → (aid ≡ Clear → ⊥) → IsCursorFor (once_read turn_reason) place place
read_cursor turn_reasons.Agreement aid place later occasion uncleared = absurd (later refl)
read_cursor (turn_reasons.Key pressed buffered) aid place later occasion uncleared = (refl, λ clear. absurd (uncleared (sym occasion.0 ∙ clear)))
read_cursor turn_reasons.Refusal aid place later occasion uncleared = tt
read_cursor turn_reasons.Restoration aid place later occasion uncleared = tt

-- and it knew that where the answer doesn't count, since Enter and PF keys send the cursor address
known_cursor : (turn_reason : TurnReason) (aid : Aid) (known place : ℕ) → is_after_pa turn_reason ≡ false → IsOccasion turn_reason aid → (aid ≡ Clear → ⊥) → IsCursorFor turn_reason known place → IsCursorFor (once_read turn_reason) known place
known_cursor turn_reasons.Agreement aid known place no_pa occasion uncleared on = on
known_cursor (turn_reasons.Key Enter true) aid known place no_pa occasion uncleared on = on
known_cursor (turn_reasons.Key Enter false) aid known place no_pa occasion uncleared on = (on.0 refl, on.1)
known_cursor (turn_reasons.Key (Pf key) true) aid known place no_pa occasion uncleared on = on
known_cursor (turn_reasons.Key (Pf key) false) aid known place no_pa occasion uncleared on = (on.0 refl, on.1)
known_cursor (turn_reasons.Key (Pa key) buffered) aid known place no_pa occasion uncleared on = absurd (cc)
known_cursor (turn_reasons.Key Clear buffered) aid known place no_pa occasion uncleared on = absurd (uncleared (sym occasion.0))
known_cursor (turn_reasons.Key NoAid buffered) aid known place no_pa occasion uncleared on = absurd (occasion.1 (sym occasion.0))
known_cursor turn_reasons.Refusal aid known place no_pa occasion uncleared on = tt
known_cursor turn_reasons.Restoration aid known place no_pa occasion uncleared on = tt

-- reading isn't the first that happens
read_later : (turn_reason : TurnReason) → (turn_reason ≡ turn_reasons.Agreement → ⊥) → once_read turn_reason ≡ turn_reasons.Agreement → ⊥
read_later turn_reasons.Agreement later is = later refl
read_later (turn_reasons.Key pressed buffered) later is = absurd (cc)
read_later turn_reasons.Refusal later is = absurd (cc)
read_later turn_reasons.Restoration later is = absurd (cc)

module _ (given : LowerLaws) (app : Application) (pool : List Entry) (link : Link) (rest : List ToHost) (k : ConnectionInvariant app (view_of link)) (same : link.term.display.size ≡ link.host.size) where
  abbrev screen : Screen
  screen = link.term.display.screen

  abbrev size : ℕ
  size = cells_in link.host.size

  -- the host's end once it heard this
  abbrev heard_conn : TurnReason → Pending → Option ℕ → Shadow → Session
  heard_conn turn_reason pending cursor shadow =
      record link.host { shadow = shadow; turn = whose.Host; pending = pending; turn_reason = turn_reason; cursor = unwrap_or cursor link.host.cursor; restored = 0 }

  -- what is heard is believed, and it is the host's turn
  believes : (lu : List ℕ) (from to : SessionPhase) (parts : InboundParts) (turn_reason : TurnReason) (pending : Pending) (cursor : Option ℕ) (Then : Shadow → Type 0) (r : Result Shadow HeardFault)
      → IsAt (view_of link) k.wanted (LinkPhase.InSession lu from) → IfOk r KnownIsExact → IfOk r ProtectedIsExact → IsOkAnd r Then
      → whose.Host ≡ turn_at (LinkPhase.InSession lu to) → pending ≡ pending_at (LinkPhase.InSession lu to) → served_down from ++ [] ≡ served_down to → IsInFlight link.lost rest (served_up to)
      → ((shadow : Shadow) → Then shadow
      → Fact k.wanted (record { size = link.host.size; shadow = shadow; turn_reason = turn_reason; cursor = unwrap_or cursor link.host.cursor; unheard = link.host.unheard; lock = link.term.display.keyboard.lock; screen = screen; last_restored = link.term.display.last_restored; erased = link.term.display.erased }) (LinkPhase.InSession lu to))
      → ((shadow : Shadow) → Then shadow → ShownAt app link.term.waits (heard_conn turn_reason pending cursor shadow) link.term.display.before_restored link.term.display.last_restored link.term.display.screen (LinkPhase.InSession lu to))
      → Answered app pool link rest (believed turn_reason pending cursor link.host r)
  believes lu from to parts turn_reason pending cursor Then (Ok shadow) at knows protects ok turn pends down left fact shown =
      serves app pool link rest k lu from to (heard_conn turn_reason pending cursor shadow) same at refl refl (record { known = knows; protected = protects }) refl turn pends down left (fact shadow ok) (shown shadow ok)
  believes lu from to parts turn_reason pending cursor Then (Err fault) at knows protects ok turn pends down left fact shown = absurd ok

  -- a key's data
  hears_key : (lu : List ℕ) (from to : SessionPhase) (parts : InboundParts) (message : ToHost) (Then : Shadow → Type 0) → IsAt (view_of link) k.wanted (LinkPhase.InSession lu from) → IsPressed (local_state_of (view_of link)) parts
      → WillBeHeard link.host.size link.host.shadow parts Then → message ≡ ToHost.Data parts → turn_at (LinkPhase.InSession lu from) ≡ whose.Terminal → IsKeyTime (pending_at (LinkPhase.InSession lu from))
      → whose.Host ≡ turn_at (LinkPhase.InSession lu to) → pending_at (LinkPhase.InSession lu from) ≡ pending_at (LinkPhase.InSession lu to) → served_down from ++ [] ≡ served_down to
      → IsInFlight link.lost rest (served_up to)
      → ((shadow : Shadow) → Then shadow
      → Fact k.wanted (record { size = link.host.size; shadow = shadow; turn_reason = turn_reasons.Key screen.aid false; cursor = unwrap_or parts.cursor link.host.cursor; unheard = link.host.unheard; lock = link.term.display.keyboard.lock; screen = screen; last_restored = link.term.display.last_restored; erased = link.term.display.erased }) (LinkPhase.InSession lu to))
      → ((shadow : Shadow) → Then shadow → ShownAt app link.term.waits (heard_conn (turn_reasons.Key screen.aid false) link.host.pending parts.cursor shadow) link.term.display.before_restored link.term.display.last_restored link.term.display.screen (LinkPhase.InSession lu to))
      → Answered app pool link rest (took (answer_to pool) link.host message)
  hears_key lu from to parts message Then at p will e turns time turn pends down left fact shown =
      as_step app pool link rest k (ToHost.Data parts) message (believed (turn_reasons.Key screen.aid false) link.host.pending parts.cursor link.host (hears parts link.host)) e
      (key_took (answer_to pool) link.host parts screen.aid (agreed_at app pool link rest k lu from at) (at.turn ∙ turns) (subst IsKeyTime (sym at.pending) time) p.form p.pressed p.some)
      (believes lu from to parts (turn_reasons.Key screen.aid false) link.host.pending parts.cursor Then (hears parts link.host) at
      (given.belief.heard_exact size link.host.shadow parts k.exact.known) (given.belief.heard_protected size link.host.shadow parts k.exact.protected) will turn (at.pending ∙ pends) down left fact shown)

  -- a response to a write
  hears_response : (lu : List ℕ) (from to : SessionPhase) (kind : Kind) (number : ℕ) (command : CommandParts) (message : ToHost) → IsAt (view_of link) k.wanted (LinkPhase.InSession lu from) → message ≡ ToHost.Response number Verdict.Positive
      → pending_at (LinkPhase.InSession lu from) ≡ awaiting kind number command → IsUncleared kind link.host.unheard → FactsAreExact (once_taken link.host.size command link.host.shadow)
      → turn_at (LinkPhase.InSession lu from) ≡ turn_at (LinkPhase.InSession lu to) → Pending.Nothing ≡ pending_at (LinkPhase.InSession lu to) → served_down from ++ [] ≡ served_down to
      → IsInFlight link.lost rest (served_up to) → Fact k.wanted (local_state_of (view_of (host_view (quiet (answered command link.host)) rest link))) (LinkPhase.InSession lu to)
      → ShownAt app link.term.waits (answered command link.host) link.term.display.before_restored link.term.display.last_restored link.term.display.screen (LinkPhase.InSession lu to) → Answered app pool link rest (took (answer_to pool) link.host message)
  hears_response lu from to kind number command message at e waits may exact turn pends down left fact shown =
      as_step app pool link rest k (ToHost.Response number Verdict.Positive) message (quiet (answered command link.host)) e
      (response_took (answer_to pool) link.host kind number command (agreed_at app pool link rest k lu from at) (at.pending ∙ waits) may)
      (serves app pool link rest k lu from to (answered command link.host) same at refl refl exact k.unrestored (at.turn ∙ turn) pends down left fact shown)

  -- the whole screen, as it was asked for
  hears_buffer : (lu : List ℕ) (number : ℕ) (parts : InboundParts) (message : ToHost) → IsAt (view_of link) k.wanted (LinkPhase.InSession lu (SessionPhase.BufferReturning number parts)) → IsReported (local_state_of (view_of link)) parts
      → message ≡ ToHost.Data parts → IsInFlight link.lost rest [] → ShownAt app link.term.waits link.host link.term.display.before_restored link.term.display.last_restored link.term.display.screen (LinkPhase.InSession lu (SessionPhase.BufferReturning number parts))
      → Answered app pool link rest (took (answer_to pool) link.host message)
  hears_buffer lu number parts message at f e left shown =
      as_step app pool link rest k (ToHost.Data read) message (buffer_heard read link.host) (e ∙ ap (λ p. ToHost.Data p) f.says)
      (buffer_took (answer_to pool) link.host link.host.size said number (agreed_at app pool link rest k lu (SessionPhase.BufferReturning number parts) at) at.pending
      (unbroken_read link.host link.host.size said f.unbroken))
      (by_test (is_read_believed link.host) refl)
    where
      said : Screen
      said = record screen { aid = parts.aid }

      read : InboundParts
      read = buffer_data link.host.size said

      by_result : (r : Result Shadow HeardFault) → IsOkAnd r (Believed false screen) → IfOk r KnownIsExact → IfOk r ProtectedIsExact → IfOk r NothingIsOpen → IfOk r IsSettled
          → IsOkAnd r (λ s. Sees link.host.unheard link.host.size screen s × NothingIsOpen s × IsSettled s)
      by_result (Ok s) believed known protected closed settled =
          (record { exact = record { known = known; protected = protected }; closed = λ relies. all_open screen.aid false s closed; cleared = λ clear. absurd (f.not_cleared clear); bare = λ clear. absurd (f.not_cleared clear); meets = believed.0; lists = believed.1; told = λ sent. believed.2 refl }, closed, settled)
      by_result (Err fault) believed known protected closed settled = absurd believed

      -- it counts
      heard_now : Answered app pool link rest (believed (once_read link.host.turn_reason) Pending.Nothing read.cursor link.host (hears read link.host))
      heard_now =
          believes lu (SessionPhase.BufferReturning number parts) SessionPhase.Deciding read (once_read link.host.turn_reason) Pending.Nothing read.cursor (λ s. Sees link.host.unheard link.host.size screen s × NothingIsOpen s × IsSettled s) (hears read link.host) at
          (given.belief.heard_exact size link.host.shadow read k.exact.known) (given.belief.heard_protected size link.host.shadow read k.exact.protected)
          (by_result (heard size link.host.shadow read) f.will
          (given.belief.heard_exact size link.host.shadow read k.exact.known) (given.belief.heard_protected size link.host.shadow read k.exact.protected) (given.belief.read_leaves size link.host.shadow read refl) (given.belief.read_settles size link.host.shadow read refl))
          refl refl refl left (λ shadow sees. record { lock = f.lock; turn_reason = read_occasion link.host.turn_reason screen.aid f.turn_reason; cursor = read_cursor link.host.turn_reason screen.aid screen.cursor f.not_first f.turn_reason f.not_cleared; closed = λ relies. open_read link.host.turn_reason shadow link.host.shadow sees.1 (f.closed relies); sees = sees.0 })
          (λ shadow sees. (λ later. shown f.not_first, settled_read link.host.turn_reason shadow sees.2, λ is_first. absurd (read_later link.host.turn_reason f.not_first is_first)))

      -- or not: the host decides by what it knew
      skipped_now : is_read_believed link.host ≡ false → Answered app pool link rest (quiet (only_read link.host))
      skipped_now is =
          let when : DoesNotCount link.host.unheard link.host.turn_reason link.host.shadow = skipped_when link.host.unheard link.host.turn_reason link.host.shadow is in
          let knew : Decides (local_state_of (view_of link)) link.host.shadow = f.known is in
          serves app pool link rest k lu (SessionPhase.BufferReturning number parts) SessionPhase.Deciding (only_read link.host) same at refl refl k.exact k.unrestored refl refl refl left
          (record {
            lock = f.lock;
            turn_reason = read_occasion link.host.turn_reason screen.aid f.turn_reason;
            cursor = known_cursor link.host.turn_reason screen.aid link.host.cursor screen.cursor when.no_pa f.turn_reason f.not_cleared knew.cursor;
            closed = λ relies. absurd (let wrong : false ≡ true = sym (ap may_have_changed relies) ∙ when.any in cc);
            sees = knew.sees;
          })
          (λ later. shown f.not_first, settled_read link.host.turn_reason link.host.shadow ((given.belief.settled link.host.shadow).0 when.settled), λ is_first. absurd (read_later link.host.turn_reason f.not_first is_first))

      by_test : (b : Bool) → is_read_believed link.host ≡ b → Answered app pool link rest (buffer_heard read link.host)
      by_test true is = subst (Answered app pool link rest) (sym (buffer_counts read link.host is)) heard_now
      by_test false is = subst (Answered app pool link rest) (sym (buffer_skipped read link.host is)) (skipped_now is)

-- ---- any message, at any moment

pub answers : LowerLaws → (app : Application) (pool : List Entry) → IsSound pool → (link : Link) (message : ToHost) (rest : List ToHost) → link.up ≡ message ∷ rest → ConnectionInvariant app (view_of link)
    → Answered app pool link rest (took (answer_to pool) link.host message)
answers given app pool sound link message rest e k = by_moment k.moment k.sizes k.at k.fact k.shown
  where
    screen : Screen
    screen = link.term.display.screen

    no_more : IsInFlight link.lost link.up [] → Answered app pool link rest (took (answer_to pool) link.host message)
    no_more way = absurd (nothing link.lost link.up message rest e way)

    by_talk : (talking : NegotiationPhase) → link.term.display.size ≡ link.host.size → IsAt (view_of link) k.wanted (LinkPhase.Negotiating talking) → Fact k.wanted (local_state_of (view_of link)) (LinkPhase.Negotiating talking) → Answered app pool link rest (took (answer_to pool) link.host message)
    by_talk NegotiationPhase.Accepting same at f =
        let first = front link.lost link.up message rest _ [] e at.goes_up in
        talks app pool link rest k NegotiationPhase.Accepting NegotiationPhase.AskingType (NegotiationMessage.Opt Will 40) (ToTerminal.TalksDown (NegotiationMessage.Sub SendType) ∷ []) None None message same at at.host_talk refl first.0 refl
        (Grants.none refl (claim_at link.host (start_at Offered) at.host_talk)) (record { term = λ term is. is; down = refl }) first.1 f
    by_talk NegotiationPhase.NamingType same at f =
        let first = front link.lost link.up message rest _ [] e at.goes_up in
        grants_type given app pool sound link rest k message same at f first.1 first.0
    by_talk (NegotiationPhase.AskingFunctions lu) same at f =
        let first = front link.lost link.up message rest _ [] e at.goes_up in
        talks app pool link rest k (NegotiationPhase.AskingFunctions lu) (NegotiationPhase.Agreeing lu) (NegotiationMessage.Sub FunRequest) (ToTerminal.TalksDown (NegotiationMessage.Sub FunIs) ∷ []) None None message same at at.host_talk (record { device = device_for link.term.display.model; state_is = refl; model_is = own_model link.term.display.model }) first.0
        (ap (λ w. let next = follow HostClosed (start_at (Named (device_for link.term.display.model) lu)) (host_transition (Named (device_for link.term.display.model) lu) (Comes.RequestsFunctions w)) in talked_on (answer_to pool) link.host None next.0 next.1) responses_alone)
        (Grants.none refl (claim_at link.host (start_at (Named (device_for link.term.display.model) lu)) at.host_talk)) (record { term = λ term is. ap (λ (t : Term). t.talk.state) is; down = refl }) first.1 f
    by_talk NegotiationPhase.Offering same at f = no_more at.goes_up
    by_talk NegotiationPhase.AskingType same at f = no_more at.goes_up
    by_talk (NegotiationPhase.Granting lu) same at f = no_more at.goes_up
    by_talk (NegotiationPhase.Agreeing lu) same at f = no_more at.goes_up
    by_talk (NegotiationPhase.Rejecting reason) same at f = no_more at.goes_up
    by_talk (NegotiationPhase.Rejected reason) same at f = no_more at.goes_up

    by_serving : (lu : List ℕ) (serving : SessionPhase) → Sizes app (view_of link) (LinkPhase.InSession lu serving) → IsAt (view_of link) k.wanted (LinkPhase.InSession lu serving) → Fact k.wanted (local_state_of (view_of link)) (LinkPhase.InSession lu serving)
        → ShownAt app link.term.waits link.host link.term.display.before_restored link.term.display.last_restored link.term.display.screen (LinkPhase.InSession lu serving) → Answered app pool link rest (took (answer_to pool) link.host message)
    by_serving lu (SessionPhase.BufferReturning number parts) s at f shown =
        let first = front link.lost link.up message rest _ [] e at.goes_up in
        hears_buffer given app pool link rest k (s.same refl) lu number parts message at f first.0 first.1 shown
    by_serving lu (SessionPhase.DecidingNoteAnswered number command) s at f shown =
        let first = front link.lost link.up message rest _ [] e at.goes_up in
        hears_response given app pool link rest k (s.same refl) lu (SessionPhase.DecidingNoteAnswered number command) SessionPhase.Deciding Kind.ANote number command message at first.0 refl tt f.sees.exact refl refl refl first.1
        (record { lock = f.lock; turn_reason = f.turn_reason; cursor = f.cursor; closed = f.closed; sees = f.sees })
        (λ _. shown.0, unread_settled link.host.turn_reason (once_taken link.host.size command link.host.shadow) shown.1, λ is_first. absurd (subst IsUnread is_first shown.1))
    by_serving lu (SessionPhase.AwaitingWriteResponse kind number command) s at f shown =
        let first = front link.lost link.up message rest _ [] e at.goes_up in
        hears_response given app pool link rest k (s.same refl) lu (SessionPhase.AwaitingWriteResponse kind number command) SessionPhase.OperatorTyping kind number command message at first.0 refl (is_uncleared kind link.host.unheard f.uncleared) f.exact refl refl refl first.1
        (record { shown = f.shown; lock = f.lock; uncleared = f.uncleared; exact = f.exact; meets = f.meets; closed = f.closed; knows = f.knows; held = f.held; messages = f.messages; noted = f.noted })
        shown
    by_serving lu (SessionPhase.KeySentAfterResponse kind number command parts) s at f shown =
        let first = front link.lost link.up message rest _ _ e at.goes_up in
        hears_response given app pool link rest k (s.same refl) lu (SessionPhase.KeySentAfterResponse kind number command parts) (SessionPhase.KeySent parts) kind number command message at first.0 refl
        (is_uncleared kind link.host.unheard f.0.uncleared) f.3 refl refl refl first.1
        (record { lock = f.0.lock; uncleared = f.0.uncleared; form = f.0.form; size = f.0.size; pressed = f.0.pressed; cursor = f.0.cursor; some = f.0.some; home = f.0.home }, f.1, f.2, f.4)
        shown
    by_serving lu (SessionPhase.KeySent parts) s at f shown =
        let first = front link.lost link.up message rest _ [] e at.goes_up in
        hears_key given app pool link rest k (s.same refl) lu (SessionPhase.KeySent parts) SessionPhase.Deciding parts message (Sees link.host.unheard link.host.size screen) at f.0 f.1 first.0 refl (IsKeyTime.nothing_waits refl) refl refl refl first.1
        (λ shadow sees. record { lock = f.0.lock; turn_reason = (refl, f.0.some); cursor = (λ long. ap (λ (c : Option ℕ). unwrap_or c link.host.cursor) (f.0.cursor long), f.0.home); closed = sees.closed; sees = sees })
        (λ shadow sees. (λ _. shown, tt, λ is_first. absurd (cc)))
    by_serving lu (SessionPhase.KeyCrossingNote number command parts) s at f shown =
        let first = front link.lost link.up message rest _ [] e at.goes_up in
        hears_key given app pool link rest k (s.same refl) lu (SessionPhase.KeyCrossingNote number command parts) (SessionPhase.DecidingNoteSent number command) parts message (Sees link.host.unheard link.host.size screen) at f.0 f.1 first.0 refl (IsKeyTime.note_waits number command refl) refl refl refl first.1
        (λ shadow sees. (record { lock = f.0.lock; turn_reason = (refl, f.0.some); cursor = (λ long. ap (λ (c : Option ℕ). unwrap_or c link.host.cursor) (f.0.cursor long), f.0.home); closed = sees.closed; sees = sees }, record { note = f.2.note; takes = f.2.takes }))
        (λ shadow sees. (shown, tt))
    by_serving lu (SessionPhase.KeyBeforeNoteResponse number command parts) s at f shown =
        let first = front link.lost link.up message rest _ _ e at.goes_up in
        hears_key given app pool link rest k (s.same refl) lu (SessionPhase.KeyBeforeNoteResponse number command parts) (SessionPhase.DecidingNoteAnswered number command) parts message (λ shadow. Sees link.host.unheard link.host.size screen (once_taken link.host.size command shadow) × WasNoted link.host.size command shadow) at f.0 f.1 first.0 refl
        (IsKeyTime.note_waits number command refl) refl refl refl first.1
        (λ shadow sees. record { lock = f.0.lock; turn_reason = (refl, f.0.some); cursor = (λ long. ap (λ (c : Option ℕ). unwrap_or c link.host.cursor) (f.0.cursor long), f.0.home); closed = sees.0.closed; sees = sees.0 })
        (λ shadow sees. (shown, tt))
    by_serving lu SessionPhase.Deciding s at f shown = no_more at.goes_up
    by_serving lu (SessionPhase.Reading number) s at f shown = no_more at.goes_up
    by_serving lu (SessionPhase.DecidingNoteSent number command) s at f shown = no_more at.goes_up
    by_serving lu (SessionPhase.Painting number command wants over) s at f shown = no_more at.goes_up
    by_serving lu SessionPhase.OperatorTyping s at f shown = no_more at.goes_up
    by_serving lu (SessionPhase.Noting number command) s at f shown = no_more at.goes_up

    by_moment : (moment : LinkPhase) → Sizes app (view_of link) moment → IsAt (view_of link) k.wanted moment → Fact k.wanted (local_state_of (view_of link)) moment
        → ShownAt app link.term.waits link.host link.term.display.before_restored link.term.display.last_restored link.term.display.screen moment → Answered app pool link rest (took (answer_to pool) link.host message)
    by_moment (LinkPhase.Negotiating talking) s at f shown = by_talk talking (s.same refl) at f
    by_moment (LinkPhase.FirstPaint lu number command wants over) s at f shown = no_more at.goes_up
    by_moment (LinkPhase.InSession lu serving) s at f shown = by_serving lu serving s at f shown

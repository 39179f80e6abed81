-- The queue of a terminal that doesn't wait, beside what one says that does: second keys are between its messages, each where the host
-- drops it.
use Rattle.std.proofs.Common.{◌≡◌, ◌⊎◌, inl, inr, Bool, true, false, ℕ, Option, None, List, [], ◌∷◌, ◌++◌, append-nil, append_assoc, refl, ap, sym, subst, ◌∙◌, if◌then◌else◌}
use Rattle.codes3270.specs.declared.attention.Aid.{Aid}
use Rattle.codes3270.specs.declared.attention.Aid.TheVariants.{NoAid, Enter, Clear, Pf, Pa}
use Rattle.codes3270.specs.declared.size.Model.{Model}
use Rattle.datastream.specs.Grammar.{CommandParts}
use Rattle.datastream.specs.InboundFields.{buffer_data}
use Rattle.datastream.specs.InboundText.{InboundParts}
use Rattle.datastream.specs.Screen.{Screen}
use Rattle.datastream.specs.declared.inbound_part.Form.{Form}
use Rattle.datastream.specs.declared.inbound_part.Form.TheVariants.{Modified}
use Rattle.keyboard.specs.declared.key.Lock.TheVariants.{Wait}
use Rattle.shadow.specs.RuleBreaks.{rule_break}
use Rattle.host_core.specs.Application.{Application}
use Rattle.host_core.specs.Messages.{ToHost}
use Rattle.host_core.specs.Session.{Session, Pending, is_agreed}
use Rattle.host_core.specs.Takes.{Answers, buffer_came, closed_by, data_came, dropping, is_read_believed, may_have_changed, once_agreed, out_of_turn, second_key, second_key_data, took}
use Rattle.host_core.specs.declared.turn.Turn.{Turn}
use Rattle.host_core.specs.declared.turn.Turn.TheVariants as whose
use Rattle.tn3270e_msg.specs.Talk.{NegotiationMessage}
use Rattle.tn3270e_msg.specs.declared.cause.Cause.TheVariants.{BadInbound}
use Rattle.world3270.specs.model.Link.{Link}
use Rattle.world3270.specs.refinement.Phases.{NegotiationPhase, SessionPhase, LinkPhase, IsInFlight, pending_at, turn_at, up_at}
use Rattle.world3270.specs.refinement.Invariant.{Fact, ConnectionInvariant, LocalState, local_state_of}
use Rattle.world3270.specs.refinement.View.{view_of}

-- ---- where the host drops a key

abbrev pub is_dropping : Turn → Pending → Bool
is_dropping whose.Host pending = true
is_dropping whose.Terminal Pending.Nothing = false
is_dropping whose.Terminal (Pending.Writing number command) = true
is_dropping whose.Terminal (Pending.Reading number) = true
is_dropping whose.Terminal (Pending.Noting number command) = false

-- the turn, and what is pending, once a message was heard that isn't dropped
abbrev pub turn_after : ToHost → Turn → Turn
turn_after (ToHost.Data parts) turn = whose.Host
turn_after (ToHost.Response number verdict) turn = turn
turn_after (ToHost.TalksUp saying) turn = turn

abbrev pub is_reading : Pending → Bool
is_reading (Pending.Reading number) = true
is_reading Pending.Nothing = false
is_reading (Pending.Writing number command) = false
is_reading (Pending.Noting number command) = false

abbrev pub unless_read : Pending → Pending
unless_read (Pending.Reading number) = Pending.Nothing
unless_read Pending.Nothing = Pending.Nothing
unless_read (Pending.Writing number command) = Pending.Writing number command
unless_read (Pending.Noting number command) = Pending.Noting number command

abbrev pub pending_after : ToHost → Pending → Pending
pending_after (ToHost.Data parts) pending = unless_read pending
pending_after (ToHost.Response number verdict) pending = Pending.Nothing
pending_after (ToHost.TalksUp saying) pending = pending

-- ---- the queue

-- Enter, a PF or a PA key; Clear is another matter
abbrev pub is_key : Aid → Bool
is_key Enter = true
is_key (Pf key) = true
is_key (Pa key) = true
is_key NoAid = false
is_key Clear = false

pub record IsSecondKey (message : ToHost) : Type 0 where
  pub parts : InboundParts
  pub is : message ≡ ToHost.Data parts
  pub form : parts.form ≡ Modified
  pub key : is_key parts.aid ≡ true

-- `told`: what a terminal says that waits; `real`: what comes up
abbrev pub AddsSecondKeys : Turn → Pending → (told real : List ToHost) → Type 0
AddsSecondKeys turn pending told [] = told ≡ []
AddsSecondKeys turn pending told (message ∷ real) =
    ((is_dropping turn pending ≡ true) × IsSecondKey message × AddsSecondKeys turn pending told real)
    ⊎ ((rest : List ToHost) × (told ≡ message ∷ rest) × AddsSecondKeys (turn_after message turn) (pending_after message pending) rest real)

-- What the waiting terminal says, and what the other one says but for second keys: the same; but a host that only verifies the answer to a
-- Read Buffer makes the same of both answers.
pub data SaysAlike (conn : Session) (told said : List ToHost) : Type 0 where
  same : said ≡ told → SaysAlike conn told said
  checked : (number : ℕ) (one other : Screen) (rest : List ToHost) → conn.pending ≡ Pending.Reading number → is_read_believed conn ≡ false
      → rule_break conn.shadow one.cells ≡ None → rule_break conn.shadow other.cells ≡ None
      → told ≡ ToHost.Data (buffer_data conn.size one) ∷ rest → said ≡ ToHost.Data (buffer_data conn.size other) ∷ rest → SaysAlike conn told said

-- `told`: what a terminal says that waits; `real`: what comes up
pub record Says (conn : Session) (told real : List ToHost) : Type 0 where
  pub said : List ToHost
  pub alike : SaysAlike conn told said
  pub up : AddsSecondKeys conn.turn conn.pending said real

-- whether the host drops a key once all this was heard
abbrev pub drops_behind : List ToHost → Turn → Pending → Bool
drops_behind [] turn pending = is_dropping turn pending
drops_behind (message ∷ told) turn pending = drops_behind told (turn_after message turn) (pending_after message pending)

-- ---- a second key comes last, if it is dropped

pub extra_last : (turn : Turn) (pending : Pending) (told real : List ToHost) (key : ToHost) → IsSecondKey key → drops_behind told turn pending ≡ true → AddsSecondKeys turn pending told real
    → AddsSecondKeys turn pending told (real ++ key ∷ [])
extra_last turn pending told [] key is drops x = inl (subst (λ (l : List ToHost). drops_behind l turn pending ≡ true) x drops, is, x)
extra_last turn pending told (message ∷ real) key is drops (inl x) = inl (x.0, x.1, extra_last turn pending told real key is drops x.2)
extra_last turn pending told (message ∷ real) key is drops (inr x) =
    inr (x.0, x.1, extra_last (turn_after message turn) (pending_after message pending) x.0 real key is (subst (λ (l : List ToHost). drops_behind l turn pending ≡ true) x.1 drops) x.2)

-- ---- both say the same last

pub same_last : (turn : Turn) (pending : Pending) (told real : List ToHost) (message : ToHost) → AddsSecondKeys turn pending told real → AddsSecondKeys turn pending (told ++ message ∷ []) (real ++ message ∷ [])
same_last turn pending told [] message x = inr ([], ap (λ (l : List ToHost). l ++ message ∷ []) x, refl)
same_last turn pending told (first ∷ real) message (inl x) = inl (x.0, x.1, same_last turn pending told real message x.2)
same_last turn pending told (first ∷ real) message (inr x) =
    inr (x.0 ++ message ∷ [], ap (λ (l : List ToHost). l ++ message ∷ []) x.1, same_last (turn_after first turn) (pending_after first pending) x.0 real message x.2)

-- both say the same, whatever it is
pub same_more : (turn : Turn) (pending : Pending) (told real messages : List ToHost) → AddsSecondKeys turn pending told real → AddsSecondKeys turn pending (told ++ messages) (real ++ messages)
same_more turn pending told real [] x =
    subst (λ (l : List ToHost). AddsSecondKeys turn pending l (real ++ [])) (sym (append-nil told)) (subst (λ (l : List ToHost). AddsSecondKeys turn pending told l) (sym (append-nil real)) x)
same_more turn pending told real (message ∷ messages) x =
    subst (λ (l : List ToHost). AddsSecondKeys turn pending l (real ++ message ∷ messages)) (append_assoc told (message ∷ []) messages)
    (subst (λ (l : List ToHost). AddsSecondKeys turn pending ((told ++ message ∷ []) ++ messages) l) (append_assoc real (message ∷ []) messages)
    (same_more turn pending (told ++ message ∷ []) (real ++ message ∷ []) messages (same_last turn pending told real message x)))

alike_more : (conn : Session) (told said messages : List ToHost) → SaysAlike conn told said → SaysAlike conn (told ++ messages) (said ++ messages)
alike_more conn told said messages (SaysAlike.same is) = SaysAlike.same (ap (λ (l : List ToHost). l ++ messages) is)
alike_more conn told said messages (SaysAlike.checked number one other rest pends skips one_kept other_kept is_told is_said) =
    SaysAlike.checked number one other (rest ++ messages) pends skips one_kept other_kept (ap (λ (l : List ToHost). l ++ messages) is_told) (ap (λ (l : List ToHost). l ++ messages) is_said)

pub says_more : (conn : Session) (told real messages : List ToHost) → Says conn told real → Says conn (told ++ messages) (real ++ messages)
says_more conn told real messages s = record {
  said = s.said ++ messages;
  alike = alike_more conn told s.said messages s.alike;
  up = same_more conn.turn conn.pending s.said real messages s.up;
}

-- a second key comes last
pub key_last : (conn : Session) (told real : List ToHost) (key : ToHost) → IsSecondKey key → drops_behind told conn.turn conn.pending ≡ true → Says conn told real → Says conn told (real ++ key ∷ [])
key_last conn told real key is drops s = record {
  said = s.said;
  alike = s.alike;
  up = extra_last conn.turn conn.pending s.said real key is (by_alike s.alike) s.up;
}
  where
    by_alike : SaysAlike conn told s.said → drops_behind s.said conn.turn conn.pending ≡ true
    by_alike (SaysAlike.same is_same) = ap (λ (l : List ToHost). drops_behind l conn.turn conn.pending) is_same ∙ drops
    by_alike (SaysAlike.checked number one other rest pends skips one_kept other_kept is_told is_said) =
        ap (λ (l : List ToHost). drops_behind l conn.turn conn.pending) is_said
        ∙ sym (ap (λ (l : List ToHost). drops_behind l conn.turn conn.pending) is_told)
        ∙ drops

-- nothing is read where nothing was asked
pub alike_unread : (conn : Session) (told said : List ToHost) → conn.pending ≡ Pending.Nothing → SaysAlike conn told said → said ≡ told
alike_unread conn told said quiet (SaysAlike.same is) = is
alike_unread conn told said quiet (SaysAlike.checked number one other rest pends skips one_kept other_kept is_told is_said) =
    absurd (let wrong : Pending.Reading number ≡ Pending.Nothing = sym pends ∙ quiet in cc)

-- nor said
pub alike_silent : (conn : Session) (told said : List ToHost) → told ≡ [] → SaysAlike conn told said → said ≡ []
alike_silent conn told said none (SaysAlike.same is) = is ∙ none
alike_silent conn told said none (SaysAlike.checked number one other rest pends skips one_kept other_kept is_told is_said) =
    absurd (let wrong : ToHost.Data (buffer_data conn.size one) ∷ rest ≡ [] = sym is_told ∙ none in cc)

-- nothing is said to the talk but what the waiting terminal says
pub alike_talk : (conn : Session) (told said : List ToHost) (saying : NegotiationMessage) (rest : List ToHost) → said ≡ ToHost.TalksUp saying ∷ rest → SaysAlike conn told said → told ≡ ToHost.TalksUp saying ∷ rest
alike_talk conn told said saying rest is (SaysAlike.same is_same) = sym is_same ∙ is
alike_talk conn told said saying rest is (SaysAlike.checked number one other more pends skips one_kept other_kept is_told is_said) =
    absurd (let wrong : ToHost.Data (buffer_data conn.size other) ∷ more ≡ ToHost.TalksUp saying ∷ rest = sym is_said ∙ is in cc)

-- ---- the host acts, or sends a note

-- where there are second keys alone, they are dropped at any moment at which the host drops keys
pub only_extras : (turn turn_now : Turn) (pending pending_now : Pending) (real : List ToHost) → is_dropping turn_now pending_now ≡ true → AddsSecondKeys turn pending [] real → AddsSecondKeys turn_now pending_now [] real
only_extras turn turn_now pending pending_now [] drops x = refl
only_extras turn turn_now pending pending_now (message ∷ real) drops (inl x) = inl (drops, x.1, only_extras turn turn_now pending pending_now real drops x.2)
only_extras turn turn_now pending pending_now (message ∷ real) drops (inr x) = absurd (let some = x.1 in cc)

noted_host : (number : ℕ) (command : CommandParts) (told real : List ToHost) → AddsSecondKeys whose.Host Pending.Nothing told real → AddsSecondKeys whose.Host (Pending.Noting number command) told real
noted_host number command told [] x = x
noted_host number command told (message ∷ real) (inl x) = inl (refl, x.1, noted_host number command told real x.2)
noted_host number command told (ToHost.Data parts ∷ real) (inr x) = inr (x.0, x.1, noted_host number command x.0 real x.2)
noted_host number command told (ToHost.Response given verdict ∷ real) (inr x) = inr x
noted_host number command told (ToHost.TalksUp saying ∷ real) (inr x) = inr (x.0, x.1, noted_host number command x.0 real x.2)

pub noted_extras : (number : ℕ) (command : CommandParts) (told real : List ToHost) → AddsSecondKeys whose.Terminal Pending.Nothing told real → AddsSecondKeys whose.Terminal (Pending.Noting number command) told real
noted_extras number command told [] x = x
noted_extras number command told (message ∷ real) (inl x) = absurd (let clash = x.0 in cc)
noted_extras number command told (ToHost.Data parts ∷ real) (inr x) = inr (x.0, x.1, noted_host number command x.0 real x.2)
noted_extras number command told (ToHost.Response given verdict ∷ real) (inr x) = inr x
noted_extras number command told (ToHost.TalksUp saying ∷ real) (inr x) = inr (x.0, x.1, noted_extras number command x.0 real x.2)

-- ---- the host drops it

second_key_is : (parts : InboundParts) (conn : Session) (aid : Aid) → is_key aid ≡ true → second_key parts aid conn.pending conn ≡ dropping aid conn
second_key_is parts conn Enter key = refl
second_key_is parts conn (Pf number) key = refl
second_key_is parts conn (Pa number) key = refl
second_key_is parts conn NoAid key = absurd (cc)
second_key_is parts conn Clear key = absurd (cc)

pub comes_out_of_turn : (parts : InboundParts) (conn : Session) (turn : Turn) (pending : Pending) → is_dropping turn pending ≡ true → parts.form ≡ Modified → data_came parts turn pending conn ≡ out_of_turn parts conn
comes_out_of_turn parts conn whose.Host Pending.Nothing drops form = refl
comes_out_of_turn parts conn whose.Host (Pending.Writing number command) drops form = refl
comes_out_of_turn parts conn whose.Host (Pending.Reading number) drops form = ap (λ (f : Form). buffer_came parts f conn) form
comes_out_of_turn parts conn whose.Host (Pending.Noting number command) drops form = refl
comes_out_of_turn parts conn whose.Terminal (Pending.Writing number command) drops form = refl
comes_out_of_turn parts conn whose.Terminal (Pending.Reading number) drops form = ap (λ (f : Form). buffer_came parts f conn) form
comes_out_of_turn parts conn whose.Terminal Pending.Nothing drops form = absurd (cc)
comes_out_of_turn parts conn whose.Terminal (Pending.Noting number command) drops form = absurd (cc)

-- a host that doesn't rely on the wait drops a second key, and nothing changes
pub second_key_dropped : (pool : Answers) (conn : Session) (message : ToHost) (is : IsSecondKey message) → is_agreed conn.talk.state ≡ true → may_have_changed conn.unheard ≡ true → is_dropping conn.turn conn.pending ≡ true
    → took pool conn message ≡ dropping is.parts.aid conn
second_key_dropped pool conn message is agrees changed drops =
    let parts : InboundParts = is.parts in
    ap (took pool conn) is.is
    ∙ ap (λ (b : Bool). once_agreed b (data_came parts conn.turn conn.pending conn) conn) agrees
    ∙ comes_out_of_turn parts conn conn.turn conn.pending drops is.form
    ∙ ap (λ (b : Bool). if b then second_key_data parts parts.form conn else closed_by BadInbound conn) changed
    ∙ ap (λ (f : Form). second_key_data parts f conn) is.form
    ∙ second_key_is parts conn parts.aid is.key

-- ---- where a terminal waits, a key that is pressed is dropped

-- all that is under way is in the queue, unless the connection is lost
all_queued : (queue messages : List ToHost) → IsInFlight false queue messages → queue ≡ messages
all_queued queue messages way = sym (append-nil queue) ∙ sym (ap (λ (vanished : List ToHost). queue ++ vanished) (way.none refl)) ∙ way.whole

drops_at : (model : Model) (wanted : Option (List ℕ)) (s : LocalState) (moment : LinkPhase) → s.lock ≡ Wait → Fact wanted s moment → drops_behind (up_at model wanted moment) (turn_at moment) (pending_at moment) ≡ true
drops_at model wanted s (LinkPhase.Negotiating NegotiationPhase.Offering) waits f = refl
drops_at model wanted s (LinkPhase.Negotiating NegotiationPhase.Accepting) waits f = refl
drops_at model wanted s (LinkPhase.Negotiating NegotiationPhase.AskingType) waits f = refl
drops_at model wanted s (LinkPhase.Negotiating NegotiationPhase.NamingType) waits f = refl
drops_at model wanted s (LinkPhase.Negotiating (NegotiationPhase.Granting lu)) waits f = refl
drops_at model wanted s (LinkPhase.Negotiating (NegotiationPhase.AskingFunctions lu)) waits f = refl
drops_at model wanted s (LinkPhase.Negotiating (NegotiationPhase.Agreeing lu)) waits f = refl
drops_at model wanted s (LinkPhase.Negotiating (NegotiationPhase.Rejecting reason)) waits f = refl
drops_at model wanted s (LinkPhase.Negotiating (NegotiationPhase.Rejected reason)) waits f = refl
drops_at model wanted s (LinkPhase.FirstPaint lu number command paints over) waits f = refl
drops_at model wanted s (LinkPhase.InSession lu SessionPhase.Deciding) waits f = refl
drops_at model wanted s (LinkPhase.InSession lu (SessionPhase.Reading number)) waits f = refl
drops_at model wanted s (LinkPhase.InSession lu (SessionPhase.BufferReturning number parts)) waits f = refl
drops_at model wanted s (LinkPhase.InSession lu (SessionPhase.DecidingNoteSent number command)) waits f = refl
drops_at model wanted s (LinkPhase.InSession lu (SessionPhase.DecidingNoteAnswered number command)) waits f = refl
drops_at model wanted s (LinkPhase.InSession lu (SessionPhase.Painting number command paints over)) waits f = refl
drops_at model wanted s (LinkPhase.InSession lu (SessionPhase.AwaitingWriteResponse kind number command)) waits f = absurd (f.lock waits)
drops_at model wanted s (LinkPhase.InSession lu SessionPhase.OperatorTyping) waits f = absurd (f.lock waits)
drops_at model wanted s (LinkPhase.InSession lu (SessionPhase.Noting number command)) waits f = absurd (f.0.lock waits)
drops_at model wanted s (LinkPhase.InSession lu (SessionPhase.KeySent parts)) waits f = refl
drops_at model wanted s (LinkPhase.InSession lu (SessionPhase.KeySentAfterResponse kind number command parts)) waits f = refl
drops_at model wanted s (LinkPhase.InSession lu (SessionPhase.KeyCrossingNote number command parts)) waits f = refl
drops_at model wanted s (LinkPhase.InSession lu (SessionPhase.KeyBeforeNoteResponse number command parts)) waits f = refl

pub waits_drop : (app : Application) (link : Link) → ConnectionInvariant app (view_of link) → link.lost ≡ false → link.term.display.keyboard.lock ≡ Wait → drops_behind link.up link.host.turn link.host.pending ≡ true
waits_drop app link k whole waits =
    let queued : link.up ≡ up_at link.term.display.model k.wanted k.moment =
    all_queued link.up (up_at link.term.display.model k.wanted k.moment) (subst (λ (lost : Bool). IsInFlight lost link.up (up_at link.term.display.model k.wanted k.moment)) whole k.at.goes_up) in
    ap (λ (up : List ToHost). drops_behind up link.host.turn link.host.pending) queued
    ∙ ap (λ (turn : Turn). drops_behind (up_at link.term.display.model k.wanted k.moment) turn link.host.pending) k.at.turn
    ∙ ap (λ (pending : Pending). drops_behind (up_at link.term.display.model k.wanted k.moment) (turn_at k.moment) pending) k.at.pending
    ∙ drops_at link.term.display.model k.wanted (local_state_of (view_of link)) k.moment waits k.fact

-- The headline follows from what is kept of each connection.
use Rattle.std.proofs.Common.{◌≡◌, ℕ, Bool, true, false, ◌||◌, Option, Some, None, List, [], ◌∷◌, ◌++◌, refl, ap, sym, subst, ◌∙◌}
use Rattle.codes3270.specs.declared.size.Model.{Model}
use Rattle.std.specs.List.{list_any}
use Rattle.std.specs.Prelude.{is_some}
use Rattle.codes3270.specs.declared.attention.Aid.{Aid}
use Rattle.codes3270.specs.declared.attention.Aid.TheVariants.{NoAid, Enter as EnterAid, Clear as ClearAid, Pf as PfAid, Pa as PaAid}
use Rattle.shadow.specs.Meets.{Meets, ListsFields, IsTold}
use Rattle.shadow.specs.Belief.{Shadow}
use Rattle.shadow.specs.TextUnknown.{NothingIsOpen}
use Rattle.tn3270e_msg.specs.HostTable.{granted}
use Rattle.tn3270e_msg.specs.declared.host_talk.HostState.{HostState}
use Rattle.tn3270e_msg.specs.declared.host_talk.HostState.TheVariants.{Offered, Asked, Asking, Named, Countered, Agreed, Closed}
use Rattle.lu_pool.specs.Holders.{holder}
use Rattle.host_core.specs.Answering.{number_of}
use Rattle.host_core.specs.Application.{Application}
use Rattle.host_core.specs.Messages.{ToHost}
use Rattle.host_core.specs.declared.turn.Turn.TheVariants as whose
use Rattle.host_core.specs.declared.turn_reason.TurnReason.{TurnReason}
use Rattle.host_core.specs.declared.turn_reason.TurnReason.TheVariants as turn_reasons
use Rattle.host_core.specs.Session.{Session, Pending, agreed_lu}
use Rattle.world3270.specs.statement.Always.{Always, HeadlineHolds, is_refusal, NoCommandIsRejected}
use Rattle.world3270.specs.refinement.LowerLaws.{LowerLaws}
use Rattle.world3270.specs.model.Steps.{run}
use Rattle.world3270.specs.statement.Headline.{SentFields, OneSessionEach, BoundIsGranted, IsHostsTurn, Agrees}
use Rattle.world3270.specs.model.Link.{Link}
use Rattle.world3270.specs.refinement.Phases.{NegotiationPhase, SessionPhase, LinkPhase, IsInFlight, IsAt, turn_at, pending_at, up_at}
use Rattle.world3270.specs.statement.TurnReasons.{IsOccasion, IsOpenBy, IsOpenFor, IsCleared, ActsOnTheKey, KnowsTheCleared, LeavesNothingOpen}
use Rattle.world3270.specs.statement.Observation.{HostSeen, TerminalSeen, conn_seen, end_seen, host_seen, seen, seen_link, terminal_seen}
use Rattle.world3270.specs.refinement.Invariant.{local_state_of, Fact, IfRelies, ConnectionInvariant}
use Rattle.world3270.specs.model.Terminal.{TermEnd, bound_to}
use Rattle.world3270.specs.refinement.View.{View, view_of}
use Rattle.world3270.specs.model.World.{World, new_world}
use Rattle.world3270.proofs.Down.{none_open}
use Rattle.world3270.proofs.AsLeft.{as_left}
use Rattle.world3270.proofs.Worlds.{GoodWorld, run_good, new_good}
use Rattle.world3270.proofs.TalkStates.{agreed_on, talking_unbound}

-- ---- who is bound to what

-- where the terminal is bound to an LU, the host's end agreed on it
pub bound_agrees : (app : Application) (v : View) (mine : List ℕ) → ConnectionInvariant app v → bound_to v.talk.talk.state ≡ Some mine → agreed_lu v.host.talk.state ≡ Some mine
bound_agrees app v mine k e = by_moment k.moment k.at
  where
    by_moment : (moment : LinkPhase) → IsAt v k.wanted moment → agreed_lu v.host.talk.state ≡ Some mine
    by_moment (LinkPhase.Negotiating talking) at = absurd (talking_unbound v.model k.wanted talking v.talk at.term_talk (ap is_some e))
    by_moment (LinkPhase.FirstPaint lu number command wanted over) at = absurd (let wrong = sym (ap bound_to at.term_talk) ∙ e in cc)
    by_moment (LinkPhase.InSession lu serving) at = agreed_on v.host.talk at.host_talk ∙ sym (ap bound_to at.term_talk) ∙ e

-- an LU that was agreed on was granted
agreed_granted : (state : HostState) (mine : List ℕ) → agreed_lu state ≡ Some mine → granted state ≡ Some mine
agreed_granted (Agreed device lu) mine e = e
agreed_granted Offered mine e = absurd (cc)
agreed_granted Asked mine e = absurd (cc)
agreed_granted (Asking device) mine e = absurd (cc)
agreed_granted (Named device lu) mine e = absurd (cc)
agreed_granted (Countered device lu) mine e = absurd (cc)
agreed_granted (Closed cause) mine e = absurd (cc)

-- an end that is seen is attached
pub host_attached : (here : Bool) (conn : Session) (host : HostSeen) → host_seen here conn ≡ Some host → (here ≡ true) × (host ≡ conn_seen conn)
host_attached true conn host e = (refl, let same : Some host ≡ Some (conn_seen conn) = sym e in cc)
host_attached false conn host e = absurd (cc)

pub terminal_attached : (here : Option ℕ) (end : TermEnd) (terminal : TerminalSeen) → terminal_seen here end ≡ Some terminal → (number : ℕ) × (here ≡ Some number) × (terminal ≡ end_seen number end)
terminal_attached None end terminal e = absurd (cc)
terminal_attached (Some number) end terminal e = (number, refl, let same : Some terminal ≡ Some (end_seen number end) = sym e in cc)

bound_granted : (app : Application) (world : World) → GoodWorld app world → BoundIsGranted (seen world)
bound_granted app world g number host terminal lu host_is terminal_is bound =
    let link : Link = world.link number in
    let here = host_attached link.host_here link.host host host_is in
    let there = terminal_attached link.term_here link.term terminal terminal_is in
    let agreed = bound_agrees app (view_of link) lu (g.links number) (sym (ap (λ (t : TerminalSeen). t.bound) there.2) ∙ bound) in
    record {
      agreed = ap (λ (h : HostSeen). h.agreed) here.1 ∙ agreed;
      held = g.holds number lu here.0 (agreed_granted link.host.talk.state lu agreed);
    }

one_session : (app : Application) (world : World) → GoodWorld app world → OneSessionEach (seen world)
one_session app world g one other lu here there =
    let first : holder world.pool lu ≡ Some one = (bound_granted app world g one here.host here.terminal lu here.host_is here.terminal_is here.bound).held in
    let second : holder world.pool lu ≡ Some other = (bound_granted app world g other there.host there.terminal lu there.host_is there.terminal_is there.bound).held in
    let same : Some one ≡ Some other = sym first ∙ second in
    cc

-- ---- what the host knows in its turn

pub record Knows (v : View) : Type 0 where
  pub meets : Meets v.host.shadow v.screen
  pub lists : ListsFields v.host.shadow v.screen
  pub told : SentFields v.screen.aid → IsTold v.host.shadow v.screen
  pub turn_reason : IsOccasion v.host.turn_reason v.screen.aid
  pub closed : IfRelies v.host.unheard (IsOpenFor v.host.turn_reason v.host.shadow)
  pub cleared : v.screen.aid ≡ ClearAid → IsCleared v.host.size v.host.shadow

-- the moments at which it holds the turn, with nothing that waits for an answer
knows_by : (wanted : Option (List ℕ)) (v : View) (moment : LinkPhase) → Fact wanted (local_state_of v) moment → turn_at moment ≡ whose.Host → pending_at moment ≡ Pending.Nothing → Knows v
knows_by wanted v (LinkPhase.Negotiating talking) f t p = record {
  meets = subst (λ s. Meets s v.screen) (sym f.0.shadow) tt;
  lists = λ some. absurd (some f.0.no_fields);
  told = λ sent. absurd (subst SentFields f.0.aid sent);
  turn_reason = subst (λ o. IsOccasion o v.screen.aid) (sym f.0.turn_reason) f.0.aid;
  closed = λ relies. subst (λ o. IsOpenFor o v.host.shadow) (sym f.0.turn_reason) (none_open v.host.shadow f.0.shadow);
  cleared = λ clear. absurd (let x = sym f.0.aid ∙ clear in cc);
}
knows_by wanted v (LinkPhase.FirstPaint lu number command wants over) f t p = absurd (cc)
knows_by wanted v (LinkPhase.InSession lu SessionPhase.Deciding) f t p =
    record { meets = f.sees.meets; lists = f.sees.lists; told = f.sees.told; turn_reason = f.turn_reason; closed = f.closed; cleared = f.sees.cleared }
knows_by wanted v (LinkPhase.InSession lu (SessionPhase.Reading number)) f t p = absurd (cc)
knows_by wanted v (LinkPhase.InSession lu (SessionPhase.BufferReturning number parts)) f t p = absurd (cc)
knows_by wanted v (LinkPhase.InSession lu (SessionPhase.DecidingNoteSent number command)) f t p = absurd (cc)
knows_by wanted v (LinkPhase.InSession lu (SessionPhase.DecidingNoteAnswered number command)) f t p = absurd (cc)
knows_by wanted v (LinkPhase.InSession lu (SessionPhase.Painting number command wants over)) f t p = absurd (cc)
knows_by wanted v (LinkPhase.InSession lu (SessionPhase.AwaitingWriteResponse kind number command)) f t p = absurd (cc)
knows_by wanted v (LinkPhase.InSession lu SessionPhase.OperatorTyping) f t p = absurd (cc)
knows_by wanted v (LinkPhase.InSession lu (SessionPhase.Noting number command)) f t p = absurd (cc)
knows_by wanted v (LinkPhase.InSession lu (SessionPhase.KeySent parts)) f t p = absurd (cc)
knows_by wanted v (LinkPhase.InSession lu (SessionPhase.KeySentAfterResponse kind number command parts)) f t p = absurd (cc)
knows_by wanted v (LinkPhase.InSession lu (SessionPhase.KeyCrossingNote number command parts)) f t p = absurd (cc)
knows_by wanted v (LinkPhase.InSession lu (SessionPhase.KeyBeforeNoteResponse number command parts)) f t p = absurd (cc)

pub knows_at : (app : Application) (v : View) → ConnectionInvariant app v → v.host.turn ≡ whose.Host → v.host.pending ≡ Pending.Nothing → Knows v
knows_at app v k t p = knows_by k.wanted v k.moment k.fact (sym k.at.turn ∙ t) (sym k.at.pending ∙ p)

-- no number waits: nothing does
pub nothing_waits : (pending : Pending) → number_of pending ≡ None → pending ≡ Pending.Nothing
nothing_waits Pending.Nothing e = refl
nothing_waits (Pending.Writing number command) e = absurd (cc)
nothing_waits (Pending.Reading number) e = absurd (cc)
nothing_waits (Pending.Noting number command) e = absurd (cc)

knows_turn : (app : Application) (link : Link) → ConnectionInvariant app (view_of link) → IsHostsTurn (seen_link link) → Knows (view_of link)
knows_turn app link k h =
    let here = host_attached link.host_here link.host h.host h.host_is in
    knows_at app (view_of link) k (sym (ap (λ (host : HostSeen). host.turn) here.1) ∙ h.turn)
    (nothing_waits link.host.pending (sym (ap (λ (host : HostSeen). host.pending) here.1) ∙ h.answered))

-- a key that sent fields isn't Clear
not_clear : (aid : Aid) → SentFields aid → aid ≡ ClearAid → ⊥
not_clear NoAid sent is = absurd sent
not_clear EnterAid sent is = absurd (cc)
not_clear (PfAid key) sent is = absurd (cc)
not_clear (PaAid key) sent is = absurd sent
not_clear ClearAid sent is = absurd sent

pub agrees : LowerLaws → (app : Application) (link : Link) → ConnectionInvariant app (view_of link) → (h : IsHostsTurn (seen_link link)) → Agrees h.host h.terminal
agrees given app link k h =
    let v : View = view_of link in
    let known = knows_turn app link k h in
    let here = host_attached link.host_here link.host h.host h.host_is in
    let there = terminal_attached link.term_here link.term h.terminal h.terminal_is in
    let both : Agrees (conn_seen link.host) (end_seen there.0 link.term) =
    record {
      sees = record { meets = known.meets; protected = given.belief.seen v.host.shadow v.screen known.meets known.lists k.exact.protected };
      returned = λ sent. given.belief.told v.host.shadow v.screen known.meets known.lists k.exact.protected (known.told sent);
      unreturned = λ sent. as_left v.erased v.last_restored.cells v.screen.cells (k.unreturned (not_clear v.screen.aid sent));
    } in
    subst (λ (host : HostSeen). Agrees host h.terminal) (sym here.1)
    (subst (λ (terminal : TerminalSeen). Agrees (conn_seen link.host) terminal) (sym there.2) both)

-- ---- nobody refuses

none_of : {X : Type 0} (p : X → Bool) (xs ys : List X) → list_any p (xs ++ ys) ≡ false → list_any p xs ≡ false
none_of p [] ys h = refl
none_of p (x ∷ xs) ys h = by_test (p x) h (none_of p xs ys)
  where
    by_test : (b : Bool) → (b || list_any p (xs ++ ys)) ≡ false → (list_any p (xs ++ ys) ≡ false → list_any p xs ≡ false) → (b || list_any p xs) ≡ false
    by_test true e more = absurd (cc)
    by_test false e more = more e

none_under : (lost : Bool) (queue messages : List ToHost) → IsInFlight lost queue messages → list_any is_refusal messages ≡ false → list_any is_refusal queue ≡ false
none_under lost queue messages way h = none_of is_refusal queue way.vanished (ap (list_any is_refusal) way.whole ∙ h)

-- at no moment is a refusal under way
none_at : (model : Model) (wanted : Option (List ℕ)) (moment : LinkPhase) → list_any is_refusal (up_at model wanted moment) ≡ false
none_at model wanted (LinkPhase.Negotiating NegotiationPhase.Offering) = refl
none_at model wanted (LinkPhase.Negotiating NegotiationPhase.Accepting) = refl
none_at model wanted (LinkPhase.Negotiating NegotiationPhase.AskingType) = refl
none_at model wanted (LinkPhase.Negotiating NegotiationPhase.NamingType) = refl
none_at model wanted (LinkPhase.Negotiating (NegotiationPhase.Granting lu)) = refl
none_at model wanted (LinkPhase.Negotiating (NegotiationPhase.AskingFunctions lu)) = refl
none_at model wanted (LinkPhase.Negotiating (NegotiationPhase.Agreeing lu)) = refl
none_at model wanted (LinkPhase.Negotiating (NegotiationPhase.Rejecting reason)) = refl
none_at model wanted (LinkPhase.Negotiating (NegotiationPhase.Rejected reason)) = refl
none_at model wanted (LinkPhase.FirstPaint lu number command wants over) = refl
none_at model wanted (LinkPhase.InSession lu SessionPhase.Deciding) = refl
none_at model wanted (LinkPhase.InSession lu (SessionPhase.Reading number)) = refl
none_at model wanted (LinkPhase.InSession lu (SessionPhase.BufferReturning number parts)) = refl
none_at model wanted (LinkPhase.InSession lu (SessionPhase.DecidingNoteSent number command)) = refl
none_at model wanted (LinkPhase.InSession lu (SessionPhase.DecidingNoteAnswered number command)) = refl
none_at model wanted (LinkPhase.InSession lu (SessionPhase.Painting number command wants over)) = refl
none_at model wanted (LinkPhase.InSession lu (SessionPhase.AwaitingWriteResponse kind number command)) = refl
none_at model wanted (LinkPhase.InSession lu SessionPhase.OperatorTyping) = refl
none_at model wanted (LinkPhase.InSession lu (SessionPhase.Noting number command)) = refl
none_at model wanted (LinkPhase.InSession lu (SessionPhase.KeySent parts)) = refl
none_at model wanted (LinkPhase.InSession lu (SessionPhase.KeySentAfterResponse kind number command parts)) = refl
none_at model wanted (LinkPhase.InSession lu (SessionPhase.KeyCrossingNote number command parts)) = refl
none_at model wanted (LinkPhase.InSession lu (SessionPhase.KeyBeforeNoteResponse number command parts)) = refl

-- in the host's turn the reason is agreement or a key
no_refusal : (reason : TurnReason) (aid : Aid) → IsOccasion reason aid → reason ≡ turn_reasons.Refusal → ⊥
no_refusal turn_reasons.Agreement aid is e = absurd (cc)
no_refusal (turn_reasons.Key pressed buffered) aid is e = absurd (cc)
no_refusal turn_reasons.Refusal aid is e = is
no_refusal turn_reasons.Restoration aid is e = is

heard_by : (wanted : Option (List ℕ)) (v : View) (moment : LinkPhase) → Fact wanted (local_state_of v) moment → turn_at moment ≡ whose.Host → v.host.turn_reason ≡ turn_reasons.Refusal → ⊥
heard_by wanted v (LinkPhase.Negotiating talking) f t e = absurd (let first = sym f.0.turn_reason ∙ e in cc)
heard_by wanted v (LinkPhase.FirstPaint lu number command wants over) f t e = absurd (cc)
heard_by wanted v (LinkPhase.InSession lu SessionPhase.Deciding) f t e = no_refusal v.host.turn_reason v.screen.aid f.turn_reason e
heard_by wanted v (LinkPhase.InSession lu (SessionPhase.Reading number)) f t e = no_refusal v.host.turn_reason v.screen.aid f.decides.turn_reason e
heard_by wanted v (LinkPhase.InSession lu (SessionPhase.BufferReturning number parts)) f t e = no_refusal v.host.turn_reason v.screen.aid f.turn_reason e
heard_by wanted v (LinkPhase.InSession lu (SessionPhase.DecidingNoteSent number command)) f t e = no_refusal v.host.turn_reason v.screen.aid f.0.turn_reason e
heard_by wanted v (LinkPhase.InSession lu (SessionPhase.DecidingNoteAnswered number command)) f t e = no_refusal v.host.turn_reason v.screen.aid f.turn_reason e
heard_by wanted v (LinkPhase.InSession lu (SessionPhase.Painting number command wants over)) f t e = absurd (cc)
heard_by wanted v (LinkPhase.InSession lu (SessionPhase.AwaitingWriteResponse kind number command)) f t e = absurd (cc)
heard_by wanted v (LinkPhase.InSession lu SessionPhase.OperatorTyping) f t e = absurd (cc)
heard_by wanted v (LinkPhase.InSession lu (SessionPhase.Noting number command)) f t e = absurd (cc)
heard_by wanted v (LinkPhase.InSession lu (SessionPhase.KeySent parts)) f t e = absurd (cc)
heard_by wanted v (LinkPhase.InSession lu (SessionPhase.KeySentAfterResponse kind number command parts)) f t e = absurd (cc)
heard_by wanted v (LinkPhase.InSession lu (SessionPhase.KeyCrossingNote number command parts)) f t e = absurd (cc)
heard_by wanted v (LinkPhase.InSession lu (SessionPhase.KeyBeforeNoteResponse number command parts)) f t e = absurd (cc)

none_heard : (app : Application) (v : View) → ConnectionInvariant app v → v.host.turn ≡ whose.Host → v.host.turn_reason ≡ turn_reasons.Refusal → ⊥
none_heard app v k turn reason = heard_by k.wanted v k.moment k.fact (sym k.at.turn ∙ turn) reason

none_refused : (app : Application) (v : View) → ConnectionInvariant app v → list_any is_refusal v.up ≡ false
none_refused app v k = none_under v.lost v.up (up_at v.model k.wanted k.moment) k.at.goes_up (none_at v.model k.wanted k.moment)

-- ---- the theorems

pub headline : LowerLaws → Always HeadlineHolds
headline given app serves pool models events is lists few are =
    let world : World = run app events (new_world app serves pool models) in
    let g = run_good given app is events (new_world app serves pool models) are (new_good given app is serves pool models lists) in
    record { one_session_each = one_session app world g; bound_is_granted = bound_granted app world g; agrees = λ number h. agrees given app (world.link number) (g.links number) h }

pub nobody_refuses : LowerLaws → Always NoCommandIsRejected
nobody_refuses given app serves pool models events is lists few are =
    let world : World = run app events (new_world app serves pool models) in
    let g = run_good given app is events (new_world app serves pool models) are (new_good given app is serves pool models lists) in
    record {
      none_said = g.positive;
      none_refused = λ number. none_refused app (view_of (world.link number)) (g.links number);
      none_heard = λ number. none_heard app (view_of (world.link number)) (g.links number);
      none_restored = λ number. (g.links number).unrestored;
      none_closed = g.uncaused;
    }

pub acts_on_the_key : LowerLaws → Always ActsOnTheKey
acts_on_the_key given app serves pool models events is lists few are =
    let world : World = run app events (new_world app serves pool models) in
    let g = run_good given app is events (new_world app serves pool models) are (new_good given app is serves pool models lists) in
    λ number h. (knows_turn app (world.link number) (g.links number) h).turn_reason

sent_closed : (aid : Aid) (buffered : Bool) (s : Shadow) → SentFields aid → IsOpenBy aid buffered s → NothingIsOpen s
sent_closed EnterAid buffered s sent o = o
sent_closed (PfAid key) buffered s sent o = o
sent_closed NoAid buffered s sent o = absurd sent
sent_closed ClearAid buffered s sent o = absurd sent
sent_closed (PaAid key) buffered s sent o = absurd sent

closed_by_key : (turn_reason : TurnReason) (aid : Aid) (s : Shadow) → IsOccasion turn_reason aid → SentFields aid → IsOpenFor turn_reason s → NothingIsOpen s
closed_by_key turn_reasons.Agreement aid s is sent o = o
closed_by_key (turn_reasons.Key pressed buffered) aid s is sent o = sent_closed pressed buffered s (subst SentFields (sym is.0) sent) o
closed_by_key turn_reasons.Refusal aid s is sent o = absurd is
closed_by_key turn_reasons.Restoration aid s is sent o = absurd is

pub leaves_nothing_open : LowerLaws → Always LeavesNothingOpen
leaves_nothing_open given app serves pool models events is lists few are =
    let world : World = run app events (new_world app serves pool models) in
    let g = run_good given app is events (new_world app serves pool models) are (new_good given app is serves pool models lists) in
    λ number h relies sent.
    let known = knows_turn app (world.link number) (g.links number) h in
    closed_by_key (world.link number).host.turn_reason (world.link number).term.display.screen.aid (world.link number).host.shadow known.turn_reason sent (known.closed relies)

pub knows_the_cleared : LowerLaws → Always KnowsTheCleared
knows_the_cleared given app serves pool models events is lists few are =
    let world : World = run app events (new_world app serves pool models) in
    let g = run_good given app is events (new_world app serves pool models) are (new_good given app is serves pool models lists) in
    λ number h. (knows_turn app (world.link number) (g.links number) h).cleared

-- Whose turn it is, and what is pending, once a message of a session was heard; the talk stays.
use Rattle.std.proofs.Common.{◌≡◌, Bool, true, false, ℕ, Option, List, [], ◌∷◌, None, Result, Ok, Err, IsOkAnd, refl, ap, sym, subst, ◌∙◌}
use Rattle.codes3270.specs.Size.{ScreenSize}
use Rattle.codes3270.specs.declared.attention.Aid.TheVariants.{NoAid, Enter, Clear, Pf, Pa}
use Rattle.datastream.specs.Grammar.{CommandParts}
use Rattle.datastream.specs.InboundFields.{buffer_data}
use Rattle.datastream.specs.InboundText.{InboundParts}
use Rattle.datastream.specs.Screen.{Screen}
use Rattle.datastream.specs.declared.inbound_part.Form.TheVariants.{Modified}
use Rattle.shadow.specs.Belief.{Shadow}
use Rattle.shadow.specs.Laws.{Believed}
use Rattle.shadow.specs.RuleBreaks.{rule_break}
use Rattle.shadow.specs.declared.fault.HeardFault.{HeardFault}
use Rattle.host_core.specs.Application.{Application}
use Rattle.host_core.specs.Messages.{ToHost, Verdict}
use Rattle.host_core.specs.Session.{Session, Pending, is_agreed}
use Rattle.host_core.specs.Takes.{Answers, HostStep, believed, buffer_heard, hears, is_read_believed, is_unread, once_read, only_read, quiet, took}
use Rattle.host_core.specs.declared.turn.Turn.TheVariants as whose
use Rattle.host_core.specs.declared.turn_reason.TurnReason.{TurnReason}
use Rattle.host_core.specs.declared.turn_reason.TurnReason.TheVariants as turn_reasons
use Rattle.world3270.specs.refinement.LowerLaws.{LowerLaws}
use Rattle.world3270.specs.model.Link.{Link}
use Rattle.world3270.specs.refinement.Phases.{IsAt, Kind, LinkPhase, SessionPhase, NegotiationPhase, IsInFlight, awaiting}
use Rattle.world3270.specs.refinement.Invariant.{Fact, ConnectionInvariant, Sizes, local_state_of}
use Rattle.world3270.specs.refinement.View.{view_of}
use Rattle.world3270.proofs.Queues.{front, nothing}
use Rattle.world3270.proofs.SecondKeys.{is_reading, pending_after, turn_after, unless_read}
use Rattle.world3270.proofs.Up.{IsKeyTime, IsUncleared, buffer_counts, buffer_skipped, buffer_took, is_uncleared, key_took, response_took, unbroken_read}
use Rattle.world3270.proofs.TalkStates.{agreed_there}

-- whether the message is data
abbrev pub is_data : ToHost → Bool
is_data (ToHost.Data parts) = true
is_data (ToHost.Response number verdict) = false
is_data (ToHost.TalksUp saying) = false

-- whether it is said to the talk
abbrev is_talk : ToHost → Bool
is_talk (ToHost.Data parts) = false
is_talk (ToHost.Response number verdict) = false
is_talk (ToHost.TalksUp saying) = true

pub record GoesOn (pool : Answers) (conn : Session) (message : ToHost) : Type 0 where
  pub turn : (took pool conn message).conn.turn ≡ turn_after message conn.turn
  pub pending : (took pool conn message).conn.pending ≡ pending_after message conn.pending
  pub talk : (took pool conn message).conn.talk ≡ conn.talk
  pub unheard : (took pool conn message).conn.unheard ≡ conn.unheard
  pub no_talk : is_talk message ≡ false
  pub pressed : is_data message ≡ true → (took pool conn message).conn.turn_reason ≡ turn_reasons.Agreement → ⊥
  pub reason : is_data message ≡ false → (took pool conn message).conn.turn_reason ≡ conn.turn_reason
  pub answers : is_data message ≡ false → is_reading conn.pending ≡ false
  pub reads : is_data message ≡ true → conn.turn ≡ whose.Host → is_unread (took pool conn message).conn.turn_reason ≡ false

-- what is believed leaves the turn to the host
believed_turn : (P : Shadow → Type 0) (reason : TurnReason) (pending : Pending) (cursor : Option ℕ) (conn : Session) (r : Result Shadow HeardFault) → IsOkAnd r P
    → ((believed reason pending cursor conn r).conn.turn ≡ whose.Host) × ((believed reason pending cursor conn r).conn.pending ≡ pending) × ((believed reason pending cursor conn r).conn.talk ≡ conn.talk)
    × ((believed reason pending cursor conn r).conn.turn_reason ≡ reason) × ((believed reason pending cursor conn r).conn.unheard ≡ conn.unheard)
believed_turn P reason pending cursor conn (Ok shadow) ok = (refl, refl, refl, refl, refl)
believed_turn P reason pending cursor conn (Err fault) ok = absurd ok

no_read : (pending : Pending) → IsKeyTime pending → pending ≡ unless_read pending
no_read pending (IsKeyTime.nothing_waits e) = e ∙ sym (ap unless_read e)
no_read pending (IsKeyTime.note_waits number command e) = e ∙ sym (ap unless_read e)

key_goes : (P : Shadow → Type 0) (pool : Answers) (conn : Session) (parts : InboundParts) → is_agreed conn.talk.state ≡ true → conn.turn ≡ whose.Terminal → IsKeyTime conn.pending → parts.form ≡ Modified
    → (parts.aid ≡ NoAid → ⊥) → IsOkAnd (hears parts conn) P → GoesOn pool conn (ToHost.Data parts)
key_goes P pool conn parts agrees turns time form some ok =
    let is = key_took pool conn parts parts.aid agrees turns time form refl some in
    let then_this = believed_turn P (turn_reasons.Key parts.aid false) conn.pending parts.cursor conn (hears parts conn) ok in
    record {
      turn = ap (λ (s : HostStep). s.conn.turn) is ∙ then_this.0;
      pending = ap (λ (s : HostStep). s.conn.pending) is ∙ then_this.1 ∙ no_read conn.pending time;
      talk = ap (λ (s : HostStep). s.conn.talk) is ∙ then_this.2;
      unheard = ap (λ (s : HostStep). s.conn.unheard) is ∙ then_this.4;
      no_talk = refl;
      pressed = λ of_data first. absurd (let both : turn_reasons.Key parts.aid false ≡ turn_reasons.Agreement = sym (ap (λ (s : HostStep). s.conn.turn_reason) is ∙ then_this.3) ∙ first in cc);
      reason = λ no_data. absurd (cc);
      answers = λ no_data. absurd (cc);
      reads = λ of_data hosts. absurd (let wrong = sym turns ∙ hosts in cc);
    }

not_reading : (kind : Kind) (number : ℕ) (command : CommandParts) → is_reading (awaiting kind number command) ≡ false
not_reading Kind.APaint number command = refl
not_reading Kind.ANote number command = refl

response_goes : (pool : Answers) (conn : Session) (kind : Kind) (number : ℕ) (command : CommandParts) → is_agreed conn.talk.state ≡ true → conn.pending ≡ awaiting kind number command → IsUncleared kind conn.unheard → GoesOn pool conn (ToHost.Response number Verdict.Positive)
response_goes pool conn kind number command agrees pends may =
    let is = response_took pool conn kind number command agrees pends may in
    record { turn = ap (λ (s : HostStep). s.conn.turn) is; pending = ap (λ (s : HostStep). s.conn.pending) is; talk = ap (λ (s : HostStep). s.conn.talk) is; unheard = ap (λ (s : HostStep). s.conn.unheard) is; no_talk = refl; pressed = λ of_data. absurd (cc); reason = λ no_data. ap (λ (s : HostStep). s.conn.turn_reason) is; answers = λ no_data. ap is_reading pends ∙ not_reading kind number command; reads = λ of_data. absurd (cc) }

-- a screen is read after a key alone
read_later : (reason : TurnReason) → (reason ≡ turn_reasons.Agreement → ⊥) → once_read reason ≡ turn_reasons.Agreement → ⊥
read_later turn_reasons.Agreement later first = later refl
read_later (turn_reasons.Key aid buffered) later first = absurd (cc)
read_later turn_reasons.Refusal later first = absurd (cc)
read_later turn_reasons.Restoration later first = absurd (cc)

read_by_then : (reason : TurnReason) → is_unread (once_read reason) ≡ false
read_by_then turn_reasons.Agreement = refl
read_by_then (turn_reasons.Key NoAid buffered) = refl
read_by_then (turn_reasons.Key Enter buffered) = refl
read_by_then (turn_reasons.Key Clear buffered) = refl
read_by_then (turn_reasons.Key (Pf key) buffered) = refl
read_by_then (turn_reasons.Key (Pa key) buffered) = refl
read_by_then turn_reasons.Refusal = refl
read_by_then turn_reasons.Restoration = refl

buffer_goes : (P : Shadow → Type 0) (pool : Answers) (conn : Session) (size : ScreenSize) (screen : Screen) (number : ℕ) → is_agreed conn.talk.state ≡ true → conn.pending ≡ Pending.Reading number
    → rule_break conn.shadow screen.cells ≡ None → (conn.turn_reason ≡ turn_reasons.Agreement → ⊥) → IsOkAnd (hears (buffer_data size screen) conn) P → GoesOn pool conn (ToHost.Data (buffer_data size screen))
buffer_goes P pool conn size screen number agrees pends unbroken later ok = by_test (is_read_believed conn) refl
  where
    read : InboundParts
    read = buffer_data size screen

    is : took pool conn (ToHost.Data read) ≡ buffer_heard read conn
    is = buffer_took pool conn size screen number agrees pends (unbroken_read conn size screen unbroken)

    by_step : (step : HostStep) → buffer_heard read conn ≡ step → step.conn.turn ≡ whose.Host → step.conn.pending ≡ Pending.Nothing → step.conn.talk ≡ conn.talk → step.conn.turn_reason ≡ once_read conn.turn_reason → step.conn.unheard ≡ conn.unheard
        → GoesOn pool conn (ToHost.Data read)
    by_step step heard_as turn pending talk reason unheard = record {
      turn = ap (λ (s : HostStep). s.conn.turn) (is ∙ heard_as) ∙ turn;
      pending = ap (λ (s : HostStep). s.conn.pending) (is ∙ heard_as) ∙ pending ∙ sym (ap unless_read pends);
      talk = ap (λ (s : HostStep). s.conn.talk) (is ∙ heard_as) ∙ talk;
      unheard = ap (λ (s : HostStep). s.conn.unheard) (is ∙ heard_as) ∙ unheard;
      no_talk = refl;
      pressed = λ of_data first. read_later conn.turn_reason later (sym (ap (λ (s : HostStep). s.conn.turn_reason) (is ∙ heard_as) ∙ reason) ∙ first);
      reason = λ no_data. absurd (cc);
      answers = λ no_data. absurd (cc);
      reads = λ of_data hosts. ap is_unread (ap (λ (s : HostStep). s.conn.turn_reason) (is ∙ heard_as) ∙ reason) ∙ read_by_then conn.turn_reason;
    }

    by_test : (b : Bool) → is_read_believed conn ≡ b → GoesOn pool conn (ToHost.Data read)
    by_test true counts =
        let then_this = believed_turn P (once_read conn.turn_reason) Pending.Nothing read.cursor conn (hears read conn) ok in
        by_step (believed (once_read conn.turn_reason) Pending.Nothing read.cursor conn (hears read conn)) (buffer_counts read conn counts) then_this.0 then_this.1 then_this.2 then_this.3 then_this.4
    by_test false skipped = by_step (quiet (only_read conn)) (buffer_skipped read conn skipped) refl refl refl refl refl

pub goes_on : LowerLaws → (app : Application) (pool : Answers) (link : Link) (message : ToHost) (rest : List ToHost) → link.up ≡ message ∷ rest → ConnectionInvariant app (view_of link) → is_agreed link.host.talk.state ≡ true → GoesOn pool link.host message
goes_on given app pool link message rest e k agrees = by_moment k.moment k.sizes k.at k.fact
  where
    screen : Screen
    screen = link.term.display.screen

    no_more : IsInFlight link.lost link.up [] → GoesOn pool link.host message
    no_more way = absurd (nothing link.lost link.up message rest e way)

    as_it : (one : ToHost) → message ≡ one → GoesOn pool link.host one → GoesOn pool link.host message
    as_it one is goes = subst (GoesOn pool link.host) (sym is) goes

    by_serving : (lu : List ℕ) (serving : SessionPhase) → Sizes app (view_of link) (LinkPhase.InSession lu serving) → IsAt (view_of link) k.wanted (LinkPhase.InSession lu serving) → Fact k.wanted (local_state_of (view_of link)) (LinkPhase.InSession lu serving) → GoesOn pool link.host message
    by_serving lu (SessionPhase.BufferReturning number parts) s at f =
        let first = front link.lost link.up message rest _ [] e at.goes_up in
        let said : Screen = record screen { aid = parts.aid } in
        as_it (ToHost.Data (buffer_data link.host.size said)) (first.0 ∙ ap (λ p. ToHost.Data p) f.says)
        (buffer_goes (Believed false screen) pool link.host link.host.size said number agrees at.pending f.unbroken f.not_first f.will)
    by_serving lu (SessionPhase.DecidingNoteAnswered number command) s at f =
        let first = front link.lost link.up message rest _ [] e at.goes_up in
        as_it (ToHost.Response number Verdict.Positive) first.0 (response_goes pool link.host Kind.ANote number command agrees at.pending tt)
    by_serving lu (SessionPhase.AwaitingWriteResponse kind number command) s at f =
        let first = front link.lost link.up message rest _ [] e at.goes_up in
        as_it (ToHost.Response number Verdict.Positive) first.0 (response_goes pool link.host kind number command agrees at.pending (is_uncleared kind link.host.unheard f.uncleared))
    by_serving lu (SessionPhase.KeySentAfterResponse kind number command parts) s at f =
        let first = front link.lost link.up message rest _ _ e at.goes_up in
        as_it (ToHost.Response number Verdict.Positive) first.0 (response_goes pool link.host kind number command agrees at.pending (is_uncleared kind link.host.unheard f.0.uncleared))
    by_serving lu (SessionPhase.KeySent parts) s at f =
        let first = front link.lost link.up message rest _ [] e at.goes_up in
        as_it (ToHost.Data parts) first.0 (key_goes _ pool link.host parts agrees at.turn (IsKeyTime.nothing_waits at.pending) f.0.form (λ none. f.0.some (sym f.0.pressed ∙ none)) f.1)
    by_serving lu (SessionPhase.KeyCrossingNote number command parts) s at f =
        let first = front link.lost link.up message rest _ [] e at.goes_up in
        as_it (ToHost.Data parts) first.0 (key_goes _ pool link.host parts agrees at.turn (IsKeyTime.note_waits number command at.pending) f.0.form (λ none. f.0.some (sym f.0.pressed ∙ none)) f.1)
    by_serving lu (SessionPhase.KeyBeforeNoteResponse number command parts) s at f =
        let first = front link.lost link.up message rest _ _ e at.goes_up in
        as_it (ToHost.Data parts) first.0 (key_goes _ pool link.host parts agrees at.turn (IsKeyTime.note_waits number command at.pending) f.0.form (λ none. f.0.some (sym f.0.pressed ∙ none)) f.1)
    by_serving lu SessionPhase.Deciding s at f = no_more at.goes_up
    by_serving lu (SessionPhase.Reading number) s at f = no_more at.goes_up
    by_serving lu (SessionPhase.DecidingNoteSent number command) s at f = no_more at.goes_up
    by_serving lu (SessionPhase.Painting number command wants over) s at f = no_more at.goes_up
    by_serving lu SessionPhase.OperatorTyping s at f = no_more at.goes_up
    by_serving lu (SessionPhase.Noting number command) s at f = no_more at.goes_up

    by_talk : (talking : NegotiationPhase) → IsAt (view_of link) k.wanted (LinkPhase.Negotiating talking) → (lu : List ℕ) × (talking ≡ NegotiationPhase.Agreeing lu) → GoesOn pool link.host message
    by_talk talking at is = no_more (subst (λ (t : NegotiationPhase). IsAt (view_of link) k.wanted (LinkPhase.Negotiating t)) is.1 at).goes_up

    by_moment : (moment : LinkPhase) → Sizes app (view_of link) moment → IsAt (view_of link) k.wanted moment → Fact k.wanted (local_state_of (view_of link)) moment → GoesOn pool link.host message
    by_moment (LinkPhase.Negotiating talking) s at f = by_talk talking at (agreed_there link.term.display.model talking link.host.talk at.host_talk agrees)
    by_moment (LinkPhase.FirstPaint lu number command wants over) s at f = no_more at.goes_up
    by_moment (LinkPhase.InSession lu serving) s at f = by_serving lu serving s at f

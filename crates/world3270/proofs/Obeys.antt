-- What a terminal makes of any message, at any moment.
use Rattle.std.proofs.Common.{◌≡◌, ℕ, false, Some, List, [], ◌∷◌, refl, ap, sym, subst, ◌∙◌}
use Rattle.tn3270e_msg.specs.Device.{device_for}
use Rattle.codes3270.specs.Aid.{is_short_aid}
use Rattle.codes3270.specs.Size.{cells_in}
use Rattle.datastream.specs.Meaning.{after_command}
use Rattle.datastream.specs.Screen.{Screen}
use Rattle.shadow.specs.Heard.{heard}
use Rattle.shadow.specs.Meets.{Meets}
use Rattle.shadow.specs.TextUnknown.{NothingIsOpen}
use Rattle.shadow.specs.Taken.{taken}
use Rattle.telnet_wire.specs.declared.wire.Verb.TheVariants.{Will, Do}
use Rattle.tn3270e_msg.specs.Talk.{start_at, NegotiationMessage}
use Rattle.tn3270e_msg.specs.TermTable.{Term}
use Rattle.tn3270e_msg.specs.declared.reply.Reply.TheVariants as reply
use Rattle.tn3270e_msg.specs.declared.reply.After.TheVariants.{Going}
use Rattle.tn3270e_msg.specs.declared.reply.OwnedMessage.TheVariants.{SendType, TypeRequest, TypeIs, TypeReject, FunRequest, FunIs}
use Rattle.tn3270e_msg.specs.declared.term_talk.TermState.TheVariants.{Waiting, Willing, TypeAsked, FunctionsAsked, Agreed, Refused}
use Rattle.host_core.specs.Application.{Application, IsApplication}
use Rattle.host_core.specs.Messages.{ToTerminal, ToHost}
use Rattle.host_core.specs.NoteLaws.{TakesNotes}
use Rattle.world3270.specs.refinement.LowerLaws.{LowerLaws}
use Rattle.world3270.specs.statement.Headline.{SentFields}
use Rattle.world3270.specs.model.Link.{Link}
use Rattle.world3270.specs.refinement.Phases.{Kind, NegotiationPhase, SessionPhase, LinkPhase, IsInFlight, IsAt, talk_in}
use Rattle.world3270.specs.statement.TurnReasons.{IsOccasion, IsCursorFor, IsOpenBy, IsOpenFor}
use Rattle.world3270.specs.refinement.Invariant.{LocalState, IsNew, Decides, local_state_of, once_taken, FactsAreExact, Sees, WasNoted, Fact, ConnectionInvariant, Sizes, IsKnownIfRead, ShownAt}
use Rattle.world3270.specs.model.Terminal.{took}
use Rattle.world3270.specs.refinement.View.{view_of}
use Rattle.world3270.proofs.Queues.{front, nothing}
use Rattle.world3270.proofs.Down.{Obeyed, agreed_transition, granted_transition, is_shape, none_open, noted_on_it, ok_map, open_for, operates_noted, sees_noted, takes_note, takes_paint, takes_read, talks, whole_here}

-- at agreement nothing is known, and no key was pressed
pub decides_new : (s : LocalState) → IsNew s → FactsAreExact s.shadow → Decides s s.shadow
decides_new s new exact = record {
  lock = new.lock;
  turn_reason = subst (λ o. IsOccasion o s.screen.aid) (sym new.turn_reason) new.aid;
  cursor = subst (λ o. IsCursorFor o s.cursor s.screen.cursor) (sym new.turn_reason) new.home;
  closed = λ relies. subst (λ o. IsOpenFor o s.shadow) (sym new.turn_reason) (none_open s.shadow new.shadow);
  sees = record {
    exact = exact;
    closed = λ relies. subst (λ a. IsOpenBy a false s.shadow) (sym new.aid) (none_open s.shadow new.shadow);
    cleared = λ clear. absurd (let x = sym new.aid ∙ clear in cc);
    bare = λ clear. absurd (let x = sym new.aid ∙ clear in cc);
    meets = subst (λ known. Meets known s.screen) (sym new.shadow) tt;
    lists = λ some. absurd (some new.no_fields);
    told = λ sent. absurd (subst SentFields new.aid sent);
  };
}

as_message : (app : Application) (link : Link) (rest : List ToTerminal) (m message : ToTerminal) → message ≡ m → Obeyed app link rest (took link.term m) → Obeyed app link rest (took link.term message)
as_message app link rest m message e o = subst (λ x. Obeyed app link rest (took link.term x)) (sym e) o

pub obeys : LowerLaws → (app : Application) → IsApplication app → (link : Link) (message : ToTerminal) (rest : List ToTerminal) → link.down ≡ message ∷ rest → ConnectionInvariant app (view_of link) → Obeyed app link rest (took link.term message)
obeys given app is link message rest e k = by_moment k.moment k.sizes k.at k.fact k.shown
  where
    screen : Screen
    screen = link.term.display.screen

    no_more : IsInFlight link.lost link.down [] → Obeyed app link rest (took link.term message)
    no_more way = absurd (nothing link.lost link.down message rest e way)

    by_talk : (talking : NegotiationPhase) → link.term.display.size ≡ link.host.size → IsAt (view_of link) k.wanted (LinkPhase.Negotiating talking) → Fact k.wanted (local_state_of (view_of link)) (LinkPhase.Negotiating talking) → Obeyed app link rest (took link.term message)
    by_talk NegotiationPhase.Offering same at f =
        let first = front link.lost link.down message rest _ [] e at.goes_down in
        talks app link rest k (LinkPhase.Negotiating NegotiationPhase.Offering) (LinkPhase.Negotiating NegotiationPhase.Accepting) (talk_in link.term.display.model k.wanted Waiting) (start_at Willing) (NegotiationMessage.Opt Do 40) (ToHost.TalksUp (NegotiationMessage.Opt Will 40) ∷ []) message (λ steady. same) at at.term_talk first.0
        (record { reply = reply.Opt Will 40; leads = refl; quiet = refl; sends_is = refl }) (ap (λ (t : Term). record t { talk = start_at Willing }) at.term_talk) (record { host_talk = λ talk is. is; turn = refl; pending = refl; up = refl }) refl first.1
        (f.0, f.1) tt
    by_talk NegotiationPhase.AskingType same at f =
        let first = front link.lost link.down message rest _ [] e at.goes_down in
        talks app link rest k (LinkPhase.Negotiating NegotiationPhase.AskingType) (LinkPhase.Negotiating NegotiationPhase.NamingType) (talk_in link.term.display.model k.wanted Willing) (start_at TypeAsked) (NegotiationMessage.Sub SendType) (ToHost.TalksUp (NegotiationMessage.Sub (TypeRequest link.term.display.model k.wanted)) ∷ []) message (λ steady. same) at at.term_talk first.0
        (record { reply = reply.Sub (TypeRequest link.term.display.model k.wanted) Going; leads = refl; quiet = refl; sends_is = refl }) (ap (λ (t : Term). record t { talk = start_at TypeAsked }) at.term_talk) (record { host_talk = λ talk is. is; turn = refl; pending = refl; up = refl }) refl first.1
        (f.0, f.1) tt
    by_talk (NegotiationPhase.Granting lu) same at f =
        let first = front link.lost link.down message rest _ [] e at.goes_down in
        talks app link rest k (LinkPhase.Negotiating (NegotiationPhase.Granting lu)) (LinkPhase.Negotiating (NegotiationPhase.AskingFunctions lu)) (talk_in link.term.display.model k.wanted TypeAsked) (start_at (FunctionsAsked lu)) (NegotiationMessage.Sub (TypeIs (device_for link.term.display.model) lu)) (ToHost.TalksUp (NegotiationMessage.Sub FunRequest) ∷ []) message (λ steady. same) at at.term_talk first.0
        (granted_transition given link.term.display.model k.wanted lu f.1) (ap (λ (t : Term). record t { talk = start_at (FunctionsAsked lu) }) at.term_talk) (record { host_talk = λ talk is. is; turn = refl; pending = refl; up = refl }) refl first.1
        (f.0, tt) tt
    by_talk (NegotiationPhase.Agreeing lu) same at f =
        let first = front link.lost link.down message rest _ [] e at.goes_down in
        talks app link rest k (LinkPhase.Negotiating (NegotiationPhase.Agreeing lu)) (LinkPhase.InSession lu SessionPhase.Deciding) link.term.talk (record link.term.talk.talk { state = Agreed lu }) (NegotiationMessage.Sub FunIs) [] message (λ steady. same) at refl first.0
        (agreed_transition link.term.talk lu at.term_talk) refl (record { host_talk = λ talk is. is; turn = refl; pending = refl; up = refl }) refl first.1
        (decides_new (local_state_of (view_of link)) f.0 k.exact)
        (λ shown_before. absurd (shown_before f.0.turn_reason), subst (λ o. IsKnownIfRead o link.host.shadow) (sym f.0.turn_reason) tt, λ is_first. f.0.no_fields)
    by_talk (NegotiationPhase.Rejecting reason) same at f =
        let first = front link.lost link.down message rest _ [] e at.goes_down in
        talks app link rest k (LinkPhase.Negotiating (NegotiationPhase.Rejecting reason)) (LinkPhase.Negotiating (NegotiationPhase.Rejected reason)) (talk_in link.term.display.model k.wanted TypeAsked) (start_at (Refused reason)) (NegotiationMessage.Sub (TypeReject reason)) [] message (λ steady. same) at at.term_talk first.0
        (record { reply = reply.Refused reason; leads = refl; quiet = refl; sends_is = refl }) (ap (λ (t : Term). record t { talk = start_at (Refused reason) }) at.term_talk) (record { host_talk = λ talk is. is; turn = refl; pending = refl; up = refl }) refl first.1
        (f.0, tt) tt
    by_talk NegotiationPhase.Accepting same at f = no_more at.goes_down
    by_talk NegotiationPhase.NamingType same at f = no_more at.goes_down
    by_talk (NegotiationPhase.AskingFunctions lu) same at f = no_more at.goes_down
    by_talk (NegotiationPhase.Rejected reason) same at f = no_more at.goes_down

    by_serving : (lu : List ℕ) (serving : SessionPhase) → Sizes app (view_of link) (LinkPhase.InSession lu serving) → IsAt (view_of link) k.wanted (LinkPhase.InSession lu serving) → Fact k.wanted (local_state_of (view_of link)) (LinkPhase.InSession lu serving)
        → ShownAt app link.term.waits link.host link.term.display.before_restored link.term.display.last_restored link.term.display.screen (LinkPhase.InSession lu serving) → Obeyed app link rest (took link.term message)
    by_serving lu (SessionPhase.Reading number) s at f shown =
        let first = front link.lost link.down message rest _ [] e at.goes_down in
        as_message app link rest (ToTerminal.ReadBuffer number) message first.0 (takes_read given app link rest k (s.same refl) lu number at f shown first.1)
    by_serving lu (SessionPhase.Painting number command wants over) s at f shown =
        let first = front link.lost link.down message rest _ [] e at.goes_down in
        as_message app link rest (ToTerminal.Paint number wants over) message first.0 (takes_paint given app is link rest k lu number command wants over at f shown first.1)
    by_serving lu (SessionPhase.Noting number command) s at f shown =
        let first = front link.lost link.down message rest _ [] e at.goes_down in
        let row = given.notes.held_takes link.host.size link.term.display.erased f.0.shown.cells screen.cells f.0.held f.0.messages in
        as_message app link rest (ToTerminal.Note number command) message first.0
        (takes_note given app is link rest k (s.same refl) lu number command (SessionPhase.Noting number command) (SessionPhase.AwaitingWriteResponse Kind.ANote number command) at f.1 (TakesNotes.formatted row)
        (record { host_talk = λ talk is. is; turn = refl; pending = refl; up = refl }) first.1 (operates_noted given app is link rest k (s.same refl) command f.1 f.0 number) shown)
    by_serving lu (SessionPhase.KeyCrossingNote number command parts) s at f shown =
        let first = front link.lost link.down message rest _ [] e at.goes_down in
        let noted = noted_on_it given link.host.size command screen (is_shape given app is link rest k (s.same refl)) f.2.note (whole_here given app is link rest k (s.same refl)) f.2.takes in
        as_message app link rest (ToTerminal.Note number command) message first.0
        (takes_note given app is link rest k (s.same refl) lu number command (SessionPhase.KeyCrossingNote number command parts) (SessionPhase.KeyBeforeNoteResponse number command parts) at f.2.note f.2.takes
        (record { host_talk = λ talk is. is; turn = refl; pending = refl; up = refl }) first.1 (
          record { lock = f.0.lock; uncleared = f.0.uncleared; form = f.0.form; size = f.0.size; pressed = f.0.pressed ∙ sym noted.aid; cursor = λ long. f.0.cursor (sym (ap is_short_aid noted.aid) ∙ long) ∙ ap (λ (n : ℕ). Some n) (sym noted.cursor); some = λ none. f.0.some (sym noted.aid ∙ none); home = λ clear. noted.cursor ∙ f.0.home (sym noted.aid ∙ clear) },
          ok_map (Sees link.host.unheard link.host.size screen) (λ shadow. Sees link.host.unheard link.host.size (after_command command screen) (once_taken link.host.size command shadow) × WasNoted link.host.size command shadow) (heard (cells_in link.host.size) link.host.shadow parts)
              (λ shadow seen. (
                sees_noted given link.host.unheard link.host.size command screen shadow f.2.note (whole_here given app is link rest k (s.same refl)) noted seen,
                record { screen = screen; whole = whole_here given app is link rest k (s.same refl); over = noted.over; meets = seen.meets },
              )) f.1,
        ) shown)
    by_serving lu (SessionPhase.DecidingNoteSent number command) s at f shown =
        let first = front link.lost link.down message rest _ [] e at.goes_down in
        let noted = noted_on_it given link.host.size command screen (is_shape given app is link rest k (s.same refl)) f.1.note (whole_here given app is link rest k (s.same refl)) f.1.takes in
        as_message app link rest (ToTerminal.Note number command) message first.0
        (takes_note given app is link rest k (s.same refl) lu number command (SessionPhase.DecidingNoteSent number command) (SessionPhase.DecidingNoteAnswered number command) at f.1.note f.1.takes
        (record { host_talk = λ talk is. is; turn = refl; pending = refl; up = refl }) first.1
        (record {
          lock = f.0.lock;
          turn_reason = subst (IsOccasion link.host.turn_reason) (sym noted.aid) f.0.turn_reason;
          cursor = subst (λ (n : ℕ). IsCursorFor link.host.turn_reason link.host.cursor n) (sym noted.cursor) f.0.cursor;
          closed = λ relies. open_for link.host.turn_reason link.host.shadow (once_taken link.host.size command link.host.shadow)
              (λ o. subst (λ n. NothingIsOpen (taken n command link.host.shadow)) (whole_here given app is link rest k (s.same refl)) (given.notes.opens command link.host.shadow screen noted.over f.0.sees.meets o)) (f.0.closed relies);
          sees = sees_noted given link.host.unheard link.host.size command screen link.host.shadow f.1.note (whole_here given app is link rest k (s.same refl)) noted f.0.sees;
        }) shown)
    by_serving lu SessionPhase.Deciding s at f shown = no_more at.goes_down
    by_serving lu (SessionPhase.BufferReturning number parts) s at f shown = no_more at.goes_down
    by_serving lu (SessionPhase.DecidingNoteAnswered number command) s at f shown = no_more at.goes_down
    by_serving lu (SessionPhase.AwaitingWriteResponse kind number command) s at f shown = no_more at.goes_down
    by_serving lu SessionPhase.OperatorTyping s at f shown = no_more at.goes_down
    by_serving lu (SessionPhase.KeySent parts) s at f shown = no_more at.goes_down
    by_serving lu (SessionPhase.KeySentAfterResponse kind number command parts) s at f shown = no_more at.goes_down
    by_serving lu (SessionPhase.KeyBeforeNoteResponse number command parts) s at f shown = no_more at.goes_down

    by_moment : (moment : LinkPhase) → Sizes app (view_of link) moment → IsAt (view_of link) k.wanted moment → Fact k.wanted (local_state_of (view_of link)) moment
        → ShownAt app link.term.waits link.host link.term.display.before_restored link.term.display.last_restored link.term.display.screen moment → Obeyed app link rest (took link.term message)
    by_moment (LinkPhase.Negotiating talking) s at f shown = by_talk talking (s.same refl) at f
    by_moment (LinkPhase.FirstPaint lu number command wants over) s at f shown =
        let first = front link.lost link.down message rest _ _ e at.goes_down in
        talks app link rest k (LinkPhase.FirstPaint lu number command wants over) (LinkPhase.InSession lu (SessionPhase.Painting number command wants over)) link.term.talk (record link.term.talk.talk { state = Agreed lu }) (NegotiationMessage.Sub FunIs) [] message
        (λ steady. absurd (cc)) at refl first.0
        (agreed_transition link.term.talk lu at.term_talk) refl (record { host_talk = λ talk is. is; turn = refl; pending = refl; up = refl }) refl first.1
        f shown
    by_moment (LinkPhase.InSession lu serving) s at f shown = by_serving lu serving s at f shown

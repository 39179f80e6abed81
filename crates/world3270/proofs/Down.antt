-- What a terminal makes of the next message, at each moment.
use Rattle.std.proofs.Common.{◌≡◌, ◌==◌, if◌then◌else◌, inr, ◌<◌, ℕ, Bool, true, false, Option, None, Some, List, [], ◌∷◌, ◌++◌, length, map, suc, arith, refl, ap, sym, subst, ◌∙◌, Result, Ok, Err, IsOkAnd, inl}
use Rattle.tn3270e_msg.specs.Device.{device_for, device_text, has_text}
use Rattle.codes3270.specs.declared.size.Model.{Model}
use Rattle.std.specs.Prelude.{All, is_some, filter_map, replicate}
use Rattle.std.specs.List.{list_any}
use Rattle.std.specs.Str.{bytes_eq}
use Rattle.std.proofs.lemmas.Bool.{eqb-true}
use Rattle.std.proofs.lemmas.List.{length-replicate}
use Rattle.std.proofs.lemmas.List.Elements.{All-nil, All-cons}
use Rattle.codes3270.specs.Size.{ScreenSize, cells_in}
use Rattle.codes3270.specs.declared.attention.Aid.{Aid}
use Rattle.codes3270.specs.declared.attention.Aid.TheVariants.{NoAid, Enter, Clear, Pf, Pa}
use Rattle.codes3270.specs.declared.attribute.Cell.{Cell}
use Rattle.codes3270.specs.declared.attribute.Cell.TheVariants.{Char}
use Rattle.codes3270.specs.declared.size.Model.TheVariants.{M2, M3, M4, M5}
use Rattle.datastream.specs.Grammar.{CommandParts}
use Rattle.datastream.specs.InboundFields.{buffer_data}
use Rattle.datastream.specs.InboundText.{InboundParts}
use Rattle.datastream.specs.Meaning.{after_command}
use Rattle.datastream.specs.Note.{OverCharacters, places_noted}
use Rattle.datastream.specs.Screen.{Screen}
use Rattle.datastream.specs.Wanted.{WantedScreen}
use Rattle.datastream.specs.declared.wanted.Want.{Want}
use Rattle.datastream.specs.declared.wanted.Want.TheVariants.{Char as WantChar, Attr as WantAttr, Keep}
use Rattle.shadow.specs.RuleBreaks.{rule_break}
use Rattle.shadow.specs.Belief.{Shadow}
use Rattle.shadow.specs.Exactness.{KnownIsExact, ProtectedIsExact}
use Rattle.shadow.specs.Heard.{heard}
use Rattle.shadow.specs.Laws.{Believed}
use Rattle.shadow.specs.Meets.{Meets, Knows}
use Rattle.shadow.specs.Notes.{OverwritesProtected}
use Rattle.shadow.specs.TextUnknown.{IsNotOpen, NothingIsOpen}
use Rattle.shadow.specs.Paint.{paint}
use Rattle.shadow.specs.Painted.{cells_under, painted_from, plainly_painted}
use Rattle.shadow.specs.Taken.{taken}
use Rattle.tn3270e_msg.specs.Lu.{lu_of}
use Rattle.tn3270e_msg.specs.Talk.{Comes, Talk, start_at, follow, NegotiationMessage, says, sayings, closing}
use Rattle.tn3270e_msg.specs.TermTable.{Term, term_transition, grant_transition}
use Rattle.tn3270e_msg.specs.declared.reply.Reply.{Reply}
use Rattle.tn3270e_msg.specs.declared.reply.Reply.TheVariants as reply
use Rattle.tn3270e_msg.specs.declared.reply.After.TheVariants.{Going}
use Rattle.tn3270e_msg.specs.declared.reply.OwnedMessage.TheVariants.{TypeIs, FunRequest, FunIs}
use Rattle.tn3270e_msg.specs.declared.term_talk.TermState.{TermState}
use Rattle.tn3270e_msg.specs.declared.host_talk.HostState.{HostState}
use Rattle.tn3270e_msg.specs.declared.term_talk.TermState.TheVariants.{TypeAsked, FunctionsAsked, Agreed, Closed}
use Rattle.tn3270e_msg.proofs.Agreement.{responses_alone, same_bytes}
use Rattle.host_core.specs.Application.{Application, IsValidSize, IsApplication, IsSizeOf, message_place}
use Rattle.host_core.specs.Messages.{ToTerminal, ToHost}
use Rattle.host_core.specs.NoteLaws.{TakesNotes, IsNoteOf}
use Rattle.host_core.proofs.Notes.{each_noted}
use Rattle.host_core.specs.declared.turn_reason.TurnReason.{TurnReason}
use Rattle.host_core.specs.declared.turn_reason.TurnReason.TheVariants as turn_reasons
use Rattle.host_core.specs.declared.unheard.Unheard.{Unheard}
use Rattle.world3270.specs.statement.Always.{is_negative}
use Rattle.world3270.specs.refinement.LowerLaws.{LowerLaws}
use Rattle.world3270.specs.model.Steps.{verdict_in}
use Rattle.world3270.specs.statement.Headline.{SentFields}
use Rattle.world3270.specs.statement.Showing.{WantsItsPanelOn}
use Rattle.world3270.specs.statement.AsLeft.{ProtectedIsAsLeft}
use Rattle.world3270.specs.refinement.Unreturned.{UnmodifiedIsKept}
use Rattle.world3270.specs.model.Link.{Link, sent}
use Rattle.world3270.specs.refinement.Phases.{Kind, SessionPhase, LinkPhase, IsInFlight, IsAt, IsHostTalk, IsTermTalk, talk_in, turn_at, pending_at, down_at, up_at}
use Rattle.world3270.specs.statement.TurnReasons.{IsOpenBy, IsOpenFor, IsCleared}
use Rattle.world3270.specs.refinement.Invariant.{local_state_of, once_taken, counts, FactsAreExact, MayBeGranted, IsPainted, Operates, Sees, Decides, IsRead, Fact, ConnectionInvariant, may_differ_at, ShownAt}
use Rattle.world3270.specs.model.Terminal.{TermEnd, TermStep, with_talk, is_bound, bound_to, once_bound, paint_came, note_came, read_came, talked, took}
use Rattle.world3270.specs.refinement.View.{view_of}
use Rattle.world3270.proofs.Queues.{more}
use Rattle.world3270.proofs.Unreturned.{all_as_left, all_kept, as_left_noted, noted_on, kept_noted, kept_bare, still_bare, still_one}

-- the connection once the terminal took the message before the rest
abbrev pub term_view : TermStep → List ToTerminal → Link → Link
term_view step rest link = record link { down = rest; term = step.end; up = sent link.lost link.up step.sends }

pub record Obeyed (app : Application) (link : Link) (rest : List ToTerminal) (step : TermStep) : Type 0 where
  pub kept : ConnectionInvariant app (view_of (term_view step rest link))
  pub open_end : step.closes ≡ None
  pub positive : list_any is_negative (filter_map verdict_in step.sends) ≡ false

-- ---- from moment to moment

-- what the terminal's step makes of the moment: the host's end stays as it is
pub record Leads (model : Model) (wanted : Option (List ℕ)) (from to : LinkPhase) (sends : List ToHost) : Type 0 where
  pub host_talk : (talk : Talk HostState) → IsHostTalk model from talk → IsHostTalk model to talk
  pub turn : turn_at to ≡ turn_at from
  pub pending : pending_at to ≡ pending_at from
  pub up : up_at model wanted from ++ sends ≡ up_at model wanted to

leads : (link : Link) (step : TermStep) (rest : List ToTerminal) (wanted : Option (List ℕ)) (from to : LinkPhase) → step.end.display.model ≡ link.term.display.model
    → IsAt (view_of link) wanted from → Leads link.term.display.model wanted from to step.sends
    → IsTermTalk link.term.display.model wanted to step.end.talk → IsInFlight link.lost rest (down_at link.term.display.model to)
    → IsAt (view_of (term_view step rest link)) wanted to
leads link step rest wanted from to same at l talk left =
    let model : Model = link.term.display.model in
    subst (λ (m : Model). IsAt (record (view_of (term_view step rest link)) { model = m }) wanted to) (sym same) (record {
      host_talk = l.host_talk link.host.talk at.host_talk;
      term_talk = talk;
      turn = at.turn ∙ sym l.turn;
      pending = at.pending ∙ sym l.pending;
      goes_down = left;
      goes_up = subst (IsInFlight link.lost (sent link.lost link.up step.sends)) l.up (more link.lost link.up (up_at model wanted from) step.sends at.goes_up);
    })

-- ---- the talk

abbrev pub talk_step : Link → Talk TermState → List ToHost → TermStep
talk_step link next sends = record { end = with_talk link.term next; sends = sends; closes = None }

-- a line of the terminal's table, that leads to a state with a reply
pub record TalkTransition (term : Term) (saying : NegotiationMessage) (next : Talk TermState) (sends : List ToHost) : Type 0 where
  pub reply : Reply
  pub leads : follow Closed term.talk (term_transition term.model term.wanted term.talk.state (says saying)) ≡ (next, reply)
  pub quiet : closing reply ≡ None
  pub sends_is : map ToHost.TalksUp (sayings reply) ≡ sends

talk_took : (link : Link) (term : Term) (next : Talk TermState) (saying : NegotiationMessage) (sends : List ToHost) → link.term.talk ≡ term
    → TalkTransition term saying next sends → took link.term (ToTerminal.TalksDown saying) ≡ talk_step link next sends
talk_took link term next saying sends e transition =
    ap (λ (t : Term). talked link.term t saying) e
    ∙ ap (λ (p : Talk TermState × Reply). record { end = with_talk link.term p.0; sends = map ToHost.TalksUp (sayings p.1); closes = closing p.1 }) transition.leads
    ∙ ap (λ c. record { end = with_talk link.term next; sends = map ToHost.TalksUp (sayings transition.reply); closes = c }) transition.quiet
    ∙ ap (λ s. record { end = with_talk link.term next; sends = s; closes = None }) transition.sends_is

-- the talk moves on
pub talks : (app : Application) (link : Link) (rest : List ToTerminal) (k : ConnectionInvariant app (view_of link)) (from to : LinkPhase) (term : Term) (next : Talk TermState) (saying : NegotiationMessage) (sends : List ToHost) (message : ToTerminal)
    → (may_differ_at to ≡ false → link.term.display.size ≡ link.host.size)
    → IsAt (view_of link) k.wanted from → link.term.talk ≡ term → message ≡ ToTerminal.TalksDown saying → TalkTransition term saying next sends
    → IsTermTalk link.term.display.model k.wanted to (record link.term.talk { talk = next })
    → Leads link.term.display.model k.wanted from to sends → list_any is_negative (filter_map verdict_in sends) ≡ false → IsInFlight link.lost rest (down_at link.term.display.model to)
    → Fact k.wanted (local_state_of (view_of (term_view (talk_step link next sends) rest link))) to → ShownAt app link.term.waits link.host link.term.display.before_restored link.term.display.last_restored link.term.display.screen to
    → Obeyed app link rest (took link.term message)
talks app link rest k from to term next saying sends message same at talk is transition then_talk l positive left fact shown =
    subst (λ m. Obeyed app link rest (took link.term m)) (sym is)
    (subst (Obeyed app link rest) (sym (talk_took link term next saying sends talk transition))
    (record {
      kept = record {
        whole = k.whole;
        cursor = k.cursor;
        unreturned = k.unreturned;
        as_left = k.as_left;
        exact = k.exact;
        unrestored = k.unrestored;
        wanted = k.wanted;
        moment = to;
        sizes = record { host = k.sizes.host; screen = k.sizes.screen; same = same };
        at = leads link (talk_step link next sends) rest k.wanted from to refl at l then_talk left;
        fact = fact;
        shown = shown;
      };
      open_end = refl;
      positive = positive;
    }))

-- its own type is the one that it asked for
own_type : (model : Model) → has_text (device_for model) (device_text (device_for model)) ≡ true
own_type M2 = refl
own_type M3 = refl
own_type M4 = refl
own_type M5 = refl

pub granted_transition : LowerLaws → (model : Model) (wanted : Option (List ℕ)) (lu : List ℕ) → MayBeGranted wanted lu
    → TalkTransition (talk_in model wanted TypeAsked) (NegotiationMessage.Sub (TypeIs (device_for model) lu)) (start_at (FunctionsAsked lu)) (ToHost.TalksUp (NegotiationMessage.Sub FunRequest) ∷ [])
granted_transition given model None lu suits = record {
  reply = reply.Sub FunRequest Going;
  leads = ap (λ (own : Bool). follow Closed (start_at TypeAsked) (grant_transition None own (lu_of lu))) (own_type model)
      ∙ ap (λ (l : Option (List ℕ)). follow Closed (start_at TypeAsked) (grant_transition None true l)) (given.belief.names lu suits.is_lu);
  quiet = refl;
  sends_is = refl;
}
granted_transition given model (Some name) lu suits =
    let same : bytes_eq lu name ≡ true = ap (λ n. bytes_eq lu n) (sym suits.is_wanted) ∙ same_bytes lu in
    record {
      reply = reply.Sub FunRequest Going;
      leads = ap (λ (own : Bool). follow Closed (start_at TypeAsked) (grant_transition (Some name) own (lu_of lu))) (own_type model)
          ∙ ap (λ (l : Option (List ℕ)). follow Closed (start_at TypeAsked) (grant_transition (Some name) true l)) (given.belief.names lu suits.is_lu)
          ∙ (rw same refl);
      quiet = refl;
      sends_is = refl;
    }

-- in any talk that asked for functions
pub agreed_transition : (term : Term) (lu : List ℕ) → term.talk.state ≡ FunctionsAsked lu → TalkTransition term (NegotiationMessage.Sub FunIs) (record term.talk { state = Agreed lu }) []
agreed_transition term lu asked = record {
  reply = _;
  leads = ap (λ state. follow Closed term.talk (term_transition term.model term.wanted state (says (NegotiationMessage.Sub FunIs)))) asked
      ∙ ap (λ w. follow Closed term.talk (term_transition term.model term.wanted (FunctionsAsked lu) (Comes.IsFunctions w))) responses_alone;
  quiet = refl;
  sends_is = refl;
}

-- ---- records

-- as many cells as are wanted
length_over : (reset : Bool) (whole rest : List Want) (cells : List Cell) → length cells ≡ length rest → length (painted_from reset whole rest cells) ≡ length rest
length_over reset whole [] [] same = refl
length_over reset whole [] (x ∷ cells) same = absurd (cc)
length_over reset whole (want ∷ rest) [] same = absurd (cc)
length_over reset whole (WantChar byte ∷ rest) (x ∷ cells) same = ap suc (length_over reset whole rest cells (omega arith))
length_over reset whole (Keep ∷ rest) (x ∷ cells) same = ap suc (length_over reset whole rest cells (omega arith))
length_over reset whole (WantAttr attribute ∷ rest) (x ∷ cells) same = ap suc (length_over reset whole rest cells (omega arith))

pub length_under : (size : ℕ) (cells : List Cell) → length (cells_under size cells) ≡ size
length_under size cells = by_size (length cells == size) refl
  where
    by_size : (b : Bool) → (length cells == size) ≡ b → length (if b then cells else replicate size (Char 0)) ≡ size
    by_size true e = eqb-true (length cells) size e
    by_size false e = length-replicate size (Char 0)

pub painted-length : (wanted : WantedScreen) (screen : Screen) → length (plainly_painted wanted screen).cells ≡ length wanted.cells
painted-length wanted screen =
    length_over wanted.reset wanted.cells wanted.cells (cells_under (length wanted.cells) screen.cells) (length_under (length wanted.cells) screen.cells)

pub bound : (link : Link) (wanted : Option (List ℕ)) (lu : List ℕ) (serving : SessionPhase) → IsAt (view_of link) wanted (LinkPhase.InSession lu serving) → is_bound link.term ≡ true
bound link wanted lu serving at = ap (λ state. is_some (bound_to state)) at.term_talk

-- a step of a session that leaves the talk
serves : (link : Link) (step : TermStep) (rest : List ToTerminal) (wanted : Option (List ℕ)) (lu : List ℕ) (from to : SessionPhase) → step.end.display.model ≡ link.term.display.model
    → IsAt (view_of link) wanted (LinkPhase.InSession lu from) → Leads link.term.display.model wanted (LinkPhase.InSession lu from) (LinkPhase.InSession lu to) step.sends
    → step.end.talk ≡ link.term.talk → IsInFlight link.lost rest (down_at link.term.display.model (LinkPhase.InSession lu to))
    → IsAt (view_of (term_view step rest link)) wanted (LinkPhase.InSession lu to)
serves link step rest wanted lu from to model at l same left = leads link step rest wanted (LinkPhase.InSession lu from) (LinkPhase.InSession lu to) model at l (ap (λ (t : Term). t.talk.state) same ∙ at.term_talk) left

-- ---- a paint

-- on any screen that is allowed, as the waiting terminal's is
abbrev pub showing : Screen → TermEnd → TermEnd
showing screen end = record end { display = record end.display { screen = screen } }

pub paints_on : LowerLaws → (app : Application) → IsApplication app → (link : Link) (rest : List ToTerminal) (k : ConnectionInvariant app (view_of link)) (lu : List ℕ) (number : ℕ) (command : CommandParts) (wants : WantedScreen) (over : Shadow)
    → IsAt (view_of link) k.wanted (LinkPhase.InSession lu (SessionPhase.Painting number command wants over)) → IsPainted (local_state_of (view_of link)) command wants over → (asked : WantsItsPanelOn app link.term.waits link.host over wants link.term.display.screen)
    → IsInFlight link.lost rest [] → (screen : Screen) → Meets over screen → (link.term.waits ≡ true → Meets asked.wants.conn.shadow screen) → ConnectionInvariant app (view_of (term_view (paint_came number wants (showing screen link.term)) rest link))
paints_on given app is link rest k lu number command wants over at f asked left screen meets told =
    let size : ℕ = cells_in link.host.size in
    let new : Screen = plainly_painted wants screen in
    let wanted_size : ℕ = cells_in wants.size in
    let base : wanted_size ≡ size = ap (λ (shape : ScreenSize). cells_in shape) f.paintable.showable.size in
    let same : length wants.cells ≡ wanted_size = f.paintable.showable.cells ∙ sym base in
    let fits = f.paintable.fits in
    let is_taken : taken wanted_size (paint wanted_size over wants) over ≡ once_taken link.host.size command link.host.shadow =
    ap (λ n. taken n (paint wanted_size over wants) over) base ∙ ap (λ (c : CommandParts). taken size c over) (sym f.command_is) ∙ ap (taken size command) f.over_is in
    let exact : FactsAreExact (once_taken link.host.size command link.host.shadow) = record {
      known = given.belief.taken_exact size command link.host.shadow k.exact.known;
      protected = subst ProtectedIsExact is_taken (given.belief.painted_exact over wants screen same fits meets (subst KnownIsExact (sym f.over_is) k.exact.known));
    } in
    record {
      whole = painted-length wants screen ∙ same;
      cursor = subst (λ n. wants.cursor < n) (sym base) f.paintable.showable.cursor;
      unreturned = λ _. all_kept new.cells;
      as_left = λ _. all_as_left (message_place wants.size) new.cells;
      exact = k.exact;
      unrestored = k.unrestored;
      wanted = k.wanted;
      moment = LinkPhase.InSession lu (SessionPhase.AwaitingWriteResponse Kind.APaint number command);
      sizes = record {
        host = k.sizes.host;
        screen = subst (λ (s : ScreenSize). IsSizeOf app link.term.display.model s) (sym f.paintable.showable.size) k.sizes.host;
        same = λ steady. f.paintable.showable.size;
      };
      at = serves link (paint_came number wants (showing screen link.term)) rest k.wanted lu _ (SessionPhase.AwaitingWriteResponse Kind.APaint number command) refl at (record { host_talk = λ talk is. is; turn = refl; pending = refl; up = refl }) refl left;
      fact = record {
        shown = new;
        lock = λ wrong. absurd (cc);
        uncleared = f.uncleared;
        exact = exact;
        meets = subst (λ s. Meets s new) is_taken (given.belief.taken over wants screen same fits meets);
        closed = λ relies. subst NothingIsOpen is_taken (given.belief.paint_opens over wants screen same fits f.paintable.showable.kept meets (subst KnownIsExact (sym f.over_is) k.exact.known) (f.closed relies));
        knows = subst Knows is_taken (given.belief.known wanted_size over wants);
        held = given.keys.at_first new.cells;
        messages = given.notes.painted_takes link.host.size over wants screen f.paintable;
        noted = record { places = record { size = refl; kinds = λ place. refl }; each = λ place. inr refl; above = λ place before. refl };
      };
      shown = record { wanted = wants; over = over; wanted_for = asked.wants; told = told; meets = meets; fits = fits; is = refl };
    }

pub takes_paint : LowerLaws → (app : Application) → IsApplication app → (link : Link) (rest : List ToTerminal) (k : ConnectionInvariant app (view_of link)) (lu : List ℕ) (number : ℕ) (command : CommandParts) (wants : WantedScreen) (over : Shadow)
    → IsAt (view_of link) k.wanted (LinkPhase.InSession lu (SessionPhase.Painting number command wants over)) → IsPainted (local_state_of (view_of link)) command wants over → WantsItsPanelOn app link.term.waits link.host over wants link.term.display.screen
    → IsInFlight link.lost rest [] → Obeyed app link rest (took link.term (ToTerminal.Paint number wants over))
takes_paint given app is link rest k lu number command wants over at f asked left =
    subst (Obeyed app link rest) (ap (λ b. once_bound b (paint_came number wants link.term) link.term) (sym (bound link k.wanted lu _ at)))
    (record {
      kept = paints_on given app is link rest k lu number command wants over at f asked left link.term.display.screen f.meets asked.told;
      open_end = refl;
      positive = refl;
    })

-- ---- a Read Buffer

-- any screen with the attributes and the protected characters of the one that was left; the AID stays the one that was heard of
abbrev pub read_of : Screen → Bool → TermEnd → TermStep
read_of screen erased end = record {
  end = record end { display = record end.display { screen = record screen { aid = end.display.screen.aid }; erased = erased } };
  sends = ToHost.Data (buffer_data end.display.size screen) ∷ [];
  closes = None;
}

pub reads_on : (app : Application) (link : Link) (rest : List ToTerminal) (k : ConnectionInvariant app (view_of link)) → link.term.display.size ≡ link.host.size → (lu : List ℕ) (number : ℕ) → IsAt (view_of link) k.wanted (LinkPhase.InSession lu (SessionPhase.Reading number))
    → IsRead (local_state_of (view_of link)) → ShownAt app link.term.waits link.host link.term.display.before_restored link.term.display.last_restored link.term.display.screen (LinkPhase.InSession lu (SessionPhase.Reading number)) → IsInFlight link.lost rest []
    → (screen : Screen) (erased : Bool) → length screen.cells ≡ cells_in link.term.display.size → screen.cursor < cells_in link.term.display.size
    → UnmodifiedIsKept erased link.term.display.last_restored.cells screen.cells → ProtectedIsAsLeft (message_place link.term.display.size) link.term.display.last_restored.cells screen.cells
    → IsOkAnd (heard (length screen.cells) link.host.shadow (buffer_data link.host.size screen)) (Believed false (record screen { aid = link.term.display.screen.aid }))
    → rule_break link.host.shadow screen.cells ≡ None
    → (counts (local_state_of (view_of link)) ≡ false → Decides (local_state_of (view_of (term_view (read_of screen erased link.term) rest link))) link.host.shadow)
    → ConnectionInvariant app (view_of (term_view (read_of screen erased link.term) rest link))
reads_on app link rest k same lu number at f shown left screen erased whole on unreturned as_left will unbroken known =
    let parts : InboundParts = buffer_data link.term.display.size screen in
    record {
      whole = whole;
      cursor = on;
      unreturned = λ uncleared. unreturned;
      as_left = λ uncleared. as_left;
      exact = k.exact;
      unrestored = k.unrestored;
      wanted = k.wanted;
      moment = LinkPhase.InSession lu (SessionPhase.BufferReturning number parts);
      sizes = record { host = k.sizes.host; screen = k.sizes.screen; same = λ steady. same };
      at = serves link (read_of screen erased link.term) rest k.wanted lu _ (SessionPhase.BufferReturning number parts) refl at (record { host_talk = λ talk is. is; turn = refl; pending = refl; up = refl }) refl left;
      fact = record {
        lock = f.decides.lock;
        turn_reason = f.decides.turn_reason;
        closed = f.decides.closed;
        not_cleared = f.not_cleared;
        not_first = f.not_first;
        says = ap (λ (size : ScreenSize). buffer_data size screen) same;
        will = subst (λ (n : ℕ). IsOkAnd (heard n link.host.shadow (buffer_data link.host.size screen)) (Believed false (record screen { aid = link.term.display.screen.aid }))) (whole ∙ ap (λ (s : ScreenSize). cells_in s) same) will;
        unbroken = unbroken;
        known = known;
      };
      shown = shown;
    }

pub takes_read : LowerLaws → (app : Application) (link : Link) (rest : List ToTerminal) (k : ConnectionInvariant app (view_of link)) → link.term.display.size ≡ link.host.size → (lu : List ℕ) (number : ℕ) → IsAt (view_of link) k.wanted (LinkPhase.InSession lu (SessionPhase.Reading number))
    → IsRead (local_state_of (view_of link)) → ShownAt app link.term.waits link.host link.term.display.before_restored link.term.display.last_restored link.term.display.screen (LinkPhase.InSession lu (SessionPhase.Reading number)) → IsInFlight link.lost rest []
    → Obeyed app link rest (took link.term (ToTerminal.ReadBuffer number))
takes_read given app link rest k same lu number at f shown left =
    subst (Obeyed app link rest) (ap (λ b. once_bound b (read_came link.term) link.term) (sym (bound link k.wanted lu _ at)))
    (record {
      kept = reads_on app link rest k same lu number at f shown left link.term.display.screen link.term.display.erased k.whole k.cursor (k.unreturned f.not_cleared) (k.as_left f.not_cleared)
          (given.belief.reads link.host.size link.host.shadow link.term.display.screen f.decides.sees.meets)
          (given.belief.unbroken false link.host.shadow link.term.display.screen link.term.display.screen f.decides.sees.meets (given.keys.at_first link.term.display.screen.cells))
          (λ skipped. f.decides);
      open_end = refl;
      positive = refl;
    })

-- ---- notes

-- a note on a screen that takes notes
pub record Noted (command : CommandParts) (screen : Screen) : Type 0 where
  pub over : OverwritesProtected command screen
  pub characters : OverCharacters command screen.cells
  pub size : length (after_command command screen).cells ≡ length screen.cells
  pub cursor : (after_command command screen).cursor ≡ screen.cursor
  pub aid : (after_command command screen).aid ≡ screen.aid

pub noted_on_it : LowerLaws → (shape : ScreenSize) (command : CommandParts) (screen : Screen) → IsValidSize shape → IsNoteOf shape command → length screen.cells ≡ cells_in shape → TakesNotes shape screen.cells → Noted command screen
noted_on_it given shape command screen is note whole takes =
    let bounds = given.notes.bounds command screen (given.notes.are_notes shape command is note).note in
    record {
      over = given.notes.overwrites shape command screen is note whole takes;
      characters = given.notes.over_characters shape command screen.cells is note whole takes;
      size = bounds.size;
      cursor = bounds.cursor;
      aid = bounds.aid;
    }

-- it writes behind the place where the row of messages begins
behind_row : (shape : ScreenSize) (command : CommandParts) (screen : Screen) → IsValidSize shape → IsNoteOf shape command → length screen.cells ≡ cells_in shape
    → All (λ (at : ℕ). message_place shape < at) (places_noted (length screen.cells) command)
behind_row shape command screen is note whole =
    each_noted (λ (at : ℕ). message_place shape < at) shape command (length screen.cells) is note whole (λ place after within. after)

-- what wasn't returned stays, on a screen with a row for messages and on one without fields
kept_by : LowerLaws → (shape : ScreenSize) (command : CommandParts) (screen : Screen) (erased : Bool) (left : List Cell) → IsValidSize shape → IsNoteOf shape command → length screen.cells ≡ cells_in shape → TakesNotes shape screen.cells
    → UnmodifiedIsKept erased left screen.cells → UnmodifiedIsKept erased left (after_command command screen).cells
kept_by given shape command screen erased left is note whole takes kept = by_form takes
  where
    noted : Noted command screen
    noted = noted_on_it given shape command screen is note whole takes

    by_form : TakesNotes shape screen.cells → UnmodifiedIsKept erased left (after_command command screen).cells
    by_form (TakesNotes.formatted row) =
        kept_noted given.notes.form erased command left screen noted.size noted.characters (given.notes.writes_protected shape command screen.cells is note whole row) kept
    by_form (TakesNotes.unformatted bare) =
        kept_bare given.notes.form erased command left screen noted.characters (still_bare screen.cells (after_command command screen).cells (given.notes.form command screen noted.characters).attributes bare) kept

-- where nothing is known nothing is open
pub none_open : (shadow : Shadow) → shadow ≡ Shadow.NothingKnown → NothingIsOpen shadow
none_open shadow e = subst NothingIsOpen (sym e) (All-nil IsNotOpen)

-- where nothing was open nothing is
open_by : (aid : Aid) (buffered : Bool) (old new : Shadow) → (NothingIsOpen old → NothingIsOpen new) → IsOpenBy aid buffered old → IsOpenBy aid buffered new
open_by (Pa key) false old new f o = tt
open_by (Pa key) true old new f o = f o
open_by NoAid buffered old new f o = f o
open_by Enter buffered old new f o = f o
open_by Clear buffered old new f o = f o
open_by (Pf key) buffered old new f o = f o

open_noted : (aid after : Aid) (buffered : Bool) (old new : Shadow) → after ≡ aid → (NothingIsOpen old → NothingIsOpen new) → IsOpenBy aid buffered old → IsOpenBy after buffered new
open_noted aid after buffered old new same f o = subst (λ a. IsOpenBy a buffered new) (sym same) (open_by aid buffered old new f o)

pub open_for : (turn_reason : TurnReason) (old new : Shadow) → (NothingIsOpen old → NothingIsOpen new) → IsOpenFor turn_reason old → IsOpenFor turn_reason new
open_for turn_reasons.Agreement old new f o = f o
open_for (turn_reasons.Key aid buffered) old new f o = open_by aid buffered old new f o
open_for turn_reasons.Refusal old new f o = absurd o
open_for turn_reasons.Restoration old new f o = absurd o

-- the host will see the screen with the note on it
pub sees_noted : LowerLaws → (unheard : Unheard) (shape : ScreenSize) (command : CommandParts) (screen : Screen) (shadow : Shadow) → IsNoteOf shape command → length screen.cells ≡ cells_in shape → Noted command screen → Sees unheard shape screen shadow
    → Sees unheard shape (after_command command screen) (taken (cells_in shape) command shadow)
sees_noted given unheard shape command screen shadow note whole noted s =
    subst (λ n. Sees unheard shape (after_command command screen) (taken n command shadow)) whole
    (record {
      exact = let both = given.notes.exact command shadow screen noted.over s.meets s.exact.known s.exact.protected in record { known = both.0; protected = both.1 };
      cleared = λ e. subst (λ n. IsCleared shape (taken n command shadow)) (sym whole) (by_notes (s.cleared (sym noted.aid ∙ e)));
      bare = λ e. still_bare screen.cells (after_command command screen).cells (given.notes.form command screen noted.characters).attributes (s.bare (sym noted.aid ∙ e));
      closed = λ relies. open_noted screen.aid (after_command command screen).aid false shadow (taken (length screen.cells) command shadow) noted.aid (given.notes.opens command shadow screen noted.over s.meets) (s.closed relies);
      meets = subst (λ n. Meets (taken n command shadow) (after_command command screen)) (written_on ∙ sym whole) (given.belief.written command shadow screen noted.over.encoded noted.over.plain (λ code. whole ∙ sym written_on) s.meets);
      lists = given.notes.listed command shadow screen noted.over s.meets s.lists;
      told = λ sent. given.notes.stays_told command shadow screen noted.over s.meets (s.told (subst SentFields noted.aid sent));
    })
  where
    written_on : cells_in command.size ≡ cells_in shape
    written_on = ap (λ (c : CommandParts). cells_in c.size) note.is

    by_notes : IsCleared shape shadow → IsCleared shape (taken (cells_in shape) command shadow)
    by_notes cleared = record {
      notes = command ∷ cleared.notes;
      are_notes = All-cons (IsNoteOf shape) command cleared.notes note cleared.are_notes;
      is = ap (taken (cells_in shape) command) cleared.is;
    }

pub ok_map : {E : Type 0} (P Q : Shadow → Type 0) (r : Result Shadow E) → ((x : Shadow) → P x → Q x) → IsOkAnd r P → IsOkAnd r Q
ok_map P Q (Ok x) f h = f x h
ok_map P Q (Err fault) f h = absurd h

-- a size that a terminal may have is a screen's
pub shape_of_model : (app : Application) (model : Model) (size : ScreenSize) → IsApplication app → IsSizeOf app model size → IsValidSize size
shape_of_model app model size is (inl base) = subst IsValidSize (sym base) is.begins
shape_of_model app model size is (inr alternate) = subst IsValidSize (sym alternate) (is.alternates model)

module _ (given : LowerLaws) (app : Application) (is : IsApplication app) (link : Link) (rest : List ToTerminal) (k : ConnectionInvariant app (view_of link)) (same : link.term.display.size ≡ link.host.size) where
  abbrev screen : Screen
  screen = link.term.display.screen

  abbrev shape : ScreenSize
  shape = link.host.size

  pub is_shape : IsValidSize link.host.size
  is_shape = shape_of_model app link.term.display.model link.host.size is k.sizes.host

  pub whole_here : length screen.cells ≡ cells_in shape
  whole_here = k.whole ∙ ap (λ (s : ScreenSize). cells_in s) same

  -- at any moment of the session at which a note goes down
  pub takes_note : (lu : List ℕ) (number : ℕ) (command : CommandParts) (from to : SessionPhase) → IsAt (view_of link) k.wanted (LinkPhase.InSession lu from) → IsNoteOf shape command → TakesNotes shape screen.cells
      → Leads link.term.display.model k.wanted (LinkPhase.InSession lu from) (LinkPhase.InSession lu to) (note_came number command link.term).sends
      → IsInFlight link.lost rest (down_at link.term.display.model (LinkPhase.InSession lu to))
      → Fact k.wanted (local_state_of (view_of (term_view (note_came number command link.term) rest link))) (LinkPhase.InSession lu to)
      → ShownAt app link.term.waits link.host link.term.display.before_restored link.term.display.last_restored (after_command command screen) (LinkPhase.InSession lu to) → Obeyed app link rest (took link.term (ToTerminal.Note number command))
  takes_note lu number command from to at note takes l left fact shown =
      let noted = noted_on_it given shape command screen is_shape note whole_here takes in
      subst (Obeyed app link rest) (ap (λ b. once_bound b (note_came number command link.term) link.term) (sym (bound link k.wanted lu from at)))
      (record {
        kept = record {
          whole = noted.size ∙ k.whole;
          cursor = subst (λ n. n < cells_in link.term.display.size) (sym noted.cursor) k.cursor;
          unreturned = λ uncleared. kept_by given shape command screen link.term.display.erased link.term.display.last_restored.cells is_shape note whole_here takes (k.unreturned (λ clear. uncleared (noted.aid ∙ clear)));
          as_left = λ uncleared. as_left_noted given.notes.form command (message_place link.term.display.size) link.term.display.last_restored.cells screen noted.characters
              (subst (λ (s : ScreenSize). All (λ (at : ℕ). message_place s < at) (places_noted (length screen.cells) command)) (sym same) (behind_row shape command screen is_shape note whole_here))
              (k.as_left (λ clear. uncleared (noted.aid ∙ clear)));
          exact = k.exact;
          unrestored = k.unrestored;
          wanted = k.wanted;
          moment = LinkPhase.InSession lu to;
          sizes = record { host = k.sizes.host; screen = k.sizes.screen; same = λ steady. same };
          at = serves link (note_came number command link.term) rest k.wanted lu from to refl at l refl left;
          fact = fact;
          shown = shown;
        };
        open_end = refl;
        positive = refl;
      })

  -- while the operator types: the note is written over what was shown, too
  pub operates_noted : (command : CommandParts) → IsNoteOf shape command → (f : Operates link.host.shadow (local_state_of (view_of link))) → (number : ℕ)
      → Operates (once_taken link.host.size command link.host.shadow) (local_state_of (view_of (term_view (note_came number command link.term) rest link)))
  operates_noted command note f number =
      let shown : Screen = f.shown in
      let whole : length shown.cells ≡ cells_in link.host.size = sym f.held.same_length ∙ whole_here in
      let written_on : cells_in command.size ≡ cells_in link.host.size = ap (λ (c : CommandParts). cells_in c.size) note.is in
      let noted = noted_on_it given shape command shown is_shape note whole (TakesNotes.formatted f.messages) in
      let writes = given.notes.writes_protected shape command shown.cells is_shape note whole f.messages in
      let both = given.notes.exact command link.host.shadow shown noted.over f.meets f.exact.known f.exact.protected in
      record {
        shown = after_command command shown;
        lock = f.lock;
        uncleared = f.uncleared;
        exact = record {
          known = subst (λ n. KnownIsExact (taken n command link.host.shadow)) whole both.0;
          protected = subst (λ n. ProtectedIsExact (taken n command link.host.shadow)) whole both.1;
        };
        meets = subst (λ n. Meets (taken n command link.host.shadow) (after_command command shown)) written_on (given.belief.written command link.host.shadow shown noted.over.encoded noted.over.plain (λ code. whole ∙ sym written_on) f.meets);
        closed = λ relies. subst (λ n. NothingIsOpen (taken n command link.host.shadow)) whole (given.notes.opens command link.host.shadow shown noted.over f.meets (f.closed relies));
        knows = given.notes.placed (cells_in link.host.size) command link.host.shadow noted.over.writes noted.over.placed f.knows;
        held = given.notes.held link.term.display.erased command shown screen writes f.held;
        messages = given.notes.same_takes shape shown.cells (after_command command shown).cells (given.notes.form command shown noted.characters).attributes f.messages;
        noted = noted_on given.notes.form command (message_place shape) link.term.display.last_restored.cells shown noted.characters writes (behind_row shape command shown is_shape note whole)
            (still_one given.notes.composes command shown noted.characters) f.noted;
      }

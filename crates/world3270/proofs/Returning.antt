-- No field is in doubt after Enter or a PF key, where the application marks its input fields and the host keeps none: a paint leaves MDT of
-- each on, so that such a key returns each text.
use Rattle.std.proofs.Common.{◌≡◌, ◌&&◌, ◌||◌, not, Option, None, Bool, true, false, ℕ, List, [], ◌∷◌, Result, Ok, Err, IsOkAnd, IfOk, refl, ap, sym, subst, ◌∙◌, if◌then◌else◌}
use Rattle.std.specs.Prelude.{⊤, length}
use Rattle.std.specs.List.{list_any}
use Rattle.std.proofs.lemmas.List.Elements.{All-nil}
use Rattle.std.proofs.lemmas.Result.{IfOk-weaker}
use Rattle.codes3270.specs.Aid.{is_short_aid}
use Rattle.codes3270.specs.Size.{ScreenSize, cells_in}
use Rattle.codes3270.specs.declared.attention.Aid.{Aid}
use Rattle.codes3270.specs.declared.attention.Aid.TheVariants.{NoAid, Enter, Clear, Pf, Pa}
use Rattle.datastream.specs.Grammar.{CommandParts}
use Rattle.datastream.specs.InboundFields.{buffer_data}
use Rattle.datastream.specs.InboundText.{InboundParts}
use Rattle.datastream.specs.Screen.{Screen}
use Rattle.datastream.specs.Wanted.{WantedScreen}
use Rattle.datastream.specs.declared.inbound_part.Form.TheVariants.{Modified}
use Rattle.panels.specs.Screen.{Values}
use Rattle.panels.specs.declared.message.Message.{Message}
use Rattle.shadow.specs.Belief.{Shadow}
use Rattle.shadow.specs.Exactness.{KnownIsExact, ProtectedIsExact}
use Rattle.shadow.specs.Fits.{fits, is_keep}
use Rattle.shadow.specs.Heard.{heard}
use Rattle.shadow.specs.Laws.{Believed}
use Rattle.shadow.specs.Meets.{Meets}
use Rattle.shadow.specs.RuleBreaks.{rule_break}
use Rattle.shadow.specs.Settled.{IsSettled, IsSettledField, ReturnsInput, WantsInputReturned, is_settled}
use Rattle.shadow.specs.Taken.{taken}
use Rattle.shadow.specs.TextUnknown.{IsClearedBelief}
use Rattle.shadow.specs.declared.fault.HeardFault.{HeardFault}
use Rattle.host_core.specs.Acts.{Act, done, values_shown, wanted_by, when_shown}
use Rattle.host_core.specs.Application.{Application, IsApplication}
use Rattle.host_core.specs.Laws.{IsPaintable, MarksInput}
use Rattle.host_core.specs.Messages.{ToHost, Verdict}
use Rattle.host_core.specs.NoteLaws.{IsNoteOf, TakesNotes}
use Rattle.host_core.specs.Notes.{IsNoteText, note_command, noted_as}
use Rattle.host_core.specs.Session.{Session, Pending, is_agreed, model_in}
use Rattle.host_core.specs.Takes.{Answers, HostStep, answered, believed, buffer_heard, hears, is_after_pa, is_read_believed, is_unread, may_have_changed, once_read, took}
use Rattle.host_core.specs.declared.turn.Turn.{Turn}
use Rattle.host_core.specs.declared.turn.Turn.TheVariants as whose
use Rattle.host_core.specs.declared.turn_reason.TurnReason.{TurnReason}
use Rattle.host_core.specs.declared.turn_reason.TurnReason.TheVariants as turn_reasons
use Rattle.world3270.specs.model.Link.{Link}
use Rattle.world3270.specs.refinement.Invariant.{ConnectionInvariant, Fact, Sees, Sizes, WasNoted, WasShown, local_state_of, once_taken}
use Rattle.world3270.specs.refinement.LowerLaws.{LowerLaws}
use Rattle.world3270.specs.refinement.Phases.{IsAt, IsInFlight, Kind, LinkPhase, NegotiationPhase, SessionPhase, awaiting, pending_at, turn_at}
use Rattle.world3270.specs.refinement.View.{view_of}
use Rattle.world3270.specs.statement.EveryTerminal.{is_pa}
use Rattle.world3270.specs.statement.TurnReasons.{IsOccasion}
use Rattle.world3270.proofs.Acting.{MayAct, allows_despite}
use Rattle.world3270.proofs.Down.{noted_on_it, shape_of_model}
use Rattle.world3270.proofs.Keys.{was_shown}
use Rattle.world3270.proofs.Queues.{front, nothing}
use Rattle.world3270.proofs.TalkStates.{agreed_there}
use Rattle.world3270.proofs.Up.{IsKeyTime, IsUncleared, buffer_counts, buffer_skipped, buffer_took, is_uncleared, key_took, response_took, skipped_when, unbroken_read}

-- ---- what the host's belief is

-- each text is known, unless the key was PA and the screen wasn't read since
abbrev pub IsSettledFor : TurnReason → Shadow → Type 0
IsSettledFor reason shadow = is_unread reason ≡ false → IsSettled shadow

-- by whose turn it is, and what waits for its answer
abbrev pub ReturnsWhile : Turn → Pending → ScreenSize → TurnReason → Shadow → Type 0
ReturnsWhile turn (Pending.Writing number command) size reason shadow = ReturnsInput (once_taken size command shadow)
ReturnsWhile whose.Terminal Pending.Nothing size reason shadow = ReturnsInput shadow
ReturnsWhile whose.Terminal (Pending.Noting number command) size reason shadow = ReturnsInput shadow × ReturnsInput (once_taken size command shadow)
ReturnsWhile whose.Terminal (Pending.Reading number) size reason shadow = ⊤
ReturnsWhile whose.Host Pending.Nothing size reason shadow = IsSettledFor reason shadow
ReturnsWhile whose.Host (Pending.Noting number command) size reason shadow = IsSettledFor reason shadow × IsSettledFor reason (once_taken size command shadow)
ReturnsWhile whose.Host (Pending.Reading number) size reason shadow = IsSettledFor reason shadow

-- The terminal returns each input field in its turn; and in the host's, each text is known.
abbrev pub HostReturns : Session → Type 0
HostReturns conn = ReturnsWhile conn.turn conn.pending conn.size conn.turn_reason conn.shadow

pub returns_at : (conn : Session) (turn : Turn) (pending : Pending) → conn.turn ≡ turn → conn.pending ≡ pending → HostReturns conn → ReturnsWhile turn pending conn.size conn.turn_reason conn.shadow
returns_at conn turn pending turns pends returns =
    subst (λ (p : Pending). ReturnsWhile turn p conn.size conn.turn_reason conn.shadow) pends (subst (λ (t : Turn). ReturnsWhile t conn.pending conn.size conn.turn_reason conn.shadow) turns returns)

pub returns_if : (conn : Session) (turn : Turn) (pending : Pending) → conn.turn ≡ turn → conn.pending ≡ pending → ReturnsWhile turn pending conn.size conn.turn_reason conn.shadow → HostReturns conn
returns_if conn turn pending turns pends returns =
    subst (λ (t : Turn). ReturnsWhile t conn.pending conn.size conn.turn_reason conn.shadow) (sym turns) (subst (λ (p : Pending). ReturnsWhile turn p conn.size conn.turn_reason conn.shadow) (sym pends) returns)

-- where nothing is known, nothing is in doubt
pub nothing_settled : IsSettled Shadow.NothingKnown
nothing_settled = All-nil IsSettledField

-- ---- a response

returns_answered : (conn : Session) (kind : Kind) (number : ℕ) (command : CommandParts) → conn.turn ≡ whose.Terminal → conn.pending ≡ awaiting kind number command → HostReturns conn → HostReturns (answered command conn)
returns_answered conn Kind.APaint number command turns pends returns =
    returns_if (answered command conn) whose.Terminal Pending.Nothing turns refl (returns_at conn whose.Terminal (Pending.Writing number command) turns pends returns)
returns_answered conn Kind.ANote number command turns pends returns =
    returns_if (answered command conn) whose.Terminal Pending.Nothing turns refl (returns_at conn whose.Terminal (Pending.Noting number command) turns pends returns).1

-- ---- a key

ok_if : (P Q : Shadow → Type 0) (r : Result Shadow HeardFault) → ((s : Shadow) → P s → Q s) → IsOkAnd r P → IfOk r Q
ok_if P Q (Ok s) f p = f s p
ok_if P Q (Err fault) f p = absurd p

if_any : (Q : Shadow → Type 0) (r : Result Shadow HeardFault) → ((s : Shadow) → Q s) → IfOk r Q
if_any Q (Ok s) f = f s
if_any Q (Err fault) f = tt

cleared_settled : (size : ℕ) (shadow : Shadow) → IsClearedBelief size shadow → IsSettled shadow
cleared_settled size shadow is = subst IsSettled (sym is) (All-nil IsSettledField)

key_settles : LowerLaws → (size : ℕ) (shadow : Shadow) (parts : InboundParts) (aid : Aid) → parts.aid ≡ aid → parts.form ≡ Modified → (aid ≡ NoAid → ⊥) → ReturnsInput shadow → ProtectedIsExact shadow
    → IfOk (heard size shadow parts) (λ s. IsSettledFor (turn_reasons.Key aid false) s)
key_settles given size shadow parts NoAid is form some returns exact = absurd (some refl)
key_settles given size shadow parts Enter is form some returns exact =
    IfOk-weaker (heard size shadow parts) IsSettled (IsSettledFor (turn_reasons.Key Enter false)) (λ s settled unread. settled) (given.belief.returned_settles size shadow parts form (ap is_short_aid is) returns exact)
key_settles given size shadow parts (Pf key) is form some returns exact =
    IfOk-weaker (heard size shadow parts) IsSettled (IsSettledFor (turn_reasons.Key (Pf key) false)) (λ s settled unread. settled) (given.belief.returned_settles size shadow parts form (ap is_short_aid is) returns exact)
key_settles given size shadow parts (Pa key) is form some returns exact = if_any (IsSettledFor (turn_reasons.Key (Pa key) false)) (heard size shadow parts) (λ s unread. absurd (cc))
key_settles given size shadow parts Clear is form some returns exact =
    ok_if (IsClearedBelief size) (IsSettledFor (turn_reasons.Key Clear false)) (heard size shadow parts) (λ s cleared unread. cleared_settled size s cleared) (given.belief.cleared size shadow parts form is)

note_settles : LowerLaws → (size : ScreenSize) (command : CommandParts) (shadow : Shadow) → WasNoted size command shadow → KnownIsExact shadow → ProtectedIsExact shadow → IsSettled shadow → IsSettled (once_taken size command shadow)
note_settles given size command shadow was known exact settled =
    subst (λ (n : ℕ). IsSettled (taken n command shadow)) was.whole (given.notes.stays_settled command shadow was.screen was.over was.meets known exact settled)

believed_returns : (P Q : Shadow → Type 0) (reason : TurnReason) (pending : Pending) (parts : InboundParts) (conn : Session) (r : Result Shadow HeardFault) → IsOkAnd r P → IfOk r KnownIsExact → IfOk r ProtectedIsExact → IfOk r Q
    → ((shadow : Shadow) → P shadow → KnownIsExact shadow → ProtectedIsExact shadow → Q shadow → ReturnsWhile whose.Host pending conn.size reason shadow) → HostReturns (believed reason pending parts.cursor conn r).conn
believed_returns P Q reason pending parts conn (Ok shadow) is known exact settled f = f shadow is known exact settled
believed_returns P Q reason pending parts conn (Err fault) is known exact settled f = absurd is

module _ (given : LowerLaws) (pool : Answers) (conn : Session) (parts : InboundParts) where
  abbrev size : ℕ
  size = cells_in conn.size

  -- a key's data, while this is pending
  returns_key : (P : Shadow → Type 0) (pending : Pending) → is_agreed conn.talk.state ≡ true → conn.turn ≡ whose.Terminal → IsKeyTime conn.pending → conn.pending ≡ pending → parts.form ≡ Modified → (parts.aid ≡ NoAid → ⊥)
      → IsOkAnd (heard size conn.shadow parts) P → KnownIsExact conn.shadow → ProtectedIsExact conn.shadow → ReturnsInput conn.shadow
      → ((shadow : Shadow) → P shadow → KnownIsExact shadow → ProtectedIsExact shadow → IsSettledFor (turn_reasons.Key parts.aid false) shadow → ReturnsWhile whose.Host pending conn.size (turn_reasons.Key parts.aid false) shadow)
      → HostReturns (took pool conn (ToHost.Data parts)).conn
  returns_key P pending agrees turns time pends form some is known exact returns f =
      subst (λ (step : HostStep). HostReturns step.conn) (sym (key_took pool conn parts parts.aid agrees turns time form refl some))
      (subst (λ (p : Pending). HostReturns (believed (turn_reasons.Key parts.aid false) p parts.cursor conn (hears parts conn)).conn) (sym pends)
      (believed_returns P (IsSettledFor (turn_reasons.Key parts.aid false)) (turn_reasons.Key parts.aid false) pending parts conn (hears parts conn) is
      (given.belief.heard_exact size conn.shadow parts known) (given.belief.heard_protected size conn.shadow parts exact) (key_settles given size conn.shadow parts parts.aid refl form some returns exact) f))

-- ---- the answer to Read Buffer

returns_buffer : (given : LowerLaws) (P : Shadow → Type 0) (pool : Answers) (conn : Session) (shape : ScreenSize) (screen : Screen) (number : ℕ) → is_agreed conn.talk.state ≡ true → conn.pending ≡ Pending.Reading number
    → rule_break conn.shadow screen.cells ≡ None → IsOkAnd (hears (buffer_data shape screen) conn) P → KnownIsExact conn.shadow → ProtectedIsExact conn.shadow → HostReturns (took pool conn (ToHost.Data (buffer_data shape screen))).conn
returns_buffer given P pool conn shape screen number agrees pends unbroken is known exact = by_test (is_read_believed conn) refl
  where
    read : InboundParts
    read = buffer_data shape screen

    heard_as : took pool conn (ToHost.Data read) ≡ buffer_heard read conn
    heard_as = buffer_took pool conn shape screen number agrees pends (unbroken_read conn shape screen unbroken)

    by_test : (b : Bool) → is_read_believed conn ≡ b → HostReturns (took pool conn (ToHost.Data read)).conn
    by_test true counts =
        subst (λ (step : HostStep). HostReturns step.conn) (sym (heard_as ∙ buffer_counts read conn counts))
        (believed_returns P IsSettled (once_read conn.turn_reason) Pending.Nothing read conn (hears read conn) is
        (given.belief.heard_exact (cells_in conn.size) conn.shadow read known) (given.belief.heard_protected (cells_in conn.size) conn.shadow read exact) (given.belief.read_settles (cells_in conn.size) conn.shadow read refl)
        (λ shadow told knows protects settled unread. settled))
    by_test false skipped =
        subst (λ (step : HostStep). HostReturns step.conn) (sym (heard_as ∙ buffer_skipped read conn skipped))
        (λ unread. (given.belief.settled conn.shadow).0 (skipped_when conn.unheard conn.turn_reason conn.shadow skipped).settled)

-- ---- any message

pub returns_heard : LowerLaws → (app : Application) → IsApplication app → (pool : Answers) (link : Link) (message : ToHost) (rest : List ToHost) → link.up ≡ message ∷ rest → ConnectionInvariant app (view_of link) → is_agreed link.host.talk.state ≡ true
    → HostReturns link.host → HostReturns (took pool link.host message).conn
returns_heard given app is pool link message rest e k agrees returns = by_moment k.moment k.sizes k.at k.fact
  where
    conn : Session
    conn = link.host

    screen : Screen
    screen = link.term.display.screen

    no_more : IsInFlight link.lost link.up [] → HostReturns (took pool conn message).conn
    no_more way = absurd (nothing link.lost link.up message rest e way)

    as_it : (one : ToHost) → message ≡ one → HostReturns (took pool conn one).conn → HostReturns (took pool conn message).conn
    as_it one is_one goes = subst (λ (m : ToHost). HostReturns (took pool conn m).conn) (sym is_one) goes

    responds : (kind : Kind) (number : ℕ) (command : CommandParts) → conn.pending ≡ awaiting kind number command → IsUncleared kind conn.unheard → HostReturns (answered command conn) → HostReturns (took pool conn (ToHost.Response number Verdict.Positive)).conn
    responds kind number command pends may goes = subst (λ (step : HostStep). HostReturns step.conn) (sym (response_took pool conn kind number command agrees pends may)) goes

    settles : (command : CommandParts) (aid : Aid) (shadow : Shadow) → WasNoted conn.size command shadow → KnownIsExact shadow → ProtectedIsExact shadow → IsSettledFor (turn_reasons.Key aid false) shadow
        → IsSettledFor (turn_reasons.Key aid false) shadow × IsSettledFor (turn_reasons.Key aid false) (once_taken conn.size command shadow)
    settles command aid shadow was knows protects settled = (settled, λ unread. note_settles given conn.size command shadow was knows protects (settled unread))

    by_serving : (lu : List ℕ) (serving : SessionPhase) → Sizes app (view_of link) (LinkPhase.InSession lu serving) → IsAt (view_of link) k.wanted (LinkPhase.InSession lu serving) → Fact k.wanted (local_state_of (view_of link)) (LinkPhase.InSession lu serving)
        → HostReturns (took pool conn message).conn
    by_serving lu (SessionPhase.BufferReturning number parts) s at f =
        let first = front link.lost link.up message rest _ [] e at.goes_up in
        let said : Screen = record screen { aid = parts.aid } in
        as_it (ToHost.Data (buffer_data conn.size said)) (first.0 ∙ ap (λ p. ToHost.Data p) f.says)
        (returns_buffer given (Believed false screen) pool conn conn.size said number agrees at.pending f.unbroken f.will k.exact.known k.exact.protected)
    by_serving lu (SessionPhase.DecidingNoteAnswered number command) s at f =
        let first = front link.lost link.up message rest _ [] e at.goes_up in
        as_it (ToHost.Response number Verdict.Positive) first.0
        (responds Kind.ANote number command at.pending tt
        (returns_if (answered command conn) whose.Host Pending.Nothing at.turn refl (returns_at conn whose.Host (Pending.Noting number command) at.turn at.pending returns).1))
    by_serving lu (SessionPhase.AwaitingWriteResponse kind number command) s at f =
        let first = front link.lost link.up message rest _ [] e at.goes_up in
        as_it (ToHost.Response number Verdict.Positive) first.0
        (responds kind number command at.pending (is_uncleared kind conn.unheard f.uncleared) (returns_answered conn kind number command at.turn at.pending returns))
    by_serving lu (SessionPhase.KeySentAfterResponse kind number command parts) s at f =
        let first = front link.lost link.up message rest _ _ e at.goes_up in
        as_it (ToHost.Response number Verdict.Positive) first.0
        (responds kind number command at.pending (is_uncleared kind conn.unheard f.0.uncleared) (returns_answered conn kind number command at.turn at.pending returns))
    by_serving lu (SessionPhase.KeySent parts) s at f =
        let first = front link.lost link.up message rest _ [] e at.goes_up in
        as_it (ToHost.Data parts) first.0
        (returns_key given pool conn parts (Sees conn.unheard conn.size screen) Pending.Nothing agrees at.turn (IsKeyTime.nothing_waits at.pending) at.pending f.0.form (λ none. f.0.some (sym f.0.pressed ∙ none)) f.1 k.exact.known k.exact.protected
        (returns_at conn whose.Terminal Pending.Nothing at.turn at.pending returns)
        (λ shadow sees knows protects settled. settled))
    by_serving lu (SessionPhase.KeyCrossingNote number command parts) s at f =
        let first = front link.lost link.up message rest _ [] e at.goes_up in
        let whole : length screen.cells ≡ cells_in conn.size = k.whole ∙ ap (λ (shape : ScreenSize). cells_in shape) (s.same refl) in
        let noted = noted_on_it given conn.size command screen (shape_of_model app link.term.display.model conn.size is k.sizes.host) f.2.note whole f.2.takes in
        as_it (ToHost.Data parts) first.0
        (returns_key given pool conn parts (Sees conn.unheard conn.size screen) (Pending.Noting number command) agrees at.turn (IsKeyTime.note_waits number command at.pending) at.pending f.0.form (λ none. f.0.some (sym f.0.pressed ∙ none)) f.1 k.exact.known k.exact.protected
        (returns_at conn whose.Terminal (Pending.Noting number command) at.turn at.pending returns).0
        (λ shadow sees knows protects settled. settles command parts.aid shadow (record { screen = screen; whole = whole; over = noted.over; meets = sees.meets }) knows protects settled))
    by_serving lu (SessionPhase.KeyBeforeNoteResponse number command parts) s at f =
        let first = front link.lost link.up message rest _ _ e at.goes_up in
        as_it (ToHost.Data parts) first.0
        (returns_key given pool conn parts (λ shadow. Sees conn.unheard conn.size screen (once_taken conn.size command shadow) × WasNoted conn.size command shadow) (Pending.Noting number command) agrees at.turn (IsKeyTime.note_waits number command at.pending) at.pending f.0.form
        (λ none. f.0.some (sym f.0.pressed ∙ none)) f.1 k.exact.known k.exact.protected
        (returns_at conn whose.Terminal (Pending.Noting number command) at.turn at.pending returns).0
        (λ shadow sees knows protects settled. settles command parts.aid shadow sees.1 knows protects settled))
    by_serving lu SessionPhase.Deciding s at f = no_more at.goes_up
    by_serving lu (SessionPhase.Reading number) s at f = no_more at.goes_up
    by_serving lu (SessionPhase.DecidingNoteSent number command) s at f = no_more at.goes_up
    by_serving lu (SessionPhase.Painting number command wants over) s at f = no_more at.goes_up
    by_serving lu SessionPhase.OperatorTyping s at f = no_more at.goes_up
    by_serving lu (SessionPhase.Noting number command) s at f = no_more at.goes_up

    by_talk : (talking : NegotiationPhase) → IsAt (view_of link) k.wanted (LinkPhase.Negotiating talking) → (lu : List ℕ) × (talking ≡ NegotiationPhase.Agreeing lu) → HostReturns (took pool conn message).conn
    by_talk talking at is_at = no_more (subst (λ (t : NegotiationPhase). IsAt (view_of link) k.wanted (LinkPhase.Negotiating t)) is_at.1 at).goes_up

    by_moment : (moment : LinkPhase) → Sizes app (view_of link) moment → IsAt (view_of link) k.wanted moment → Fact k.wanted (local_state_of (view_of link)) moment → HostReturns (took pool conn message).conn
    by_moment (LinkPhase.Negotiating talking) s at f = by_talk talking at (agreed_there link.term.display.model talking conn.talk at.host_talk agrees)
    by_moment (LinkPhase.FirstPaint lu number command wants over) s at f = no_more at.goes_up
    by_moment (LinkPhase.InSession lu serving) s at f = by_serving lu serving s at f

-- ---- an act

-- a host that doesn't rely on the wait keeps no field
pub wanted_whole : (app : Application) (conn : Session) (panel : ℕ) (message : Message) (keep : Bool) (values : Values) → may_have_changed conn.unheard ≡ true → wanted_by app conn panel message keep values ≡ app.screen panel values message false
wanted_whole app conn panel message true values any =
    let kept : WantedScreen = app.screen panel values message true in
    ap (λ (b : Bool). if not b && fits conn.shadow kept then kept else app.screen panel values message false) any
wanted_whole app conn panel message false values any = refl

-- the terminal's screen when the host may act meets the belief
meets_then : (app : Application) (link : Link) (wanted : Option (List ℕ)) → MayAct app link wanted → Meets link.host.shadow link.term.display.screen
meets_then app link wanted (MayAct.agreeing lu at n) = subst (λ (s : Shadow). Meets s link.term.display.screen) (sym n.shadow) tt
meets_then app link wanted (MayAct.deciding lu s at f showing) = f.sees.meets

pub returns_acted : LowerLaws → (app : Application) → IsApplication app → MarksInput app → (link : Link) (k : ConnectionInvariant app (view_of link)) → MayAct app link k.wanted → link.host.turn ≡ whose.Host → link.host.pending ≡ Pending.Nothing
    → may_have_changed (when_shown link.host).unheard ≡ true → HostReturns link.host → (act : Act) → HostReturns (done app link.host act).conn
returns_acted given app is marks link k may turns pends any returns Act.Read =
    returns_if (done app link.host Act.Read).conn whose.Host (Pending.Reading link.host.next_seq) turns refl (returns_at link.host whose.Host Pending.Nothing turns pends returns)
returns_acted given app is marks link k may turns pends any returns (Act.Show panel message keep values) =
    let conn : Session = when_shown link.host in
    let shown : ℕ = app.shown (model_in conn) panel in
    let left : Values = values_shown app shown message values in
    let wanted : WantedScreen = wanted_by app conn shown message keep left in
    let whole : wanted ≡ app.screen shown left message false = wanted_whole app conn shown message keep left any in
    let paintable : IsPaintable wanted.size conn.shadow wanted = (given.belief.fit app link.host (Act.Show panel message keep values) is).0 in
    given.belief.paint_returns conn.shadow wanted link.term.display.screen paintable.showable.cells paintable.fits
    (ap (λ (w : WantedScreen). list_any is_keep w.cells) whole ∙ is.whole shown left message)
    (subst WantsInputReturned (sym whole) (marks shown left message false))
    (allows_despite given link.host.unheard link.host.shadow link.term.display.screen (meets_then app link k.wanted may))

-- ---- a note

pub returns_noted : LowerLaws → (app : Application) → IsApplication app → (text : List ℕ) → IsNoteText text → (link : Link) (k : ConnectionInvariant app (view_of link)) → link.host.turn ≡ whose.Terminal → link.host.pending ≡ Pending.Nothing
    → HostReturns link.host → HostReturns (noted_as text link.host).conn
returns_noted given app is text is_text link k turns pends returns = by_moment k.moment k.sizes k.at k.fact
  where
    conn : Session
    conn = link.host

    command : CommandParts
    command = note_command conn.size text

    is_note : IsNoteOf conn.size command
    is_note = record { text = text; is_text = is_text; is = refl }

    input : ReturnsInput conn.shadow
    input = returns_at conn whose.Terminal Pending.Nothing turns pends returns

    by_shown : WasShown conn.size conn.shadow → HostReturns (noted_as text conn).conn
    by_shown was =
        let noted = noted_on_it given conn.size command was.shown (shape_of_model app link.term.display.model conn.size is k.sizes.host) is_note was.whole (TakesNotes.formatted was.messages) in
        returns_if (noted_as text conn).conn whose.Terminal (Pending.Noting conn.next_seq command) turns refl
        (input, subst (λ (n : ℕ). ReturnsInput (taken n command conn.shadow)) was.whole (given.notes.returns command conn.shadow was.shown noted.over was.meets input))

    by_serving : (lu : List ℕ) (serving : SessionPhase) → Sizes app (view_of link) (LinkPhase.InSession lu serving) → IsAt (view_of link) k.wanted (LinkPhase.InSession lu serving) → Fact k.wanted (local_state_of (view_of link)) (LinkPhase.InSession lu serving)
        → turn_at (LinkPhase.InSession lu serving) ≡ whose.Terminal → pending_at (LinkPhase.InSession lu serving) ≡ Pending.Nothing → HostReturns (noted_as text conn).conn
    by_serving lu SessionPhase.OperatorTyping s at f t p = by_shown (was_shown app link k (s.same refl) conn.shadow f)
    by_serving lu (SessionPhase.KeySent parts) s at f t p = by_shown f.3
    by_serving lu SessionPhase.Deciding s at f t p = absurd (cc)
    by_serving lu (SessionPhase.Reading number) s at f t p = absurd (cc)
    by_serving lu (SessionPhase.BufferReturning number parts) s at f t p = absurd (cc)
    by_serving lu (SessionPhase.DecidingNoteSent number note) s at f t p = absurd (cc)
    by_serving lu (SessionPhase.DecidingNoteAnswered number note) s at f t p = absurd (cc)
    by_serving lu (SessionPhase.Painting number paint wants over) s at f t p = absurd (cc)
    by_serving lu (SessionPhase.AwaitingWriteResponse Kind.APaint number paint) s at f t p = absurd (cc)
    by_serving lu (SessionPhase.AwaitingWriteResponse Kind.ANote number note) s at f t p = absurd (cc)
    by_serving lu (SessionPhase.Noting number note) s at f t p = absurd (cc)
    by_serving lu (SessionPhase.KeySentAfterResponse Kind.APaint number paint parts) s at f t p = absurd (cc)
    by_serving lu (SessionPhase.KeySentAfterResponse Kind.ANote number note parts) s at f t p = absurd (cc)
    by_serving lu (SessionPhase.KeyCrossingNote number note parts) s at f t p = absurd (cc)
    by_serving lu (SessionPhase.KeyBeforeNoteResponse number note parts) s at f t p = absurd (cc)

    by_moment : (moment : LinkPhase) → Sizes app (view_of link) moment → IsAt (view_of link) k.wanted moment → Fact k.wanted (local_state_of (view_of link)) moment → HostReturns (noted_as text conn).conn
    by_moment (LinkPhase.Negotiating talking) s at f = absurd (let t = sym at.turn ∙ turns in cc)
    by_moment (LinkPhase.FirstPaint lu number paint wants over) s at f = absurd (let p = sym at.pending ∙ pends in cc)
    by_moment (LinkPhase.InSession lu serving) s at f = by_serving lu serving s at f (sym at.turn ∙ turns) (sym at.pending ∙ pends)

-- ---- the screen is read

-- a PA key's AID is the reason's
pub pa_counts : (reason : TurnReason) (aid : Aid) → IsOccasion reason aid → is_after_pa reason ≡ is_pa aid
pa_counts turn_reasons.Agreement aid is = sym (ap is_pa is)
pa_counts (turn_reasons.Key (Pa key) buffered) aid is = ap is_pa is.0
pa_counts (turn_reasons.Key Enter buffered) aid is = ap is_pa is.0
pa_counts (turn_reasons.Key (Pf key) buffered) aid is = ap is_pa is.0
pa_counts (turn_reasons.Key Clear buffered) aid is = ap is_pa is.0
pa_counts (turn_reasons.Key NoAid buffered) aid is = absurd (is.1 (sym is.0))
pa_counts turn_reasons.Refusal aid is = absurd is
pa_counts turn_reasons.Restoration aid is = absurd is

pub unread_pa : (reason : TurnReason) → is_after_pa reason ≡ false → is_unread reason ≡ false
unread_pa turn_reasons.Agreement no_pa = refl
unread_pa (turn_reasons.Key (Pa key) buffered) no_pa = absurd (cc)
unread_pa (turn_reasons.Key Enter buffered) no_pa = refl
unread_pa (turn_reasons.Key (Pf key) buffered) no_pa = refl
unread_pa (turn_reasons.Key Clear buffered) no_pa = refl
unread_pa (turn_reasons.Key NoAid buffered) no_pa = absurd (cc)
unread_pa turn_reasons.Refusal no_pa = refl
unread_pa turn_reasons.Restoration no_pa = refl

-- The answer to a Read Buffer counts after PA alone.
pub read_skipped : LowerLaws → (conn : Session) (number : ℕ) → conn.turn ≡ whose.Host → conn.pending ≡ Pending.Reading number → may_have_changed conn.unheard ≡ true → is_after_pa conn.turn_reason ≡ false → HostReturns conn → is_read_believed conn ≡ false
read_skipped given conn number turns pends any no_pa returns =
    let settled = (given.belief.settled conn.shadow).1 (returns_at conn whose.Host (Pending.Reading number) turns pends returns (unread_pa conn.turn_reason no_pa)) in
    ap (λ (b : Bool). not b || (is_after_pa conn.turn_reason || not (is_settled conn.shadow))) any
    ∙ ap (λ (b : Bool). not true || (b || not (is_settled conn.shadow))) no_pa
    ∙ ap (λ (b : Bool). not true || (false || not b)) settled

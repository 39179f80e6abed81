-- What the host sends, at each moment; and a connection that is lost.
use Rattle.std.proofs.Common.{◌≡◌, ℕ, Bool, true, false, Option, None, Some, List, [], ◌∷◌, ◌++◌, refl, ap, sym, subst, ◌∙◌, if◌then◌else◌, unwrap_or}
use Rattle.tn3270e_msg.specs.HostTable.{model_asked}
use Rattle.codes3270.specs.declared.size.Model.{Model}
use Rattle.codes3270.specs.Size.{cells_in}
use Rattle.codes3270.specs.declared.size.Model.TheVariants.{M2}
use Rattle.codes3270.specs.declared.attention.Aid.{Aid}
use Rattle.codes3270.specs.declared.attention.Aid.TheVariants.{NoAid, Enter as EnterAid, Clear as ClearAid, Pf as PfAid, Pa as PaAid}
use Rattle.datastream.specs.Grammar.{CommandParts}
use Rattle.datastream.specs.Screen.{Screen}
use Rattle.datastream.specs.Wanted.{WantedScreen}
use Rattle.panels.specs.declared.message.Message.{Message}
use Rattle.panels.specs.declared.message.Message.TheVariants.{Fresh, Told}
use Rattle.panels.specs.Screen.{Values}
use Rattle.shadow.specs.Belief.{Shadow}
use Rattle.shadow.specs.Meets.{Meets}
use Rattle.shadow.specs.TextUnknown.{NothingIsOpen}
use Rattle.shadow.specs.Paint.{paint}
use Rattle.tn3270e_msg.specs.Talk.{Talk}
use Rattle.tn3270e_msg.specs.declared.host_talk.HostState.{HostState}
use Rattle.panels.specs.declared.next.Next.{Next}
use Rattle.panels.specs.declared.next.Next.TheVariants.{Go, Ask, Again}
use Rattle.host_core.specs.Acts.{Act, Decision, Sent as SentValue, after_key, decided, decision_on, first_panel, learned, on_empty, on_key, wanted_by, done, may_act, may_keep, acted, painted, known_despite, unheard_next, values_shown, when_shown}
use Rattle.host_core.specs.Application.{Application, IsApplication, IsSizeOf}
use Rattle.host_core.specs.Laws.{IsPaintable}
use Rattle.host_core.specs.Takes.{is_after_pa, is_unread, may_be_read, may_have_changed}
use Rattle.host_core.specs.declared.turn.Turn.{Turn}
use Rattle.host_core.specs.declared.turn.Turn.TheVariants as whose
use Rattle.host_core.specs.declared.turn_reason.TurnReason.{TurnReason}
use Rattle.host_core.specs.declared.turn_reason.TurnReason.TheVariants as turn_reasons
use Rattle.host_core.specs.Session.{Session, Pending, is_agreed, model_in}
use Rattle.host_core.specs.Questions.{act_by, answered_on, has_its_panel, has_value_of, is_ask, is_asking, is_screen_empty, key_of, panel_asked, panel_for, values_for}
use Rattle.host_core.specs.declared.question.Answer.{Answer as ApplicationAnswer}
use Rattle.std.specs.Prelude.{◌&&◌, not}
use Rattle.std.specs.Option.{option_and_then, option_map_or, option_or}
use Rattle.world3270.specs.refinement.LowerLaws.{LowerLaws}
use Rattle.world3270.specs.model.Link.{Link, sent, host_sent}
use Rattle.world3270.specs.refinement.Phases.{IsInFlight, NegotiationPhase, SessionPhase, LinkPhase, IsAgreed, IsAt, IsHostTalk, IsTermTalk, turn_at, pending_at, down_at, up_at}
use Rattle.world3270.specs.statement.TurnReasons.{IsOccasion, IsOpenBy, IsOpenFor}
use Rattle.host_core.specs.declared.unheard.Unheard.{Unheard}
use Rattle.host_core.specs.declared.unheard.Unheard.TheVariants as unheards
use Rattle.world3270.specs.statement.Showing.{IsDecided, KnowsItsFields, WantsItsPanelOn}
use Rattle.world3270.specs.refinement.Invariant.{local_state_of, AllowsInput, FactsAreExact, IfRelies, IsNew, Decides, Fact, ConnectionInvariant, Sizes, may_differ_at, ShownAt, ShownIn}
use Rattle.world3270.specs.refinement.View.{View, view_of}
use Rattle.world3270.proofs.Down.{none_open}
use Rattle.world3270.proofs.Queues.{more, still}
use Rattle.world3270.proofs.TalkStates.{agreed_there}

-- the connection once the host sent this
abbrev pub sent_view : SentValue → Link → Link
sent_view sending link = host_sent (Some sending) link

-- it may act in its turn alone, once its last command is answered and both ends agree
pub may_act_when : (turn : Turn) (pending : Pending) (agreed : Bool) → may_act turn pending agreed ≡ true → (turn ≡ whose.Host) × (pending ≡ Pending.Nothing) × (agreed ≡ true)
may_act_when whose.Host Pending.Nothing agreed may = (refl, refl, may)
may_act_when whose.Host (Pending.Writing number command) agreed may = absurd (cc)
may_act_when whose.Host (Pending.Reading number) agreed may = absurd (cc)
may_act_when whose.Host (Pending.Noting number command) agreed may = absurd (cc)
may_act_when whose.Terminal pending agreed may = absurd (cc)

-- and if a question is open it may, and decides to ask
pub asking_parts : (app : Application) (conn : Session) → is_asking app conn ≡ true
    → (may_act conn.turn conn.pending (is_agreed conn.talk.state) ≡ true) × (is_ask (decision_on app conn conn.turn_reason) ≡ true)
asking_parts app conn = by_may (may_act conn.turn conn.pending (is_agreed conn.talk.state)) (decision_on app conn conn.turn_reason)
  where
    by_may : (may : Bool) (decision : Decision) → option_map_or is_ask (if may then Some decision else None) false ≡ true → (may ≡ true) × (is_ask decision ≡ true)
    by_may true decision asks = (refl, asks)
    by_may false decision asks = absurd (cc)

abbrev shown : Application → Session → ℕ → Message → Bool → Values → SentValue
shown app conn panel message keep values = painted app (when_shown conn) panel message keep values

-- ---- what is believed when a panel is shown

-- it allows the screen,
pub allows_despite : LowerLaws → (unheard : Unheard) (shadow : Shadow) (screen : Screen) → Meets shadow screen → Meets (known_despite unheard shadow) screen
allows_despite given unheards.Nothing shadow screen meets = meets
allows_despite given unheards.Input shadow screen meets = given.belief.doubt_allows shadow screen meets
allows_despite given unheards.Clear shadow screen meets = tt

-- and, where the host doesn't rely on the wait, each that differs from it in input alone,
input_despite : LowerLaws → (unheard : Unheard) (shadow : Shadow) (screen : Screen) → Meets shadow screen → may_have_changed (unheard_next unheard) ≡ true → AllowsInput (known_despite unheard shadow) screen
input_despite given unheards.Nothing shadow screen meets changed = absurd (cc)
input_despite given unheards.Input shadow screen meets changed = λ erased now held. given.belief.doubt_input erased shadow screen now meets held
input_despite given unheards.Clear shadow screen meets changed = λ erased now held. tt

-- its facts are exact,
exact_despite : LowerLaws → (unheard : Unheard) (shadow : Shadow) → FactsAreExact shadow → FactsAreExact (known_despite unheard shadow)
exact_despite given unheards.Nothing shadow exact = exact
exact_despite given unheards.Input shadow exact = record { known = given.belief.doubt_exact shadow exact.known; protected = given.belief.doubt_protected shadow exact.protected }
exact_despite given unheards.Clear shadow exact = record { known = given.belief.nothing_exact.0; protected = given.belief.nothing_exact.1 }

-- that the screen was cleared is no matter any more,
uncleared_next : (unheard : Unheard) → may_be_read (unheard_next unheard) ≡ true
uncleared_next unheards.Nothing = refl
uncleared_next unheards.Input = refl
uncleared_next unheards.Clear = refl

-- and nothing is open where the host relies on the wait
closed_despite : (unheard : Unheard) (shadow : Shadow) → IfRelies unheard (NothingIsOpen shadow) → IfRelies (unheard_next unheard) (NothingIsOpen (known_despite unheard shadow))
closed_despite unheards.Nothing shadow closed = closed
closed_despite unheards.Input shadow closed = λ relies. absurd (cc)
closed_despite unheards.Clear shadow closed = λ relies. absurd (cc)

-- what a sending leaves of the host's end
pub record Sends (link : Link) (sending : SentValue) : Type 0 where
  pub talk : sending.conn.talk ≡ link.host.talk
  pub exact : FactsAreExact sending.conn.shadow
  pub restored : sending.conn.restored ≡ link.host.restored

-- what is under way then
pub sent_at : (link : Link) (sending : SentValue) (wanted : Option (List ℕ)) (from to : LinkPhase) → Sends link sending → IsAt (view_of link) wanted from
    → ((talk : Talk HostState) → IsHostTalk link.term.display.model from talk → IsHostTalk link.term.display.model to talk) → (IsTermTalk link.term.display.model wanted from link.term.talk → IsTermTalk link.term.display.model wanted to link.term.talk) → sending.conn.turn ≡ turn_at to → sending.conn.pending ≡ pending_at to
    → down_at link.term.display.model from ++ sending.message ∷ [] ≡ down_at link.term.display.model to → up_at link.term.display.model wanted to ≡ up_at link.term.display.model wanted from → IsAt (view_of (sent_view sending link)) wanted to
sent_at link sending wanted from to same at host term turn pending down up = record {
  host_talk = subst (IsHostTalk link.term.display.model to) (sym same.talk) (host link.host.talk at.host_talk);
  term_talk = term at.term_talk;
  turn = turn;
  pending = pending;
  goes_down = subst (IsInFlight link.lost (sent link.lost link.down (sending.message ∷ []))) down (more link.lost link.down (down_at link.term.display.model from) (sending.message ∷ []) at.goes_down);
  goes_up = subst (IsInFlight link.lost link.up) (sym up) at.goes_up;
}

-- a sending that leads to a moment
pub kept_sent : (app : Application) (link : Link) (sending : SentValue) (k : ConnectionInvariant app (view_of link)) (to : LinkPhase) → Sends link sending → IsSizeOf app link.term.display.model sending.conn.size
    → (may_differ_at to ≡ false → link.term.display.size ≡ sending.conn.size) → IsAt (view_of (sent_view sending link)) k.wanted to
    → Fact k.wanted (local_state_of (view_of (sent_view sending link))) to → ShownAt app link.term.waits sending.conn link.term.display.before_restored link.term.display.last_restored link.term.display.screen to
    → ConnectionInvariant app (view_of (sent_view sending link))
kept_sent app link sending k to same size steady at fact shown = record {
  whole = k.whole;
  cursor = k.cursor;
  unreturned = k.unreturned;
  as_left = k.as_left;
  exact = same.exact;
  unrestored = same.restored ∙ k.unrestored;
  wanted = k.wanted;
  moment = to;
  sizes = record { host = size; screen = k.sizes.screen; same = steady };
  at = at;
  fact = fact;
  shown = shown;
}

-- ---- the host acts

-- the screen that is asked for, of the panel that is shown to the terminal
abbrev wants_of : Application → Session → ℕ → Message → Bool → Values → WantedScreen
wants_of app conn panel message keep values =
    let shown = app.shown (model_in conn) panel in
    wanted_by app conn shown message keep (values_shown app shown message values)

-- it is one that the panel asks for, whether or not what is believed lets it keep fields
wanted_if_fits : (fit : Bool) (app : Application) (panel : ℕ) (message : Message) (values : Values)
    → (way : Bool) × ((if fit then app.screen panel values message true else app.screen panel values message false) ≡ app.screen panel values message way)
wanted_if_fits true app panel message values = (true, refl)
wanted_if_fits false app panel message values = (false, refl)

pub wanted_in_a_way : (app : Application) (conn : Session) (panel : ℕ) (message : Message) (keep : Bool) (values : Values)
    → (way : Bool) × (wanted_by app conn panel message keep values ≡ app.screen panel values message way)
wanted_in_a_way app conn panel message true values = wanted_if_fits (may_keep conn (app.screen panel values message true)) app panel message values
wanted_in_a_way app conn panel message false values = (false, refl)

-- it is the one of the connection's panel from then on
wants_its : (app : Application) (waits : Bool) (conn : Session) (screen : Screen) (panel : ℕ) (message : Message) (keep : Bool) (values : Values) → IsDecided app conn (Act.Show panel message keep values) → (keep ≡ true → KnowsItsFields app conn)
    → Meets conn.shadow screen → WantsItsPanelOn app waits (shown app conn panel message keep values).conn (when_shown conn).shadow (wants_of app (when_shown conn) panel message keep values) screen
wants_its app waits conn screen panel message keep values choice knows told = record {
  wants = record { conn = conn; same_talk = refl; asked = panel; keep = keep; given = values; is_decided = choice; knows = knows; panel_is = refl; values_are = refl; over_is = refl; wanted_is = refl };
  told = λ w. told;
}

paintable : LowerLaws → (app : Application) → IsApplication app → (link : Link) → (panel : ℕ) (message : Message) (keep : Bool) (values : Values)
    → let wants = wants_of app (when_shown link.host) panel message keep values in IsPaintable wants.size (when_shown link.host).shadow wants
paintable given app is link panel message keep values = (given.belief.fit app link.host (Act.Show panel message keep values) is).0

-- the model that the host knows is the terminal's
pub model_here : (link : Link) (lu : List ℕ) → IsAgreed link.term.display.model lu link.host.talk → model_in link.host ≡ link.term.display.model
model_here link lu talks = ap (λ (state : HostState). unwrap_or (model_asked state) M2) talks.state_is ∙ talks.model_is

-- so what is shown has a size that the terminal may have
size_shown : LowerLaws → (app : Application) → IsApplication app → (link : Link) (k : ConnectionInvariant app (view_of link)) (lu : List ℕ) (panel : ℕ) (message : Message) (keep : Bool) (values : Values)
    → IsAgreed link.term.display.model lu link.host.talk → IsSizeOf app link.term.display.model (wants_of app (when_shown link.host) panel message keep values).size
size_shown given app is link k lu panel message keep values talks =
    let here = model_here link lu talks in
    subst (λ (m : Model). IsSizeOf app m (wants_of app (when_shown link.host) panel message keep values).size) here
    (given.belief.sizes app link.host (Act.Show panel message keep values) is (subst (λ (m : Model). IsSizeOf app m link.host.size) (sym here) k.sizes.host))

-- while no panel is on the screen nothing is read, and nothing is kept
empty_unread : (panel : ℕ) (values : Values) (next : Next) → on_empty panel values next ≡ Decision.Do Act.Read → ⊥
empty_unread panel values Again e = absurd (cc)
empty_unread panel values (Go target) e = absurd (cc)
empty_unread panel values Ask e = absurd (cc)

-- after Clear nothing is read
key_uncleared : (app : Application) (conn : Session) (pressed : Aid) (buffered : Bool) → after_key app conn pressed buffered ≡ Decision.Do Act.Read → pressed ≡ ClearAid → ⊥
key_uncleared app conn ClearAid buffered e is = empty_unread conn.panel conn.values (app.next conn.panel ClearAid) e
key_uncleared app conn NoAid buffered e is = absurd (cc)
key_uncleared app conn EnterAid buffered e is = absurd (cc)
key_uncleared app conn (PfAid key) buffered e is = absurd (cc)
key_uncleared app conn (PaAid key) buffered e is = absurd (cc)

reads_uncleared : (app : Application) (conn : Session) (turn_reason : TurnReason) (aid : Aid) → IsOccasion turn_reason aid → decision_on app conn turn_reason ≡ Decision.Do Act.Read → aid ≡ ClearAid → ⊥
reads_uncleared app conn turn_reasons.Agreement aid is e clear = empty_unread app.start conn.values (app.next (first_panel app conn) NoAid) e
reads_uncleared app conn (turn_reasons.Key pressed buffered) aid is e clear = key_uncleared app conn pressed buffered e (is.0 ∙ clear)
reads_uncleared app conn turn_reasons.Refusal aid is e clear = absurd is
reads_uncleared app conn turn_reasons.Restoration aid is e clear = absurd is

-- and nothing before a panel was shown
pub reads_later : (app : Application) (conn : Session) → decision_on app conn conn.turn_reason ≡ Decision.Do Act.Read → conn.turn_reason ≡ turn_reasons.Agreement → ⊥
reads_later app conn e agreement =
    empty_unread app.start conn.values (app.next (first_panel app conn) NoAid) (sym (ap (λ (r : TurnReason). decision_on app conn r) agreement) ∙ e)

-- and nothing twice after PA, or a key without a meaning
never_reads : (app : Application) (conn : Session) (values : Values) (key : ℕ) (next : Next) → on_key app conn values (PaAid key) next ≡ Decision.Do Act.Read → ⊥
never_reads app conn values key Again e = absurd (cc)
never_reads app conn values key (Go target) e = absurd (cc)
never_reads app conn values key Ask e = absurd (cc)

reads_unread : (app : Application) (conn : Session) (turn_reason : TurnReason) → decision_on app conn turn_reason ≡ Decision.Do Act.Read → is_after_pa turn_reason ≡ true → is_unread turn_reason ≡ true
reads_unread app conn turn_reasons.Agreement e pa = absurd (cc)
reads_unread app conn turn_reasons.Refusal e pa = absurd (cc)
reads_unread app conn turn_reasons.Restoration e pa = absurd (cc)
reads_unread app conn (turn_reasons.Key ClearAid buffered) e pa = absurd (cc)
reads_unread app conn (turn_reasons.Key EnterAid buffered) e pa = absurd (cc)
reads_unread app conn (turn_reasons.Key (PfAid key) buffered) e pa = absurd (cc)
reads_unread app conn (turn_reasons.Key NoAid false) e pa = refl
reads_unread app conn (turn_reasons.Key NoAid true) e pa = absurd (cc)
reads_unread app conn (turn_reasons.Key (PaAid key) false) e pa = refl
reads_unread app conn (turn_reasons.Key (PaAid key) true) e pa = absurd (never_reads app conn (learned conn.shadow (app.fields conn.panel) conn.values) key (app.next conn.panel (PaAid key)) e)

-- it isn't to be read
NotRead : Decision → Type 0
NotRead decision = decision ≡ Decision.Do Act.Read → ⊥

-- nothing is open where the screen isn't read
key_closed : (app : Application) (conn : Session) (pressed : Aid) (buffered : Bool) (shadow : Shadow) → NotRead (after_key app conn pressed buffered) → IsOpenBy pressed buffered shadow → NothingIsOpen shadow
unfolding NotRead
key_closed app conn ClearAid buffered shadow unread o = o
key_closed app conn NoAid buffered shadow unread o = o
key_closed app conn EnterAid buffered shadow unread o = o
key_closed app conn (PfAid key) buffered shadow unread o = o
key_closed app conn (PaAid key) true shadow unread o = o
key_closed app conn (PaAid key) false shadow unread o = absurd (unread refl)

decided_closed : (app : Application) (conn : Session) (turn_reason : TurnReason) (shadow : Shadow) → NotRead (decision_on app conn turn_reason) → IsOpenFor turn_reason shadow → NothingIsOpen shadow
decided_closed app conn turn_reasons.Agreement shadow unread o = o
decided_closed app conn (turn_reasons.Key pressed buffered) shadow unread o = key_closed app conn pressed buffered shadow unread o
decided_closed app conn turn_reasons.Refusal shadow unread o = absurd o
decided_closed app conn turn_reasons.Restoration shadow unread o = absurd o

shows_unread : (decision : Decision) (panel : ℕ) (message : Message) (keep : Bool) (values : Values) → decision ≡ Decision.Do (Act.Show panel message keep values) → NotRead decision
unfolding NotRead
shows_unread decision panel message keep values is = λ reads. absurd (let both = sym is ∙ reads in cc)

asks_unread : (decision : Decision) → is_ask decision ≡ true → NotRead decision
unfolding NotRead
asks_unread decision asks = λ reads. absurd (let both = sym (ap is_ask reads) ∙ asks in cc)

-- where an answer shows no panel whole, one is on the screen
pub none_whole : (app : Application) (conn : Session) (said : ApplicationAnswer) → panel_for app conn said ≡ None → is_screen_empty (key_of conn.turn_reason) ≡ false
none_whole app conn said none = by_panel said.panel (is_screen_empty (key_of conn.turn_reason)) none
  where
    by_panel : (panel : Option ℕ) (b : Bool) → option_or panel (if b then Some (panel_asked app conn conn.turn_reason) else None) ≡ None → b ≡ false
    by_panel (Some panel) b none = absurd (cc)
    by_panel None true none = absurd (cc)
    by_panel None false none = refl

-- so it isn't the first
none_later : (app : Application) (conn : Session) (said : ApplicationAnswer) → panel_for app conn said ≡ None → conn.turn_reason ≡ turn_reasons.Agreement → ⊥
none_later app conn said none agreement =
    absurd (let both : true ≡ false = sym (ap (λ (r : TurnReason). is_screen_empty (key_of r)) agreement) ∙ none_whole app conn said none in cc)

-- a question is about the panel that was shown, where one is on the screen
pub same_asked : (app : Application) (conn : Session) (reason : TurnReason) → is_screen_empty (key_of reason) ≡ false → panel_asked app conn reason ≡ conn.panel
same_asked app conn turn_reasons.Agreement shown_now = absurd (cc)
same_asked app conn (turn_reasons.Key aid buffered) shown_now = refl
same_asked app conn turn_reasons.Refusal shown_now = refl
same_asked app conn turn_reasons.Restoration shown_now = refl

abbrev command_of : Application → Session → ℕ → Message → Bool → Values → CommandParts
command_of app conn panel message keep values =
    let wanted = wants_of app conn panel message keep values in paint (cells_in wanted.size) conn.shadow wanted

-- whether fields are to be kept
abbrev keeps_by : Decision → Bool
keeps_by (Decision.Do Act.Read) = false
keeps_by (Decision.Do (Act.Show panel message keep values)) = keep
keeps_by Decision.Asks = false

empty_keeps : (panel : ℕ) (values : Values) (next : Next) → keeps_by (on_empty panel values next) ≡ false
empty_keeps panel values Again = refl
empty_keeps panel values (Go target) = refl
empty_keeps panel values Ask = refl

-- The host may act at two moments alone: at agreement, and when it decides on a key.
pub data MayAct (app : Application) (link : Link) (wanted : Option (List ℕ)) : Type 0 where
  agreeing : (lu : List ℕ) → IsAt (view_of link) wanted (LinkPhase.Negotiating (NegotiationPhase.Agreeing lu)) → IsNew (local_state_of (view_of link)) → MayAct app link wanted
  deciding : (lu : List ℕ) → Sizes app (view_of link) (LinkPhase.InSession lu SessionPhase.Deciding) → IsAt (view_of link) wanted (LinkPhase.InSession lu SessionPhase.Deciding)
      → Decides (local_state_of (view_of link)) link.host.shadow → ShownIn app link.term.waits link.host link.term.display.before_restored link.term.display.last_restored link.term.display.screen SessionPhase.Deciding
      → MayAct app link wanted

module _ (given : LowerLaws) (app : Application) (is : IsApplication app) (link : Link) (k : ConnectionInvariant app (view_of link)) where
  -- the host's end once a panel is shown
  sends_shown : (panel : ℕ) (message : Message) (keep : Bool) (values : Values) → Sends link (shown app link.host panel message keep values)
  sends_shown panel message keep values = record { talk = refl; exact = exact_despite given link.host.unheard link.host.shadow k.exact; restored = refl }

  -- before the terminal knows that both agreed
  paints_first : (lu : List ℕ) (panel : ℕ) (message : Message) (keep : Bool) (values : Values) → IsAt (view_of link) k.wanted (LinkPhase.Negotiating (NegotiationPhase.Agreeing lu)) → IsNew (local_state_of (view_of link))
      → IsDecided app link.host (Act.Show panel message keep values) → (keep ≡ true → KnowsItsFields app link.host) → ConnectionInvariant app (view_of (sent_view (done app link.host (Act.Show panel message keep values)) link))
  paints_first lu panel message keep values at n choice knows =
      let sending : SentValue = shown app link.host panel message keep values in
      let conn : Session = when_shown link.host in
      let wants : WantedScreen = wants_of app conn panel message keep values in
      let same : Sends link sending = sends_shown panel message keep values in
      let meets : Meets link.host.shadow link.term.display.screen = subst (λ s. Meets s link.term.display.screen) (sym n.shadow) tt in
      let to : LinkPhase = LinkPhase.FirstPaint lu link.host.next_seq (command_of app conn panel message keep values) wants conn.shadow in
      kept_sent app link sending k to same (size_shown given app is link k lu panel message keep values at.host_talk) (λ steady. absurd (cc))
      (sent_at link sending k.wanted (LinkPhase.Negotiating (NegotiationPhase.Agreeing lu)) to same at (λ talk is. is) (λ is. is) refl refl refl refl)
      (record {
        lock = n.lock;
        over_is = refl;
        command_is = refl;
        meets = allows_despite given link.host.unheard link.host.shadow link.term.display.screen meets;
        closed = closed_despite link.host.unheard link.host.shadow (λ relies. none_open link.host.shadow n.shadow);
        uncleared = uncleared_next link.host.unheard;
        doubts = input_despite given link.host.unheard link.host.shadow link.term.display.screen meets;
        paintable = paintable given app is link panel message keep values;
      })
      (wants_its app link.term.waits link.host link.term.display.screen panel message keep values choice knows meets)

  -- what it knows when it decides on a key
  pub knows_its : ShownIn app link.term.waits link.host link.term.display.before_restored link.term.display.last_restored link.term.display.screen SessionPhase.Deciding → (link.host.turn_reason ≡ turn_reasons.Agreement → ⊥) → KnowsItsFields app link.host
  knows_its showing later =
      let wanted = (showing.0 later).wanted_for in
      record {
        earlier = wanted.asked;
        shown = wanted.panel_is ∙ ap (λ (t : Talk HostState). app.shown (unwrap_or (model_asked t.state) M2) wanted.asked) wanted.same_talk;
        read = showing.1;
      }

  -- at agreement nothing is kept
  kept_later : (panel : ℕ) (message : Message) (keep : Bool) (values : Values) → decision_on app link.host link.host.turn_reason ≡ Decision.Do (Act.Show panel message keep values) → keep ≡ true → link.host.turn_reason ≡ turn_reasons.Agreement → ⊥
  kept_later panel message keep values is keeps agreement =
      let next : Next = app.next (first_panel app link.host) NoAid in
      let both : on_empty app.start link.host.values next ≡ Decision.Do (Act.Show panel message keep values) =
      sym (ap (λ (r : TurnReason). decision_on app link.host r) agreement) ∙ is in
      let same : false ≡ keep = sym (empty_keeps app.start link.host.values next) ∙ ap keeps_by both in
      absurd (let wrong : false ≡ true = same ∙ keeps in cc)

  paints : (lu : List ℕ) (panel : ℕ) (message : Message) (keep : Bool) (values : Values) → IfRelies link.host.unheard (NothingIsOpen link.host.shadow) → IsAt (view_of link) k.wanted (LinkPhase.InSession lu SessionPhase.Deciding)
      → Decides (local_state_of (view_of link)) link.host.shadow
      → IsDecided app link.host (Act.Show panel message keep values) → (keep ≡ true → KnowsItsFields app link.host) → ConnectionInvariant app (view_of (sent_view (done app link.host (Act.Show panel message keep values)) link))
  paints lu panel message keep values closed at f choice knows =
      let sending : SentValue = shown app link.host panel message keep values in
      let conn : Session = when_shown link.host in
      let wants : WantedScreen = wants_of app conn panel message keep values in
      let same : Sends link sending = sends_shown panel message keep values in
      let to : LinkPhase = LinkPhase.InSession lu (SessionPhase.Painting link.host.next_seq (command_of app conn panel message keep values) wants conn.shadow) in
      kept_sent app link sending k to same (size_shown given app is link k lu panel message keep values at.host_talk) (λ steady. absurd (cc))
      (sent_at link sending k.wanted (LinkPhase.InSession lu SessionPhase.Deciding) to same at (λ talk is. is) (λ is. is) refl refl refl refl)
      (record {
        lock = f.lock;
        over_is = refl;
        command_is = refl;
        meets = allows_despite given link.host.unheard link.host.shadow link.term.display.screen f.sees.meets;
        closed = closed_despite link.host.unheard link.host.shadow closed;
        uncleared = uncleared_next link.host.unheard;
        doubts = input_despite given link.host.unheard link.host.shadow link.term.display.screen f.sees.meets;
        paintable = paintable given app is link panel message keep values;
      })
      (wants_its app link.term.waits link.host link.term.display.screen panel message keep values choice knows f.sees.meets)

  asks : (lu : List ℕ) → link.term.display.size ≡ link.host.size → (link.term.display.screen.aid ≡ ClearAid → ⊥) → (link.host.turn_reason ≡ turn_reasons.Agreement → ⊥) → (is_after_pa link.host.turn_reason ≡ true → is_unread link.host.turn_reason ≡ true) → IsAt (view_of link) k.wanted (LinkPhase.InSession lu SessionPhase.Deciding) → Decides (local_state_of (view_of link)) link.host.shadow
      → ShownIn app link.term.waits link.host link.term.display.before_restored link.term.display.last_restored link.term.display.screen SessionPhase.Deciding → ConnectionInvariant app (view_of (sent_view (done app link.host Act.Read) link))
  asks lu steady not_cleared not_first unread at f showing =
      let sending : SentValue = done app link.host Act.Read in
      let same : Sends link sending = record { talk = refl; exact = k.exact; restored = refl } in
      let to : LinkPhase = LinkPhase.InSession lu (SessionPhase.Reading link.host.next_seq) in
      kept_sent app link sending k to same k.sizes.host (λ s. steady)
      (sent_at link sending k.wanted (LinkPhase.InSession lu SessionPhase.Deciding) to same at (λ talk is. is) (λ is. is) at.turn refl refl refl)
      (record { decides = f; not_cleared = not_cleared; not_first = not_first; unread = unread })
      showing.0

  acts_at : (lu : List ℕ) (decision : Decision) → link.term.display.size ≡ link.host.size → decision_on app link.host link.host.turn_reason ≡ decision → IsAt (view_of link) k.wanted (LinkPhase.InSession lu SessionPhase.Deciding)
      → Decides (local_state_of (view_of link)) link.host.shadow → ShownIn app link.term.waits link.host link.term.display.before_restored link.term.display.last_restored link.term.display.screen SessionPhase.Deciding → ConnectionInvariant app (view_of (host_sent (decided app link.host decision) link))
  acts_at lu (Decision.Do Act.Read) steady e at f showing =
      asks lu steady (reads_uncleared app link.host link.host.turn_reason link.term.display.screen.aid f.turn_reason e) (reads_later app link.host e) (reads_unread app link.host link.host.turn_reason e) at f showing
  acts_at lu (Decision.Do (Act.Show panel message keep values)) steady e at f showing =
      paints lu panel message keep values
      (λ relies. decided_closed app link.host link.host.turn_reason link.host.shadow (shows_unread (decision_on app link.host link.host.turn_reason) panel message keep values e) (f.closed relies)) at f (IsDecided.by_host e) (λ keeps. knows_its showing (kept_later panel message keep values e keeps))
  acts_at lu Decision.Asks steady e at f showing = k

  -- at agreement a first panel is shown, or the application is asked
  acts_new : (lu : List ℕ) → IsAt (view_of link) k.wanted (LinkPhase.Negotiating (NegotiationPhase.Agreeing lu)) → IsNew (local_state_of (view_of link))
      → ConnectionInvariant app (view_of (host_sent (decided app link.host (decision_on app link.host link.host.turn_reason)) link))
  acts_new lu at n =
      subst (λ o. ConnectionInvariant app (view_of (host_sent (decided app link.host (decision_on app link.host o)) link))) (sym n.turn_reason)
      (by_next (app.next (first_panel app link.host) NoAid) refl)
    where
      decided_so : (next : Next) → app.next (first_panel app link.host) NoAid ≡ next → decision_on app link.host link.host.turn_reason ≡ on_empty app.start link.host.values next
      decided_so next is = ap (λ (o : TurnReason). decision_on app link.host o) n.turn_reason ∙ ap (on_empty app.start link.host.values) is

      by_next : (next : Next) → app.next (first_panel app link.host) NoAid ≡ next → ConnectionInvariant app (view_of (host_sent (decided app link.host (on_empty app.start link.host.values next)) link))
      by_next Again is = paints_first lu app.start Fresh false link.host.values at n (IsDecided.by_host (decided_so Again is)) (λ keeps. absurd (cc))
      by_next (Go target) is = paints_first lu target Fresh false link.host.values at n (IsDecided.by_host (decided_so (Go target) is)) (λ keeps. absurd (cc))
      by_next Ask is = k

  -- an answer is decided on by the application
  answer_choice : (said : ApplicationAnswer) (panel : Option ℕ) → panel_for app link.host said ≡ panel → is_ask (decision_on app link.host link.host.turn_reason) ≡ true → IsDecided app link.host (act_by app link.host said panel)
  answer_choice said panel is_panel is_asked = IsDecided.by_application said is_asked (ap (λ (p : Option ℕ). act_by app link.host said p) (sym is_panel))

  -- what is answered at connect is shown first
  answers_first : (lu : List ℕ) (said : ApplicationAnswer) (panel : Option ℕ) → panel_for app link.host said ≡ panel → is_ask (decision_on app link.host link.host.turn_reason) ≡ true
      → IsAt (view_of link) k.wanted (LinkPhase.Negotiating (NegotiationPhase.Agreeing lu)) → IsNew (local_state_of (view_of link)) → ConnectionInvariant app (view_of (sent_view (done app link.host (act_by app link.host said panel)) link))
  answers_first lu said None is_panel is_asked at n = absurd (none_later app link.host said is_panel n.turn_reason)
  answers_first lu said (Some shown_next) is_panel is_asked at n =
      paints_first lu shown_next (Told said.message said.cursor) false (values_for app link.host said (Some shown_next)) at n (answer_choice said (Some shown_next) is_panel is_asked) (λ keeps. absurd (cc))

  -- what is answered is shown
  answers_at : (lu : List ℕ) (said : ApplicationAnswer) (panel : Option ℕ) → panel_for app link.host said ≡ panel → is_ask (decision_on app link.host link.host.turn_reason) ≡ true → IsAt (view_of link) k.wanted (LinkPhase.InSession lu SessionPhase.Deciding)
      → Decides (local_state_of (view_of link)) link.host.shadow → ShownIn app link.term.waits link.host link.term.display.before_restored link.term.display.last_restored link.term.display.screen SessionPhase.Deciding
      → ConnectionInvariant app (view_of (sent_view (done app link.host (act_by app link.host said panel)) link))
  answers_at lu said panel is_panel is_asked at f showing = by_panel panel is_panel
    where
      closed : IfRelies link.host.unheard (NothingIsOpen link.host.shadow)
      closed = λ relies. decided_closed app link.host link.host.turn_reason link.host.shadow (asks_unread (decision_on app link.host link.host.turn_reason) is_asked) (f.closed relies)

      by_panel : (panel : Option ℕ) → panel_for app link.host said ≡ panel → ConnectionInvariant app (view_of (sent_view (done app link.host (act_by app link.host said panel)) link))
      by_panel None is_panel =
          paints lu link.host.panel (Told said.message said.cursor) (not (has_value_of (app.fields link.host.panel) said.values)) (values_for app link.host said None) closed at f (answer_choice said None is_panel is_asked)
          (λ keeps. knows_its showing (none_later app link.host said is_panel))
      by_panel (Some shown_next) is_panel =
          paints lu shown_next (Told said.message said.cursor) false (values_for app link.host said (Some shown_next)) closed at f (answer_choice said (Some shown_next) is_panel is_asked) (λ keeps. absurd (cc))

  pub may_act_at : link.host.turn ≡ whose.Host → link.host.pending ≡ Pending.Nothing → is_agreed link.host.talk.state ≡ true → MayAct app link k.wanted
  may_act_at turns pends agrees = by_moment k.moment k.sizes k.at k.fact k.shown
    where
      by_talk : (talking : NegotiationPhase) → IsAt (view_of link) k.wanted (LinkPhase.Negotiating talking) → IsNew (local_state_of (view_of link)) → (lu : List ℕ) × (talking ≡ NegotiationPhase.Agreeing lu) → MayAct app link k.wanted
      by_talk talking at n is = MayAct.agreeing is.0 (subst (λ (t : NegotiationPhase). IsAt (view_of link) k.wanted (LinkPhase.Negotiating t)) is.1 at) n

      by_serving : (lu : List ℕ) (serving : SessionPhase) → Sizes app (view_of link) (LinkPhase.InSession lu serving) → IsAt (view_of link) k.wanted (LinkPhase.InSession lu serving) → Fact k.wanted (local_state_of (view_of link)) (LinkPhase.InSession lu serving)
          → ShownIn app link.term.waits link.host link.term.display.before_restored link.term.display.last_restored link.term.display.screen serving → turn_at (LinkPhase.InSession lu serving) ≡ whose.Host
          → pending_at (LinkPhase.InSession lu serving) ≡ Pending.Nothing → MayAct app link k.wanted
      by_serving lu SessionPhase.Deciding s at f showing t p = MayAct.deciding lu s at f showing
      by_serving lu (SessionPhase.Reading number) s at f showing t p = absurd (cc)
      by_serving lu (SessionPhase.BufferReturning number parts) s at f showing t p = absurd (cc)
      by_serving lu (SessionPhase.DecidingNoteSent number command) s at f showing t p = absurd (cc)
      by_serving lu (SessionPhase.DecidingNoteAnswered number command) s at f showing t p = absurd (cc)
      by_serving lu (SessionPhase.Painting number command wants over) s at f showing t p = absurd (cc)
      by_serving lu (SessionPhase.AwaitingWriteResponse kind number command) s at f showing t p = absurd (cc)
      by_serving lu SessionPhase.OperatorTyping s at f showing t p = absurd (cc)
      by_serving lu (SessionPhase.Noting number command) s at f showing t p = absurd (cc)
      by_serving lu (SessionPhase.KeySent parts) s at f showing t p = absurd (cc)
      by_serving lu (SessionPhase.KeySentAfterResponse kind number command parts) s at f showing t p = absurd (cc)
      by_serving lu (SessionPhase.KeyCrossingNote number command parts) s at f showing t p = absurd (cc)
      by_serving lu (SessionPhase.KeyBeforeNoteResponse number command parts) s at f showing t p = absurd (cc)

      by_moment : (moment : LinkPhase) → Sizes app (view_of link) moment → IsAt (view_of link) k.wanted moment → Fact k.wanted (local_state_of (view_of link)) moment
          → ShownAt app link.term.waits link.host link.term.display.before_restored link.term.display.last_restored link.term.display.screen moment → MayAct app link k.wanted
      by_moment (LinkPhase.Negotiating talking) s at f showing = by_talk talking at f.0 (agreed_there link.term.display.model talking link.host.talk at.host_talk agrees)
      by_moment (LinkPhase.FirstPaint lu number command wants over) s at f showing = let t = sym at.turn ∙ turns in absurd (cc)
      by_moment (LinkPhase.InSession lu serving) s at f showing = by_serving lu serving s at f showing (sym at.turn ∙ turns) (sym at.pending ∙ pends)

  acts_then : MayAct app link k.wanted → ConnectionInvariant app (view_of (host_sent (decided app link.host (decision_on app link.host link.host.turn_reason)) link))
  acts_then (MayAct.agreeing lu at n) = acts_new lu at n
  acts_then (MayAct.deciding lu s at f showing) = acts_at lu (decision_on app link.host link.host.turn_reason) (s.same refl) refl at f showing

  acts_by : (turn : Turn) (pending : Pending) (agreed : Bool) → link.host.turn ≡ turn → link.host.pending ≡ pending → is_agreed link.host.talk.state ≡ agreed
      → ConnectionInvariant app (view_of (host_sent (option_and_then (decided app link.host) (if may_act turn pending agreed then Some (decision_on app link.host link.host.turn_reason) else None)) link))
  acts_by whose.Host Pending.Nothing true turns pends agrees = acts_then (may_act_at turns pends agrees)
  acts_by whose.Host Pending.Nothing false turns pends agrees = k
  acts_by whose.Host (Pending.Writing number command) agreed turns pends agrees = k
  acts_by whose.Host (Pending.Reading number) agreed turns pends agrees = k
  acts_by whose.Host (Pending.Noting number command) agreed turns pends agrees = k
  acts_by whose.Terminal pending agreed turns pends agrees = k

  -- the host acts, if it may
  pub acts : ConnectionInvariant app (view_of (host_sent (acted app link.host) link))
  acts = acts_by link.host.turn link.host.pending (is_agreed link.host.talk.state) refl refl refl

  -- ---- a question is open

  -- where a question is open, the host may act, and decides to ask
  pub asks_when : is_asking app link.host ≡ true → MayAct app link k.wanted × (is_ask (decision_on app link.host link.host.turn_reason) ≡ true)
  asks_when open_now =
      let asks = asking_parts app link.host open_now in
      let when = may_act_when link.host.turn link.host.pending (is_agreed link.host.talk.state) asks.0 in
      (may_act_at when.0 when.1 when.2, asks.1)

  answers_then : (said : ApplicationAnswer) → is_ask (decision_on app link.host link.host.turn_reason) ≡ true → MayAct app link k.wanted
      → ConnectionInvariant app (view_of (sent_view (done app link.host (act_by app link.host said (panel_for app link.host said))) link))
  answers_then said is_asked (MayAct.agreeing lu at n) = answers_first lu said (panel_for app link.host said) refl is_asked at n
  answers_then said is_asked (MayAct.deciding lu s at f showing) = answers_at lu said (panel_for app link.host said) refl is_asked at f showing

  -- what the application answers is shown, if a question is open
  pub answers_are_shown : (said : ApplicationAnswer) → ConnectionInvariant app (view_of (host_sent (answered_on app link.host said) link))
  answers_are_shown said = by_open (is_asking app link.host) refl (has_its_panel app said)
    where
      by_open : (asked : Bool) → is_asking app link.host ≡ asked → (has : Bool)
          → ConnectionInvariant app (view_of (host_sent (if asked && has then Some (done app link.host (act_by app link.host said (panel_for app link.host said))) else None) link))
      by_open true open_now true = let asks = asks_when open_now in answers_then said asks.1 asks.0
      by_open true open_now false = k
      by_open false open_now has = k

-- ---- a connection that is lost

abbrev without : View → View
without v = record v { lost = true }

lost_at : (v : View) (wanted : Option (List ℕ)) (moment : LinkPhase) → IsAt v wanted moment → IsAt (without v) wanted moment
lost_at v wanted moment at = record {
  host_talk = at.host_talk;
  term_talk = at.term_talk;
  turn = at.turn;
  pending = at.pending;
  goes_down = still v.lost v.down (down_at v.model moment) at.goes_down;
  goes_up = still v.lost v.up (up_at v.model wanted moment) at.goes_up;
}

pub loses : (app : Application) (v : View) → ConnectionInvariant app v → ConnectionInvariant app (record v { lost = true })
loses app v k = record {
  whole = k.whole;
  cursor = k.cursor;
  unreturned = k.unreturned;
  as_left = k.as_left;
  exact = k.exact;
  unrestored = k.unrestored;
  wanted = k.wanted;
  moment = k.moment;
  sizes = record { host = k.sizes.host; screen = k.sizes.screen; same = k.sizes.same };
  at = lost_at v k.wanted k.moment k.at;
  fact = k.fact;
  shown = k.shown;
}

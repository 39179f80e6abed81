-- A terminal at which Clear was pressed in the wait, beside one that waits and displays what was told: the screens differ, but the host paints
-- the next panel whole.
use Rattle.std.proofs.Common.{◌≡◌, ◌⊎◌, inl, inr, ◌||◌, not, ℕ, Bool, true, false, Some, List, [], ◌∷◌, length, ap, sym, subst, ◌∙◌}
use Rattle.std.specs.Prelude.{is_some}
use Rattle.codes3270.specs.Size.{ScreenSize}
use Rattle.datastream.specs.Fields.{fields}
use Rattle.datastream.specs.Grammar.{CommandParts}
use Rattle.datastream.specs.Screen.{Screen}
use Rattle.keyboard.specs.declared.key.Lock.TheVariants.{Wait}
use Rattle.shadow.specs.Belief.{Shadow}
use Rattle.shadow.specs.Settled.{is_settled}
use Rattle.host_core.specs.Application.{Application}
use Rattle.host_core.specs.Laws.{MarksInput}
use Rattle.host_core.specs.Messages.{ToHost, Verdict}
use Rattle.host_core.specs.Session.{Session, Pending, agreed_lu, is_agreed}
use Rattle.host_core.specs.Takes.{is_after_pa, is_unread, may_be_read, may_have_changed}
use Rattle.host_core.specs.declared.turn.Turn.{Turn}
use Rattle.host_core.specs.declared.turn.Turn.TheVariants as whose
use Rattle.host_core.specs.declared.unheard.Unheard.{Unheard}
use Rattle.host_core.specs.declared.unheard.Unheard.TheVariants as unheards
use Rattle.world3270.specs.model.Link.{Link}
use Rattle.world3270.specs.model.Terminal.{TermEnd, is_bound}
use Rattle.world3270.specs.refinement.Invariant.{ConnectionInvariant, Decides, Fact, LocalState, Sees, ShownAt, Sizes, local_state_of, once_taken}
use Rattle.world3270.specs.refinement.Phases.{IsAt, IsInFlight, Kind, LinkPhase, SessionPhase, pending_at, turn_at}
use Rattle.world3270.specs.refinement.View.{view_of}
use Rattle.world3270.specs.statement.EveryTerminal.{LinkWithReport, is_pa}
use Rattle.world3270.specs.statement.Shown.{is_painting}
use Rattle.world3270.specs.statement.TurnReasons.{IsOccasion}
use Rattle.world3270.proofs.ClearedQueue.{DoesNoHarm, SaysToo, answer_first, erases}
use Rattle.world3270.proofs.ClearsDue.{Fate}
use Rattle.world3270.proofs.Returning.{HostReturns, pa_counts, unread_pa}
use Rattle.world3270.proofs.SecondKeys.{is_dropping, is_reading}
use Rattle.world3270.proofs.Queues.{front, nothing}
use Rattle.world3270.proofs.Simulation.{Simulated, Since, has_agreed, is_waiting}

-- the host heard of Clear
abbrev pub hearing_clear : Session → Session
hearing_clear conn = record conn { unheard = unheards.Clear }

-- The hosts are the same; or this one has heard of Clear while a paint waits for its answer, where that does no harm; or an erase waits for
-- its answer, after which it is the same what was believed before.
pub data HostsAlike (told : Link) (now : Session) : Type 0 where
  same : now ≡ told.host → HostsAlike told now
  crossed : is_painting told.host.pending ≡ true → DoesNoHarm told.host.pending told.up → now ≡ hearing_clear told.host → HostsAlike told now
  erasing : erases told.host.pending ≡ true → now ≡ record told.host { shadow = now.shadow; unheard = now.unheard } → may_have_changed now.unheard ≡ true → HostsAlike told now

-- The host needs no answer to a Read Buffer that Clear precedes: the key wasn't PA, or the screen was read since, or the answer is under way
-- before Clear, or a panel is shown by now.
pub data HasRead (t : LinkWithReport) (told : Link) : Type 0 where
  no_pa : is_pa t.told.screen.aid ≡ false → HasRead t told
  was_read : told.host.turn ≡ whose.Host → is_unread told.host.turn_reason ≡ false → HasRead t told
  is_read : told.host.turn ≡ whose.Host → is_reading told.host.pending ≡ true → told.down ≡ [] → answer_first t.link.lost t.link.up ≡ true → HasRead t told
  was_shown : is_painting told.host.pending ≡ true → told.up ≡ [] → HasRead t told

-- Clear was pressed in the wait, and the host hears of it, or paints the next panel whole; or such a paint was taken, and waits for its
-- answer. `said`: what both say.
pub data Stage (t : LinkWithReport) (told : Link) (said : List ToHost) : Type 0 where
  gone : t.cleared ≡ true → told.term.display.keyboard.lock ≡ Wait → HasRead t told → Fate told said t.link → Stage t told said
  erased : t.cleared ≡ false → erases told.host.pending ≡ true → told.down ≡ [] → Since told.term.display t.link.term.display → Stage t told said

-- A screen that Clear nulled has no fields, whatever was typed since; or an erase over nothing is under way.
pub data IsPlain (told : Link) (screen : Screen) : Type 0 where
  bare : fields screen.cells ≡ [] → length screen.cells ≡ length told.term.display.screen.cells → IsPlain told screen
  over_nothing : told.host.shadow ≡ Shadow.NothingKnown → is_painting told.host.pending ≡ true → told.up ≡ [] → IsPlain told screen

-- What is displayed differs in the screen alone, unless the screen was painted again by a paint that Clear crossed, and the next one is under
-- way.
abbrev pub DisplaysAlike : (told now : Link) → Type 0
DisplaysAlike told now = (is_painting told.host.pending ≡ true → told.up ≡ [] → ⊥)
    → now.term.display ≡ record told.term.display { screen = now.term.display.screen; keyboard = now.term.display.keyboard; erased = now.term.display.erased }

-- `told`: the connection of a terminal that waits and is at the same point, with the screen that the host was told
pub record Cleared (app : Application) (lu : List ℕ) (t : LinkWithReport) : Type 0 where
  pub told : Link
  pub kept : ConnectionInvariant app (view_of told)
  pub agreed : agreed_lu told.host.talk.state ≡ Some lu
  pub any : may_have_changed told.host.unheard ≡ true
  pub unsure : told.term.waits ≡ false
  pub marks : MarksInput app
  pub returning : HostReturns told.host
  pub display : told.term.display ≡ record t.told { keyboard = told.term.display.keyboard }
  pub waits : t.waits ≡ is_waiting told.term.display.keyboard.lock
  pub bound : is_bound told.term ≡ true
  pub host_here : t.link.host_here ≡ true
  pub term_here : is_some t.link.term_here ≡ true
  pub host : HostsAlike told t.link.host
  pub lost : t.link.lost ≡ told.lost
  pub down : t.link.down ≡ told.down
  pub talk : t.link.term.talk ≡ told.term.talk
  pub clears : Bool
  pub up : SaysToo clears t.cleared told.host told.up t.link.up
  pub stage : Stage t told up.said
  pub model : t.link.term.display.model ≡ told.term.display.model
  pub rest : DisplaysAlike told t.link
  pub plain : t.cleared ≡ true → IsPlain told t.link.term.display.screen

-- the terminal beside which one waits: Clear was pressed in the wait, or not
pub data Follows (app : Application) (lu : List ℕ) (t : LinkWithReport) : Type 0 where
  simulated : Simulated app lu t → Follows app lu t
  cleared : Cleared app lu t → Follows app lu t

pub agrees_still : {app : Application} {lu : List ℕ} {t : LinkWithReport} (c : Cleared app lu t) → is_agreed c.told.host.talk.state ≡ true
agrees_still {app} {lu} c = has_agreed lu c.told.host.talk.state c.agreed

-- the hosts are alike but for the belief and what is unheard
pub but_belief : (told : Link) (now : Session) → HostsAlike told now → now ≡ record told.host { shadow = now.shadow; unheard = now.unheard }
but_belief told now (HostsAlike.same is) = is ∙ sym (ap (λ (c : Session). record told.host { shadow = c.shadow; unheard = c.unheard }) is)
but_belief told now (HostsAlike.crossed paints harmless is) = is ∙ sym (ap (λ (c : Session). record told.host { shadow = c.shadow; unheard = c.unheard }) is)
but_belief told now (HostsAlike.erasing is_erasing is any) = is

pub may_change : (told : Link) (now : Session) → HostsAlike told now → may_have_changed told.host.unheard ≡ true → may_have_changed now.unheard ≡ true
may_change told now (HostsAlike.same is) any = ap (λ (c : Session). may_have_changed c.unheard) is ∙ any
may_change told now (HostsAlike.crossed paints harmless is) any = ap (λ (c : Session). may_have_changed c.unheard) is
may_change told now (HostsAlike.erasing is_erasing is changed) any = changed

-- ---- the host hears of Clear

sees_cleared : (unheard : Unheard) (size : ScreenSize) (screen : Screen) (shadow : Shadow) → Sees unheard size screen shadow → Sees unheards.Clear size screen shadow
sees_cleared unheard size screen shadow s = record { exact = s.exact; closed = λ relies. absurd (cc); cleared = s.cleared; bare = s.bare; meets = s.meets; lists = s.lists; told = s.told }

decides_cleared : (s : LocalState) (shadow : Shadow) → Decides s shadow → Decides (record s { unheard = unheards.Clear }) shadow
decides_cleared s shadow d = record { lock = d.lock; turn_reason = d.turn_reason; cursor = d.cursor; closed = λ relies. absurd (cc); sees = sees_cleared s.unheard s.size s.screen shadow d.sees }

-- in its turn, it still knows the screen that was told
pub record HearsOfClear (app : Application) (told : Link) : Type 0 where
  pub kept : ConnectionInvariant app (view_of (record told { host = hearing_clear told.host }))
  pub read : is_unread told.host.turn_reason ≡ false

pub hears_of_clear : (app : Application) (told : Link) → ConnectionInvariant app (view_of told) → may_have_changed told.host.unheard ≡ true → (is_pa told.term.display.screen.aid ≡ false) ⊎ (is_unread told.host.turn_reason ≡ false)
    → is_dropping told.host.turn told.host.pending ≡ true → is_painting told.host.pending ≡ false → HearsOfClear app told
hears_of_clear app told k any read drops unpainted = by_moment k.moment k.sizes k.at k.fact k.shown dropping_at unpainted_at
  where
    dropping_at : is_dropping (turn_at k.moment) (pending_at k.moment) ≡ true
    dropping_at = sym (ap (λ (turn : Turn). is_dropping turn told.host.pending) k.at.turn ∙ ap (λ (pending : Pending). is_dropping (turn_at k.moment) pending) k.at.pending) ∙ drops

    unpainted_at : is_painting (pending_at k.moment) ≡ false
    unpainted_at = sym (ap is_painting k.at.pending) ∙ unpainted

    state : LocalState
    state = local_state_of (view_of told)

    -- at the same moment
    so : (moment : LinkPhase) → Sizes app (view_of told) moment → IsAt (view_of told) k.wanted moment → Fact k.wanted (record state { unheard = unheards.Clear }) moment
        → ShownAt app told.term.waits (hearing_clear told.host) told.term.display.before_restored told.term.display.last_restored told.term.display.screen moment → is_unread told.host.turn_reason ≡ false → HearsOfClear app told
    so moment s at f shown read = record {
      kept = record {
        whole = k.whole;
        cursor = k.cursor;
        unreturned = k.unreturned;
        as_left = k.as_left;
        exact = k.exact;
        unrestored = k.unrestored;
        wanted = k.wanted;
        moment = moment;
        sizes = record { host = s.host; screen = s.screen; same = s.same };
        at = record { host_talk = at.host_talk; term_talk = at.term_talk; turn = at.turn; pending = at.pending; goes_down = at.goes_down; goes_up = at.goes_up };
        fact = f;
        shown = shown;
      };
      read = read;
    }

    by_occasion : IsOccasion told.host.turn_reason told.term.display.screen.aid → is_unread told.host.turn_reason ≡ false
    by_occasion is = by_read read
      where
        by_read : (is_pa told.term.display.screen.aid ≡ false) ⊎ (is_unread told.host.turn_reason ≡ false) → is_unread told.host.turn_reason ≡ false
        by_read (inl other) = unread_pa told.host.turn_reason (pa_counts told.host.turn_reason told.term.display.screen.aid is ∙ other)
        by_read (inr was) = was

    by_serving : (lu : List ℕ) (serving : SessionPhase) → Sizes app (view_of told) (LinkPhase.InSession lu serving) → IsAt (view_of told) k.wanted (LinkPhase.InSession lu serving) → Fact k.wanted state (LinkPhase.InSession lu serving)
        → ShownAt app told.term.waits told.host told.term.display.before_restored told.term.display.last_restored told.term.display.screen (LinkPhase.InSession lu serving)
        → is_dropping (turn_at (LinkPhase.InSession lu serving)) (pending_at (LinkPhase.InSession lu serving)) ≡ true → is_painting (pending_at (LinkPhase.InSession lu serving)) ≡ false → HearsOfClear app told
    by_serving lu SessionPhase.Deciding s at f shown drops unpainted = so (LinkPhase.InSession lu SessionPhase.Deciding) s at (decides_cleared state state.shadow f) shown (by_occasion f.turn_reason)
    by_serving lu (SessionPhase.Reading number) s at f shown drops unpainted =
        so (LinkPhase.InSession lu (SessionPhase.Reading number)) s at (record { decides = decides_cleared state state.shadow f.decides; not_cleared = f.not_cleared; not_first = f.not_first; unread = f.unread }) shown (by_occasion f.decides.turn_reason)
    by_serving lu (SessionPhase.BufferReturning number parts) s at f shown drops unpainted =
        so (LinkPhase.InSession lu (SessionPhase.BufferReturning number parts)) s at (record {
          lock = f.lock;
          turn_reason = f.turn_reason;
          closed = λ relies. absurd (cc);
          not_cleared = f.not_cleared;
          not_first = f.not_first;
          says = f.says;
          will = f.will;
          unbroken = f.unbroken;
          known = λ skips. decides_cleared state state.shadow (f.known (ap (λ (b : Bool). not b || (is_after_pa state.turn_reason || not (is_settled state.shadow))) any ∙ skips));
        }) shown (by_occasion f.turn_reason)
    by_serving lu (SessionPhase.DecidingNoteSent number command) s at f shown drops unpainted =
        so (LinkPhase.InSession lu (SessionPhase.DecidingNoteSent number command)) s at (decides_cleared state state.shadow f.0, record { note = f.1.note; takes = f.1.takes }) shown (by_occasion f.0.turn_reason)
    by_serving lu (SessionPhase.DecidingNoteAnswered number command) s at f shown drops unpainted =
        so (LinkPhase.InSession lu (SessionPhase.DecidingNoteAnswered number command)) s at (decides_cleared state (once_taken state.size command state.shadow) f) shown (by_occasion f.turn_reason)
    by_serving lu (SessionPhase.Painting number command wanted over) s at f shown drops unpainted = absurd (cc)
    by_serving lu (SessionPhase.AwaitingWriteResponse Kind.APaint number command) s at f shown drops unpainted = absurd (cc)
    by_serving lu (SessionPhase.AwaitingWriteResponse Kind.ANote number command) s at f shown drops unpainted = absurd (cc)
    by_serving lu SessionPhase.OperatorTyping s at f shown drops unpainted = absurd (cc)
    by_serving lu (SessionPhase.Noting number command) s at f shown drops unpainted = absurd (cc)
    by_serving lu (SessionPhase.KeySent parts) s at f shown drops unpainted = absurd (cc)
    by_serving lu (SessionPhase.KeySentAfterResponse Kind.APaint number command parts) s at f shown drops unpainted = absurd (cc)
    by_serving lu (SessionPhase.KeySentAfterResponse Kind.ANote number command parts) s at f shown drops unpainted = absurd (cc)
    by_serving lu (SessionPhase.KeyCrossingNote number command parts) s at f shown drops unpainted = absurd (cc)
    by_serving lu (SessionPhase.KeyBeforeNoteResponse number command parts) s at f shown drops unpainted = absurd (cc)

    by_moment : (moment : LinkPhase) → Sizes app (view_of told) moment → IsAt (view_of told) k.wanted moment → Fact k.wanted state moment
        → ShownAt app told.term.waits told.host told.term.display.before_restored told.term.display.last_restored told.term.display.screen moment → is_dropping (turn_at moment) (pending_at moment) ≡ true → is_painting (pending_at moment) ≡ false
        → HearsOfClear app told
    by_moment (LinkPhase.Negotiating talking) s at f shown drops unpainted =
        so (LinkPhase.Negotiating talking) s at (record { shadow = f.0.shadow; turn_reason = f.0.turn_reason; lock = f.0.lock; aid = f.0.aid; no_fields = f.0.no_fields; home = f.0.home }, f.1) tt
        (ap is_unread f.0.turn_reason)
    by_moment (LinkPhase.FirstPaint lu number command wanted over) s at f shown drops unpainted = absurd (cc)
    by_moment (LinkPhase.InSession lu serving) s at f shown drops unpainted = by_serving lu serving s at f shown drops unpainted

-- ---- a paint is answered

-- the answer to a paint, which comes first
pub record PaintAnswered (link : Link) (first : ToHost) : Type 0 where
  pub number : ℕ
  pub command : CommandParts
  pub pending : link.host.pending ≡ Pending.Writing number command
  pub first_is : first ≡ ToHost.Response number Verdict.Positive
  pub uncleared : may_be_read link.host.unheard ≡ true

pub paint_answers : (app : Application) (link : Link) (first : ToHost) (others : List ToHost) → ConnectionInvariant app (view_of link) → is_painting link.host.pending ≡ true → link.up ≡ first ∷ others → PaintAnswered link first
paint_answers app link first others k paints e = by_moment k.moment k.at k.fact (sym (ap is_painting k.at.pending) ∙ paints)
  where
    no_more : IsInFlight link.lost link.up [] → PaintAnswered link first
    no_more way = absurd (nothing link.lost link.up first others e way)

    by_serving : (lu : List ℕ) (serving : SessionPhase) → IsAt (view_of link) k.wanted (LinkPhase.InSession lu serving) → Fact k.wanted (local_state_of (view_of link)) (LinkPhase.InSession lu serving)
        → is_painting (pending_at (LinkPhase.InSession lu serving)) ≡ true → PaintAnswered link first
    by_serving lu (SessionPhase.AwaitingWriteResponse Kind.APaint number command) at f paints =
        record { number = number; command = command; pending = at.pending; first_is = (front link.lost link.up first others _ [] e at.goes_up).0; uncleared = f.uncleared }
    by_serving lu (SessionPhase.KeySentAfterResponse Kind.APaint number command parts) at f paints =
        record { number = number; command = command; pending = at.pending; first_is = (front link.lost link.up first others _ _ e at.goes_up).0; uncleared = f.0.uncleared }
    by_serving lu (SessionPhase.Painting number command wanted over) at f paints = no_more at.goes_up
    by_serving lu (SessionPhase.AwaitingWriteResponse Kind.ANote number command) at f paints = absurd (cc)
    by_serving lu (SessionPhase.KeySentAfterResponse Kind.ANote number command parts) at f paints = absurd (cc)
    by_serving lu SessionPhase.Deciding at f paints = absurd (cc)
    by_serving lu (SessionPhase.Reading number) at f paints = absurd (cc)
    by_serving lu (SessionPhase.BufferReturning number parts) at f paints = absurd (cc)
    by_serving lu (SessionPhase.DecidingNoteSent number command) at f paints = absurd (cc)
    by_serving lu (SessionPhase.DecidingNoteAnswered number command) at f paints = absurd (cc)
    by_serving lu SessionPhase.OperatorTyping at f paints = absurd (cc)
    by_serving lu (SessionPhase.Noting number command) at f paints = absurd (cc)
    by_serving lu (SessionPhase.KeySent parts) at f paints = absurd (cc)
    by_serving lu (SessionPhase.KeyCrossingNote number command parts) at f paints = absurd (cc)
    by_serving lu (SessionPhase.KeyBeforeNoteResponse number command parts) at f paints = absurd (cc)

    by_moment : (moment : LinkPhase) → IsAt (view_of link) k.wanted moment → Fact k.wanted (local_state_of (view_of link)) moment → is_painting (pending_at moment) ≡ true → PaintAnswered link first
    by_moment (LinkPhase.Negotiating talking) at f paints = absurd (cc)
    by_moment (LinkPhase.FirstPaint lu number command wanted over) at f paints = no_more at.goes_up
    by_moment (LinkPhase.InSession lu serving) at f paints = by_serving lu serving at f paints

-- ---- what happens at the host's end

-- It leaves what is displayed.
pub still_cleared : (app : Application) (lu : List ℕ) (t : LinkWithReport) (c : Cleared app lu t) (told link : Link) (clears : Bool) → told.term ≡ c.told.term → link.term ≡ t.link.term → link.term_here ≡ t.link.term_here → link.host_here ≡ t.link.host_here
    → ConnectionInvariant app (view_of told) → told.host.talk ≡ c.told.host.talk → may_have_changed told.host.unheard ≡ true → HostsAlike told link.host → link.lost ≡ told.lost → link.down ≡ told.down
    → HostReturns told.host → (says : SaysToo clears t.cleared told.host told.up link.up) → Stage (record t { link = link }) told says.said
    → ((is_painting told.host.pending ≡ true → told.up ≡ [] → ⊥) → is_painting c.told.host.pending ≡ true → c.told.up ≡ [] → ⊥) → (IsPlain c.told t.link.term.display.screen → IsPlain told t.link.term.display.screen) → Cleared app lu (record t { link = link })
still_cleared app lu t c told link clears told_term link_term term_here host_here kept talk any host lost down returning up stage before plain = record {
  told = told;
  kept = kept;
  agreed = ap (λ talk. agreed_lu talk.state) talk ∙ c.agreed;
  any = any;
  unsure = ap (λ (term : TermEnd). term.waits) told_term ∙ c.unsure;
  marks = c.marks;
  returning = returning;
  display = subst (λ (term : TermEnd). term.display ≡ record t.told { keyboard = term.display.keyboard }) (sym told_term) c.display;
  waits = c.waits ∙ ap (λ (term : TermEnd). is_waiting term.display.keyboard.lock) (sym told_term);
  bound = ap is_bound told_term ∙ c.bound;
  host_here = host_here ∙ c.host_here;
  term_here = ap is_some term_here ∙ c.term_here;
  host = host;
  lost = lost;
  down = down;
  talk = ap (λ (term : TermEnd). term.talk) link_term ∙ c.talk ∙ ap (λ (term : TermEnd). term.talk) (sym told_term);
  clears = clears;
  up = up;
  stage = stage;
  model = ap (λ (term : TermEnd). term.display.model) link_term ∙ c.model ∙ ap (λ (term : TermEnd). term.display.model) (sym told_term);
  rest = λ shown.
      subst (λ (term : TermEnd). link.term.display ≡ record term.display { screen = link.term.display.screen; keyboard = link.term.display.keyboard; erased = link.term.display.erased }) (sym told_term)
      (subst (λ (term : TermEnd). term.display ≡ record c.told.term.display { screen = term.display.screen; keyboard = term.display.keyboard; erased = term.display.erased }) (sym link_term) (c.rest (before shown)));
  plain = λ cleared. subst (λ (term : TermEnd). IsPlain told term.display.screen) (sym link_term) (plain (c.plain cleared));
}

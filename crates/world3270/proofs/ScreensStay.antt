-- While the host holds the turn, and no note is under way, the screen stays until the host decides.
use Rattle.std.proofs.Common.{◌≡◌, ℕ, Bool, true, false, Option, None, Some, List, [], ◌∷◌, ◌++◌, map, refl, ap, sym, subst, ◌∙◌, if◌then◌else◌}
use Rattle.std.specs.Prelude.{⊤}
use Rattle.keyboard.specs.declared.key.Lock.{Lock}
use Rattle.keyboard.specs.declared.key.Lock.TheVariants.{Wait}
use Rattle.host_core.specs.Application.{Application, IsApplication, application_of}
use Rattle.host_core.specs.Laws.{PanelsAreShown}
use Rattle.host_core.specs.Messages.{ToHost, ToTerminal}
use Rattle.host_core.specs.Notes.{may_note, noted, noted_as}
use Rattle.host_core.specs.Session.{Session, Pending, is_agreed}
use Rattle.host_core.specs.Takes.{took as host_took}
use Rattle.host_core.specs.declared.turn.Turn.{Turn}
use Rattle.host_core.specs.declared.turn.Turn.TheVariants as whose
use Rattle.world3270.specs.statement.Always.{AlwaysOf}
use Rattle.world3270.specs.refinement.LowerLaws.{LowerLaws}
use Rattle.world3270.specs.model.Steps.{run}
use Rattle.world3270.specs.model.Link.{Link, cut, host_left, host_sent}
use Rattle.world3270.specs.refinement.Phases.{LinkPhase, SessionPhase, down_at, pending_at, talk_down, talk_up, turn_at}
use Rattle.world3270.specs.refinement.Refines.{WorldSetup, SameSkips, StepsAreSimulated, after}
use Rattle.world3270.specs.statement.ScreensFound.{IsStill, TurnsKeepTheScreen, TurnsKeepTheScreenOverBytes, is_noting}
use Rattle.world3270.specs.statement.Observation.{SeenLink, TerminalSeen, end_seen, seen_link, terminal_seen}
use Rattle.world3270.specs.refinement.Invariant.{Fact, ConnectionInvariant, local_state_of}
use Rattle.world3270.specs.model.Terminal.{TermEnd, is_bound, once_bound, read_came, took as term_took}
use Rattle.world3270.specs.refinement.View.{View, view_of}
use Rattle.world3270.specs.model.World.{World, new_world}
use Rattle.world3270.proofs.Headline.{terminal_attached}
use Rattle.world3270.proofs.HostSteps.{just_talks}
use Rattle.world3270.proofs.ScreensFound.{AreTalk, IsQuiet, all_talk, if_sent, talk_is_quiet}
use Rattle.world3270.proofs.SeenRepresents.{same_seen}
use Rattle.world3270.proofs.ShownSince.{stands_at, still_waits}
use Rattle.world3270.proofs.Undecided.{Keeps, rests_hold, rests_hold_over}
use Rattle.world3270.proofs.Worlds.{new_good, run_good}

-- ---- what is under way

-- talk and reads alone go down
abbrev AreReads : List ToTerminal → Type 0
AreReads [] = ⊤
AreReads (ToTerminal.TalksDown saying ∷ rest) = AreReads rest
AreReads (ToTerminal.Paint number wanted over ∷ rest) = ⊥
AreReads (ToTerminal.ReadBuffer number ∷ rest) = AreReads rest
AreReads (ToTerminal.Note number command ∷ rest) = ⊥

talk_reads : (queue : List ToTerminal) → AreTalk queue → AreReads queue
talk_reads [] are = tt
talk_reads (ToTerminal.TalksDown saying ∷ rest) are = talk_reads rest are
talk_reads (ToTerminal.Paint number wanted over ∷ rest) are = absurd are
talk_reads (ToTerminal.ReadBuffer number ∷ rest) are = absurd are
talk_reads (ToTerminal.Note number command ∷ rest) are = absurd are

reads_more : (queue more : List ToTerminal) → AreReads queue → AreReads more → AreReads (queue ++ more)
reads_more [] more are others = others
reads_more (ToTerminal.TalksDown saying ∷ rest) more are others = reads_more rest more are others
reads_more (ToTerminal.Paint number wanted over ∷ rest) more are others = absurd are
reads_more (ToTerminal.ReadBuffer number ∷ rest) more are others = reads_more rest more are others
reads_more (ToTerminal.Note number command ∷ rest) more are others = absurd are

reads_front : (queue more : List ToTerminal) → AreReads (queue ++ more) → AreReads queue
reads_front [] more are = tt
reads_front (ToTerminal.TalksDown saying ∷ rest) more are = reads_front rest more are
reads_front (ToTerminal.Paint number wanted over ∷ rest) more are = absurd are
reads_front (ToTerminal.ReadBuffer number ∷ rest) more are = reads_front rest more are
reads_front (ToTerminal.Note number command ∷ rest) more are = absurd are

-- ---- in the host's turn

-- the host holds the turn, and the terminal, unless it left, waits on the screen that it had
record StaysOn (was now : Link) : Type 0 where
  same_terminal : (terminal : ℕ) → now.term_here ≡ Some terminal → was.term_here ≡ Some terminal
  turn : now.host.turn ≡ whose.Host
  lock : now.term.display.keyboard.lock ≡ Wait
  screen : now.term.display.screen ≡ was.term.display.screen
  down : AreReads now.down

-- the terminal waits on this screen
record WaitsOn (was : Link) (end : TermEnd) : Type 0 where
  lock : end.display.keyboard.lock ≡ Wait
  screen : end.display.screen ≡ was.term.display.screen

if_bound : (was : Link) (b : Bool) (end : TermEnd) → WaitsOn was end → WaitsOn was (once_bound b (read_came end) end).end
if_bound was true end waits = waits
if_bound was false end waits = waits

takes : (was link : Link) (message : ToTerminal) (rest : List ToTerminal) → link.down ≡ message ∷ rest → StaysOn was link → WaitsOn was (term_took link.term message).end × AreReads rest
takes was link (ToTerminal.TalksDown saying) rest is stays = (record { lock = stays.lock; screen = stays.screen }, subst AreReads is stays.down)
takes was link (ToTerminal.Paint number wanted over) rest is stays = absurd (subst AreReads is stays.down)
takes was link (ToTerminal.ReadBuffer number) rest is stays =
    (if_bound was (is_bound link.term) link.term (record { lock = stays.lock; screen = stays.screen }), subst AreReads is stays.down)
takes was link (ToTerminal.Note number command) rest is stays = absurd (subst AreReads is stays.down)

no_note : (turn : Turn) (pending : Pending) (agreed : Bool) → turn ≡ whose.Host → may_note turn pending agreed ≡ false
no_note whose.Host pending agreed is = refl
no_note whose.Terminal pending agreed is = absurd (cc)

again : (was now new : Link) → StaysOn was now → new.term_here ≡ now.term_here → new.host ≡ now.host → new.term ≡ now.term → new.down ≡ now.down → StaysOn was new
again was now new stays here host term down = record {
  same_terminal = λ terminal is. stays.same_terminal terminal (sym here ∙ is);
  turn = ap (λ (c : Session). c.turn) host ∙ stays.turn;
  lock = ap (λ (e : TermEnd). e.display.keyboard.lock) term ∙ stays.lock;
  screen = ap (λ (e : TermEnd). e.display.screen) term ∙ stays.screen;
  down = subst AreReads (sym down) stays.down;
}

notes_stay : (was : Link) (text : List ℕ) (link : Link) → StaysOn was link → StaysOn was (host_sent (noted text link.host) link)
notes_stay was text link stays =
    subst (λ (b : Bool). StaysOn was (host_sent (if b then Some (noted_as text link.host) else None) link))
    (sym (no_note link.host.turn link.host.pending (is_agreed link.host.talk.state) stays.turn)) stays

keeps_staying : (was : Link) → Keeps (StaysOn was)
keeps_staying was = record {
  up = λ pool link message rest is stays.
      let talks = just_talks pool link.host message in
      let more : List ToTerminal = map ToTerminal.TalksDown talks.talk in
      record {
        same_terminal = stays.same_terminal;
        turn = talks.turn stays.turn;
        lock = stays.lock;
        screen = stays.screen;
        down = if_sent AreReads link.lost link.down (host_took pool link.host message).sends stays.down
            (subst (λ (m : List ToTerminal). AreReads (link.down ++ m)) (sym talks.says) (reads_more link.down more stays.down (talk_reads more (all_talk talks.talk))));
      };
  down = λ link message rest is stays.
      let went = takes was link message rest is stays in
      record { same_terminal = stays.same_terminal; turn = stays.turn; lock = went.0.lock; screen = went.0.screen; down = went.1 };
  key = λ key link stays.
      let still = still_waits key link.term.display stays.lock in
      record { same_terminal = stays.same_terminal; turn = stays.turn; lock = still.lock; screen = still.same ∙ stays.screen; down = stays.down };
  notes = notes_stay was;
  loses = λ link stays. again was link (cut link) stays refl refl refl refl;
  host_leaves = λ link stays. again was link (host_left link) stays refl refl refl refl;
  term_leaves = λ link stays. record {
    same_terminal = λ terminal here. absurd (let wrong : None ≡ Some terminal = here in cc);
    turn = stays.turn;
    lock = stays.lock;
    screen = stays.screen;
    down = stays.down;
  };
}

-- the keyboard waits, and only talk and reads go down
record IsReading (lock : Lock) (down : List ToTerminal) : Type 0 where
  waits : lock ≡ Wait
  goes_down : AreReads down

quiet_reads : (lock : Lock) (down : List ToTerminal) (up : List ToHost) → IsQuiet lock down up → IsReading lock down
quiet_reads lock down up quiet = record { waits = quiet.waits; goes_down = talk_reads down quiet.goes_down }

reads_by : (wanted : Option (List ℕ)) (v : View) (moment : LinkPhase) → Fact wanted (local_state_of v) moment → turn_at moment ≡ whose.Host → is_noting (pending_at moment) ≡ false
    → IsReading v.lock (down_at v.model moment)
reads_by wanted v (LinkPhase.Negotiating talking) f t p = quiet_reads v.lock (talk_down v.model talking) (talk_up v.model wanted talking) (talk_is_quiet v.model wanted talking v.lock f.0.lock)
reads_by wanted v (LinkPhase.FirstPaint lu number command wants over) f t p = absurd (cc)
reads_by wanted v (LinkPhase.InSession lu SessionPhase.Deciding) f t p = record { waits = f.lock; goes_down = tt }
reads_by wanted v (LinkPhase.InSession lu (SessionPhase.Reading number)) f t p = record { waits = f.decides.lock; goes_down = tt }
reads_by wanted v (LinkPhase.InSession lu (SessionPhase.BufferReturning number parts)) f t p = record { waits = f.lock; goes_down = tt }
reads_by wanted v (LinkPhase.InSession lu (SessionPhase.DecidingNoteSent number command)) f t p = absurd (cc)
reads_by wanted v (LinkPhase.InSession lu (SessionPhase.DecidingNoteAnswered number command)) f t p = absurd (cc)
reads_by wanted v (LinkPhase.InSession lu (SessionPhase.Painting number command wants over)) f t p = absurd (cc)
reads_by wanted v (LinkPhase.InSession lu (SessionPhase.AwaitingWriteResponse kind number command)) f t p = absurd (cc)
reads_by wanted v (LinkPhase.InSession lu SessionPhase.OperatorTyping) f t p = absurd (cc)
reads_by wanted v (LinkPhase.InSession lu (SessionPhase.Noting number command)) f t p = absurd (cc)
reads_by wanted v (LinkPhase.InSession lu (SessionPhase.KeySent parts)) f t p = absurd (cc)
reads_by wanted v (LinkPhase.InSession lu (SessionPhase.KeySentAfterResponse kind number command parts)) f t p = absurd (cc)
reads_by wanted v (LinkPhase.InSession lu (SessionPhase.KeyCrossingNote number command parts)) f t p = absurd (cc)
reads_by wanted v (LinkPhase.InSession lu (SessionPhase.KeyBeforeNoteResponse number command parts)) f t p = absurd (cc)

stays_now : (app : Application) (link : Link) → ConnectionInvariant app (view_of link) → link.host.turn ≡ whose.Host → is_noting link.host.pending ≡ false → StaysOn link link
stays_now app link k turns unnoted =
    let at = reads_by k.wanted (view_of link) k.moment k.fact (sym k.at.turn ∙ turns) (ap is_noting (sym k.at.pending) ∙ unnoted) in
    record {
      same_terminal = λ terminal here. here;
      turn = turns;
      lock = at.waits;
      screen = refl;
      down = reads_front link.down k.at.goes_down.vanished (subst AreReads (sym k.at.goes_down.whole) at.goes_down);
    }

-- ---- the theorems

still_there : (was now : Link) (terminal : TerminalSeen) → StaysOn was now → (seen_link now).terminal ≡ Some terminal
    → (earlier : TerminalSeen) × ((seen_link was).terminal ≡ Some earlier) × IsStill earlier terminal
still_there was now terminal stays seen =
    let there = terminal_attached now.term_here now.term terminal seen in (
      end_seen there.0 was.term,
      ap (λ (h : Option ℕ). terminal_seen h was.term) (stays.same_terminal there.0 there.1),
      record {
        same_terminal = ap (λ (t : TerminalSeen). t.number) there.2;
        same_screen = ap (λ (t : TerminalSeen). t.screen) there.2 ∙ stays.screen;
      },
    )

pub turns_keep : LowerLaws → AlwaysOf TurnsKeepTheScreen
turns_keep given app serves pool models events is lists few are number more terminal turns unnoted rests seen =
    let world : World = run app events (new_world app serves pool models) in
    let good = run_good given app is events (new_world app serves pool models) are (new_good given app is serves pool models lists) in
    let now = rests_hold_over app (StaysOn (world.link number)) (keeps_staying (world.link number)) number more world rests
    (stays_now app (world.link number) (good.links number) turns unnoted) in
    still_there (world.link number) ((run app more world).link number) terminal now seen

pub turns_keep_over_bytes : LowerLaws → PanelsAreShown → StepsAreSimulated → SameSkips → TurnsKeepTheScreenOverBytes
turns_keep_over_bytes given panels go skips number events before world rest conn terminal is are rests before_is turns unnoted terminal_is =
    let begin : WorldSetup = is.begin in
    let app : Application = application_of begin.panels in
    let is_app : IsApplication app = panels begin.panels is.is_begin.panels.otherwise is.is_begin.panels.laid_out is.is_begin.panels.apart in
    let was : World = after begin is.events in
    let good = run_good given app is_app is.events (new_world app begin.serves begin.pool begin.models) is.reached.are_events (new_good given app is_app begin.serves begin.pool begin.models is.is_begin.pool) in
    let first = stands_at begin is.events before number rest conn is.reached before_is in
    let stays : StaysOn (was.link number) (was.link number) =
    stays_now app (was.link number) (good.links number) (subst (λ (c : Session). c.turn ≡ whose.Host) first.same turns) (subst (λ (c : Session). is_noting c.pending ≡ false) first.same unnoted) in
    let now = rests_hold go skips begin is.is_begin (StaysOn (was.link number)) (keeps_staying (was.link number)) number events before world are rests
    (record { events = is.events; reached = is.reached; holds = stays }) in
    let seen_now = sym (ap (λ (l : SeenLink). l.terminal) (same_seen world (after begin now.events) now.reached.stands number)) ∙ terminal_is in
    let found = still_there (was.link number) ((after begin now.events).link number) terminal now.holds seen_now in
    (found.0, ap (λ (l : SeenLink). l.terminal) (same_seen before was is.reached.stands number) ∙ found.1, found.2)

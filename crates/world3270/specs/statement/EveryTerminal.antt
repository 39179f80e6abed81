-- One connection between a host that serves any terminal and a terminal that keeps the rules, from the host's agreement
-- on an LU on (our profile): what may happen on it, and what holds then. Other clients change only the pool of LUs.
use Rattle.std.specs.Prelude.{◌≡◌, ⊤, ◌||◌, ◌&&◌, not, ℕ, Bool, true, false, List, [], ◌∷◌, None, Some, if◌then◌else◌, is_some}
use Rattle.codes3270.specs.Size.{cells_in}
use Rattle.codes3270.specs.declared.attention.Aid.{Aid}
use Rattle.codes3270.specs.declared.attention.Aid.TheVariants.{NoAid, Clear, Pa}
use Rattle.datastream.specs.Meaning.{after_command}
use Rattle.datastream.specs.Wanted.{WantedScreen}
use Rattle.keyboard.specs.State.{freed}
use Rattle.lu_pool.specs.Asking.{answer_to}
use Rattle.lu_pool.specs.HolderLaws.{IsSound}
use Rattle.lu_pool.specs.declared.entry.Entry.{Entry}
use Rattle.panels.specs.Screen.{Values}
use Rattle.panels.specs.declared.message.Message.{Message}
use Rattle.shadow.specs.Belief.{Shadow}
use Rattle.shadow.specs.Doubt.{doubted}
use Rattle.shadow.specs.Exactness.{is_erase}
use Rattle.shadow.specs.Paint.{paint}
use Rattle.tn3270e_msg.specs.Device.{model_of}
use Rattle.tn3270e_msg.specs.declared.device.Device.{Device}
use Rattle.tn3270e_msg.specs.declared.host_talk.HostState.TheVariants.{Agreed as HostAgreed}
use Rattle.host_core.specs.Acts.{Act as HostAct, Decision, acted, decision_in}
use Rattle.host_core.specs.Application.{Application, IsApplication}
use Rattle.host_core.specs.Laws.{MarksInput}
use Rattle.host_core.specs.Messages.{ToTerminal, ToHost, Verdict}
use Rattle.host_core.specs.Notes.{IsNoteText, noted}
use Rattle.host_core.specs.Questions.{answered_on, question_in}
use Rattle.host_core.specs.Session.{Pending, Session, agreed_lu, model_in, new_conn, unheard_of}
use Rattle.host_core.specs.Takes.{is_unread, took as host_took}
use Rattle.host_core.specs.declared.question.Answer.{Answer as ApplicationAnswer}
use Rattle.host_core.specs.declared.question.Question.{Question}
use Rattle.host_core.specs.declared.terminals.Terminals.{Terminals}
use Rattle.host_core.specs.declared.turn.Turn.{Turn}
use Rattle.host_core.specs.declared.turn.Turn.TheVariants as whose
use Rattle.host_core.specs.declared.turn_reason.TurnReason.{TurnReason}
use Rattle.host_core.specs.declared.turn_reason.TurnReason.TheVariants.{Refusal}
use Rattle.host_core.specs.declared.unheard.Unheard.TheVariants.{Input}
use Rattle.world3270.specs.statement.Asked.{AreFieldsAsked, IsKeyAsked, IsPanelAsked, IsSeen, ShowsItsFields, panel_with_keys}
use Rattle.world3270.specs.statement.Headline.{Agrees, IsHostsTurn, SeesTheScreen}
use Rattle.world3270.specs.model.Link.{Link, cut, host_sent, host_stepped, term_stepped}
use Rattle.world3270.specs.model.Enabled.{is_queued}
use Rattle.world3270.specs.statement.Leading.{IsLedTo}
use Rattle.world3270.specs.statement.Rules.{Binds, Operates}
use Rattle.world3270.specs.statement.Observation.{end_seen, seen_link}
use Rattle.world3270.specs.statement.Shown.{HasShown, IsPanelShown}
use Rattle.world3270.specs.statement.ShownFields.{WantsItsFields}
use Rattle.world3270.specs.model.Terminal.{Display, TermEnd, TermStep, bound_to, is_bound, new_display, once_bound, took as term_took}

-- ---- the connection, and the screen that the host was told

-- `told`: what the terminal displayed after the first key since the last paint that sent data, or what it displays now
-- if there was no such key; before the first paint, the blank screen of the begin. If that key was PA, which sends no
-- fields, `told` becomes the terminal's screen when it takes a Read Buffer, with the AID of `told`. A note is written
-- over `told` too.
-- `waits`: there was such a key since the last paint (a 3278's keyboard would be locked), or no paint was taken yet.
-- `cleared`: Clear was pressed since then, too, so that what the host wrote is gone. A paint that doesn't erase is no
-- paint in this sense then: the host shows its panel again.
-- No step of either end reads `told`, `waits` or `cleared`.
pub record LinkWithReport : Type 0 where
  pub link : Link
  pub told : Display
  pub waits : Bool
  pub cleared : Bool

-- ---- the terminal takes a message

-- It executes the orders of a paint on whatever screen it has, restores the keyboard, and sends a positive response
-- (GA23-0059-07, "Buffer Control Orders and Order Codes").
abbrev pub paint_executed : ℕ → WantedScreen → Shadow → TermEnd → TermStep
paint_executed number wanted over end =
    let screen = after_command (paint (cells_in wanted.size) over wanted) end.display.screen in
    record {
      end = record end {
        display = record end.display {
          size = wanted.size;
          screen = screen;
          keyboard = freed end.display.keyboard;
          last_restored = screen;
          before_restored = end.display.screen;
          erased = false;
        };
      };
      sends = ToHost.Response number Verdict.Positive ∷ [];
      closes = None;
    }

-- It takes each other message as a terminal of a world does. (There a paint leaves the wanted screen by definition;
-- here its orders do, on each screen that meets the host's belief.)
abbrev pub executed : TermEnd → ToTerminal → TermStep
executed end (ToTerminal.Paint number wanted over) =
    once_bound (is_bound end) (paint_executed number wanted over end) end
executed end (ToTerminal.TalksDown saying) = term_took end (ToTerminal.TalksDown saying)
executed end (ToTerminal.ReadBuffer number) = term_took end (ToTerminal.ReadBuffer number)
executed end (ToTerminal.Note number command) = term_took end (ToTerminal.Note number command)

-- the AID of a PA key
abbrev pub is_pa : Aid → Bool
is_pa (Pa key) = true
is_pa _ = false

-- whether a paint leaves the wanted screen: it erases, or Clear wasn't pressed in the wait
abbrev pub is_shown : (cleared : Bool) → WantedScreen → Shadow → Bool
is_shown cleared wanted over = not cleared || is_erase (paint (cells_in wanted.size) over wanted).code

-- what the host was told, after a terminal that is bound has taken a message and displays `now`
abbrev pub told_after : ToTerminal → (cleared : Bool) → (told now : Display) → Display
told_after (ToTerminal.Paint number wanted over) cleared told now = if is_shown cleared wanted over then now else told
told_after (ToTerminal.ReadBuffer number) cleared told now =
    if is_pa told.screen.aid then record now { screen = record now.screen { aid = told.screen.aid } } else told
told_after (ToTerminal.Note number command) cleared told now =
    record told { screen = after_command command told.screen }
told_after (ToTerminal.TalksDown saying) cleared told now = told

-- whether the terminal waits, or Clear was pressed in the wait, after a message: a paint ends the wait
abbrev pub once_shown : ToTerminal → (cleared was : Bool) → Bool
once_shown (ToTerminal.Paint number wanted over) cleared was = if is_shown cleared wanted over then false else was
once_shown (ToTerminal.ReadBuffer number) cleared was = was
once_shown (ToTerminal.Note number command) cleared was = was
once_shown (ToTerminal.TalksDown saying) cleared was = was

-- A message changes `told`, `waits` and `cleared` only if the terminal is bound: else the terminal drops it.
abbrev pub told_if : Bool → ToTerminal → LinkWithReport → Link → LinkWithReport
told_if true message t link = record {
  link = link;
  told = told_after message t.cleared t.told link.term.display;
  waits = once_shown message t.cleared t.waits;
  cleared = once_shown message t.cleared t.cleared;
}
told_if false message t link = record t { link = link }

-- ---- what may happen

-- The next message is delivered to the host, while the pool of LUs is `pool`, or to the terminal; the host acts, is
-- answered by the application, or sends a note; the operator does something; the connection is lost.
pub data Move : Type 0 where
  Up : (pool : List Entry) → Move
  Down : Move
  Act : Move
  Answer : ApplicationAnswer → Move
  Note : List ℕ → Move
  Operate : TermStep → Move
  Lose : Move

-- the host takes the first message under way, if there is one
abbrev pub came_up : List Entry → List ToHost → LinkWithReport → LinkWithReport
came_up pool [] t = t
came_up pool (message ∷ rest) t =
    record t { link = host_stepped (host_took (answer_to pool) t.link.host message) rest t.link }

-- the terminal takes the first message under way, if there is one
abbrev pub came_down : List ToTerminal → LinkWithReport → LinkWithReport
came_down [] t = t
came_down (message ∷ rest) t = told_if (is_bound t.link.term) message t
    (term_stepped (executed t.link.term message) rest t.link)

abbrev pub is_clear : Aid → Bool
is_clear Clear = true
is_clear _ = false

-- whether a step of the operator sends Clear
abbrev pub sends_clear : TermStep → Bool
sends_clear step = is_queued step.sends && is_clear step.end.display.screen.aid

-- The operator's step. While the terminal waits, `told` stays; else it follows the display.
abbrev pub operated : TermStep → LinkWithReport → LinkWithReport
operated step t = record {
  link = term_stepped step t.link.down t.link;
  told = if t.waits then t.told else step.end.display;
  waits = t.waits || is_queued step.sends;
  cleared = t.cleared || (t.waits && sends_clear step);
}

abbrev pub moved : Application → Move → LinkWithReport → LinkWithReport
moved app (Move.Up pool) t = came_up pool t.link.up t
moved app Move.Down t = came_down t.link.down t
moved app Move.Act t = record t { link = host_sent (acted app t.link.host) t.link }
moved app (Move.Answer said) t = record t { link = host_sent (answered_on app t.link.host said) t.link }
moved app (Move.Note text) t = record t { link = host_sent (noted text t.link.host) t.link }
moved app (Move.Operate step) t = operated step t
moved app Move.Lose t = record t { link = cut t.link }

abbrev pub after_moves : Application → List Move → LinkWithReport → LinkWithReport
after_moves app [] t = t
after_moves app (move ∷ moves) t = after_moves app moves (moved app move t)

-- ---- by the rules

-- the AID of the key that was pressed, or NoAid if the operator edited
abbrev pub key_pressed : {end : TermEnd} {step : TermStep} → Operates end step → Aid
key_pressed (Operates.edits keyboard cells cursor erases held on is) = NoAid
key_pressed (Operates.sends keyboard aid some is) = aid

-- Whether the terminal has answered the Read Buffer that the host sends after PA, by where the host is: in its turn, it
-- has the answer, or it awaits it and the Read Buffer isn't under way any more; after that, the paint is under way.
abbrev pub is_answered : Turn → Pending → TurnReason → List ToTerminal → Bool
is_answered whose.Host (Pending.Reading number) reason down = not (is_queued down)
is_answered whose.Host _ reason down = not (is_unread reason)
is_answered whose.Terminal (Pending.Writing number command) reason down = is_queued down
is_answered whose.Terminal _ reason down = false

-- Holds if the first key since the last paint wasn't PA, or the terminal has answered the Read Buffer since.
abbrev pub HasAnswered : LinkWithReport → Type 0
HasAnswered t = is_pa t.told.screen.aid ≡ true
    → is_answered t.link.host.turn t.link.host.pending t.link.host.turn_reason t.link.down ≡ true

-- Holds if a move keeps the rules: the pool is sound, the operator does what `Operates` allows, and a note has a note's
-- text. Clear may be pressed in the wait; but if the first Clear there follows PA, the terminal has answered the Read
-- Buffer before.
abbrev pub IsByTheRules : Move → LinkWithReport → Type 0
IsByTheRules (Move.Up pool) t = IsSound pool
IsByTheRules (Move.Operate step) t = (does : Operates t.link.term step)
    × (t.waits ≡ true → t.cleared ≡ false → key_pressed does ≡ Clear → HasAnswered t)
IsByTheRules (Move.Note text) t = IsNoteText text
IsByTheRules Move.Down t = ⊤
IsByTheRules Move.Act t = ⊤
IsByTheRules (Move.Answer said) t = ⊤
IsByTheRules Move.Lose t = ⊤

abbrev pub AreByTheRules : Application → List Move → LinkWithReport → Type 0
AreByTheRules app [] t = ⊤
AreByTheRules app (move ∷ moves) t = IsByTheRules move t × AreByTheRules app moves (moved app move t)

-- ---- agreement

-- Both ends as they are just after the host has agreed on this LU (RFC 1647, section 7). The host is as at the begin of
-- the connection, but for the state of the negotiation; it may or may not verify its terminals. The terminal is bound
-- to the LU, or will be by the FUNCTIONS IS under way; it has a blank screen, of the size with which each connection
-- begins and of the model of the device type that it requested (with or without -E), after any requests of functions.
-- The application marks its input fields, as `Host` does for such terminals.
pub record FirstPaint (app : Application) (lu : List ℕ) (t : LinkWithReport) : Type 0 where
  pub device : Device
  pub agreed : t.link.host.talk.state ≡ HostAgreed device lu
  pub serves : Terminals
  pub any : unheard_of serves ≡ Input
  pub returns : MarksInput app
  pub host : t.link.host ≡ record (new_conn serves app) { talk = t.link.host.talk }
  pub binds : Binds lu t.link.term.talk.talk.state t.link.down
  pub blank : t.link.term.display
      ≡ record (new_display (model_of device) app.begins) { keyboard = t.link.term.display.keyboard }
  pub nothing_up : t.link.up ≡ []
  pub host_here : t.link.host_here ≡ true
  pub term_here : is_some t.link.term_here ≡ true
  pub told : t.told ≡ t.link.term.display
  pub waits : t.waits ≡ true
  pub cleared : t.cleared ≡ false

-- ---- what holds

-- the connection, with `told` as the terminal's display
abbrev pub told_link : LinkWithReport → Link
told_link t = record t.link { term = record t.link.term { display = t.told } }

-- Holds if the host shows its panel again, since Clear crossed the paint.
pub record IsRepeating (host : Session) : Type 0 where
  pub turn : host.turn ≡ whose.Host
  pub refusal : host.turn_reason ≡ Refusal

-- Holds if this is so on the connection:
-- (a) If the terminal is bound to an LU, it is the LU that the host granted.
-- (b) to (d) Whenever the host may decide, these parts of the headline hold of what it was told. And unless Clear was
-- pressed in the wait, the host's belief, but for the characters and MDT of input fields, is true of the terminal's
-- present screen: it has the attributes and the protected characters that the host believes.
-- An open question has the key, the cursor and the text of each field of its panel of what the host was told; at
-- connect and after Clear neither has a field, and else the screen that the last paint left shows the panel. The
-- application decides on the key there, and after Enter no required field is left blank. If the host itself decides to
-- show a panel, the key that was pressed on what it was told leads there.
-- After a paint is answered, the screen that it left shows the panel, whatever was typed or pressed in the wait before
-- it, Clear too. Only while the host is about to show a panel again, since Clear crossed its paint, it decides on no
-- key, and the panel isn't there; that happens only after Clear in the wait.
-- The host believes all that the terminal sends: no screen is restored. Neither end has closed the connection for a
-- cause: both are attached.
pub record RightOf (app : Application) (lu : List ℕ) (t : LinkWithReport) : Type 0 where
  pub granted : agreed_lu t.link.host.talk.state ≡ Some lu
  pub bound : (mine : List ℕ) → bound_to t.link.term.talk.talk.state ≡ Some mine → mine ≡ lu
  pub agrees : (IsRepeating t.link.host → ⊥) → (turn : IsHostsTurn (seen_link (told_link t)))
      → Agrees turn.host turn.terminal
  pub now : t.cleared ≡ false → IsHostsTurn (seen_link t.link)
      → SeesTheScreen (doubted t.link.host.shadow) t.link.term.display.screen
  pub asked : (number session : ℕ) (question : Question) → question_in app session t.link.host ≡ Some question
      → IsSeen (app.fields question.panel) question (end_seen number (told_link t).term)
  pub fields_asked : ShowsItsFields app → (session : ℕ) (question : Question)
      → question_in app session t.link.host ≡ Some question
      → AreFieldsAsked (app.fields question.panel) question t.told.screen
  pub panel_asked : WantsItsFields app → (number session : ℕ) (question : Question)
      → question_in app session t.link.host ≡ Some question
      → IsPanelAsked app false t.link.host question (end_seen number t.link.term)
  pub key_asked : ShowsItsFields app → WantsItsFields app → (session : ℕ) (question : Question)
      → question_in app session t.link.host ≡ Some question
      → IsKeyAsked app t.link.host question t.told.screen
  pub leads : (IsRepeating t.link.host → ⊥) → ShowsItsFields app → WantsItsFields app → (asked : ℕ) (message : Message)
      (keep : Bool) (given : Values)
      → decision_in app t.link.host ≡ Some (Decision.Do (HostAct.Show asked message keep given))
      → IsLedTo app (model_in t.link.host) (panel_with_keys app t.link.host t.told.screen.aid) t.told.screen
      (app.shown (model_in t.link.host) asked) message keep
  pub shown : (IsRepeating t.link.host → ⊥) → WantsItsFields app → HasShown t.link.host
      → IsPanelShown app false t.link.host t.link.term.display.before_restored t.link.term.display.last_restored
  pub repeats : IsRepeating t.link.host → t.cleared ≡ true
  pub unrestored : t.link.host.restored ≡ 0
  pub host_here : t.link.host_here ≡ true
  pub term_here : is_some t.link.term_here ≡ true

-- ---- the theorem

-- From any such begin, after any list of moves that keep the rules, `RightOf` holds.
abbrev pub EveryTerminal : Type 0
EveryTerminal = (app : Application) (lu : List ℕ) (begin : LinkWithReport) (moves : List Move) → IsApplication app
    → FirstPaint app lu begin → AreByTheRules app moves begin
    → RightOf app lu (after_moves app moves begin)

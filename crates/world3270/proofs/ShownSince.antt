-- What is shown on a connection changes by the host's decisions there alone: first over messages, then over bytes.
use Rattle.std.proofs.Common.{◌≡◌, ◌&&◌, ℕ, Bool, true, false, Option, None, Some, List, [], ◌++◌, refl, ap, sym, subst, ◌∙◌, if◌then◌else◌}
use Rattle.std.specs.Prelude.{unwrap_or}
use Rattle.datastream.specs.Screen.{Screen}
use Rattle.codes3270.specs.Size.{ScreenSize}
use Rattle.keyboard.specs.Keys.{Outcome, at_lock, lock_reset, locked_out, refused}
use Rattle.keyboard.specs.State.{Keyboard}
use Rattle.keyboard.specs.declared.key.Key.{Key}
use Rattle.keyboard.specs.declared.key.Key.TheVariants.{Char, Tab, BackTab, NewLine, Home, CursorUp, CursorDown, CursorLeft, CursorRight, Backspace, Insert, Delete, EraseEof, EraseInput, Reset, Enter, Pf, Pa, Clear}
use Rattle.keyboard.specs.declared.key.Lock.{Lock}
use Rattle.keyboard.specs.declared.key.Lock.TheVariants.{Wait}
use Rattle.keyboard.specs.declared.key.Refusal.TheVariants.{Locked}
use Rattle.telnet_wire.specs.Reading.{Rest}
use Rattle.host_core.specs.Acts.{Sent, done as shown_by}
use Rattle.host_core.specs.Application.{Application, application_of}
use Rattle.host_core.specs.Does.{DoesAnswer, with_conn}
use Rattle.host_core.specs.Notes.{may_note, noted, noted_as}
use Rattle.host_core.specs.Questions.{act_by, answered_by, answered_in, answered_on, has_its_panel, is_asking, is_screen_empty, is_ticket, key_of, panel_asked, panel_for, ticket_of, values_for}
use Rattle.host_core.specs.Session.{Session, is_agreed, model_in}
use Rattle.host_core.specs.State.{Connection, Service, connection_at, state_at, session_at}
use Rattle.host_core.specs.Takes.{took as host_took}
use Rattle.host_core.specs.declared.acted.Acted.{Acted}
use Rattle.host_core.specs.declared.acted.Acted.TheVariants as acted_as
use Rattle.host_core.specs.declared.question.Answer.{Answer as ApplicationAnswer}
use Rattle.host_core.specs.declared.question.Ticket.{Ticket}
use Rattle.world3270.specs.model.ByteSteps.{IsStepIf, Steps, answer_acted, is_enabled as is_enabled_over_bytes}
use Rattle.world3270.specs.model.ByteWorld.{ByteWorld, is_there}
use Rattle.world3270.specs.model.Link.{Link, host_sent}
use Rattle.world3270.specs.refinement.Refines.{WorldSetup, Reached, SameSkips, StepsAreSimulated, after}
use Rattle.world3270.specs.statement.Shown.{PanelIsShownOverBytes}
use Rattle.world3270.specs.statement.ShownSince.{AnswersAreShownOverBytes, IsAnswered, IsSamePanel, StepsKeepPanels, WaitingKeepsTheScreen}
use Rattle.world3270.specs.refinement.Representation.{conn_of}
use Rattle.world3270.specs.model.Terminal.{Display, data_of, outcome_of}
use Rattle.world3270.specs.model.World.{Event}
use Rattle.world3270.specs.declared.event.Event.TheVariants as event
use Rattle.world3270.specs.declared.event.Stepped.TheVariants as stepped
use Rattle.std.specs.Option.{option_or}
use Rattle.world3270.proofs.Acting.{same_asked}
use Rattle.world3270.proofs.HostSteps.{just_talks}
use Rattle.world3270.proofs.Keys.{quiet_done, quiet_refused}
use Rattle.world3270.proofs.Undecided.{Keeps, rests_hold, step_holds}

pub same_panel : (conn : Session) → IsSamePanel conn conn
same_panel conn = record { panel = refl; values = refl; message = refl }

same_on : (one other third : Session) → IsSamePanel one other → IsSamePanel other third → IsSamePanel one third
same_on one other third first second =
    record { panel = second.panel ∙ first.panel; values = second.values ∙ first.values; message = second.message ∙ first.message }

-- ---- one event

-- the host has the same panel for the connection as here
abbrev pub HasPanel : Session → Link → Type 0
HasPanel conn link = IsSamePanel conn link.host

noted_has : (conn : Session) (text : List ℕ) (link : Link) → HasPanel conn link → HasPanel conn (host_sent (noted text link.host) link)
noted_has conn text link has = by_test (may_note link.host.turn link.host.pending (is_agreed link.host.talk.state))
  where
    by_test : (b : Bool) → HasPanel conn (host_sent (if b then Some (noted_as text link.host) else None) link)
    by_test true = record { panel = has.panel; values = has.values; message = has.message }
    by_test false = has

pub keeps_panel : (conn : Session) → Keeps (HasPanel conn)
keeps_panel conn = record {
  up = λ pool link message rest is has.
      let talks = just_talks pool link.host message in
      same_on conn link.host (host_took pool link.host message).conn has (record { panel = talks.panel; values = talks.values; message = talks.message });
  down = λ link message rest is has. has;
  key = λ key link has. has;
  notes = noted_has conn;
  loses = λ link has. has;
  host_leaves = λ link has. has;
  term_leaves = λ link has. has;
}

-- a connection over bytes at which the host is, and the one over messages
pub record Means (begin : WorldSetup) (events : List Event) (number : ℕ) (conn : Session) : Type 0 where
  pub here : ((after begin events).link number).host_here ≡ true
  pub same : conn ≡ ((after begin events).link number).host

pub stands_at : (begin : WorldSetup) (events : List Event) (bytes : ByteWorld) (number : ℕ) (rest : Rest) (conn : Session) → Reached begin events bytes → state_at number bytes.host ≡ Service.Open rest conn
    → Means begin events number conn
stands_at begin events bytes number rest conn reached is =
    let stands = reached.stands.links number in
    let here : ((after begin events).link number).host_here ≡ true = sym stands.host_here ∙ ap is_there is in
    record { here = here; same = sym (ap conn_of is) ∙ (stands.host here).host }

pub steps_keep : StepsAreSimulated → SameSkips → StepsKeepPanels
steps_keep go skips event old answer new is real steps number rest behind conn later none before behind_is =
    let first = stands_at is.begin is.events old number rest conn is.reached before in
    let went = step_holds go skips is.begin is.is_begin (HasPanel conn) (keeps_panel conn) number event old answer new real steps (ap is_there before) none
    (record { events = is.events; reached = is.reached; holds = subst (IsSamePanel conn) first.same (same_panel conn) }) in
    let last = stands_at is.begin went.events new number behind later went.reached behind_is in
    subst (IsSamePanel conn) (sym last.same) went.holds

-- ---- an answer

-- an answer leads to the panel that it names, else to the question's
leads_to : (app : Application) (conn : Session) (said : ApplicationAnswer) (panel : Option ℕ) → panel_for app conn said ≡ panel → unwrap_or panel conn.panel ≡ unwrap_or said.panel (panel_asked app conn conn.turn_reason)
leads_to app conn said panel is =
    ap (λ (p : Option ℕ). unwrap_or p conn.panel) (sym is) ∙ by_panel said.panel (is_screen_empty (key_of conn.turn_reason)) refl
  where
    by_panel : (named : Option ℕ) (b : Bool) → is_screen_empty (key_of conn.turn_reason) ≡ b
        → unwrap_or (option_or named (if b then Some (panel_asked app conn conn.turn_reason) else None)) conn.panel ≡ unwrap_or named (panel_asked app conn conn.turn_reason)
    by_panel (Some panel) b is = refl
    by_panel None true is = refl
    by_panel None false is = sym (same_asked app conn conn.turn_reason is)

pub done_answer : (app : Application) (conn : Session) (said : ApplicationAnswer) (panel : Option ℕ) → panel_for app conn said ≡ panel → IsAnswered app conn said (shown_by app conn (act_by app conn said panel)).conn
done_answer app conn said None is =
    record { panel = ap (app.shown (model_in conn)) (leads_to app conn said None is); values = ap (values_for app conn said) (sym is); message = refl }
done_answer app conn said (Some panel) is =
    record { panel = ap (app.shown (model_in conn)) (leads_to app conn said (Some panel) is); values = ap (values_for app conn said) (sym is); message = refl }

answered_sent : (app : Application) (session : ℕ) (ticket : Ticket) (said : ApplicationAnswer) (conn : Session) (sent : Sent) → answered_in app session ticket said conn ≡ Some sent → IsAnswered app conn said sent.conn
answered_sent app session ticket said conn sent is = by_ticket (is_ticket ticket (ticket_of session conn)) is
  where
    by_asked : (b : Bool) → (if b then Some (shown_by app conn (act_by app conn said (panel_for app conn said))) else None) ≡ Some sent → IsAnswered app conn said sent.conn
    by_asked true is = subst (λ (s : Sent). IsAnswered app conn said s.conn) (let same : shown_by app conn (act_by app conn said (panel_for app conn said)) ≡ sent = cc in same) (done_answer app conn said (panel_for app conn said) refl)
    by_asked false is = absurd (cc)

    by_ticket : (b : Bool) → (if b then answered_on app conn said else None) ≡ Some sent → IsAnswered app conn said sent.conn
    by_ticket true is = by_asked (is_asking app conn && has_its_panel app said) is
    by_ticket false is = absurd (cc)

-- what the connection is once the answer was taken
taken_answer : (app : Application) (session number : ℕ) (ticket : Ticket) (said : ApplicationAnswer) (rest : Rest) (conn : Session) (old new : Connection) (act : Acted) → old.service ≡ Service.Open rest conn → answer_acted act ≡ stepped.Done
    → DoesAnswer app said (answered_by app session ticket said old.service) old act new → (later : Session) × (new.service ≡ Service.Open rest later) × IsAnswered app conn said later
taken_answer app session number ticket said rest conn old new act is went does = by_sent (answered_in app session ticket said conn) refl act went (subst (λ (s : Service). DoesAnswer app said (answered_by app session ticket said s) old act new) is does)
  where
    by_sent : (sending : Option Sent) → answered_in app session ticket said conn ≡ sending → (act : Acted) → answer_acted act ≡ stepped.Done → DoesAnswer app said sending old act new
        → (later : Session) × (new.service ≡ Service.Open rest later) × IsAnswered app conn said later
    by_sent None e acted_as.Sent went does = absurd (let wrong = does.0 in cc)
    by_sent None e acted_as.Nothing went does = absurd (cc)
    by_sent None e acted_as.Memory went does = absurd (cc)
    by_sent (Some sent) e acted_as.Sent went does =
        (sent.conn, ap (λ (c : Connection). c.service) does ∙ ap (with_conn sent.conn) is, answered_sent app session ticket said conn sent e)
    by_sent (Some sent) e acted_as.Nothing went does = absurd (cc)
    by_sent (Some sent) e acted_as.Memory went does = absurd (cc)

answer_taken : (number : ℕ) (ticket : Ticket) (said : ApplicationAnswer) (old new : ByteWorld) (rest : Rest) (conn : Session) → Steps (event.Answer number ticket said) old stepped.Done new → state_at number old.host ≡ Service.Open rest conn
    → (later : Session) × (state_at number new.host ≡ Service.Open rest later) × IsAnswered (application_of old.host.panels) conn said later
answer_taken number ticket said old new rest conn steps is = by_place (is_enabled_over_bytes (event.Answer number ticket said) old) steps
  where
    by_place : (b : Bool) → IsStepIf b (event.Answer number ticket said) old stepped.Done new
        → (later : Session) × (state_at number new.host ≡ Service.Open rest later) × IsAnswered (application_of old.host.panels) conn said later
    by_place false skipped = absurd (let wrong = skipped.0 in cc)
    by_place true on =
        let went = taken_answer (application_of old.host.panels) (session_at number old.host) number ticket said rest conn (connection_at number old.host) (connection_at number on.host) on.act is (sym on.answers) on.acts in
        (went.0, ap (λ (w : ByteWorld). state_at number w.host) on.leaves ∙ went.1, went.2)

pub answers_are_shown : StepsAreSimulated → SameSkips → PanelIsShownOverBytes → AnswersAreShownOverBytes
answers_are_shown go skips shown world number ticket said events asked taken rest behind conn host terminal is real are steps rests before behind_is terminal_is has =
    let begin : WorldSetup = is.begin in
    let goes = go begin is.events (event.Answer number ticket said) asked stepped.Done taken is.is_begin is.reached real steps in
    let went = answer_taken number ticket said asked taken rest conn steps before in
    let first = stands_at begin (is.events ++ goes.more) taken number rest went.0 goes.reached went.1 in
    let now = rests_hold go skips begin is.is_begin (HasPanel went.0) (keeps_panel went.0) number events taken world are rests
    (record { events = is.events ++ goes.more; reached = goes.reached; holds = subst (IsSamePanel went.0) first.same (same_panel went.0) }) in
    let last = stands_at begin now.events world number behind host now.reached behind_is in
    let same : IsSamePanel went.0 host = subst (IsSamePanel went.0) (sym last.same) now.holds in
    let answered : IsAnswered (application_of asked.host.panels) conn said host = record {
      panel = same.panel ∙ went.2.panel;
      values = same.values ∙ went.2.values;
      message = same.message ∙ went.2.message;
    } in (
      subst (λ p. IsAnswered (application_of p) conn said host) (is.reached.panels ∙ sym now.reached.panels) answered,
      shown world (record { begin = begin; is_begin = is.is_begin; events = now.events; reached = now.reached }) number behind host terminal behind_is terminal_is has,
    )

-- ---- a keyboard that waits

-- nothing changed, nothing is sent, and the keyboard still waits
pub record StillWaits (screen : Screen) (outcome : Outcome) : Type 0 where
  pub same : outcome.screen ≡ screen
  pub lock : outcome.keyboard.lock ≡ Wait
  pub silent : (bound : Bool) (shape : ScreenSize) (now : Screen) → data_of bound outcome.answer shape now ≡ []

refuses : (keyboard : Keyboard) (screen : Screen) → keyboard.lock ≡ Wait → StillWaits screen (refused Locked keyboard screen)
refuses keyboard screen is = record { same = refl; lock = is; silent = λ bound shape now. quiet_refused bound Locked shape now }

locked : (key : Key) (keyboard : Keyboard) (screen : Screen) → keyboard.lock ≡ Wait → StillWaits screen (locked_out key keyboard screen)
locked (Char letter) keyboard screen is = refuses keyboard screen is
locked Tab keyboard screen is = refuses keyboard screen is
locked BackTab keyboard screen is = refuses keyboard screen is
locked NewLine keyboard screen is = refuses keyboard screen is
locked Home keyboard screen is = refuses keyboard screen is
locked CursorUp keyboard screen is = refuses keyboard screen is
locked CursorDown keyboard screen is = refuses keyboard screen is
locked CursorLeft keyboard screen is = refuses keyboard screen is
locked CursorRight keyboard screen is = refuses keyboard screen is
locked Backspace keyboard screen is = refuses keyboard screen is
locked Insert keyboard screen is = refuses keyboard screen is
locked Delete keyboard screen is = refuses keyboard screen is
locked EraseEof keyboard screen is = refuses keyboard screen is
locked EraseInput keyboard screen is = refuses keyboard screen is
locked Reset keyboard screen is = record { same = refl; lock = ap lock_reset is; silent = quiet_done }
locked Enter keyboard screen is = refuses keyboard screen is
locked (Pf key) keyboard screen is = refuses keyboard screen is
locked (Pa key) keyboard screen is = refuses keyboard screen is
locked Clear keyboard screen is = refuses keyboard screen is

pub still_waits : (key : Key) (display : Display) → display.keyboard.lock ≡ Wait → StillWaits display.screen (outcome_of key display)
still_waits key display is =
    subst (λ (l : Lock). StillWaits display.screen (at_lock l display.size.columns key display.keyboard display.screen)) (sym is) (locked key display.keyboard display.screen is)

pub waiting_keeps : WaitingKeepsTheScreen
waiting_keeps key display is = ((still_waits key display is).same, (still_waits key display is).lock)

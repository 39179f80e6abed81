-- What is asked over bytes is what is asked over the messages that they represent.
use Rattle.std.proofs.Common.{◌≡◌, ℕ, Bool, true, false, Option, None, Some, refl, ap, sym, subst, ◌∙◌, if◌then◌else◌}
use Rattle.std.specs.Prelude.{slice_get, unwrap_or}
use Rattle.codes3270.specs.Size.{ScreenSize}
use Rattle.panels.specs.KeptFields.{FieldsAreOnTheScreen}
use Rattle.panels.specs.Panel.{PanelParts, Panels, AreSound, HasItemsApart, HaveNumbersApart, IsLaidOut}
use Rattle.panels.specs.declared.panel.Field.{Field as PanelField}
use Rattle.telnet_wire.specs.Reading.{Rest}
use Rattle.host_core.specs.Application.{Application, IsApplication, application_of, message_place, no_panel, panel_at}
use Rattle.host_core.specs.Laws.{PanelsAreShown}
use Rattle.host_core.specs.Questions.{question_in, question_of}
use Rattle.host_core.specs.Session.{Session}
use Rattle.host_core.specs.State.{Service, state_at, session_at}
use Rattle.host_core.specs.declared.question.Question.{Question}
use Rattle.world3270.specs.statement.Always.{Always, AlwaysOf}
use Rattle.world3270.specs.statement.Asked.{AskedIsSeen, AskedIsSeenOverBytes, FieldsAreSeen, AreFieldsAsked, IsKeyAsked, IsPanelSeen, IsScreenAsLeft, IsSeen, ScreensAreAsLeft, ShowsItsFields, asked_at, asked_by, row_at}
use Rattle.world3270.specs.model.ByteWorld.{ByteWorld, is_there}
use Rattle.world3270.specs.model.Link.{Link}
use Rattle.world3270.specs.refinement.Refines.{IsReached, WorldSetup, after}
use Rattle.world3270.specs.statement.Observation.{SeenLink, TerminalSeen, seen_link}
use Rattle.world3270.specs.statement.ByteObservation.{seen_connection}
use Rattle.world3270.specs.statement.Shown.{PanelIsShownOverBytes}
use Rattle.world3270.specs.refinement.Representation.{conn_of, link_of}
use Rattle.world3270.specs.refinement.Represents.{LinkRepresents}
use Rattle.world3270.specs.model.World.{World}
use Rattle.world3270.proofs.AskedPanels.{about_its_panel}
use Rattle.world3270.proofs.SeenRepresents.{same_seen, size_seen}

-- an open number has a question where its connection has one; no other number has any
same_question : (app : Application) (session : ℕ) (service : Service) (here : Bool) (conn : Session) (question : Question) → is_there service ≡ here → (here ≡ true → conn_of service ≡ conn)
    → question_of app session service ≡ Some question → (if here then question_in app session conn else None) ≡ Some question
same_question app session Service.Free here conn question there same asked = absurd (cc)
same_question app session (Service.Closed cause) here conn question there same asked = absurd (cc)
same_question app session (Service.Open rest held) true conn question there same asked = ap (λ (c : Session). question_in app session c) (sym (same refl)) ∙ asked
same_question app session (Service.Open rest held) false conn question there same asked = absurd (cc)

-- it has one of an open connection
open_for : (app : Application) (session : ℕ) (service : Service) (question : Question) → question_of app session service ≡ Some question
    → (rest : Rest) × (host : Session) × (service ≡ Service.Open rest host) × (question_in app session host ≡ Some question)
open_for app session Service.Free question asked = absurd (cc)
open_for app session (Service.Closed cause) question asked = absurd (cc)
open_for app session (Service.Open rest host) question asked = (rest, host, refl, asked)

-- a panel that has fields is one of the set's
pub panel_there : (panel : Option PanelParts) (index : ℕ) (field : PanelField) → slice_get (unwrap_or panel no_panel).fields index ≡ Some field → (there : PanelParts) × (panel ≡ Some there)
panel_there None index field at = absurd (cc)
panel_there (Some there) index field at = (there, refl)

-- each screen that panels ask for has its panel's fields
pub shows_its_fields : FieldsAreOnTheScreen → (set : Panels) → AreSound set → ShowsItsFields (application_of set)
shows_its_fields on_screen set sound = record {
  on_screen = λ panel values message keep index field at.
      let there = panel_there (slice_get set.panels panel) index field at in
      let same : there.0 ≡ panel_at set panel = sym (ap (λ (p : Option PanelParts). unwrap_or p no_panel) there.1) in
      on_screen (panel_at set panel) values message keep index field (subst HasItemsApart same (sound.apart panel there.0 there.1)) (subst IsLaidOut same (sound.laid_out panel there.0 there.1)) at;
  numbers = λ panel i j one other below at_i at_j.
      let there = panel_there (slice_get set.panels panel) i one at_i in
      let same : there.0 ≡ panel_at set panel = sym (ap (λ (p : Option PanelParts). unwrap_or p no_panel) there.1) in
      (subst (λ (p : PanelParts). HaveNumbersApart p.fields) same (sound.numbers panel there.0 there.1)) i j one other below at_i at_j;
}

-- a question is about a key on which the application decides, in each such world
abbrev pub KeyIsAsked : Type 0
KeyIsAsked = (bytes : ByteWorld) → IsReached bytes → (number : ℕ) (rest : Rest) (host : Session) (question : Question) (terminal : TerminalSeen)
    → state_at number bytes.host ≡ Service.Open rest host → asked_at number bytes ≡ Some question → (seen_connection number bytes).terminal ≡ Some terminal
    → IsKeyAsked (application_of bytes.host.panels) host question terminal.screen

pub asked_over_bytes : PanelsAreShown → FieldsAreOnTheScreen → PanelIsShownOverBytes → KeyIsAsked → AlwaysOf AskedIsSeen → AlwaysOf FieldsAreSeen → Always ScreensAreAsLeft → AskedIsSeenOverBytes
asked_over_bytes shown on_screen panel key asked each as_left bytes is = record { questions = questions; screens = screens }
  where
    begin : WorldSetup
    begin = is.begin

    app : Application
    app = application_of begin.panels

    is_app : IsApplication app
    is_app = shown begin.panels is.is_begin.panels.otherwise is.is_begin.panels.laid_out is.is_begin.panels.apart

    world : World
    world = after begin is.events

    -- a terminal that is seen is that of the world over messages
    seen_there : (number : ℕ) (terminal : TerminalSeen) → (seen_connection number bytes).terminal ≡ Some terminal → (seen_link (world.link number)).terminal ≡ Some terminal
    seen_there number terminal terminal_is = sym (ap (λ (l : SeenLink). l.terminal) (same_seen bytes world is.reached.stands number)) ∙ terminal_is

    screens : (number : ℕ) (terminal : TerminalSeen) → (seen_connection number bytes).terminal ≡ Some terminal → IsScreenAsLeft (row_at terminal.number bytes) terminal
    screens number terminal terminal_is =
        subst (λ (s : ScreenSize). IsScreenAsLeft (message_place s) terminal) (sym (size_seen bytes world is.reached.stands number terminal terminal_is))
        (as_left app begin.serves begin.pool begin.models is.events is_app is.is_begin.pool is.is_begin.few is.reached.are_events number terminal (seen_there number terminal terminal_is))

    questions : (number : ℕ) (question : Question) (terminal : TerminalSeen) → asked_at number bytes ≡ Some question → (seen_connection number bytes).terminal ≡ Some terminal
        → IsPanelSeen (application_of bytes.host.panels) (state_at number bytes.host) (row_at terminal.number bytes) question terminal
    questions number question terminal asked_now terminal_is =
        let link : Link = world.link number in
        let stands : LinkRepresents (link_of number bytes) link = is.reached.stands.links number in
        let session = session_at number bytes.host in
        let question_is : question_of app session (state_at number bytes.host) ≡ Some question =
        ap (λ (p : Panels). question_of (application_of p) session (state_at number bytes.host)) (sym is.reached.panels) ∙ asked_now in
        let over_messages : asked_by app session link ≡ Some question =
        same_question app session (state_at number bytes.host) link.host_here link.host question stands.host_here (λ here. (stands.host here).host) question_is in
        let seen : IsSeen (app.fields question.panel) question terminal =
        asked app begin.serves begin.pool begin.models is.events is_app is.is_begin.pool is.is_begin.few is.reached.are_events number session question terminal over_messages
        (seen_there number terminal terminal_is) in
        let there = open_for (application_of bytes.host.panels) session (state_at number bytes.host) question asked_now in
        record {
          rest = there.0;
          host = there.1;
          is_open = there.2;
          panel = λ on_now.
              let its = about_its_panel (application_of bytes.host.panels) session there.1 question there.3 on_now in
              record { same = its.0; shown = panel bytes is number there.0 there.1 terminal there.2 terminal_is its.1 };
          key = key bytes is number there.0 there.1 question terminal there.2 asked_now terminal_is;
          seen = subst (λ (p : Panels). IsSeen ((application_of p).fields question.panel) question terminal) (sym is.reached.panels) seen;
          fields = subst (λ (p : Panels). AreFieldsAsked ((application_of p).fields question.panel) question terminal.screen) (sym is.reached.panels)
              (each app begin.serves begin.pool begin.models is.events is_app is.is_begin.pool is.is_begin.few is.reached.are_events
              (shows_its_fields on_screen begin.panels is.is_begin.panels) number session question terminal over_messages (seen_there number terminal terminal_is));
          protected = screens number terminal terminal_is;
        }

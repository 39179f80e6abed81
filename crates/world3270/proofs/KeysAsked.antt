-- The key of an open question is one about which its panel asks the application, over messages and over bytes.
use Rattle.std.proofs.Common.{◌≡◌, ℕ, true, Some, ap, sym, subst, ◌∙◌}
use Rattle.panels.specs.KeptFields.{FieldsAreOnTheScreen}
use Rattle.panels.specs.Panel.{Panels}
use Rattle.host_core.specs.Application.{Application, application_of}
use Rattle.host_core.specs.Laws.{PanelsAreShown}
use Rattle.host_core.specs.Questions.{question_in, question_of}
use Rattle.host_core.specs.Session.{Session}
use Rattle.host_core.specs.State.{session_at}
use Rattle.world3270.specs.model.ByteWorld.{is_there}
use Rattle.world3270.specs.model.Link.{Link}
use Rattle.world3270.specs.model.Steps.{run}
use Rattle.world3270.specs.model.World.{World, new_world}
use Rattle.world3270.specs.refinement.LowerLaws.{LowerLaws}
use Rattle.world3270.specs.refinement.Refines.{WorldSetup, after}
use Rattle.world3270.specs.refinement.Representation.{conn_of, link_of}
use Rattle.world3270.specs.refinement.Represents.{LinkRepresents}
use Rattle.world3270.specs.statement.Always.{AlwaysOf}
use Rattle.world3270.specs.statement.Asked.{IsKeyAsked, KeysAreAsked}
use Rattle.world3270.specs.statement.Observation.{SeenLink, TerminalSeen}
use Rattle.world3270.proofs.Asked.{asked_there}
use Rattle.world3270.proofs.AskedOverBytes.{KeyIsAsked, shows_its_fields}
use Rattle.world3270.proofs.Headline.{terminal_attached}
use Rattle.world3270.proofs.Leading.{key_asked_now}
use Rattle.world3270.proofs.SeenRepresents.{same_seen}
use Rattle.world3270.proofs.ShownPanels.{shown_again}
use Rattle.world3270.proofs.Worlds.{new_good, run_good}

pub keys_are_asked : LowerLaws → AlwaysOf KeysAreAsked
keys_are_asked given app serves pool models events is lists few are =
    let world : World = run app events (new_world app serves pool models) in
    let g = run_good given app is events (new_world app serves pool models) are (new_good given app is serves pool models lists) in
    λ shows wants number session question terminal asked terminal_is.
    let link : Link = world.link number in
    let there = terminal_attached link.term_here link.term terminal terminal_is in
    let here = asked_there link.host_here (question_in app session link.host) question asked in
    subst (λ (t : TerminalSeen). IsKeyAsked app link.host question t.screen) (sym there.2)
    (key_asked_now given app is shows wants.again link (g.links number) session question here.1)

pub keys_asked_over_bytes : LowerLaws → PanelsAreShown → FieldsAreOnTheScreen → KeyIsAsked
keys_asked_over_bytes given shown on_screen bytes is number rest host question terminal is_open asked terminal_is =
    let begin : WorldSetup = is.begin in
    let app : Application = application_of begin.panels in
    let is_app = shown begin.panels is.is_begin.panels.otherwise is.is_begin.panels.laid_out is.is_begin.panels.apart in
    let world : World = after begin is.events in
    let good = run_good given app is_app is.events (new_world app begin.serves begin.pool begin.models) is.reached.are_events (new_good given app is_app begin.serves begin.pool begin.models is.is_begin.pool) in
    let link : Link = world.link number in
    let stands : LinkRepresents (link_of number bytes) link = is.reached.stands.links number in
    let here : link.host_here ≡ true = sym stands.host_here ∙ ap is_there is_open in
    let same : host ≡ link.host = sym (ap conn_of is_open) ∙ (stands.host here).host in
    let session : ℕ = session_at number bytes.host in
    let there = terminal_attached link.term_here link.term terminal (sym (ap (λ (l : SeenLink). l.terminal) (same_seen bytes world is.reached.stands number)) ∙ terminal_is) in
    let over_bytes : question_in (application_of bytes.host.panels) session host ≡ Some question = ap (question_of (application_of bytes.host.panels) session) (sym is_open) ∙ asked in
    let over_messages : question_in app session link.host ≡ Some question =
    ap (question_in app session) (sym same) ∙ ap (λ (p : Panels). question_in (application_of p) session host) (sym is.reached.panels) ∙ over_bytes in
    subst (λ (p : Panels). IsKeyAsked (application_of p) host question terminal.screen) (sym is.reached.panels)
    (subst (λ (h : Session). IsKeyAsked app h question terminal.screen) (sym same)
    (subst (λ (t : TerminalSeen). IsKeyAsked app link.host question t.screen) (sym there.2)
    (key_asked_now given app is_app (shows_its_fields on_screen begin.panels is.is_begin.panels) (shown_again begin.panels is.is_begin.panels.otherwise) link (good.links number) session question over_messages)))

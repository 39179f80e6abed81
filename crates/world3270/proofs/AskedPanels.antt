-- A question is about the panel that the screen shows: where one is open, the panel's paint was answered.
use Rattle.std.proofs.Common.{◌≡◌, ℕ, false, Some, ap, sym, ◌∙◌}
use Rattle.std.specs.Prelude.{slice_get}
use Rattle.host_core.specs.Application.{Application}
use Rattle.host_core.specs.Questions.{is_asking, is_screen_empty, question_in, question_on}
use Rattle.host_core.specs.Session.{Session, agreed_lu, is_agreed}
use Rattle.host_core.specs.declared.question.Question.{Question}
use Rattle.world3270.specs.model.Link.{Link}
use Rattle.world3270.specs.model.Steps.{run}
use Rattle.world3270.specs.model.World.{World, new_world}
use Rattle.world3270.specs.statement.Always.{AlwaysOf}
use Rattle.world3270.specs.statement.Asked.{OtherPanelsAreNotAsked, PanelsAreAsked}
use Rattle.world3270.specs.statement.Shown.{FieldsAreShown, HasShown, is_painting}
use Rattle.world3270.proofs.Acting.{asking_parts, may_act_when, same_asked}
use Rattle.world3270.proofs.Asked.{asked_there, later_for, question_is}
use Rattle.world3270.proofs.ShownFields.{char_shown}

-- where a question is open and a panel is on the screen, the question names the connection's panel, whose paint was answered
pub about_its_panel : (app : Application) (session : ℕ) (conn : Session) (question : Question) → question_in app session conn ≡ Some question → is_screen_empty question.aid ≡ false
    → (question.panel ≡ conn.panel) × HasShown conn
about_its_panel app session conn question asked on_now =
    let there = question_is (is_asking app conn) (agreed_lu conn.talk.state) (question_on app session conn) question asked in
    let shown_now = ap (λ (q : Question). is_screen_empty q.aid) (sym there.3) ∙ on_now in
    let may = may_act_when conn.turn conn.pending (is_agreed conn.talk.state) (asking_parts app conn there.0).0 in (
      ap (λ (q : Question). q.panel) there.3 ∙ same_asked app conn conn.turn_reason shown_now,
      record { answered = ap is_painting may.1; not_first = λ turn first. later_for conn.turn_reason shown_now first },
    )

pub panels_are_asked : AlwaysOf FieldsAreShown → AlwaysOf PanelsAreAsked
panels_are_asked always app serves pool models events is lists few are =
    let world : World = run app events (new_world app serves pool models) in
    λ wants number session question terminal asked terminal_is on_now.
    let link : Link = world.link number in
    let here = asked_there link.host_here (question_in app session link.host) question asked in
    let its = about_its_panel app session link.host question here.1 on_now in
    record { same = its.0; shown = always app serves pool models events is lists few are wants number terminal here.0 terminal_is its.1 }

pub other_panels_are_not : OtherPanelsAreNotAsked
other_panels_are_not app waits host question terminal cell char has differs on_now asked =
    let its = asked on_now in
    differs (char_shown app waits host terminal.before_restored terminal.last_restored its.shown.shown cell char
    (λ keep. ap (λ (p : ℕ). slice_get (app.screen p host.values host.message keep).cells cell) (sym its.same) ∙ has host.values host.message keep))

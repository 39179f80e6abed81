use Rattle.std.proofs.Common.{◌≡◌, ◌∙◌, sym, ap, Some, string_bytes}
use Rattle.host_core.specs.State.{Host}
use Rattle.panels.specs.Panel.{Panels}
use Rattle.applications.specs.AnswerLines.{answer_in}
use Rattle.applications.specs.QuestionLines.{ticket_on}
use Rattle.scripts.proofs.Playing.{answer_happens}
use Rattle.scripts.proofs.player.give_answer.Goals as goal

pub returns : goal.returns
returns c =
    let panels : c.panels.result.now ≡ c.args.world.now.host.panels = c.panels.ensures ∙ ap (λ (host : Host). host.panels) c.host.ensures in
    let some : answer_in c.args.world.now.host.panels c.args.said.now ≡ Some c.in-Some.answer =
    ap (λ (its : Panels). answer_in its c.args.said.now) (sym panels) ∙ sym c.in_ok-answer.ensures ∙ c.in-Some.is in
    answer_happens c.args.conn c.args.said.now c.in_ok-ticket.ticket c.in-Some.answer c.args.world.now c.happen.new.world c.in_ok-happen.field-0
    (string_bytes c.args.text.now) (string_bytes c.happen.new.text) some (c.in_ok-ticket.ensures ∙ ap (ticket_on c.args.conn) c.host-2.ensures)
    c.in_ok-happen.ensures.steps c.in_ok-happen.ensures.whole c.in_ok-happen.ensures.said

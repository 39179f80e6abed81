use Rattle.std.proofs.Common.{◌∙◌, sym, ap, Bool, Some}
use Rattle.host_core.specs.declared.question.Answer.{Answer}
use Rattle.applications.specs.AnswerDrafts.{parts_in}
use Rattle.applications.specs.AnswerLines.{AnswerParts, taken_as, with_words, words_after}
use Rattle.applications.proofs.AnswerWords.{has_no_panel, is_no_answer, is_answer}
use Rattle.applications.proofs.answer_line.answer_in.Goals as goal

pub returns-in_default : goal.returns-in_default
returns-in_default c =
    has_no_panel c.args.panels.now c.args.text.now c.first_word.result.0.now c.first_word.result.1.now c.first_word.ensures.word c.first_word.ensures.rest
    (sym c.panel_of_name.ensures ∙ c.in_default.is)

pub returns-then-not-branch : goal.returns-then-not-branch
returns-then-not-branch c =
    is_no_answer c.args.panels.now c.args.text.now c.first_word.result.0.now c.first_word.result.1.now c.first_word.ensures.word c.first_word.ensures.rest
    c.in-Some.panel (sym c.panel_of_name.ensures ∙ c.in-Some.is)
    (ap (λ (parts : AnswerParts). with_words c.args.panels.now (words_after c.first_word.result.1.now) parts) (sym c.new-draft.ensures)
    ∙ c.in_ok-take_all.ensures ∙ ap (λ (taken : Bool). taken_as taken (parts_in c.take_all.new.self)) c.if-not-branch.true)

pub returns : goal.returns
returns c =
    let all = is_answer c.args.panels.now c.args.text.now c.first_word.result.0.now c.first_word.result.1.now c.first_word.ensures.word c.first_word.ensures.rest
    c.in-Some.panel (sym c.panel_of_name.ensures ∙ c.in-Some.is) (parts_in c.take_all.new.self)
    (ap (λ (parts : AnswerParts). with_words c.args.panels.now (words_after c.first_word.result.1.now) parts) (sym c.new-draft.ensures)
    ∙ c.in_ok-take_all.ensures ∙ ap (λ (taken : Bool). taken_as taken (parts_in c.take_all.new.self)) c.if-not-branch.false) in
    ap (λ (answer : Answer). Some answer) c.into_answer.ensures ∙ all

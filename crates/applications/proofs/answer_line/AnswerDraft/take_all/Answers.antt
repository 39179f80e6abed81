use Rattle.std.proofs.Common.{rules, ◌∙◌, sym, ap, arith, ℕ, Bool, List, None, Some}
use Rattle.std.proofs.lemmas.Str.Pattern.{strip_prefix_char}
use Rattle.applications.specs.AnswerDrafts.{parts_in}
use Rattle.applications.specs.AnswerLines.{taken_as, with_words, words_after}
use Rattle.applications.proofs.AnswerWords.{no_words, word_fails, word_more}
use Rattle.applications.proofs.answer_line.AnswerDraft.take_all.Goals as goal

pub returns-then-not-branch : goal.returns-then-not-branch
returns-then-not-branch c =
    let is = strip_prefix_char 32 c.loop-words.rest.now (Some c.in-Some.words) c.in-Some.ensures.cases (omega arith) in
    word_fails c.args.panels.now c.loop-words.rest.now c.in-Some.words.now is c.first_word.result.0.now c.first_word.result.1.now c.first_word.ensures.word
    c.first_word.ensures.rest (parts_in c.loop-words.self) (with_words c.args.panels.now (words_after c.args.text.now) (parts_in c.args.self.now))
    c.loop-words.invariant.1 (c.in_ok-take.ensures ∙ ap (λ (b : Bool). taken_as b (parts_in c.take.new.self)) c.if-not-branch.true)

pub loop-words-preserved : goal.loop-words-preserved
loop-words-preserved c =
    let is = strip_prefix_char 32 c.loop-words.rest.now (Some c.in-Some.words) c.in-Some.ensures.cases (omega arith) in (
      search rules,
      word_more c.args.panels.now c.loop-words.rest.now c.in-Some.words.now is c.first_word.result.0.now c.first_word.result.1.now c.first_word.ensures.word
          c.first_word.ensures.rest (parts_in c.loop-words.self) (with_words c.args.panels.now (words_after c.args.text.now) (parts_in c.args.self.now))
          c.loop-words.invariant.1 (parts_in c.take.new.self)
          (c.in_ok-take.ensures ∙ ap (λ (b : Bool). taken_as b (parts_in c.take.new.self)) c.if-not-branch.false),
    )

pub returns : goal.returns
returns c =
    let none = no_words c.loop-words.rest.now (strip_prefix_char 32 c.loop-words.rest.now None c.in_default.ensures.cases (omega arith)) in
    sym c.loop-words.invariant.1
    ∙ ap (λ (words : List (List ℕ)). with_words c.args.panels.now words (parts_in c.loop-words.self)) none

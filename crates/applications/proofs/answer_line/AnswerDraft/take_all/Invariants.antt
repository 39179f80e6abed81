use Rattle.std.proofs.Common.{◌≡◌, length}
use denote.Shadow.{shadow}
use denote.Text.{Utf8}
use Rattle.applications.specs.AnswerDrafts.{parts_in}
use Rattle.applications.specs.AnswerLines.{with_words, words_after}
use Rattle.applications.proofs.answer_line.AnswerDraft.take_all.Given as goal

abbrev pub invariant-loop-words : goal.invariant-loop-words
invariant-loop-words l =
    shadow (Utf8 l.rest) × (with_words l.panels (words_after l.rest) (parts_in l.self) ≡ with_words l.panels (words_after l.text) (parts_in l.fn.self))

abbrev pub decreases-loop-words : goal.decreases-loop-words
decreases-loop-words l = length l.rest

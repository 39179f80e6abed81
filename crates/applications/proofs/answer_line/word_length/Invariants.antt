use Rattle.std.proofs.Common.{◌≡◌, ◌+◌, false, drop}
use Rattle.applications.specs.AnswerLines.{word_length}
use Rattle.applications.proofs.answer_line.word_length.Given as goal

abbrev pub invariant-loop-place : goal.invariant-loop-place
invariant-loop-place l = word_length false l.text ≡ l.place + word_length l.quoted (drop l.place l.text)

-- The parts that the pairs of a script's answer give, as the code stores them (our profile).
use Rattle.applications.specs.AnswerLines.{AnswerParts}
use Rattle.applications.specs.declared.answer_line.AnswerDraft.{AnswerDraft}

-- the parts that a draft has
abbrev pub parts_in : AnswerDraft → AnswerParts
parts_in draft = record { values = draft.values; message = draft.message; cursor = draft.cursor }

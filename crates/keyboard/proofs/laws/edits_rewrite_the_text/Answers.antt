use Rattle.keyboard.proofs.Replaced.{text_rewritten, first_null_out, no_null_out}
use Rattle.keyboard.proofs.Marked.{marked_alone, unmarked_alone}
use Rattle.keyboard.proofs.laws.edits_rewrite_the_text.Goals as goal

pub returns-clause-rewritten : goal.returns-clause-rewritten
returns-clause-rewritten c = text_rewritten

pub returns-clause-inserted : goal.returns-clause-inserted
returns-clause-inserted c = first_null_out

pub returns-clause-full : goal.returns-clause-full
returns-clause-full c = no_null_out

pub returns-clause-marked : goal.returns-clause-marked
returns-clause-marked c = marked_alone

pub returns-clause-unformatted : goal.returns-clause-unformatted
returns-clause-unformatted c = unmarked_alone

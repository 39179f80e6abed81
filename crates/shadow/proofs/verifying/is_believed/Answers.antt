use Rattle.std.proofs.Common.{◌+◌, ◌++◌, ◌∙◌, ap, sym, drop, not}
use Rattle.shadow.specs.InPlace.{chars_known, known_text}
use Rattle.shadow.specs.Since.{beliefs_of_cells}
use Rattle.shadow.proofs.RuleWalk.{believed_cells}
use Rattle.shadow.proofs.verifying.is_believed.Goals as goal

pub returns-in-Cells : goal.returns-in-Cells
returns-in-Cells c =
    rw (c.in-Cells.is)
    (ap not c.is_other_text.ensures
    ∙ sym (believed_cells (chars_known (drop (c.args.place + 1) c.args.beliefs.now ++ c.args.beliefs.now)) (known_text (chars_known (beliefs_of_cells c.args.rest.now ++ beliefs_of_cells c.args.whole.now)))))

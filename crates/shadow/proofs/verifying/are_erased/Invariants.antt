use Rattle.std.proofs.Common.{◌≡◌, ◌++◌, length}
use Rattle.shadow.specs.InPlace.{chars_known, known_text}
use Rattle.shadow.specs.RuleBreaks.{is_erased}
use Rattle.shadow.specs.Since.{beliefs_of_cells}
use Rattle.shadow.proofs.verifying.are_erased.Given as goal

abbrev pub invariant-loop-char : goal.invariant-loop-char
invariant-loop-char l =
    is_erased (known_text (chars_known (beliefs_of_cells l.fn.rest ++ beliefs_of_cells l.fn.whole))) ≡ is_erased (known_text (chars_known (beliefs_of_cells l.rest ++ beliefs_of_cells l.whole)))

abbrev pub decreases-loop-char : goal.decreases-loop-char
decreases-loop-char l = length (known_text (chars_known (beliefs_of_cells l.rest ++ beliefs_of_cells l.whole)))
